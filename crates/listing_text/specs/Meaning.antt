-- What the lister's text says (L2), over plain bytes: what a number in decimal is, and which lines an answer has. Nothing here follows how the text is
-- made. That the texts of specs/Text.antt are these is proved in proofs/Meaning.antt.
use Rattle.std.specs.Prelude.{◌≡◌, ◌↔◌, ◌≢◌, ℕ, zero, suc, ◌+◌, ◌*◌, ◌-◌, ◌≤◌, ◌<◌, length, get_or}
use mathlib.Core.List.{List, [], ◌∷◌, ◌++◌, foldl, foldr, flat_map}
use Prim.Native.Char.{code}
use Prim.Native.String.{String, [] as none, ◌∷◌ as ◌then◌}
use Rattle.plot.specs.Layout.{Plot, lines_of}
use Rattle.plot_promises.specs.Lines.{line_at}
use Rattle.plot.specs.Grammar.{Plots, Stopped}
use Rattle.plot.specs.Numbers.{number_of, place_of}
use Rattle.plot.specs.declared.Line.{Line}
use Rattle.plot.specs.declared.Refusal.{Refusal}
use Rattle.listing_text.specs.Text.{decimal, refusal_text, listing_text}

-- ---- a number in decimal

-- the value of digits in base ten, the most significant first; the digit 0 is the byte 48
abbrev pub value_of : List ℕ → ℕ
value_of t = foldl (λ (value digit : ℕ). value * 10 + (digit - 48)) 0 t

-- t is n in decimal: one digit or more, each a byte from 48 to 57; a 0 in front only if it stands alone; with the value n
pub record Decimal (n : ℕ) (t : List ℕ) : Type 0 where
  pub some : 0 < length t
  pub digits : (i : ℕ) → i < length t → (48 ≤ get_or t i 0) × (get_or t i 0 ≤ 57)
  pub front : get_or t 0 0 ≡ 48 → length t ≡ 1
  pub value : value_of t ≡ n

-- `decimal n` is n in decimal, and no other text is
abbrev pub DecimalIff : Type 0
DecimalIff = (n : ℕ) (t : List ℕ) → (t ≡ decimal n) ↔ Decimal n t

-- ---- lines

-- the bytes of a word
abbrev pub word : String → List ℕ
word none = []
word (c then s) = code c ∷ word s

-- lines one after the other, "each line ended by the byte 0A (hexadecimal)"
abbrev pub in_lines : List (List ℕ) → List ℕ
in_lines ls = flat_map (λ (l : List ℕ). l ++ 0x0A ∷ []) ls

-- no line has the byte 0A in it (past the end of a list `get_or` gives the value named last)
abbrev pub Unbroken : List (List ℕ) → Type 0
Unbroken ls = (i j : ℕ) → get_or (get_or ls i []) j 0 ≢ 0x0A

-- so a text has one list of lines only
abbrev pub OneReading : Type 0
OneReading = (ls ms : List (List ℕ)) → Unbroken ls → Unbroken ms → in_lines ls ≡ in_lines ms → ls ≡ ms

-- f 0, f 1, .., f (n − 1)
abbrev pub tabulate : ℕ → (ℕ → List ℕ) → List (List ℕ)
tabulate zero f = []
tabulate (suc n) f = f 0 ∷ tabulate n (λ (i : ℕ). f (suc i))

-- "(plot, species, class, count)", with commas between, which are the byte 44
abbrev pub row : ℕ → Line → List ℕ
row plot line = decimal plot ++ 44 ∷ (decimal line.species ++ 44 ∷ (decimal line.class ++ 44 ∷ decimal line.count))

-- that of tally line i of a plot
abbrev pub row_at : Plot → ℕ → List ℕ
row_at p i = row p.number (line_at p.lines i)

-- "one line per tally line": those of a plot
abbrev pub rows_of : Plot → List (List ℕ)
rows_of p = tabulate (lines_of p) (row_at p)

-- "the word `mended`, a comma and the number of blocks changed"
abbrev pub changed_line : ℕ → List ℕ
changed_line changed = word "mended," ++ decimal changed

-- "a header, one line per tally line .., and" that line: the plots one after the other
abbrev pub answer_lines : ℕ → List Plot → List (List ℕ)
answer_lines changed ps = word "plot,species,class,count" ∷ (flat_map rows_of ps ++ changed_line changed ∷ [])

-- "`refused,number,place`"
abbrev pub refusal_line : ℕ → ℕ → List ℕ
refusal_line number place = word "refused," ++ (decimal number ++ 44 ∷ decimal place)

-- the text for an accepted payload with these plots, of a sheet with `changed` blocks changed
pub record AcceptedText (changed : ℕ) (ps : List Plot) : Type 0 where
  pub text : (end : ℕ) → listing_text changed (Plots ps end) ≡ in_lines (answer_lines changed ps)
  pub unbroken : Unbroken (answer_lines changed ps)
  pub count : length (answer_lines changed ps) ≡ 2 + foldr (λ (p : Plot) (k : ℕ). lines_of p + k) 0 ps

-- "A refusal prints only `refused,number,place`": a text of one line
pub record RefusalText (number place : ℕ) : Type 0 where
  pub text : refusal_text number place ≡ in_lines (refusal_line number place ∷ [])
  pub unbroken : Unbroken (refusal_line number place ∷ [])

-- and so for a payload that is refused
abbrev pub RefusedPayload : Type 0
RefusedPayload = (changed : ℕ) (r : Refusal) → listing_text changed (Stopped r) ≡ in_lines (refusal_line (number_of r) (place_of r) ∷ [])
