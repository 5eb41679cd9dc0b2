-- The checks of document 01 on a payload and on an added plot (R2, R4), each with the number of its refusal, in the order in which they are made.
-- A list s of bytes is the payload from some place on.
use Rattle.std.specs.Prelude.{◌≡◌, ◌⊎◌, ◌≢◌, List, [], ◌∷◌, ◌++◌, ℕ, ◌+◌, ◌%◌, ◌<◌, ◌≤◌, length, get_or, drop}
use Rattle.plot.specs.Layout.{Plot, mark, header_length, plot_of, count_of, record_length, lines_of, record_of}
use Rattle.plot_promises.specs.Lines.{LinesHold}

-- a check, with the number that is told where it does not hold: that of the refusal, or the figure of a line's check
infixl 68 ◌unless◌
pub data Check : Type 1 where
  ◌unless◌ : ℕ → Type 0 → Check

-- "The first failing check": it does not hold, those before it do
abbrev pub FirstFails : List Check → ℕ → Type 0
FirstFails [] number = ⊥
FirstFails ((k unless A) ∷ checks) number = ((A → ⊥) × (number ≡ k)) ⊎ (A × FirstFails checks number)

-- none fails
abbrev pub NoneFails : List Check → Type 0
NoneFails [] = Unit {0}
NoneFails ((k unless A) ∷ checks) = A × NoneFails checks

-- "as much of the mark as the payload holds"
abbrev pub Marked : List ℕ → Type 0
Marked s = (i : ℕ) → i < length s → i < length mark → get_or s i 0 ≡ get_or mark i 0

-- "the checks are, in order: as much of the mark as the payload holds; the five header bytes are there; at most 40 lines; all lines are there; plot number not 0;
-- .."
abbrev pub header_checks : List ℕ → List Check
header_checks s =
    (5 unless (Marked s))
    ∷ (6 unless (header_length ≤ length s))
    ∷ (7 unless (count_of s ≤ 40))
    ∷ (6 unless (record_length (count_of s) ≤ length s))
    ∷ (7 unless (plot_of s ≢ 0))
    ∷ []

-- ".. the lines in turn, each by species, class, count and then its rise; rise of plot numbers", after a plot of the number `last`
abbrev pub late_checks : ℕ → List ℕ → List Check
late_checks last s = (7 unless (LinesHold (count_of s) (drop header_length s))) ∷ (8 unless (last < plot_of s)) ∷ []

abbrev pub record_checks : ℕ → List ℕ → List Check
record_checks last s = header_checks s ++ late_checks last s

abbrev pub Zeros : List ℕ → Type 0
Zeros s = (i : ℕ) → i < length s → get_or s i 0 ≡ 0

-- what stands at a place is refused by `number`, where a record there has to pass these checks
pub data FaultAt (checks : List Check) (s : List ℕ) (number : ℕ) : Type 0 where
  -- "If the byte there is zero, all later bytes must be zero."
  in_zeros : get_or s 0 0 ≡ 0 → (Zeros s → ⊥) → number ≡ 5 → FaultAt checks s number
  -- "Otherwise the checks are .."
  in_record : get_or s 0 0 ≢ 0 → FirstFails checks number → FaultAt checks s number

-- as what stands after a plot of the number `last`
abbrev pub RecordFault : ℕ → List ℕ → ℕ → Type 0
RecordFault last s number = FaultAt (record_checks last s) s number

-- adding a plot, after the payload's own check: "the length of the lent lines (0 to 120 bytes, three a line), then that the plot number isn't 0, then the
-- lines in turn, then the rise, then the space", where the records end at `end`, the last has the number `last`, and the payload has `size` bytes
abbrev pub lent_checks : Plot → List Check
lent_checks p = (7 unless ((length p.lines ≤ 120) × (length p.lines % 3 ≡ 0))) ∷ (7 unless (p.number ≢ 0)) ∷ []

abbrev pub room_checks : ℕ → ℕ → ℕ → Plot → List Check
room_checks size end last p =
    (7 unless (LinesHold (lines_of p) p.lines))
    ∷ (8 unless (last < p.number))
    ∷ (10 unless (end + length (record_of p) ≤ size))
    ∷ []

abbrev pub add_checks : ℕ → ℕ → ℕ → Plot → List Check
add_checks size end last p = lent_checks p ++ room_checks size end last p
