-- Which value in the line (document 02, Note 2; N2a, N2b): what the check of one line says, and which figure and line's index stand beside number 7, said of the lines
-- themselves: the first line that fails, and in it the first check. proofs/Lines.antt and FirstBad.antt prove what is said of lines, proofs/Figures.antt what is said of
-- each entry.
use Rattle.std.specs.Prelude.{◌≡◌, ◌↔◌, ◌⊎◌, ◌≢◌, Err, List, [], ◌∷◌, ◌++◌, ℕ, zero, suc, ◌<◌, drop}
use Rattle.lists.specs.Bytes.{Bytes}
use Rattle.plot.specs.declared.Line.{Line}
use Rattle.plot.specs.declared.Refusal.{Refusal}
use Rattle.plot.specs.Layout.{Plot, header_length, count_of, line_check, figure_number, lines_of}
use Rattle.plot.specs.Grammar.{step_at, record_at}
use Rattle.plot.specs.Answers.{checked, located, added}
use Rattle.plot.specs.Numbers.{number_of, place_of, figure_of, index_of, payload_number, payload_place, payload_figure, payload_index, located_number, located_place, located_figure, located_index, added_number, added_place, added_figure, added_index}
use Rattle.plot_promises.specs.Lines.{line_at, SpeciesInRange, ClassInRange, CountInRange, Above}
use Rattle.plot_promises.specs.Checks.{Check, ◌unless◌, FirstFails, NoneFails, header_checks, lent_checks}
use Rattle.plot_promises.specs.Canonical.{Contains}
use Rattle.plot_promises.specs.Refusals.{end_of, AfterPlots}

-- "The check of one line now says what failed first: 1 species, 2 class, 3 count, 4 the rise above the line before.": the checks of a line's values ..
abbrev pub value_checks : Line → List Check
value_checks line = (1 unless (SpeciesInRange line)) ∷ (2 unless (ClassInRange line)) ∷ (3 unless (CountInRange line)) ∷ []

-- .. and of its rise, after the line `before`
abbrev pub checks_of_line : Line → Line → List Check
checks_of_line before line = value_checks line ++ ((4 unless (Above before line)) ∷ [])

-- N2a: its answer is the number of the first of them that fails, and 0 where none does
pub record LineCheckExactly (before line : Line) : Type 0 where
  pub fails : (figure : ℕ) → figure ≢ 0 → (figure_number (line_check before line) ≡ figure) ↔ FirstFails (checks_of_line before line) figure
  pub holds : (figure_number (line_check before line) ≡ 0) ↔ NoneFails (checks_of_line before line)

-- the checks of line i of these bytes: the first line has none before it, above which it would have to rise
abbrev pub checks_at : List ℕ → ℕ → List Check
checks_at lines zero = value_checks (line_at lines 0)
checks_at lines (suc i) = checks_of_line (line_at lines i) (line_at lines (suc i))

-- of `count` lines the one of this index is the first that fails, and this is the number of the first check that it fails
pub record FirstBadLine (count : ℕ) (lines : List ℕ) (figure index : ℕ) : Type 0 where
  pub inside : index < count
  pub before : (i : ℕ) → i < index → NoneFails (checks_at lines i)
  pub fails : FirstFails (checks_at lines index) figure

-- figure 4 is never told of the first line, which has no line before it
abbrev pub FirstLineRises : Type 0
FirstLineRises = (count : ℕ) (lines : List ℕ) → FirstBadLine count lines 4 0 → ⊥

-- a line fails in the record at the front of s: the checks before the lines hold
abbrev pub BadLineHere : List ℕ → ℕ → ℕ → Type 0
BadLineHere s figure index = NoneFails (header_checks s) × FirstBadLine (count_of s) (drop header_length s) figure index

-- a line fails in the payload s: after the records of plots that hold and rise, in the record that begins at `place`
abbrev pub BadLineAt : List ℕ → ℕ → ℕ → ℕ → Type 0
BadLineAt s place figure index = AfterPlots (λ (last : ℕ) (rest : List ℕ). BadLineHere rest figure index) s place

-- a line fails among those of the plot p: their length and the plot number are good
abbrev pub BadLentHere : Plot → ℕ → ℕ → Type 0
BadLentHere p figure index = NoneFails (lent_checks p) × FirstBadLine (lines_of p) p.lines figure index

-- .. which is added to a payload that contains plots, where it would begin at `place`
pub record BadLentLine (p : Plot) (s : List ℕ) (place figure index : ℕ) : Type 0 where
  pub plots : List Plot
  pub contains : Contains s plots
  pub begins : place ≡ end_of plots
  pub line : BadLentHere p figure index

-- "Adding a plot checks the payload" first
abbrev pub BadLineAdded : Plot → List ℕ → ℕ → ℕ → ℕ → Type 0
BadLineAdded p s place figure index = BadLineAt s place figure index ⊎ BadLentLine p s place figure index

-- an answer's four numbers, where `Bad` says which line fails: "pass this on beside number 7, with the line's index from 0. For faults outside a line both are 0.", and
-- so they are beside every other number and where the answer is accepted
pub record FigureExactly (Bad : ℕ → ℕ → ℕ → Type 0) (number place figure index : ℕ) : Type 0 where
  pub inside : (at f i : ℕ) → f ≢ 0 → ((number ≡ 7) × (place ≡ at) × (figure ≡ f) × (index ≡ i)) ↔ Bad at f i
  pub outside : ((figure ≡ 0) × (index ≡ 0)) ↔ ((at f i : ℕ) → Bad at f i → ⊥)

-- N2b, of each entry: what stands at a place, before its lines are checked and with every check made; the check of a payload; the companion of asking; adding
pub record Figures : Type 0 where
  pub stepping : (at : ℕ) (s : List ℕ) (r : Refusal) → step_at at s ≡ Err r → (figure_of r ≡ 0) × (index_of r ≡ 0)
  pub moving : (at last : ℕ) (s : List ℕ) (r : Refusal) → record_at at last s ≡ Err r → FigureExactly (λ (place figure index : ℕ). (place ≡ at) × BadLineHere s figure index) (number_of r) (place_of r) (figure_of r) (index_of r)
  pub checking : (s : List ℕ) → Bytes s
      → FigureExactly (BadLineAt s) (payload_number (checked s)) (payload_place (checked s)) (payload_figure (checked s)) (payload_index (checked s))
  pub asking : (n : ℕ) (s : List ℕ) → Bytes s
      → FigureExactly (BadLineAt s) (located_number (located n s)) (located_place (located n s)) (located_figure (located n s)) (located_index (located n s))
  pub adding : (p : Plot) (s : List ℕ) → Bytes s
      → FigureExactly (BadLineAdded p s) (added_number (added p s)) (added_place (added p s)) (added_figure (added p s)) (added_index (added p s))
