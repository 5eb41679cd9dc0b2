-- What it is for tally lines to hold (R1, R2): each line is in its ranges, and each is above the one before it, said of every line and of every two
-- neighbours. `LinesHoldIff` says that the test of specs/Layout.antt is exactly this; proofs/Lines.antt proves it.
use Rattle.std.specs.Prelude.{◌≡◌, ◌↔◌, ◌⊎◌, true, List, ℕ, suc, ◌*◌, ◌<◌, ◌≤◌, drop}
use Rattle.plot.specs.Layout.{line_of, no_line, lines_hold}
use Rattle.plot.specs.declared.Line.{Line}

-- line i of these bytes, counted from 0: "three bytes a line"
abbrev pub line_at : List ℕ → ℕ → Line
line_at lines i = line_of (drop (i * 3) lines)

-- "species number 1 to 99, diameter class 1 to 200 .., tree count 1 to 255"
abbrev pub SpeciesInRange : Line → Type 0
SpeciesInRange line = (1 ≤ line.species) × (line.species ≤ 99)

abbrev pub ClassInRange : Line → Type 0
ClassInRange line = (1 ≤ line.class) × (line.class ≤ 200)

abbrev pub CountInRange : Line → Type 0
CountInRange line = (1 ≤ line.count) × (line.count ≤ 255)

pub record InRanges (line : Line) : Type 0 where
  pub species : SpeciesInRange line
  pub class : ClassInRange line
  pub count : CountInRange line

-- "Lines rise strictly by species, then class."
abbrev pub Above : Line → Line → Type 0
Above before line = (before.species < line.species) ⊎ ((before.species ≡ line.species) × (before.class < line.class))

-- the first `count` lines of these bytes hold
pub record LinesHold (count : ℕ) (lines : List ℕ) : Type 0 where
  pub ranges : (i : ℕ) → i < count → InRanges (line_at lines i)
  pub rise : (i : ℕ) → suc i < count → Above (line_at lines i) (line_at lines (suc i))

abbrev pub LinesHoldIff : Type 0
LinesHoldIff = (count : ℕ) (lines : List ℕ) → (lines_hold no_line count lines ≡ true) ↔ LinesHold count lines
