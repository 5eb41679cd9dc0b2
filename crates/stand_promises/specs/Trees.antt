-- The trees of plots by row and column (N4b): "counted from the records", line by line. This says what a cell of a table has to be, and nothing of how it is made.
use Rattle.std.specs.Prelude.{◌≡◌, Bool, true, ℕ, ◌+◌, ◌<◌, length, get_or, eqb}
use mathlib.Core.List.{List, [], ◌∷◌, flat_map}
use Rattle.lists.specs.Choice.{pick, both}
use Rattle.plot.specs.Layout.{Plot, no_line, lines_of, tallies_of}
use Rattle.plot.specs.declared.Line.{Line}
use Rattle.plot_promises.specs.Lines.{line_at}
use Rattle.stand.specs.Table.{row_of, column_of}

-- the tally lines of a plot are the lines of its record, each once
pub record TallyLines (p : Plot) : Type 0 where
  pub count : length (tallies_of p) ≡ lines_of p
  pub line : (i : ℕ) → i < lines_of p → get_or (tallies_of p) i no_line ≡ line_at p.lines i

-- all tally lines of plots
abbrev pub lines_in : List Plot → List Line
lines_in plots = flat_map tallies_of plots

-- the trees of those lines of which a test is true
abbrev pub trees_where : (Line → Bool) → List Line → ℕ
trees_where test [] = 0
trees_where test (line ∷ ls) = pick (test line) line.count 0 + trees_where test ls

-- a line of the row i and the column j, where l is the species list
abbrev pub in_cell : List ℕ → ℕ → ℕ → Line → Bool
in_cell l i j line = both (eqb (row_of l line.species) i) (eqb (column_of line.class) j)

-- "its trees": those of row i and column j; and all trees
abbrev pub trees_at : List ℕ → ℕ → ℕ → List Plot → ℕ
trees_at l i j plots = trees_where (in_cell l i j) (lines_in plots)

abbrev pub all_trees : List Plot → ℕ
all_trees plots = trees_where (λ (line : Line). true) (lines_in plots)
