-- The stand table of document 02's Note 4 (N4a, N4c): rows by species, columns by diameter class, and the trees of tally lines added to it. A table is a list of
-- rows, a row a list of counts; a tract has the species list and two counters beside it.
use Rattle.std.specs.Prelude.{ℕ, zero, suc, ◌+◌, ◌-◌, ◌/◌, Bool, true, false, ◌&&◌, List, [], ◌∷◌, ◌++◌, length, get_or, set, take, drop, replicate, ltb, leb, eqb, sum, sum_by}
use Rattle.std.specs.List.{list_all, list_any}
use Rattle.lists.specs.Choice.{pick}
use Rattle.plot.specs.Layout.{Plot, within, tallies_of}
use Rattle.plot.specs.Grammar.{Parsed, Plots, Stopped}
use Rattle.plot.specs.declared.Line.{Line}
use Rattle.stand.specs.declared.Tract.{Tract}

-- ---- the species list

-- the tract's list: the first of its sixteen places, as many as are listed
abbrev pub list_of : Tract → List ℕ
list_of tract = take tract.listed tract.species

-- a list in sixteen places, and zeros in the others
abbrev pub places_of : List ℕ → List ℕ
places_of l = take 16 l ++ drop (length l) (replicate 16 0)

-- whether x is one of l
abbrev pub among : ℕ → List ℕ → Bool
among x l = list_any (λ y. eqb y x) l

-- no "listed number outside 1 to 99", no "repeat"
unfoldable pub numbers_hold : List ℕ → Bool
numbers_hold [] = true
numbers_hold (x ∷ l) = pick (within 1 99 x) (pick (among x l) false (numbers_hold l)) false

-- and not "more than 16"
abbrev pub species_hold : List ℕ → Bool
species_hold l = pick (ltb 16 (length l)) false (numbers_hold l)

-- the list that a tract hands in: "for a state handed in too"
abbrev pub tract_listed : Tract → Bool
tract_listed tract = pick (ltb 16 tract.listed) false (numbers_hold (list_of tract))

-- ---- rows and columns, counted from 0

-- "Up to 16 listed species, in the list's order, have a row each and a last row takes the others, the seventeenth": the row of species x, where the
-- first species of the list has the row i
unfoldable pub row_from : ℕ → List ℕ → ℕ → ℕ
row_from i [] x = 16
row_from i (y ∷ l) x = pick (eqb y x) i (row_from (suc i) l x)

abbrev pub row_of : List ℕ → ℕ → ℕ
row_of l x = row_from 0 l x

-- f i, f (i + 1), .., n of them
unfoldable pub tabulate_from : ℕ → ℕ → (ℕ → ℕ) → List ℕ
tabulate_from i zero f = []
tabulate_from i (suc n) f = f i ∷ tabulate_from (suc i) n f

-- the row of every number that a byte can have
abbrev pub rows_of : List ℕ → List ℕ
rows_of l = tabulate_from 0 256 (row_of l)

-- "twenty columns take classes 1 to 10, 11 to 20 and on to 191 to 200"
abbrev pub column_of : ℕ → ℕ
column_of class = (class - 1) / 10

-- ---- cells

abbrev pub empty_table : List (List ℕ)
empty_table = replicate 17 (replicate 20 0)

-- the cell in row i and column j
abbrev pub cell_of : List (List ℕ) → ℕ → ℕ → ℕ
cell_of t i j = get_or (get_or t i []) j 0

-- with more trees in it
abbrev pub plus_at : ℕ → ℕ → ℕ → List (List ℕ) → List (List ℕ)
plus_at i j trees t = set t i (set (get_or t i []) j (cell_of t i j + trees))

-- the trees of a tally line, where `rows` has the row of each species
unfoldable pub plus_line : List ℕ → Line → List (List ℕ) → List (List ℕ)
plus_line rows line t = plus_at (get_or rows line.species 0) (column_of line.class) line.count t

-- of lines, and of all lines of plots
unfoldable pub plus_lines : List ℕ → List Line → List (List ℕ) → List (List ℕ)
plus_lines rows [] t = t
plus_lines rows (line ∷ ls) t = plus_lines rows ls (plus_line rows line t)

unfoldable pub plus_plots : List ℕ → List Plot → List (List ℕ) → List (List ℕ)
plus_plots rows [] t = t
plus_plots rows (p ∷ ps) t = plus_plots rows ps (plus_lines rows (tallies_of p) t)

-- the plots that a reading gave; none where it stopped
unfoldable pub plots_in : Parsed → List Plot
plots_in (Plots ps end) = ps
plots_in (Stopped r) = []

-- ---- the limit and the sum

-- "a cell or counter handed in above 400,000,000"
abbrev pub most : ℕ
most = 400000000

abbrev pub row_holds : List ℕ → Bool
row_holds row = list_all (λ cell. leb cell most) row

abbrev pub cells_hold : List (List ℕ) → Bool
cells_hold t = list_all row_holds t

-- none is
abbrev pub limits_hold : List (List ℕ) → Tract → Bool
limits_hold t tract = leb tract.payloads most && leb tract.records most && cells_hold t

-- "the total, the sum of the cells"
abbrev pub row_total : List ℕ → ℕ
row_total row = sum row

abbrev pub table_total : List (List ℕ) → ℕ
table_total t = sum_by row_total t
