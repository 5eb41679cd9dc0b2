-- The rows and the columns of a stand table (N4c, N4f): which species lists are taken, which row a species has under one, and which classes a column takes. Said of every
-- place of the list and every class; proofs/Species.antt proves that the definitions of `stand` are these.
use Rattle.std.specs.Prelude.{◌≡◌, ◌↔◌, ◌≢◌, List, ℕ, ◌+◌, ◌*◌, ◌<◌, ◌≤◌, length, get_or}
use Rattle.stand.specs.declared.Tract.{Tract}
use Rattle.stand.specs.Table.{list_of, row_of, column_of}

-- a list that is taken: no "listed number outside 1 to 99", no "repeat", not "more than 16"
pub record Listed (l : List ℕ) : Type 0 where
  pub few : length l ≤ 16
  pub range : (i : ℕ) → i < length l → (1 ≤ get_or l i 0) × (get_or l i 0 ≤ 99)
  pub once : (i j : ℕ) → i < j → j < length l → get_or l i 0 ≢ get_or l j 0

-- that of a state: a length above 16 is no list, whatever stands in the sixteen places
abbrev pub TractListed : Tract → Type 0
TractListed tract = (tract.listed ≤ 16) × Listed (list_of tract)

-- "Up to 16 listed species, in the list's order, have a row each and a last row takes the others, the seventeenth"; rows are counted from 0
pub record RowIff (l : List ℕ) : Type 0 where
  pub listed : (x i : ℕ) → i < 16 → (row_of l x ≡ i) ↔ ((i < length l) × (get_or l i 0 ≡ x))
  pub others : (x : ℕ) → (row_of l x ≡ 16) ↔ ((i : ℕ) → i < length l → get_or l i 0 ≢ x)

abbrev pub RowsIff : Type 0
RowsIff = (l : List ℕ) → Listed l → RowIff l

-- "twenty columns take classes 1 to 10, 11 to 20 and on to 191 to 200"; columns are counted from 0
pub record ColumnsIff : Type 0 where
  pub column : (class j : ℕ) → 1 ≤ class → (column_of class ≡ j) ↔ ((10 * j + 1 ≤ class) × (class ≤ 10 * j + 10))
  pub twenty : (class : ℕ) → class ≤ 200 → column_of class < 20
