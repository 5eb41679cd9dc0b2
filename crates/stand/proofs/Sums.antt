-- The sum of a row whose cells are within a bound: at most the bound as often as there are cells.
use Prim.Native.Nat.{ℕ, ◌*◌, ◌≤◌}
use mathlib.Core.List.{List}
use lib.ListN.{length, get_or}
use Rattle.std.proofs.lemmas.List.Sums.{sum_by-le}
use Rattle.std.proofs.lemmas.List.Elements.{All-from_get_or}
use Rattle.stand.specs.Table.{row_total}

pub row_total-le : (m : ℕ) (row : List ℕ) → ((j : ℕ) → get_or row j 0 ≤ m) → row_total row ≤ length row * m
row_total-le m row h = sum_by-le (λ x. x) m row (All-from_get_or (λ x. x ≤ m) row 0 (λ j k. h j))
