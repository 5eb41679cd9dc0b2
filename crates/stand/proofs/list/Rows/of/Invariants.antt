-- The rows of the species from place `i` on are made.
use Prim.Native.Nat.{ℕ, ◌<◌}
use mathlib.Core.Path.{◌≡◌}
use lib.ListN.{length, get_or, drop}
use Rattle.stand.specs.Table.{row_from, list_of}
use Rattle.stand.proofs.list.Rows.of.Given as goal

abbrev pub invariant-loop-i : goal.invariant-loop-i
invariant-loop-i l = record {
  long : length l.by_species ≡ 256;
  made : (x : ℕ) → x < 256 → get_or l.by_species x 0 ≡ row_from l.i (drop l.i (list_of l.tract)) x;
}
