-- The invariant: the roots among the first j places are in, and the points are those of the next eight.
use mathlib.Core.Path.{◌≡◌}
use Prim.Native.Nat.{◌≤◌}
use Rattle.locator.specs.Locator.{roots_from}
use Rattle.locator.specs.Answer.{errors_at}
use Rattle.products.proofs.Values.{Points}
use Rattle.locator.proofs.roots_among.Given as goal

abbrev pub invariant-loop-j : goal.invariant-loop-j
invariant-loop-j l = record { within : l.j ≤ l.n; here : Points l.points l.j; count : l.found.count ≤ l.j; roots : l.found ≡ errors_at (roots_from l.locator l.j 0) }
