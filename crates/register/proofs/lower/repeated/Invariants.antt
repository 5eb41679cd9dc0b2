-- The invariant: the cells are moved down by as many steps as there were turns.
use mathlib.Core.Path.{◌≡◌}
use Prim.Native.Nat.{◌*◌}
use lib.ListN.{drop}
use Rattle.words.specs.Cells.{pad_to}
use Rattle.register.specs.Words.{cells}
use Rattle.register.proofs.lower.repeated.Given as goal

abbrev pub invariant-loop : goal.invariant-loop
invariant-loop g l = cells l.rest ≡ pad_to 64 (drop (g.size * l.counter) (cells l.initial.rest))
