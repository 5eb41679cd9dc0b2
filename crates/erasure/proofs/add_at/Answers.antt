-- A place past the cells changes nothing.
use mathlib.Core.Path.{ap}
use Prim.Native.Nat.{ℕ}
use native.Mathlib.Omega.{arith}
use lib.ListN.{get_or, set}
use Rattle.field.specs.Field.{add}
use Rattle.erasure.proofs.Laying.{past_cells}
use Rattle.erasure.proofs.add_at.Goals as goal

pub returns-then-m-cells : goal.returns-then-m-cells
unfolding add
returns-then-m-cells c = let y = c.args.cells.now in ap (λ (m : ℕ). set y m (add (get_or y m 0) c.args.value)) c.from-m.ensures

pub returns-else-m-cells : goal.returns-else-m-cells
returns-else-m-cells c = past_cells _ _ _ (omega (arith, c.from-m.ensures))
