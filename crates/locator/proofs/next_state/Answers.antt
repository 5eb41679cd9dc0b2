-- The three cases of a turn: no discrepancy, the size stays, the size grows.
use mathlib.Core.Path.{◌∙◌, ap₂}
use native.Mathlib.Omega.{arith}
use Rattle.code.specs.Poly.{padd}
use Rattle.register.proofs.Cells.{cells-length}
use Rattle.locator.specs.Answer.{recursion_of}
use Rattle.locator.proofs.States.{turn-none, turn_long, turn_grown}
use Rattle.locator.proofs.next_state.Goals as goal

pub returns-then-d-eq0 : goal.returns-then-d-eq0
returns-then-d-eq0 c =
    let a = c.args in
    (turn-none (recursion_of a.k) a.n _ _ _ (cells-length _) c.shift_up-before.ensures c.dot-d.ensures c.if-d-eq0.true, omega (arith, c.requires))

pub returns-then-n-k : goal.returns-then-n-k
returns-then-n-k c =
    let a = c.args in (
      turn_long (recursion_of a.k) a.n _ _ _ (cells-length _) c.shift_up-before.ensures c.dot-d.ensures _ c.if-d-eq0.false (omega arith)
          (c.add-connection.ensures ∙ ap₂ padd c.scale.ensures c.scale-2.ensures),
      omega (arith, c.requires),
    )

pub returns : goal.returns
returns c =
    let a = c.args in (
      turn_grown (recursion_of a.k) a.n _ _ _ (cells-length _) c.shift_up-before.ensures c.dot-d.ensures _ c.if-d-eq0.false (omega arith)
          (c.add-connection.ensures ∙ ap₂ padd c.scale.ensures c.scale-2.ensures),
      omega arith,
    )
