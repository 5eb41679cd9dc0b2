-- `inverse` meets its contract. The loop's invariant: the result so far, times the squares that are left, is the inverse.
-- Assumes nothing.
use mathlib.Core.Path.{◌≡◌}
use Prim.Native.Nat.{◌-◌, ◌<◌}
use Rattle.field.specs.Field.{mul, squares, inverse}
use Rattle.field.proofs.inverse.Given as goal

abbrev pub invariant-loop : goal.invariant-loop
invariant-loop l = (l.result < 256) × (mul l.result (squares (7 - l.counter) l.square) ≡ inverse l.x)
