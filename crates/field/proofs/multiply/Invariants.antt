-- `multiply` meets its contract. The loop's invariant: with k bits of x still to come, the sum is the product of the bits above
-- them with y. Assumes nothing.
use mathlib.Core.Path.{◌≡◌}
use Prim.Native.Nat.{◌-◌, ◌/◌, ◌^◌}
use Rattle.field.specs.Field.{mul_bits}
use Rattle.field.proofs.multiply.Given as goal

abbrev pub invariant-loop-k : goal.invariant-loop-k
invariant-loop-k l = l.sum ≡ mul_bits (8 - l.k) (l.x / 2 ^ l.k) l.y
