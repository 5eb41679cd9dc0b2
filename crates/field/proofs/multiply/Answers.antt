use mathlib.Core.Path.{refl}
use Prim.Native.Nat.{◌-◌, ◌/◌, ◌^◌}
use native.Mathlib.Omega.{arith}
use Rattle.field.specs.Field.{mul_bits}
use Rattle.field.proofs.Turns.{bit-times-lt, product_turn, product_end}
use Rattle.field.proofs.multiply.Goals as goal

pub loop-k-init : goal.loop-k-init
unfolding mul_bits
loop-k-init c = refl

pub overflow_mul-sum : goal.overflow_mul-sum
overflow_mul-sum c = let a = c.args in omega (arith, bit-times-lt (a.x / 2 ^ (c.loop-k.k - 1)) a.y (omega arith))

pub loop-k-preserved : goal.loop-k-preserved
loop-k-preserved c =
    let a = c.args in
    let l = c.loop-k in
    product_turn a.x a.y l.sum l.k c.double.result (omega arith) (omega arith) l.invariant c.double.ensures

pub returns : goal.returns
returns c =
    let a = c.args in
    let l = c.loop-k in
    product_end a.x a.y l.sum l.k (omega arith) (omega arith) (omega arith) l.invariant
