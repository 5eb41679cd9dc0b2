-- The bits of a plane times a byte are bytes, so the product has no carry.
use Prim.Native.Nat.{◌/◌, ◌^◌}
use native.Mathlib.Omega.{arith}
use Rattle.words.proofs.Bits.{plane_fits, plane_law}
use Rattle.words.proofs.plane.Goals as goal

pub overflow_shr-result : goal.overflow_shr-result
overflow_shr-result c = omega arith

pub overflow_mul-result : goal.overflow_mul-result
overflow_mul-result c = record { fits = rw c.from.ensures (plane_fits (c.args.w / 2 ^ c.args.k) c.args.c (omega arith)) }

pub returns : goal.returns
returns c = rw c.from.ensures (plane_law c.args.k c.args.c c.args.w (omega arith) (omega arith) (omega arith))
