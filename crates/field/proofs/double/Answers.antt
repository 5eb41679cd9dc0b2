-- `double` meets its contract: the bit of value 256 times hexadecimal 11D is the definition's fold, and the sum is a byte.
-- Assumes nothing.
use native.Mathlib.Omega.{arith}
use Rattle.field.proofs.Product.{double-lt}
use Rattle.field.proofs.Turns.{double_fold}
use Rattle.field.proofs.double.Goals as goal

pub overflow_cast-result : goal.overflow_cast-result
overflow_cast-result c = rw c.from-up.ensures (omega (arith, double_fold c.args.x (omega arith), double-lt c.args.x))

pub returns : goal.returns
returns c = rw c.from-up.ensures (double_fold c.args.x (omega arith))
