-- Eight bits moved to the top of a word lose none.
use native.Mathlib.Omega.{arith}
use Rattle.words.proofs.Linear.{shl-byte}
use Rattle.words.proofs.at_top.Goals as goal

pub returns : goal.returns
returns c = rw c.from.ensures (shl-byte c.args.c (omega arith))
