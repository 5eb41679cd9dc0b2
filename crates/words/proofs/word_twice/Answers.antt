-- The doubled word keeps sums, so its cells are settled at the powers of two.
use native.Mathlib.Omega.{arith}
use Rattle.field.specs.Field.{add}
use Rattle.words.proofs.Linear.{dbl}
use Rattle.words.proofs.Words.{word_twice}
use Rattle.words.proofs.word_twice.Goals as goal

pub returns : goal.returns
unfolding dbl add
returns c = word_twice _ (omega arith)
