-- The words move, and the cells compute.
use mathlib.Core.Path.{refl}
use Rattle.register.proofs.Moves.{word-lower_law}
use Rattle.register.proofs.lower.word_lower.Goals as goal

pub returns : goal.returns
returns c = word-lower_law _ 0 refl
