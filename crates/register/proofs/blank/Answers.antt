-- The cells of eight zero words compute to zeros.
use mathlib.Core.Path.{refl}
use Rattle.words.specs.Word.{byte}
use Rattle.register.specs.Words.{cells}
use Rattle.register.proofs.blank.Goals as goal

pub returns : goal.returns
unfolding cells byte
returns c = refl
