-- Exclusive or of two words adds their cells.
use mathlib.Core.Path.{refl}
use Rattle.register.proofs.Cells.{cells-add}
use Rattle.register.proofs.add.Goals as goal

pub returns : goal.returns
returns c = cells-add _ _ _ refl refl refl refl refl refl refl refl
