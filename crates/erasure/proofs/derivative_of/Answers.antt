-- Word by word, a mask keeps every second cell.
use mathlib.Core.Path.{refl}
use Rattle.erasure.proofs.Registers.{even_cells_lem}
use Rattle.erasure.proofs.derivative_of.Goals as goal

pub returns : goal.returns
returns c = even_cells_lem _ _ refl refl refl refl refl refl refl refl
