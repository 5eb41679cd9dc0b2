-- Each word takes the lowest cell of the next, the last one takes c.
use native.Mathlib.Omega.{arith}
use Rattle.words.proofs.Words.{bottom_cell}
use Rattle.register.proofs.Cells.{cells_down}
use Rattle.register.proofs.push_top.Goals as goal

pub returns : goal.returns
returns c = cells_down c.args.x c.map_with_above.result c.args.c _ (bottom_cell _ _ (omega arith) c.at_bottom.ensures) c.map_with_above.ensures
