-- Word by word.
use Rattle.register.proofs.Cells.{cells_scaled}
use Rattle.register.proofs.twice.Goals as goal

pub returns : goal.returns
returns c = cells_scaled 2 c.args.x c.map.result c.map.ensures
