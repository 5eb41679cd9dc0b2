-- The lowest eight bits of the lowest word.
use Rattle.register.proofs.Cells.{cells_bottom}
use Rattle.register.proofs.bottom.Goals as goal

pub returns : goal.returns
returns c = cells_bottom _
