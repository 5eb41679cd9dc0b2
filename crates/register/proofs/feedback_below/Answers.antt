-- The lowest cell, and the cell that comes in, added.
use Rattle.register.proofs.Cells.{feedback_below_is}
use Rattle.register.proofs.feedback_below.Goals as goal

pub returns : goal.returns
returns c = feedback_below_is _ c.bottom.result c.args.c c.bottom.ensures
