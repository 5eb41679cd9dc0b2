-- A zero is pushed in on top.
use Rattle.register.proofs.Moves.{lower-one}
use Rattle.register.proofs.lower.cell_lower.Goals as goal

pub returns : goal.returns
returns c = lower-one c.args.x _ c.shift_down.ensures
