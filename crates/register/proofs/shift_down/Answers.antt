-- A zero is pushed in.
use Rattle.register.proofs.shift_down.Goals as goal

pub returns : goal.returns
returns c = c.push_top.ensures
