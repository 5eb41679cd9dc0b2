-- A zero is pushed in.
use Rattle.register.proofs.shift_up.Goals as goal

pub returns : goal.returns
returns c = c.push_bottom.ensures
