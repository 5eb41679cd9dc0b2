-- `Profile::is_sparse` meets its contract: a run of at most half of r is exempt, and of a longer one the changed cells decide.
use Rattle.profile.proofs.Sparse.{short-run, long_run}
use Rattle.profile.proofs.Profile.is_sparse.Goals as goal

pub returns-then-length-self : goal.returns-then-length-self
returns-then-length-self c = short-run _ _ _ c.if-length-self.true

pub returns : goal.returns
returns c = long_run _ _ _ c.if-length-self.false
