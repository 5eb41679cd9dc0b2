-- `block::run_is_sparse` meets its contract: a run of at most h cells is exempt whatever is changed, and of a longer one the rule asks for the weight.
use Rattle.std.proofs.Common.{rules}
use Rattle.profile.specs.Profile.{is_sparse}
use Rattle.block.proofs.run_is_sparse.Goals as goal

pub returns-else-half-size : goal.returns-else-half-size
unfolding is_sparse
returns-else-half-size c = search rules
