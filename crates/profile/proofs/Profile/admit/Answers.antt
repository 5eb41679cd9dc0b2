-- `Profile::admit` meets its contract: refusal 1, refusal 2, or neither.
use Rattle.std.proofs.Common.{rules}
use Rattle.profile.specs.Refusals.{refusing}
use Rattle.profile.proofs.Profile.admit.Goals as goal

pub returns-then-not-in_range : goal.returns-then-not-in_range
unfolding refusing
returns-then-not-in_range c = search rules

pub returns-then-not-fits : goal.returns-then-not-fits
unfolding refusing
returns-then-not-fits c = search rules

pub returns : goal.returns
unfolding refusing
returns c = search rules
