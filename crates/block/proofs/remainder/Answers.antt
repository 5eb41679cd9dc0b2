-- `block::remainder` meets its contract: each return is a case of the definition.
use Rattle.std.proofs.Common.{rules}
use mathlib.Core.Path.{sym, ◌∙◌}
use Rattle.profile.specs.Refusals.{refusing}
use Rattle.profile.proofs.Refusing.{admitted_in_range}
use Rattle.block.specs.Block.{read_remainder}
use Rattle.block.proofs.remainder.Goals as goal

pub new-requires : goal.new-requires
new-requires c = admitted_in_range _ _ _ (sym c.admit.ensures ∙ c.in-Ok.is)

pub returns-in-Err : goal.returns-in-Err
unfolding read_remainder refusing
returns-in-Err c = search rules

pub returns-in-Ok : goal.returns-in-Ok
unfolding read_remainder refusing
returns-in-Ok c = search rules
