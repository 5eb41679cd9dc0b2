-- `block::check` meets its contract: the register of the remainder is zero exactly if the remainder is.
use Rattle.std.proofs.Common.{rules, Ok}
use mathlib.Core.Path.{sym, ap, ◌∙◌}
use Rattle.profile.specs.Refusals.{refusing}
use Rattle.profile.proofs.Refusing.{admitted_in_range, admitted_rest}
use Rattle.block.specs.Block.{check_answer}
use Rattle.block.proofs.Entries.{zero_clean}
use Rattle.block.proofs.check.Goals as goal

pub returns-in_err-admit : goal.returns-in_err-admit
unfolding check_answer refusing
returns-in_err-admit c = search rules

pub new-requires : goal.new-requires
new-requires c = admitted_in_range _ _ _ (sym c.admit.ensures ∙ c.in_ok-admit.was)

pub returns : goal.returns
unfolding check_answer
returns c =
    let q = sym c.admit.ensures ∙ c.in_ok-admit.was in
    ap Ok (zero_clean _ (admitted_in_range _ _ _ q) _ _ _ (rw c.new.ensures at c.remainder-rest.ensures) c.is_zero.ensures) ∙ admitted_rest _ _ _ _ _ _ q
