-- `block::judge_remainder` meets its contract: a clean block has the empty run, and else the verdict is what the search's state decides.
use mathlib.Core.Path.{sym, ◌∙◌}
use Rattle.block.proofs.Outcome.{judged_clean, judged_refused, judged_accepted}
use Rattle.block.proofs.judge_remainder.Goals as goal

pub returns-then-is_zero : goal.returns-then-is_zero
returns-then-is_zero c =
    let code = c.args.code.now in
    judged_clean code.profile code.in_range c.args.rest c.requires (sym c.is_zero.ensures ∙ c.if-is_zero.true)

pub returns-then-is_err : goal.returns-then-is_err
returns-then-is_err c =
    let code = c.args.code.now in
    judged_refused code.profile code.in_range c.args.rest c.requires (sym c.is_zero.ensures ∙ c.if-is_zero.false) _ c.search-found.ensures
    _ c.decided-verdict.ensures (sym c.is_err.ensures.value ∙ c.if-is_err.true)

pub returns-else-is_err : goal.returns-else-is_err
returns-else-is_err c =
    let code = c.args.code.now in
    judged_accepted code.profile code.in_range c.args.rest c.requires (sym c.is_zero.ensures ∙ c.if-is_zero.false) _ c.search-found.ensures
    _ c.decided-verdict.ensures (sym c.is_err.ensures.value ∙ c.if-is_err.false)
