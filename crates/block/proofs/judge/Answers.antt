-- `block::judge` meets its contract: each return is a case of the definitions, and the verdict is judged from the register of the remainder.
use Rattle.std.proofs.Common.{rules}
use Rattle.profile.specs.Refusals.{refusing}
use Rattle.profile.proofs.Ranges.{in_range_lem}
use Rattle.block.specs.Block.{look_answer, look_error}
use Rattle.block.proofs.Entries.{remainder-cells}
use Rattle.block.proofs.Outcome.{looked}
use Rattle.block.proofs.judge.Goals as goal

pub returns-in-Err-clause-verdict_value : goal.returns-in-Err-clause-verdict_value
unfolding look_answer refusing
returns-in-Err-clause-verdict_value c = search rules

pub returns-in-Err-clause-error_value : goal.returns-in-Err-clause-error_value
unfolding look_error refusing
returns-in-Err-clause-error_value c = search rules

pub new-code-requires : goal.new-code-requires
unfolding refusing
new-code-requires c = (in_range_lem _).0 (search rules)

pub judge_remainder-requires : goal.judge_remainder-requires
judge_remainder-requires c = (remainder-cells _ c.new-code.result.in_range _ _ c.remainder.ensures).0

pub returns : goal.returns
unfolding refusing
returns c =
    let q = looked c.args.p c.args.read.now _ _ (search rules) (search rules) (rw c.new-code.ensures at c.remainder.ensures) (rw c.new-code.ensures at c.judge_remainder.ensures) in
    record { verdict_value = q.0; error_value = q.1 }
