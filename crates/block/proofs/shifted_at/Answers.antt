-- `block::shifted_at` meets its contract: each return is a case of the definition.
use Rattle.std.proofs.Common.{rules, ◌≡◌, length}
use native.Mathlib.Omega.{arith}
use Rattle.profile.specs.Refusals.{refusing}
use Rattle.profile.proofs.Ranges.{in_range_lem}
use Rattle.block.specs.Found.{shifted_at}
use Rattle.block.proofs.shifted_at.Goals as goal

pub returns-then-is_err : goal.returns-then-is_err
unfolding shifted_at refusing
returns-then-is_err c = search rules

pub new-requires : goal.new-requires
unfolding refusing
new-requires c = (in_range_lem _).0 (search rules)

pub shifted-requires : goal.shifted-requires
unfolding refusing
shifted-requires c = let l : length c.args.read.now ≡ c.args.p.n = search rules in omega (arith, c.if-p-start.false)

pub returns : goal.returns
unfolding shifted_at refusing
returns c = search rules
