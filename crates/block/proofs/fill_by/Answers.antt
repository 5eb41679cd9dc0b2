-- `block::fill_by` meets its contract: each return is a case of the definition.
use Rattle.std.proofs.Common.{rules, ◌≡◌, length}
use native.Mathlib.Omega.{arith}
use mathlib.Core.Path.{sym, ◌∙◌}
use Rattle.profile.specs.Profile.{InRange}
use Rattle.profile.proofs.Refusing.{admitted, admitted_in_range}
use Rattle.block.proofs.Filling.{span_iff}
use Rattle.profile.specs.Refusals.{refusing}
use Rattle.block.specs.Block.{correct_fits, filling, fill_by_answer, fill_by_leaves}
use Rattle.block.proofs.fill_by.Goals as goal

pub returns-in_err-admit-clause-value : goal.returns-in_err-admit-clause-value
unfolding fill_by_answer filling correct_fits refusing
returns-in_err-admit-clause-value c = search rules

pub returns-in_err-admit-clause-out_after : goal.returns-in_err-admit-clause-out_after
unfolding fill_by_leaves filling correct_fits refusing
returns-in_err-admit-clause-out_after c = search rules

pub returns-then-not-is_span-clause-value : goal.returns-then-not-is_span-clause-value
unfolding fill_by_answer filling correct_fits refusing
returns-then-not-is_span-clause-value c = search rules

pub returns-then-not-is_span-clause-out_after : goal.returns-then-not-is_span-clause-out_after
unfolding fill_by_leaves filling correct_fits refusing
returns-then-not-is_span-clause-out_after c = search rules

pub fill_run-requires-clause-out_len : goal.fill_run-requires-clause-out_len
fill_run-requires-clause-out_len c =
    let w = (admitted _ _ _ (sym c.admit.ensures ∙ c.in_ok-admit.was)).1 in
    let k : length c.args.read.now ≡ c.args.p.n = search rules in
    let l : length c.args.out.now ≡ c.args.p.n = search rules in
    omega arith

pub fill_run-requires-clause-size_in_bounds : goal.fill_run-requires-clause-size_in_bounds
fill_run-requires-clause-size_in_bounds c =
    let q = sym c.admit.ensures ∙ c.in_ok-admit.was in
    let w = (admitted _ _ _ q).1 in
    let k : length c.args.read.now ≡ c.args.p.n = search rules in
    let v : InRange c.args.p = admitted_in_range _ _ _ q in
    let z = (span_iff c.args.p c.args.start c.args.length).0 (sym c.is_span.ensures ∙ c.if-not-is_span.false) in
    (omega (arith, z.0), omega (arith, z.1, v.r_most))

pub returns-clause-value : goal.returns-clause-value
unfolding fill_by_answer filling correct_fits refusing
returns-clause-value c = search rules

pub returns-clause-out_after : goal.returns-clause-out_after
unfolding fill_by_leaves filling correct_fits refusing
returns-clause-out_after c = search rules
