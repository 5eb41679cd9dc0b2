-- `block::correct` meets its contract: a look that refuses is the answer, and what the fill of an accepted one leaves is the codeword.
use Rattle.std.proofs.Common.{rules, ◌≡◌, length}
use mathlib.Core.Path.{sym, ◌∙◌}
use Rattle.lists.specs.Bytes.{Bytes}
use Rattle.lists.proofs.Bytes.{bytes_of}
use Rattle.profile.specs.Refusals.{refusing}
use Rattle.profile.proofs.Refusing.{admitted}
use Rattle.block.specs.Block.{correct_answer, correct_leaves, correct_fits, filled}
use Rattle.block.proofs.LookAndFill.{look_refused, look_filled}
use Rattle.block.proofs.correct.Goals as goal

pub returns-in_err-admit-clause-value : goal.returns-in_err-admit-clause-value
unfolding correct_answer correct_fits refusing
returns-in_err-admit-clause-value c = search rules

pub returns-in_err-admit-clause-out_after : goal.returns-in_err-admit-clause-out_after
unfolding correct_leaves correct_answer filled correct_fits refusing
returns-in_err-admit-clause-out_after c = search rules

pub returns-in_err-run : goal.returns-in_err-run
returns-in_err-run c =
    let w = (admitted _ _ _ (sym c.admit.ensures ∙ c.in_ok-admit.was)).1 in
    let l : length c.args.out.now ≡ c.args.p.n = search rules in
    let b : Bytes c.args.read.now = bytes_of _ (λ i. search rules) in
    let z = look_refused c.args.p _ _ b l _ (sym c.judge-found.ensures.verdict_value ∙ c.in_err-run.was) in
    record { value = search rules; out_after = z.1 }

pub unwrap-requires : goal.unwrap-requires
unwrap-requires c =
    let w = (admitted _ _ _ (sym c.admit.ensures ∙ c.in_ok-admit.was)).1 in
    let l : length c.args.out.now ≡ c.args.p.n = search rules in
    let b : Bytes c.args.read.now = bytes_of _ (λ i. search rules) in
    let z = look_filled c.args.p _ _ b l _ _ (sym c.judge-found.ensures.verdict_value ∙ c.in_ok-run.was) c.judge-found.ensures.error_value in
    search rules

pub returns : goal.returns
returns c =
    let w = (admitted _ _ _ (sym c.admit.ensures ∙ c.in_ok-admit.was)).1 in
    let l : length c.args.out.now ≡ c.args.p.n = search rules in
    let b : Bytes c.args.read.now = bytes_of _ (λ i. search rules) in
    let z = look_filled c.args.p _ _ b l _ _ (sym c.judge-found.ensures.verdict_value ∙ c.in_ok-run.was) c.judge-found.ensures.error_value in
    record { value = z.0; out_after = search rules }
