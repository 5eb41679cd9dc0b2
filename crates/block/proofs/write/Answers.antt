-- `block::write` meets its contract: each return is a case of the definitions; the cells laid out are the check cells and the message.
use Rattle.std.proofs.Common.{rules, length}
use native.Mathlib.Omega.{arith}
use mathlib.Core.Path.{◌≡◌, sym, ◌∙◌}
use Rattle.profile.specs.Profile.{InRange, message_length}
use Rattle.profile.specs.Refusals.{refusing}
use Rattle.profile.proofs.Refusing.{admitted, admitted_in_range}
use Rattle.block.specs.Block.{write_answer, write_leaves, write_fits}
use Rattle.block.proofs.Entries.{encode_law}
use Rattle.block.proofs.write.Goals as goal

pub returns-in_err-admit-clause-value : goal.returns-in_err-admit-clause-value
unfolding write_answer write_fits refusing
returns-in_err-admit-clause-value c = search rules

pub returns-in_err-admit-clause-cells_after : goal.returns-in_err-admit-clause-cells_after
unfolding write_leaves write_fits refusing
returns-in_err-admit-clause-cells_after c = search rules

pub new-requires : goal.new-requires
new-requires c = admitted_in_range _ _ _ (sym c.admit.ensures ∙ c.in_ok-admit.was)

pub lay_out-requires-clause-cells_len : goal.lay_out-requires-clause-cells_len
lay_out-requires-clause-cells_len c =
    let q = sym c.admit.ensures ∙ c.in_ok-admit.was in
    let v : InRange c.args.p = admitted_in_range _ _ _ q in
    let fits = (admitted _ _ _ q).1 in
    let k : length c.args.message.now ≡ message_length c.args.p = search rules in
    let l : length c.args.cells.now ≡ c.args.p.n = search rules in
    omega (arith, v.r_below)

pub returns-clause-value : goal.returns-clause-value
unfolding write_answer write_fits refusing
returns-clause-value c = search rules

pub returns-clause-cells_after : goal.returns-clause-cells_after
unfolding write_leaves write_fits refusing
returns-clause-cells_after c =
    let q = sym c.admit.ensures ∙ c.in_ok-admit.was in
    c.lay_out.ensures ∙ encode_law _ (admitted_in_range _ _ _ q) _ _ (c.low_cells.ensures ∙ (rw c.new.ensures at c.checks-checks.ensures)) ∙ search rules
