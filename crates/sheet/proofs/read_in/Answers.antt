-- Each way out is a case of the definitions: profile, lengths, and what both passes answer, after which the scratch is cleared.
use Rattle.std.proofs.Common.{ℕ, replicate, sym, ap, ◌∙◌, arith}
use Rattle.std.proofs.lemmas.Result.{err_from_is_err_and}
use Rattle.profile.proofs.Ranges.{in_range_lem}
use Rattle.profile.proofs.Refusing.{admitted}
use Rattle.sheet.proofs.Lists.{zeros, lent}
use Rattle.sheet.proofs.Entry.{read_lengths, read_refused, read_past}
use Rattle.sheet.proofs.read_in.Goals as goal

pub returns-in_err-admit : goal.returns-in_err-admit
returns-in_err-admit c =
    let a = c.args in
    let e = err_from_is_err_and c.from_residual.result c.from_residual.ensures.1 in
    let z = read_refused a.mode a.p a.sheet.now a.scratch.now a.payload.now c.in_err-admit.field-0.0 (rw c.read_fits.ensures at (sym c.in_err-admit.ensures)) in
    rw (e.1, e.2) (record { value = z.0; scratch_after = z.1.0; payload_after = z.1.1 })

pub invariant_of-reader : goal.invariant_of-reader
invariant_of-reader c =
    let t = admitted c.args.p _ _ (sym c.in_ok-admit.ensures) in
    let e = read_lengths _ _ _ _ (sym c.read_fits.ensures ∙ t.1) in
    record { in_range = (in_range_lem _).0 t.0; count = e.0; bytes = λ i. omega (arith, c.type_inv.sheet i) }

pub slice_bounds-cells-end : goal.slice_bounds-cells-end
slice_bounds-cells-end c =
    let t = admitted c.args.p _ _ (sym c.in_ok-admit.ensures) in
    ((in_range_lem _).0 t.0).n_most

pub slice_bounds-word-end : goal.slice_bounds-word-end
unfolding zeros
slice_bounds-word-end c =
    let t = admitted c.args.p _ _ (sym c.in_ok-admit.ensures) in
    sym (lent _ ((in_range_lem _).0 t.0).n_most)

pub read-answer-requires : goal.read-answer-requires
unfolding zeros
read-answer-requires c =
    let t = admitted c.args.p _ _ (sym c.in_ok-admit.ensures) in
    let e = read_lengths _ _ _ _ (sym c.read_fits.ensures ∙ t.1) in
    record { room = record { block_count = e.1; word_count = lent _ ((in_range_lem _).0 t.0).n_most }; payload_len = e.2 }

pub returns : goal.returns
returns c =
    let t = admitted c.args.p _ _ (sym c.in_ok-admit.ensures) in
    let b = c.read-answer in
    let q = read_past _ _ _ _ _ t.0 (sym c.read_fits.ensures ∙ t.1) in
    record { value = b.ensures.value ∙ q.0; scratch_after = c.fill.ensures.after (λ y e. e) ∙ ap (λ (m : ℕ). replicate m 0) b.auto.scratch ∙ q.1.0; payload_after = b.ensures.payload_after ∙ q.1.1 }
