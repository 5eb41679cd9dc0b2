-- Each return is a case of the definitions; a clean block is told by its register.
use Rattle.std.proofs.Common.{sym, ◌∙◌, arith}
use Rattle.std.proofs.lemmas.Result.{err_from_is_err_and}
use Rattle.lists.proofs.Bytes.{bytes_of}
use Rattle.profile.proofs.Ranges.{in_range_lem}
use Rattle.profile.proofs.Refusing.{admitted}
use Rattle.spots.proofs.Correcting.{clean_into}
use Rattle.spots.proofs.Answers.{right_lengths, spot-refused, spot_past}
use Rattle.spots.proofs.correct.Goals as goal

pub returns-in_err-admit : goal.returns-in_err-admit
returns-in_err-admit c =
    let e = err_from_is_err_and c.from_residual.result c.from_residual.ensures.1 in
    let z = spot-refused c.args.p c.args.read.now c.args.out.now c.in_err-admit.field-0.0 (rw c.fits.ensures at (sym c.in_err-admit.ensures)) in
    rw (e.1, e.2) (record { value = z.0; out_after = z.1 })

pub copy_from_slice-requires : goal.copy_from_slice-requires
copy_from_slice-requires c =
    let t = admitted c.args.p _ _ (sym c.in_ok-admit.ensures) in
    let l = right_lengths c.args.p c.args.read.now c.args.out.now (sym c.fits.ensures ∙ t.1) in l.1 ∙ sym l.0

pub returns-then-is_zero : goal.returns-then-is_zero
returns-then-is_zero c =
    let t = admitted c.args.p _ _ (sym c.in_ok-admit.ensures) in
    let f = sym c.fits.ensures ∙ t.1 in
    let l = right_lengths c.args.p c.args.read.now c.args.out.now f in
    let z =
    spot_past _ _ _ t.0 f _ _
    (clean_into c.args.p ((in_range_lem _).0 t.0) c.args.read.now l.0 (bytes_of c.args.read.now (λ i. omega (arith, c.type_inv.read i))) c.args.out.now _ _
    c.remainder-rest.ensures c.if-is_zero.ensures c.copy_from_slice.ensures.after) in
    record { value = z.0; out_after = z.1 }

pub correct_cells-requires : goal.correct_cells-requires
correct_cells-requires c =
    let t = admitted c.args.p _ _ (sym c.in_ok-admit.ensures) in
    record {
      in_range = (in_range_lem _).0 t.0;
      read_len = right_lengths c.args.p c.args.read.now c.args.out.now (sym c.fits.ensures ∙ t.1);
      rest_value = c.remainder-rest.ensures;
    }

pub returns : goal.returns
returns c =
    let t = admitted c.args.p _ _ (sym c.in_ok-admit.ensures) in
    let z = spot_past _ _ _ t.0 (sym c.fits.ensures ∙ t.1) _ _ c.correct_cells.ensures in
    record { value = z.0; out_after = z.1 }
