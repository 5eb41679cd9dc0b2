-- Each way out is a case of the definitions: profile, lengths, and all blocks written.
use Rattle.std.proofs.Common.{sym, ◌∙◌}
use Rattle.std.proofs.lemmas.Result.{err_from_is_err_and}
use Rattle.profile.proofs.Ranges.{in_range_lem}
use Rattle.profile.proofs.Refusing.{admitted}
use Rattle.sheet.proofs.Entry.{write_lengths, write_refused, write_done}
use Rattle.sheet.proofs.write.Goals as goal

pub returns-in_err-admit : goal.returns-in_err-admit
returns-in_err-admit c =
    let z = write_refused c.args.p c.args.payload.now c.args.sheet.now c.in_err-admit.field-0.0 (rw c.write_fits.ensures at (sym c.in_err-admit.ensures)) in
    let e = err_from_is_err_and c.from_residual.result c.from_residual.ensures.1 in
    rw (e.1, e.2) (record { value = z.0; sheet_after = z.1 })

pub write_blocks-requires : goal.write_blocks-requires
write_blocks-requires c =
    let t = admitted c.args.p _ _ (sym c.in_ok-admit.ensures) in
    record { in_range = (in_range_lem _).0 t.0; payload_len = write_lengths _ _ _ (sym c.write_fits.ensures ∙ t.1) }

pub returns : goal.returns
returns c =
    let t = admitted c.args.p _ _ (sym c.in_ok-admit.ensures) in
    let z = write_done _ _ _ t.0 (sym c.write_fits.ensures ∙ t.1) _ c.write_blocks.ensures in
    record { value = z.0; sheet_after = z.1 }
