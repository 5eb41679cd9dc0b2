-- The parts that are lent are zero, so the reader's answer on them is one of two cases of the text.
use Rattle.std.proofs.Common.{ap, ◌∙◌, ℕ, arith}
use Rattle.listing_text.specs.Text.{refusal_text}
use Rattle.listing.proofs.Cases.{bytes_fit, scratch_part, payload_part, text_refused, text_accepted}
use Rattle.listing.proofs.list_sheet.Goals as goal

pub returns-in-Ok : goal.returns-in-Ok
returns-in-Ok c =
    let a = c.args in
    let v = c.requires in
    let e = text_accepted a.p a.sheet.now _ _ (scratch_part a.p v) (payload_part a.p v _ c.message_length.ensures) _ _ c.in-Ok.ensures.value c.read.ensures.payload_after in
    rw (← e) c.write_listing.ensures

-- the text of that number and place is the answer's
pub returns-in-Err : goal.returns-in-Err
returns-in-Err c =
    let a = c.args in
    let v = c.requires in
    let e = ap (λ (n : ℕ). refusal_text n c.place.result) c.number.ensures ∙ ap (refusal_text _) c.place.ensures
    ∙ text_refused a.p a.sheet.now _ _ (scratch_part a.p v) (payload_part a.p v _ c.message_length.ensures) _ c.in-Err.ensures.value in
    rw (← e) c.write_refusal.ensures
