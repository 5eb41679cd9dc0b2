-- The answer for an accepted payload, or for its refusal by the number and place of that.
use Rattle.std.proofs.Common.{◌≡◌, refl, sym, ap, ◌∙◌, rules, List, ℕ}
use Rattle.plot.specs.Grammar.{reading}
use Rattle.plot.proofs.Entries.{checked_accepted, checked_refused}
use Rattle.listing_text.specs.Text.{listing_text, refusal_text}
use Rattle.listing_text.specs.Buffer.{text_in, text_length}
use Rattle.listing_text.proofs.Puts.{puts_length, puts_bytes}
use Rattle.listing_text.proofs.Texts.{listing_stopped}
use Rattle.listing_text.proofs.write_listing.Goals as goal

pub put_answer-requires : goal.put_answer-requires
put_answer-requires c =
    let a = checked_accepted _ _ (sym c.check.ensures ∙ c.in-Ok.is) in
    (a.0, _, a.1)

pub returns-in-Ok-clause-value : goal.returns-in-Ok-clause-value
returns-in-Ok-clause-value c = puts_length c.put_answer.ensures refl

pub returns-in-Ok-clause-out_after : goal.returns-in-Ok-clause-out_after
returns-in-Ok-clause-out_after c =
    let e : c.put_answer.new.w.out.now ≡ text_in (listing_text c.args.changed (reading c.args.payload.now)) c.args.out.now = puts_bytes c.put_answer.ensures refl in
    let n = c.put_answer.ensures.same in
    search (rules, e, n)

-- the text of that number and place is the answer's
pub returns-in-Err : goal.returns-in-Err
returns-in-Err c =
    let a = c.args in
    let w = c.write_refusal.ensures in
    let text-is : refusal_text c.number.result c.place.result ≡ listing_text a.changed (reading a.payload.now) =
    ap (λ (n : ℕ). refusal_text n c.place.result) c.number.ensures
    ∙ ap (refusal_text _) c.place.ensures
    ∙ listing_stopped _ _ _ (checked_refused _ _ (sym c.check.ensures ∙ c.in-Err.is)) in
    record { value = w.value ∙ ap (λ (t : List ℕ). text_length t a.out.now) text-is; out_after = w.out_after ∙ ap (λ (t : List ℕ). text_in t a.out.now) text-is }
