-- The word, the number and the place in turn; then the buffer as filled from its first byte on.
use Rattle.std.proofs.Common.{◌≡◌, refl, rules}
use Rattle.listing_text.specs.Text.{refusal_text}
use Rattle.listing_text.specs.Buffer.{text_in}
use Rattle.listing_text.proofs.Puts.{puts_then, puts_length, puts_bytes}
use Rattle.listing_text.proofs.write_refusal.Goals as goal

pub returns-clause-value : goal.returns-clause-value
unfolding refusal_text
returns-clause-value c =
    puts_length (puts_then c.put_text.ensures (puts_then (rw c.from.ensures at c.put_field.ensures) c.put_field-2.ensures)) refl

pub returns-clause-out_after : goal.returns-clause-out_after
unfolding refusal_text
returns-clause-out_after c =
    let p = puts_then c.put_text.ensures (puts_then (rw c.from.ensures at c.put_field.ensures) c.put_field-2.ensures) in
    let e : c.put_field-2.new.self.out.now ≡ text_in (refusal_text c.args.number c.args.place) c.args.out.now = puts_bytes p refl in
    let n = p.same in
    search (rules, e, n)
