use Rattle.std.proofs.Common.{◌≡◌, ℕ, ◌+◌, ◌-◌, ◌*◌, ◌≤◌, drop, length, sym, ap, ◌∙◌, arith}
use borrow.Rule.Slice.PartMut.{mid_len}
use Rattle.profile.specs.Profile.{message_length}
use Rattle.sheet.specs.Sheet.{codeword, sheet_payload}
use Rattle.sheet.proofs.Places.{part_inside}
use Rattle.sheet.proofs.Apart.{rows_start, rows_more, rows_end}
use Rattle.sheet.proofs.reader.Reader.write_messages.Goals as goal

pub loop-d-init : goal.loop-d-init
loop-d-init c = rows_start _ _ _

pub loop-d-preserved : goal.loop-d-preserved
loop-d-preserved c =
    let r = c.args.self.now in
    let l = c.loop-d in
    let k = c.message_length-k.result in
    let w = c.write_message in
    let whole : r.p.depth * k ≡ length c.args.payload.now = ap (λ (m : ℕ). r.p.depth * m) c.message_length-k.ensures ∙ sym c.requires.payload_len in
    let inside : l.d * k + k ≤ length c.args.payload.now = omega (arith, part_inside r.p.depth k l.d c.loop-d-test.true, whole) in
    let long : length w.new.message ≡ k = w.auto.message ∙ mid_len (l.d * k) (l.d * k + k) l.payload (omega (arith, inside)) ∙ (let z : l.d * k + k - l.d * k ≡ k = omega arith in z) in
    rows_more k l.d (λ (e : ℕ). drop r.p.r (codeword r.mode r.p r.sheet.now e)) c.args.payload.now l.payload l.invariant w.new.message (omega (arith, inside)) long w.ensures

pub returns : goal.returns
unfolding sheet_payload
returns c =
    let r = c.args.self.now in
    let l = c.loop-d in
    let e : c.message_length-k.result ≡ message_length r.p = c.message_length-k.ensures in
    rw (sym e)
    (rows_end c.message_length-k.result l.d (λ (x : ℕ). drop r.p.r (codeword r.mode r.p r.sheet.now x)) c.args.payload.now l.payload l.invariant r.p.depth (omega arith)
    (c.requires.payload_len ∙ ap (λ (m : ℕ). r.p.depth * m) (sym e)))
