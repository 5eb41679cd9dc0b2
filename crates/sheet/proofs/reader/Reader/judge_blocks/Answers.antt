use Rattle.std.proofs.Common.{◌≡◌, ◌<◌, length, sym, ◌∙◌, arith}
use Rattle.std.specs.Prelude.{Ok}
use Rattle.std.proofs.lemmas.Result.{err_from_is_err_and}
use native.Mathlib.Nat.{not-suc-le-zero}
use Rattle.lists.proofs.Bytes.{bytes_of}
use Rattle.sheet.proofs.Steps.{changed-small, accepted-is, turn-start, turn_on, turn_stop, turn_end}
use Rattle.sheet.proofs.Passes.{verdict-at, small_at, found-more}
use Rattle.sheet.proofs.reader.Reader.judge_blocks.Goals as goal

pub loop-d-init : goal.loop-d-init
loop-d-init c = record { few = omega arith; answer = turn-start _ _ _; found = λ i l. absurd (not-suc-le-zero l) }

pub returns-in_err-correction : goal.returns-in_err-correction
returns-in_err-correction c =
    let r = c.args.self.now in
    let l = c.loop-d in
    let e = err_from_is_err_and c.from_residual.result c.from_residual.ensures.1 in
    let a = turn_stop r.mode r.p r.sheet.now l.d l.changed c.loop-d-test.true l.invariant.answer _ (verdict-at _ _ _ _ _ c.judge_block-judged.ensures) _ c.in_err-correction.ensures in
    rw (e.1, e.2) (record { answer = a; found = λ k. absurd (cc) })

pub of-run-requires : goal.of-run-requires
of-run-requires c =
    let r = c.args.self.now in
    small_at r.mode r.p r.sheet.now c.loop-d.d _ c.judge_block-judged.ensures r.in_range (bytes_of r.sheet.now r.bytes) _ (accepted-is _ _ _ c.in_ok-correction.ensures)

pub overflow_add-changed : goal.overflow_add-changed
overflow_add-changed c = omega (arith, changed-small c.of-run.result.size, c.from-changed.ensures, c.loop-d.invariant.few, c.args.self.now.in_range.depth_most)

pub loop-d-preserved : goal.loop-d-preserved
loop-d-preserved c =
    let r = c.args.self.now in
    let l = c.loop-d in
    let j = c.judge_block-judged in
    let q : j.result.verdict ≡ Ok c.in_ok-correction.correction = accepted-is _ _ _ c.in_ok-correction.ensures in
    let k = c.keep.ensures in
    let u = c.of-run.ensures in
    let less : l.d < length l.findings.runs = omega (arith, c.loop-d-test.true, r.in_range.depth_most) in
    record {
      few = omega (arith, changed-small c.of-run.result.size, c.from-changed.ensures, l.invariant.few);
      answer =
          rw (c.from-changed.ensures, u) (turn_on r.mode r.p r.sheet.now l.d l.changed c.loop-d-test.true l.invariant.answer r.in_range (bytes_of r.sheet.now r.bytes) c.in_ok-correction.correction (sym (verdict-at _ _ _ _ _ j.ensures) ∙ q));
      found =
          found-more r.mode r.p r.sheet.now l.findings c.keep.new.self l.d j.result c.in_ok-correction.correction less j.ensures q (rw u at k.runs_after) (rw u at k.errors_after)
          l.invariant.found;
    }

pub returns : goal.returns
returns c =
    let r = c.args.self.now in
    let l = c.loop-d in
    let e : l.d ≡ r.p.depth = omega arith in
    record { answer = turn_end r.mode r.p r.sheet.now l.d l.changed e l.invariant.answer; found = λ k d b. l.invariant.found d (omega (arith, e, b)) }
