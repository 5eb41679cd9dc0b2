-- Each turn reads one syndrome more; the first 64 are all that count.
use mathlib.Core.Path.{refl, ap, ◌∙◌}
use native.Mathlib.Omega.{arith}
use Rattle.register.proofs.Cells.{cells-length}
use Rattle.erasure.proofs.Words.{take_min}
use Rattle.locator.specs.Locator.{massey}
use Rattle.locator.proofs.States.{start-size, reading-none, reading-more, reading-all, reading-left}
use Rattle.locator.proofs.recursion_over.Goals as goal

pub loop-i-init : goal.loop-i-init
loop-i-init c =
    let z = start-size _ c.first_state-k.ensures in
    record { size = omega arith; small = omega arith; reading = reading-none _ _ _ c.blank-read.ensures c.first_state-k.ensures }

pub returns-then-is_above : goal.returns-then-is_above
returns-then-is_above c =
    let l = c.loop-i in
    rw (← take_min _ 64 c.args.syndromes.now c.min.ensures)
    (reading-left _ _ _ _ _ c.if-is_above.true (reading-more _ _ _ l.i _ _ _ (omega arith) refl (cells-length _) c.push_bottom-read.ensures c.next_state-k.ensures.0 l.invariant.reading))

pub loop-i-preserved : goal.loop-i-preserved
loop-i-preserved c =
    let l = c.loop-i in
    record {
      size = c.next_state-k.ensures.1;
      small = c.if-is_above.false;
      reading = reading-more _ _ _ l.i _ _ _ (omega arith) refl (cells-length _) c.push_bottom-read.ensures c.next_state-k.ensures.0 l.invariant.reading;
    }

pub returns : goal.returns
returns c =
    let l = c.loop-i in
    (l.invariant.small, reading-all _ _ l.i _ (omega arith) l.invariant.reading ∙ ap (massey 64) (take_min _ 64 c.args.syndromes.now c.min.ensures))
