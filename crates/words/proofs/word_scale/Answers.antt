-- The planes of the eight bits are added; a blank word has none.
use native.Mathlib.Omega.{arith}
use Rattle.words.proofs.Bits.{planes_sum, blank_scaled}
use Rattle.words.proofs.word_scale.Goals as goal

pub returns-then-w-eq0 : goal.returns-then-w-eq0
returns-then-w-eq0 c = blank_scaled _ _ c.if-w-eq0.true

pub returns : goal.returns
returns c =
    planes_sum c.args.w _ _ _ _ _ _ _ _ _ _ _ _ _ _ _ _ (omega arith) c.args.d.now.doubled c.plane.ensures c.plane-2.ensures c.plane-3.ensures c.plane-4.ensures
    c.plane-5.ensures c.plane-6.ensures c.plane-7.ensures c.plane-8.ensures
