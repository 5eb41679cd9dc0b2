-- A point more comes in at each step, until no point is left.
use Rattle.products.proofs.Backwards.{behind-none, behind-more, behind-all}
use Rattle.erasure.proofs.Registers.{Rooted, rooted_none, rooted_more}
use Rattle.erasure.proofs.rooted_of.Goals as goal

pub loop-x-init : goal.loop-x-init
loop-x-init c = behind-none _ _ (Rooted c.push_bottom-p.result) (cc) (rooted_none _ _ c.blank.ensures c.push_bottom-p.ensures)

pub loop-x-preserved : goal.loop-x-preserved
loop-x-preserved c =
    behind-more _ _ _ c.in-Some.x.now (Rooted c.loop-x.p) (Rooted c.add-p.result) c.in-Some.ensures.steps
    (λ t h. rooted_more c.loop-x.p _ _ _ _ t c.scale.ensures c.shift_up.ensures c.add-p.ensures h) c.loop-x.invariant

pub returns : goal.returns
returns c = behind-all _ _ (Rooted c.loop-x.p) c.in-None.ensures.steps.0 c.loop-x.invariant
