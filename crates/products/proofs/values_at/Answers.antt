-- A cell more comes in at each step, until no cell is left.
use Rattle.products.proofs.Backwards.{behind-none, behind-more, behind-all}
use Rattle.products.proofs.Points.{Values, horner_none, horner_more}
use Rattle.products.proofs.values_at.Goals as goal

pub loop-c-init : goal.loop-c-init
loop-c-init c = behind-none _ _ (Values c.args.points 0) (cc) (horner_none c.args.points)

pub loop-c-preserved : goal.loop-c-preserved
loop-c-preserved c =
    behind-more _ _ _ c.in-Some.c.now (Values c.args.points c.loop-c.v) (Values c.args.points c.horner_step-v.result) c.in-Some.ensures.steps
    (λ t h. horner_more _ _ _ _ t (rw c.of-d.ensures at c.horner_step-v.ensures) h) c.loop-c.invariant

pub returns : goal.returns
returns c = behind-all _ _ (Values c.args.points c.loop-c.v) c.in-None.ensures.steps.0 c.loop-c.invariant
