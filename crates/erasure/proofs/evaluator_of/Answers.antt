use Rattle.register.proofs.Cells.{cells-length}
use Rattle.erasure.proofs.Registers.{evaluator-start, evaluator-more, evaluator-end}
use Rattle.erasure.proofs.evaluator_of.Goals as goal

pub loop-x-init : goal.loop-x-init
loop-x-init c = evaluator-start _ _ _ (cells-length _) c.blank-w.ensures

pub loop-x-preserved : goal.loop-x-preserved
loop-x-preserved c = let l = c.loop-x in evaluator-more _ _ _ _ _ _ _ l.x-index c.loop-x-test.true l.invariant c.scale.ensures c.add-w.ensures c.shift_down-rest.ensures

pub returns : goal.returns
returns c = evaluator-end _ _ _ _ c.loop-x.x-index c.loop-x-test.false (cells-length _) (cells-length _) c.loop-x.invariant
