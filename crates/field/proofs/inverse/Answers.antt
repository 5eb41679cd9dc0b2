use native.Mathlib.Omega.{arith}
use Rattle.field.proofs.Product.{mul-lt}
use Rattle.field.proofs.Turns.{inverse-start, inverse-turn, inverse-end}
use Rattle.field.proofs.inverse.Goals as goal

pub loop-init : goal.loop-init
loop-init c = (omega arith, inverse-start c.args.x)

pub loop-preserved : goal.loop-preserved
loop-preserved c =
    let l = c.loop in
    let square = c.multiply-square.result in (
      omega (arith, c.multiply-result.ensures, mul-lt l.result square),
      inverse-turn l.counter l.result l.square c.args.x square c.multiply-result.result (omega arith) l.invariant.1 c.multiply-square.ensures c.multiply-result.ensures,
    )

pub returns : goal.returns
returns c =
    let l = c.loop in
    inverse-end l.counter l.result l.square c.args.x l.invariant.0 (omega arith) l.invariant.1
