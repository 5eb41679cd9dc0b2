use mathlib.Core.Path.{◌≡◌, refl, ap, ◌∙◌}
use Prim.Native.Nat.{◌%◌}
use native.Mathlib.Omega.{arith}
use Rattle.field.specs.Field.{power, alpha}
use Rattle.field.proofs.Power.{alpha-mod}
use Rattle.field.proofs.Turns.{alpha-turn}
use Rattle.field.proofs.alpha_power.Goals as goal

pub loop-init : goal.loop-init
unfolding power
loop-init c = refl

pub loop-preserved : goal.loop-preserved
loop-preserved c = alpha-turn c.loop.counter c.loop.result c.double-result.result c.loop.invariant c.double-result.ensures

pub returns : goal.returns
returns c =
    let e = c.args.e in
    let l = c.loop in
    let done : l.counter ≡ e % 255 = omega arith in
    l.invariant ∙ ap alpha done ∙ alpha-mod e
