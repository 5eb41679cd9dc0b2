use mathlib.Core.Path.{◌≡◌, ap, ◌∙◌}
use Prim.Native.Nat.{ℕ, ◌+◌, min}
use native.Mathlib.Omega.{arith}
use Rattle.field.specs.Field.{alpha}
use Rattle.register.proofs.Generator.{top_none, top_more, next_root}
use Rattle.register.proofs.generator_top.Goals as goal

pub loop-init : goal.loop-init
loop-init c =
    let z : c.args.b ≡ c.args.b + 0 = omega arith in
    (c.of-d.ensures ∙ c.alpha_power.ensures ∙ ap alpha z, top_none c.args.b _ c.blank-g.ensures)

pub loop-preserved : goal.loop-preserved
loop-preserved c =
    let l = c.loop in
    let b : ℕ = c.args.b in
    (c.next-d.ensures ∙ next_root b l.counter _ _ l.invariant.0 l.d.doubled.0, top_more b l.counter _ _ (omega arith) l.invariant.1 (rw l.invariant.0 at c.with_root-g.ensures))

pub returns : goal.returns
returns c =
    let l = c.loop in
    let e : l.counter ≡ min c.args.r 64 = omega (arith, c.min-end.ensures) in
    rw e at l.invariant.1
