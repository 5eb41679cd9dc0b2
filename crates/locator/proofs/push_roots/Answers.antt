use mathlib.Core.Path.{◌≡◌, ap, ◌∙◌}
use native.Mathlib.Omega.{arith}
use Rattle.locator.specs.declared.Errors.{Errors}
use Rattle.products.proofs.Values.{point_at}
use Rattle.locator.proofs.Places.{word_none, word_root, word_other}
use Rattle.locator.proofs.push_roots.Goals as goal
use Rattle.locator.proofs.push_roots.Goals.{then-cell_at-eq0, else-cell_at-eq0}

pub loop-i-init : goal.loop-i-init
loop-i-init c = record { count = omega (arith, c.requires.count_le_j); pushed = λ P E v e. word_none P E c.args.j _ e }

pub push-requires : goal.push-requires
push-requires c =
    let l = c.loop-i in
    record { point_value = point_at c.args.points c.args.j l.i _ (omega (arith, c.requires.m_bound)) c.requires.points_value c.cell_at-then-cell_at-eq0.ensures; count_le_place = l.invariant.count }

pub loop-i-preserved : goal.loop-i-preserved
loop-i-preserved c =
    let l = c.loop-i in
    let v = c.cell_at.ensures in
    elim c.if-cell_at-eq0.branch [
      | then-cell_at-eq0 w ↦ record {
        count = omega (arith, w.push.ensures.count, ap (λ (f : Errors). f.count) w.found-is);
        pushed = λ P E q e. word_root P E c.args.values c.args.points c.args.j l.i _ l.found (omega (arith, c.requires.m_bound)) c.requires.points_value q v (l.invariant.pushed P E q e) c.if-cell_at-eq0.found w.if-cell_at-eq0.true
            (λ F g. w.found-is ∙ w.push.ensures.pushed F g);
      }
      | else-cell_at-eq0 w ↦ record {
        count = omega (arith, ap (λ (f : Errors). f.count) w.found-is);
        pushed = λ P E q e. w.found-is ∙ word_other P E c.args.values c.args.points c.args.j l.i _ l.found (omega (arith, c.requires.m_bound)) c.requires.points_value q v (l.invariant.pushed P E q e) w.if-cell_at-eq0.false;
      }
    ]

pub returns : goal.returns
returns c =
    let l = c.loop-i in
    let a = c.args in
    let e : l.i ≡ a.m = omega arith in
    record { count = omega (arith, l.invariant.count); pushed = λ P E v q. rw e at (l.invariant.pushed P E v q) }
