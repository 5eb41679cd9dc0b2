use mathlib.Core.Path.{◌≡◌}
use native.Mathlib.Omega.{arith}
use Rattle.products.proofs.Values.{points-more}
use Rattle.locator.proofs.Places.{all_none, all_more}
use Rattle.locator.proofs.roots_among.Goals as goal

pub loop-j-init : goal.loop-j-init
loop-j-init c = record { within = omega arith; here = c.points_from-points.ensures; count = omega arith; roots = all_none _ }

pub push_roots-requires : goal.push_roots-requires
push_roots-requires c =
    let l = c.loop-j in
    record { m_bound = (omega arith, omega (arith, c.requires)); points_value = l.invariant.here; count_le_j = l.invariant.count }

pub loop-j-preserved : goal.loop-j-preserved
loop-j-preserved c =
    let l = c.loop-j in
    let w = c.push_roots.ensures in
    record {
      within = omega arith;
      here = points-more l.points _ l.j l.invariant.here c.next_points-points.ensures;
      count = omega (arith, w.count);
      roots = all_more _ l.j _ _ l.found _ (omega arith) l.invariant.roots (λ E e. w.pushed _ E c.values_at-values.ensures e);
    }

pub returns : goal.returns
returns c =
    let l = c.loop-j in
    let e : l.j ≡ c.args.n = omega arith in
    rw e at l.invariant.roots

pub returns-2 : goal.returns-2
returns-2 c =
    let l = c.loop-j in
    all_more _ l.j _ _ l.found _ (omega arith) l.invariant.roots (λ E e. c.push_roots.ensures.pushed _ E c.values_at-values.ensures e)
