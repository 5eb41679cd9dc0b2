-- The test of the five ranges is true exactly if each number is in its range.
use mathlib.Core.Path.{◌≡◌, sym}
use mathlib.Core.Logic.{⊎_elim}
use mathlib.Core.Bool.{true, false}
use borrow.Author.Tests.{leb-true, ltb-true, le-leb, lt-ltb}
use Rattle.lists.proofs.Test.{both_true, true_or_false}
use Rattle.profile.specs.Profile.{InRange, in_range, InRangeIff}
use Rattle.profile.specs.declared.Profile.{Profile}

ranges_of : (p : Profile) → in_range p ≡ true → InRange p
unfolding in_range
ranges_of p t =
    let a = both_true _ _ t in
    let b = both_true _ _ a.1 in
    let c = both_true _ _ b.1 in
    let d = both_true _ _ c.1 in
    let e = both_true _ _ d.1 in
    let f = both_true _ _ e.1 in
    let g = both_true _ _ f.1 in
    let h = both_true _ _ g.1 in
    record {
      n_least = leb-true _ _ a.0;
      n_most = leb-true _ _ b.0;
      r_least = leb-true _ _ c.0;
      r_most = leb-true _ _ d.0;
      r_below = ltb-true _ _ e.0;
      b_most = leb-true _ _ f.0;
      limit_below = ltb-true _ _ g.0;
      depth_least = leb-true _ _ h.0;
      depth_most = leb-true _ _ h.1;
    }

of_ranges : (p : Profile) → InRange p → in_range p ≡ true
unfolding in_range
of_ranges p v =
    rw (
      le-leb _ _ v.n_least,
      le-leb _ _ v.n_most,
      le-leb _ _ v.r_least,
      le-leb _ _ v.r_most,
      lt-ltb _ _ v.r_below,
      le-leb _ _ v.b_most,
      lt-ltb _ _ v.limit_below,
      le-leb _ _ v.depth_least,
      le-leb _ _ v.depth_most,
    )

pub in_range_lem : InRangeIff
in_range_lem p = (ranges_of p, of_ranges p)

pub out_of_range : (p : Profile) → (InRange p → ⊥) → false ≡ in_range p
out_of_range p n = ⊎_elim (λ t. absurd (n ((in_range_lem p).0 t))) (λ t. sym t) (true_or_false (in_range p))
