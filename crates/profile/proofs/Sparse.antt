-- The rule on long but thin repairs: the test is true exactly where the rule says so, halves stand for the doubled numbers, and a run of at most h cells is exempt.
use mathlib.Core.Path.{◌≡◌}
use mathlib.Core.Logic.{⊎_elim}
use mathlib.Core.Bool.{true, false}
use Prim.Native.Nat.{ℕ, ◌+◌, ◌/◌, ◌≤◌, ◌<◌}
use native.Mathlib.Omega.{arith}
use lib.Dec.{leb}
use borrow.Author.Tests.{leb-true, leb-false, ltb-true, le-leb, lt-leb, lt-ltb, le-ltb}
use Rattle.lists.proofs.Test.{both_true, true_or_false}
use Rattle.profile.specs.Profile.{half, SparseRun, is_sparse, SparseRunIff}
use Rattle.profile.specs.declared.Profile.{Profile}

module _ (p : Profile) (f w : ℕ) where
  sparse_of : is_sparse p f w ≡ true → SparseRun p f w
  unfolding is_sparse
  sparse_of t =
      let a = both_true _ _ t in
      let l : p.r < f + f = ltb-true _ _ a.0 in
      let m : w + w ≤ f = leb-true _ _ a.1 in
      record { long = omega arith; few = omega arith }

  of_sparse : SparseRun p f w → is_sparse p f w ≡ true
  unfolding is_sparse
  of_sparse s = rw (lt-ltb p.r (f + f) (omega (arith, s.long)), le-leb (w + w) f (omega (arith, s.few)))

  -- "Shorter repairs and clean blocks are exempt"
  pub short_exempt : f ≤ half p → SparseRun p f w → ⊥
  short_exempt l s = omega (arith, s.long)

  -- the two tests by halves
  pub short-run : f ≤ p.r / 2 → false ≡ is_sparse p f w
  unfolding is_sparse
  short-run l = rw (le-ltb p.r (f + f) (omega arith))

  half-changed : leb w (f / 2) ≡ leb (w + w) f
  half-changed =
      ⊎_elim (λ t. let l : w ≤ f / 2 = leb-true w (f / 2) t in rw (t, le-leb (w + w) f (omega arith)))
      (λ t. let l : f / 2 < w = leb-false w (f / 2) t in rw (t, lt-leb (w + w) f (omega arith))) (true_or_false (leb w (f / 2)))

  pub long_run : p.r / 2 < f → leb w (f / 2) ≡ is_sparse p f w
  unfolding is_sparse
  long_run l = rw (lt-ltb p.r (f + f) (omega arith)) half-changed

pub sparse_run_iff : SparseRunIff
sparse_run_iff p f w = (sparse_of p f w, of_sparse p f w)
