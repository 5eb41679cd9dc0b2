-- What the search has found after each start, by induction on the starts; and the extent of a list: it is zero from there on, and from
-- no earlier cell.
use mathlib.Core.Path.{◌≡◌, refl, sym, subst}
use mathlib.Core.Logic.{◌≢◌, ⊎_elim}
use mathlib.Core.Bool.{true, false}
use mathlib.Core.List.{List, [], ◌∷◌}
use Prim.Native.Nat.{ℕ, zero, suc, ◌+◌, ◌≤◌, ◌<◌, zero-le, suc-le-suc}
use native.Mathlib.Nat.{le_of_suc-le-suc, eq-or-lt_of_le}
use native.Mathlib.Omega.{arith}
use lib.Dec.{eqb, ltb, leb}
use lib.ListN.{length, get_or, get_or-eq_default}
use borrow.Author.Tests.{eq-eqb, eqb-true, eqb-false, ltb-true, ltb-false, leb-true, leb-false}
use Rattle.lists.specs.Choice.{pick}
use Rattle.lists.proofs.Test.{true_or_false, true_false}
use Rattle.code.specs.Run.{ZeroFrom}
use Rattle.code.specs.Search.{extent, Best, better, scanned}

-- ---- the extent

pub extent-zero : (R : List ℕ) → ZeroFrom (extent R) R
unfolding extent
extent-zero [] k h = refl
extent-zero (x ∷ R) k h = ⊎_elim (λ t. none k t (extent-zero R) (rw t at h)) (λ t. some k (extent-zero R) (rw t at h)) (true_or_false (eqb (extent R) 0))
  where
    none : (j : ℕ) → eqb (extent R) 0 ≡ true → ZeroFrom (extent R) R → pick (eqb x 0) 0 1 ≤ j → get_or (x ∷ R) j 0 ≡ 0
    none zero t z l = ⊎_elim (λ u. eqb-true x 0 u) (λ u. let m : 1 ≤ 0 = rw u at l in absurd (omega arith)) (true_or_false (eqb x 0))
    none (suc j) t z l = z j (let e : extent R ≡ 0 = eqb-true (extent R) 0 t in omega arith)

    some : (j : ℕ) → ZeroFrom (extent R) R → suc (extent R) ≤ j → get_or (x ∷ R) j 0 ≡ 0
    some zero z l = absurd (omega arith)
    some (suc j) z l = z j (le_of_suc-le-suc l)

pub extent-least : (R : List ℕ) (f : ℕ) → ZeroFrom f R → extent R ≤ f
unfolding extent
extent-least [] f z = zero-le
extent-least (x ∷ R) zero z =
    let e : extent R ≤ 0 = extent-least R 0 (λ k l. z (suc k) zero-le) in
    let q : eqb (extent R) 0 ≡ true = eq-eqb (extent R) 0 (omega arith) in
    rw (q, eq-eqb x 0 (z 0 zero-le)) zero-le
extent-least (x ∷ R) (suc f) z =
    let e : extent R ≤ f = extent-least R f (λ k l. z (suc k) (suc-le-suc l)) in
    ⊎_elim (λ t. rw t (⊎_elim (λ u. rw u zero-le) (λ u. rw u (omega arith)) (true_or_false (eqb x 0)))) (λ t. rw t (suc-le-suc e)) (true_or_false (eqb (extent R) 0))

pub extent-le : (R : List ℕ) → extent R ≤ length R
extent-le R = extent-least R (length R) (λ k l. get_or-eq_default R 0 l)

-- ---- the search

module _ (e : ℕ → ℕ) (n limit : ℕ) where
  pub record Scan (s : ℕ) (k : Best) : Type 0 where
    pub bound : k.size ≤ suc limit
    pub least : (t : ℕ) → t < s → t + e t ≤ n → k.size ≤ e t
    pub found : k.size ≤ limit → (k.start < s) × (k.start + k.size ≤ n) × (e k.start ≡ k.size)
    pub alone : k.again ≡ false → (t : ℕ) → k.size ≤ limit → t < s → t + e t ≤ n → e t ≡ k.size → t ≡ k.start
    pub twin : k.again ≡ true → k.size ≤ limit → (t : ℕ) × (t < s) × (t + e t ≤ n) × (e t ≡ k.size) × (t ≢ k.start)

  -- a fact of the starts below s, and of s
  below_suc : (s : ℕ) (P : ℕ → Type 0) → P s → ((t : ℕ) → t < s → P t) → (t : ℕ) → t < suc s → P t
  below_suc s P at under t l = ⊎_elim (λ q. subst P (sym q) at) (under t) (eq-or-lt_of_le (le_of_suc-le-suc l))

  module _ (s : ℕ) (k : Best) (h : Scan s k) where
    shorter : s + e s ≤ n → e s < k.size → Scan (suc s) (record { size = e s; start = s; again = false })
    shorter fits less = record {
      bound = omega (arith, h.bound);
      least = below_suc s (λ t. t + e t ≤ n → e s ≤ e t) (λ _. omega arith) (λ t l f. omega (arith, h.least t l f));
      found = λ _. (omega arith, fits, refl);
      alone = λ _ t _. below_suc s (λ i. i + e i ≤ n → e i ≡ e s → i ≡ s) (λ _ _. refl) (λ i l f q. absurd (omega (arith, h.least i l f))) t;
      twin = λ q _. absurd (true_false q refl);
    }

    equal : s + e s ≤ n → e s ≡ k.size → Scan (suc s) (record { size = k.size; start = k.start; again = true })
    equal fits same = record {
      bound = h.bound;
      least = below_suc s (λ t. t + e t ≤ n → k.size ≤ e t) (λ _. omega arith) h.least;
      found = λ l. let f : (k.start < s) × (k.start + k.size ≤ n) × (e k.start ≡ k.size) = h.found l in (omega (arith, f.0), f.1, f.2);
      alone = λ q. absurd (true_false refl q);
      twin = λ _ l. (s, omega arith, fits, same, λ q. let f : (k.start < s) × (k.start + k.size ≤ n) × (e k.start ≡ k.size) = h.found l in omega (arith, f.0));
    }

    -- s does not fit, or needs more cells
    other : (s + e s ≤ n → k.size < e s) → Scan (suc s) k
    other more = record {
      bound = h.bound;
      least = below_suc s (λ t. t + e t ≤ n → k.size ≤ e t) (λ f. omega (arith, more f)) h.least;
      found = λ l. let f : (k.start < s) × (k.start + k.size ≤ n) × (e k.start ≡ k.size) = h.found l in (omega (arith, f.0), f.1, f.2);
      alone = λ q t l. below_suc s (λ i. i + e i ≤ n → e i ≡ k.size → i ≡ k.start) (λ f u. absurd (omega (arith, more f))) (λ i m. h.alone q i l m) t;
      twin = λ q l.
          let w : (t : ℕ) × (t < s) × (t + e t ≤ n) × (e t ≡ k.size) × (t ≢ k.start) = h.twin q l in
          (w.0, omega (arith, w.1), w.2, w.3, w.4);
    }

    scan_step : Scan (suc s) (better n s (e s) k)
    unfolding better
    scan_step =
        ⊎_elim
        (λ t. rw t (⊎_elim (λ u. rw u (shorter (leb-true (s + e s) n t) (ltb-true (e s) k.size u)))
        (λ u. rw u (⊎_elim (λ v. rw v (equal (leb-true (s + e s) n t) (eqb-true (e s) k.size v)))
        (λ v. rw v (other (λ _. let l : k.size ≤ e s = ltb-false (e s) k.size u in let d : e s ≢ k.size = eqb-false (e s) k.size v in omega arith)))
        (true_or_false (eqb (e s) k.size))))
        (true_or_false (ltb (e s) k.size))))
        (λ t. rw t (other (λ f. let l : n < s + e s = leb-false (s + e s) n t in absurd (omega arith))))
        (true_or_false (leb (s + e s) n))

  pub scan-all : (s : ℕ) → Scan s (scanned e n limit s)
  unfolding scanned
  scan-all zero = record {
    bound = omega arith;
    least = λ t l. absurd (omega arith);
    found = λ l. absurd (omega arith);
    alone = λ _ t l. absurd (omega arith);
    twin = λ _ l. absurd (omega arith);
  }
  scan-all (suc s) = scan_step s (scanned e n limit s) (scan-all s)
