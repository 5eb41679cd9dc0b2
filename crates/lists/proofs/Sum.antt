-- Sums of equal terms are equal, a sum of zeros is zero, and a sum of n bits is at most n: by induction on the number of terms.
-- Assumes nothing.
use mathlib.Core.Path.{◌≡◌, refl, ap₂}
use Prim.Native.Nat.{ℕ, zero, suc, ◌+◌, ◌≤◌, ◌<◌, zero-le, suc-le-suc}
use native.Mathlib.Omega.{arith}
use Rattle.lists.specs.Sum.{sum}

pub same_sum : (n : ℕ) (f g : ℕ → ℕ) → ((i : ℕ) → i < n → f i ≡ g i) → sum n f ≡ sum n g
unfolding sum
same_sum zero f g h = refl
same_sum (suc n) f g h = ap₂ (λ (a b : ℕ). a + b) (h 0 (suc-le-suc zero-le)) (same_sum n (λ (i : ℕ). f (suc i)) (λ (i : ℕ). g (suc i)) (λ i l. h (suc i) (suc-le-suc l)))

pub zero-sum : (n : ℕ) (f : ℕ → ℕ) → ((i : ℕ) → i < n → f i ≡ 0) → sum n f ≡ 0
unfolding sum
zero-sum zero f h = refl
zero-sum (suc n) f h = ap₂ (λ (a b : ℕ). a + b) (h 0 (suc-le-suc zero-le)) (zero-sum n (λ (i : ℕ). f (suc i)) (λ i l. h (suc i) (suc-le-suc l)))

pub small-sum : (n : ℕ) (f : ℕ → ℕ) → ((i : ℕ) → i < n → f i ≤ 1) → sum n f ≤ n
unfolding sum
small-sum zero f h = zero-le
small-sum (suc n) f h =
    let a : f 0 ≤ 1 = h 0 (suc-le-suc zero-le) in
    let b : sum n (λ (i : ℕ). f (suc i)) ≤ n = small-sum n (λ (i : ℕ). f (suc i)) (λ i l. h (suc i) (suc-le-suc l)) in
    omega arith
