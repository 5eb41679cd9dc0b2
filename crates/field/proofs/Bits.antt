-- Bits as coefficients: those of a sum, of twice a number, and of the product of two polynomials, one step at a time.
-- Each follows the recursion of the definition; a coefficient of the product of (c + x · p) and q is one term and the coefficient below it of p and q.
-- Assumes nothing.
use mathlib.Core.Path.{◌≡◌, refl, ap, ap₂, ◌∙◌}
use mathlib.Core.List.{List, [], ◌∷◌}
use Prim.Native.Nat.{ℕ, zero, suc, ◌+◌, ◌-◌, ◌*◌, ◌/◌, ◌%◌, ◌^◌, ◌<◌}
use native.Mathlib.Nat.{add-zero, zero-mul}
use native.Mathlib.Omega.{arith}
use Rattle.lists.specs.Sum.{sum}
use Rattle.lists.proofs.Test.{equal_bits}
use Rattle.lists.proofs.Sum.{same_sum, zero-sum}
use Rattle.field.specs.Field.{add}
use Rattle.field.specs.Polynomial.{low_bits, coefficient, product_coefficient}
use Rattle.field.proofs.Sum.{bit-lt, add-shr, add_low}

-- ---- the bits of a sum and of twice a number

pub bit-add : (x y : ℕ) → x < 2 → y < 2 → add x y ≡ (x + y) % 2
unfolding add
bit-add x y hx hy = equal_bits (λ x y z. add x y) (λ x y z. (x + y) % 2) tt x y 0 hx hy (omega arith)

low_add : (a b : ℕ) → add a b % 2 ≡ (a % 2 + b % 2) % 2
low_add a b = add_low 1 a b ∙ bit-add (a % 2) (b % 2) (bit-lt a) (bit-lt b)

pub bits_add : (k a b i : ℕ) → coefficient (low_bits k (add a b)) i ≡ (coefficient (low_bits k a) i + coefficient (low_bits k b) i) % 2
unfolding low_bits
bits_add zero a b i = refl
bits_add (suc k) a b zero = low_add a b
bits_add (suc k) a b (suc i) = ap (λ (x : ℕ). coefficient (low_bits k x) i) (add-shr 1 a b) ∙ bits_add k (a / 2) (b / 2) i

pub bits_zero : (k i : ℕ) → coefficient (low_bits k 0) i ≡ 0
unfolding low_bits
bits_zero zero i = refl
bits_zero (suc k) zero = refl
bits_zero (suc k) (suc i) = bits_zero k i

-- a number below 2^k has no more bits
pub bits_more : (k a i : ℕ) → a < 2 ^ k → coefficient (low_bits (suc k) a) i ≡ coefficient (low_bits k a) i
unfolding low_bits
bits_more zero a zero h = omega arith
bits_more zero a (suc i) h = refl
bits_more (suc k) a zero h = refl
bits_more (suc k) a (suc i) h = bits_more k (a / 2) i (omega arith)

pub bits_twice : (k a : ℕ) → low_bits (suc k) (2 * a) ≡ 0 ∷ low_bits k a
unfolding low_bits
bits_twice k a = ap₂ (λ (x y : ℕ). x ∷ low_bits k y) low half
  where
    low : 2 * a % 2 ≡ 0
    low = omega arith

    half : 2 * a / 2 ≡ a
    half = omega arith

-- ---- the product of two polynomials

pub product_empty : (q : List ℕ) (k : ℕ) → product_coefficient [] q k ≡ 0
unfolding product_coefficient
product_empty q k = zero-sum (suc k) (λ i. 0 * coefficient q (k - i)) (λ i l. zero-mul (coefficient q (k - i)))

pub product_first : (c : ℕ) (p q : List ℕ) → product_coefficient (c ∷ p) q 0 ≡ c * coefficient q 0
unfolding product_coefficient sum
product_first c p q = add-zero (c * coefficient q 0)

pub product_next : (c : ℕ) (p q : List ℕ) (k : ℕ) → product_coefficient (c ∷ p) q (suc k) ≡ c * coefficient q (suc k) + product_coefficient p q k
unfolding product_coefficient sum
product_next c p q k =
    ap₂ (λ (j x : ℕ). c * coefficient q j + x) whole
    (same_sum (suc k) (λ i. coefficient p i * coefficient q (suc k - suc i)) (λ i. coefficient p i * coefficient q (k - i))
    (λ i l. ap (λ (j : ℕ). coefficient p i * coefficient q j) (less i)))
  where
    whole : suc k - 0 ≡ suc k
    whole = omega arith

    less : (i : ℕ) → suc k - suc i ≡ k - i
    less i = omega arith
