-- The field's product is a remainder: with some quotient, a · b is that multiple of x^8+x^4+x^3+x^2+1 and the product. By induction on the bits of a: if
-- a' · b = q' · m + r', then (a₀ + x · a') · b = (t + x · q') · m + a₀ · b + (x · r' − t · m), where t is the highest bit of r', and doubling is x · r' − t · m.
-- Assumes nothing.
use mathlib.Core.Path.{◌≡◌, refl, sym, ap, ap₂, ◌∙◌}
use mathlib.Core.List.{List, [], ◌∷◌}
use Prim.Native.Nat.{ℕ, zero, suc, ◌+◌, ◌*◌, ◌/◌, ◌%◌, ◌<◌}
use native.Mathlib.Nat.{mod-eq_of_lt, add-mod-mod, zero-mul, one-mul}
use native.Mathlib.Omega.{arith}
use Rattle.field.specs.Field.{add, gate, double, mul_bits, mul}
use Rattle.field.specs.Polynomial.{low_bits, polynomial, coefficient, product_coefficient, modulus, Remainder}
use Rattle.field.proofs.Sum.{bit-lt}
use Rattle.field.proofs.Product.{double-lt, bits_lt, mul_bits_lem, mul-lt}
use Rattle.field.proofs.Bits.{bits_add, bits_zero, bits_more, bits_twice, product_empty, product_first, product_next}

-- ---- doubling: one place up, and the modulus if a bit leaves

-- the highest bit of a byte
highest : ℕ → ℕ
highest r = r / 128 % 2

gate_bits : (k n v i : ℕ) → n < 2 → coefficient (low_bits k (gate n v)) i ≡ n * coefficient (low_bits k v) i
gate_bits k zero v i h = bits_zero k i ∙ sym (zero-mul (coefficient (low_bits k v) i))
gate_bits k (suc zero) v i h = sym (one-mul (coefficient (low_bits k v) i))
gate_bits k (suc (suc n)) v i h = absurd (omega arith)

-- hexadecimal 11D is the modulus
modulus_bits : low_bits 9 285 ≡ modulus
unfolding low_bits modulus
modulus_bits = refl

double_bits : (r i : ℕ) → r < 256 → coefficient (polynomial (double r)) i ≡ (coefficient (0 ∷ polynomial r) i + highest r * coefficient modulus i) % 2
unfolding double highest
double_bits r i h =
    sym (bits_more 8 (double r) i (double-lt r))
    ∙ bits_add 9 (2 * (r % 256)) (gate (highest r) 285) i
    ∙ ap₂ (λ (x y : ℕ). (x + y) % 2)
    (ap (λ (p : List ℕ). coefficient p i) (bits_twice 8 (r % 256)) ∙ ap (λ (x : ℕ). coefficient (0 ∷ polynomial x) i) (mod-eq_of_lt h))
    (gate_bits 9 (highest r) 285 i (bit-lt (r / 128)) ∙ ap (λ (p : List ℕ). highest r * coefficient p i) modulus_bits)

-- ---- one bit more of a

-- p times b leaves r with some quotient
record Divided (p : List ℕ) (b r : ℕ) : Type 0 where
  quotient : List ℕ
  bits : (k : ℕ) → coefficient quotient k < 2
  divided : (k : ℕ) → product_coefficient p (polynomial b) k % 2 ≡ (product_coefficient quotient modulus k + coefficient (polynomial r) k) % 2

first_bit : (c x t m r d : ℕ) → r ≡ (c * x + d) % 2 → d ≡ (0 + t * m) % 2 → (c * x) % 2 ≡ (t * m + r) % 2
first_bit c x t m r d e f = omega arith

next_bit : (c x w t m q r s d : ℕ) → w % 2 ≡ (q + s) % 2 → r ≡ (c * x + d) % 2 → d ≡ (s + t * m) % 2 → (c * x + w) % 2 ≡ ((t * m + q) + r) % 2
next_bit c x w t m q r s d g e f = turn (c * x) w (t * m) q r s g (e ∙ ap (λ (v : ℕ). (c * x + v) % 2) f ∙ add-mod-mod (c * x) (s + t * m) 2)
  where
    turn : (x w y q r s : ℕ) → w % 2 ≡ (q + s) % 2 → r ≡ (x + (s + y)) % 2 → (x + w) % 2 ≡ ((y + q) + r) % 2
    turn x w y q r s g e = omega arith

module _ (c b r : ℕ) (p : List ℕ) (hc : c < 2) (hb : b < 256) (hr : r < 256) (h : Divided p b r) where
  next : ℕ
  next = add (gate c b) (double r)

  next_bits : (i : ℕ) → coefficient (polynomial next) i ≡ (c * coefficient (polynomial b) i + coefficient (polynomial (double r)) i) % 2
  unfolding next
  next_bits i = bits_add 8 (gate c b) (double r) i ∙ ap (λ (x : ℕ). (x + coefficient (polynomial (double r)) i) % 2) (gate_bits 8 c b i hc)

  step-at : (k : ℕ) → product_coefficient (c ∷ p) (polynomial b) k % 2 ≡ (product_coefficient (highest r ∷ h.quotient) modulus k + coefficient (polynomial next) k) % 2
  step-at zero =
      ap (λ (x : ℕ). x % 2) (product_first c p (polynomial b))
      ∙ first_bit c (coefficient (polynomial b) 0) (highest r) (coefficient modulus 0) (coefficient (polynomial next) 0) (coefficient (polynomial (double r)) 0) (next_bits 0) (double_bits r 0 hr)
      ∙ ap (λ (x : ℕ). (x + coefficient (polynomial next) 0) % 2) (sym (product_first (highest r) h.quotient modulus))
  step-at (suc k) =
      ap (λ (x : ℕ). x % 2) (product_next c p (polynomial b) k)
      ∙ next_bit c (coefficient (polynomial b) (suc k)) (product_coefficient p (polynomial b) k) (highest r) (coefficient modulus (suc k)) (product_coefficient h.quotient modulus k)
      (coefficient (polynomial next) (suc k)) (coefficient (polynomial r) k) (coefficient (polynomial (double r)) (suc k)) (h.divided k) (next_bits (suc k)) (double_bits r (suc k) hr)
      ∙ ap (λ (x : ℕ). (x + coefficient (polynomial next) (suc k)) % 2) (sym (product_next (highest r) h.quotient modulus k))

  step_bits : (k : ℕ) → coefficient (highest r ∷ h.quotient) k < 2
  unfolding highest
  step_bits zero = bit-lt (r / 128)
  step_bits (suc k) = h.bits k

  step : Divided (c ∷ p) b next
  step = record { quotient = highest r ∷ h.quotient; bits = step_bits; divided = step-at }

-- ---- all bits of a

empty_divided : (b : ℕ) → Divided [] b 0
empty_divided b =
    record {
      quotient = [];
      bits = λ k. omega arith;
      divided = λ k. ap (λ (x : ℕ). x % 2) (product_empty (polynomial b) k) ∙ sym (ap₂ (λ (x y : ℕ). (x + y) % 2) (product_empty modulus k) (bits_zero 8 k));
    }

bits_divided : (k a b : ℕ) → b < 256 → Divided (low_bits k a) b (mul_bits k a b)
unfolding low_bits mul_bits next
bits_divided zero a b h = empty_divided b
bits_divided (suc k) a b h = step (a % 2) b (mul_bits k (a / 2) b) (low_bits k (a / 2)) (bit-lt a) h (bits_lt k (a / 2) b h) (bits_divided k (a / 2) b h)

pub product_remainder : (a b : ℕ) → a < 256 → b < 256 → Remainder a b (mul a b)
product_remainder a b ha hb =
    let h : Divided (polynomial a) b (mul a b) = rw (mul_bits_lem a b ha hb) (bits_divided 8 a b hb) in
    record { byte = mul-lt a b; quotient = h.quotient; bits = h.bits; divided = h.divided }
