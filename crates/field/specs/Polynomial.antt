-- What the field's product and inverse are, whatever way they are worked out: the product by polynomials over one bit, with ordinary sums and products of
-- numbers, and the inverse by the product (N5a, document 02: "Every product must be the field's, every cell but 0 times its inverse must be 1").
-- A polynomial over one bit is a list of bits, the coefficients of 1, x, x^2 and on; they are added and multiplied modulo 2.
use Rattle.std.specs.Prelude.{◌≡◌, ◌↔◌, ◌≢◌, List, [], ◌∷◌, ℕ, zero, suc, ◌+◌, ◌-◌, ◌*◌, ◌/◌, ◌%◌, ◌<◌, get_or}
use Rattle.lists.specs.Sum.{sum}
use Rattle.field.specs.Field.{add, mul, inverse}

-- the k low bits of a number, the lowest first
unfoldable pub low_bits : ℕ → ℕ → List ℕ
low_bits zero a = []
low_bits (suc k) a = a % 2 ∷ low_bits k (a / 2)

-- the polynomial of a byte: its bit of value 2^i is the coefficient of x^i
abbrev pub polynomial : ℕ → List ℕ
polynomial a = low_bits 8 a

-- the coefficient of x^k
abbrev pub coefficient : List ℕ → ℕ → ℕ
coefficient p k = get_or p k 0

-- the coefficient of x^k in the product of p and q: p₀ qₖ + p₁ qₖ₋₁ + .. + pₖ q₀
unfoldable pub product_coefficient : List ℕ → List ℕ → ℕ → ℕ
product_coefficient p q k = sum (suc k) (λ i. coefficient p i * coefficient q (k - i))

-- document 01: "x^8+x^4+x^3+x^2+1"
unfoldable pub modulus : List ℕ
modulus = 1 ∷ 0 ∷ 1 ∷ 1 ∷ 1 ∷ 0 ∷ 0 ∷ 0 ∷ 1 ∷ []

-- c is the remainder of the product of a and b by that polynomial: it has eight bits, and with some quotient a · b = quotient · modulus + c
pub record Remainder (a b c : ℕ) : Type 0 where
  pub byte : c < 256
  pub quotient : List ℕ
  pub bits : (k : ℕ) → coefficient quotient k < 2
  pub divided : (k : ℕ)
      → product_coefficient (polynomial a) (polynomial b) k % 2 ≡ (product_coefficient quotient modulus k + coefficient (polynomial c) k) % 2

-- the sum of two bytes is that of their polynomials
abbrev pub SumCoefficients : Type 0
SumCoefficients = (a b k : ℕ) → a < 256 → b < 256 → coefficient (polynomial (add a b)) k ≡ (coefficient (polynomial a) k + coefficient (polynomial b) k) % 2

-- "Every product must be the field's": the product of two bytes is the remainder of the product of their polynomials, and there is no other
abbrev pub ProductIff : Type 0
ProductIff = (a b c : ℕ) → a < 256 → b < 256 → (mul a b ≡ c) ↔ Remainder a b c

-- "every cell but 0 times its inverse must be 1": and the inverse is the only byte of which that holds
abbrev pub InverseIff : Type 0
InverseIff = (a c : ℕ) → a < 256 → a ≢ 0 → (inverse a ≡ c) ↔ ((c < 256) × (mul a c ≡ 1))
