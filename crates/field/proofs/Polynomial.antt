-- The remainder is unique: the value at α of a polynomial over one bit turns sums and products of polynomials into those of the field, α is a root of the
-- modulus, and the value of a byte's polynomial is the byte. So of a · b = quotient · modulus + c there is left mul a b = c. With that, the statements of
-- specs/Polynomial.antt. Assumes nothing.
use mathlib.Core.Path.{◌≡◌, refl, sym, ap, ap₂, ◌∙◌, subst}
use mathlib.Core.List.{List, [], ◌∷◌}
use Prim.Native.Nat.{ℕ, zero, suc, ◌+◌, ◌*◌, ◌/◌, ◌%◌, ◌^◌, ◌≤◌, ◌<◌}
use native.Mathlib.Nat.{le_of_suc-le-suc, not-suc-le-zero, add-mod, mod-mod, div-add-mod, mul-add-mod_self_left}
use native.Mathlib.Omega.{arith}
use lib.ListN.{length}
use Rattle.field.specs.Field.{add, double, mul_bits, mul, inverse}
use Rattle.field.specs.Polynomial.{low_bits, polynomial, coefficient, product_coefficient, modulus, Remainder, SumCoefficients, ProductIff, InverseIff}
use Rattle.field.proofs.Sum.{bit-lt, add_self, add_zero_l, add_comm, top}
use Rattle.field.proofs.Product.{ring, mul-zero, zero-mul, one-mul, mul-two, double-small}
use Rattle.field.proofs.Power.{mul-inverse, inverse-lt, mul_cancel}
use Rattle.field.proofs.Bits.{bit-add, bits_add, product_empty, product_first, product_next}
use Rattle.field.proofs.Quotient.{product_remainder}

-- ---- bits in the field

bit_plus : (x y : ℕ) → (x + y) % 2 ≡ add (x % 2) (y % 2)
bit_plus x y = add-mod x y 2 ∙ sym (bit-add (x % 2) (y % 2) (bit-lt x) (bit-lt y))

bit_multiple : (c x : ℕ) → c < 2 → (c * x) % 2 ≡ mul c (x % 2)
bit_multiple zero x h = ap (λ (v : ℕ). v % 2) (native.Mathlib.Nat.zero-mul x) ∙ sym (zero-mul (x % 2))
bit_multiple (suc zero) x h = ap (λ (v : ℕ). v % 2) (native.Mathlib.Nat.one-mul x) ∙ sym (one-mul (x % 2) (omega arith))
bit_multiple (suc (suc c)) x h = absurd (omega arith)

bit-times : (c x : ℕ) → (c * x) % 2 ≡ mul (c % 2) (x % 2)
bit-times c x =
    ap (λ (v : ℕ). v * x % 2) (sym (div-add-mod c 2))
    ∙ ap (λ (v : ℕ). v % 2) (native.Mathlib.Nat.add-mul (2 * (c / 2)) (c % 2) x ∙ ap (λ (v : ℕ). v + c % 2 * x) (native.Mathlib.Nat.mul_assoc 2 (c / 2) x))
    ∙ mul-add-mod_self_left 2 (c / 2 * x) (c % 2 * x)
    ∙ bit_multiple (c % 2) x (bit-lt c)

-- ---- the value at α of the first n coefficients, and of a list

value : ℕ → (ℕ → ℕ) → ℕ
value zero f = 0
value (suc n) f = add (f 0 % 2) (mul 2 (value n (λ i. f (suc i))))

list_value : List ℕ → ℕ
list_value [] = 0
list_value (c ∷ p) = add (c % 2) (mul 2 (list_value p))

value_same : (n : ℕ) (f g : ℕ → ℕ) → ((i : ℕ) → f i % 2 ≡ g i % 2) → value n f ≡ value n g
unfolding value
value_same zero f g h = refl
value_same (suc n) f g h = ap₂ (λ (x v : ℕ). add x (mul 2 v)) (h 0) (value_same n (λ i. f (suc i)) (λ i. g (suc i)) (λ i. h (suc i)))

value-zeros : (n : ℕ) → value n (λ i. 0) ≡ 0
unfolding value
value-zeros zero = refl
value-zeros (suc n) = ap (λ (v : ℕ). add 0 (mul 2 v)) (value-zeros n) ∙ ap (add 0) (mul-zero 2) ∙ add_zero_l 0

value_list : (n : ℕ) (p : List ℕ) → length p ≤ n → value n (coefficient p) ≡ list_value p
unfolding value list_value
value_list n [] h = value-zeros n
value_list zero (c ∷ p) h = absurd (not-suc-le-zero h)
value_list (suc n) (c ∷ p) h = ap (λ (v : ℕ). add (c % 2) (mul 2 v)) (value_list n p (le_of_suc-le-suc h))

value-sum : (n : ℕ) (f g : ℕ → ℕ) → value n (λ i. f i + g i) ≡ add (value n f) (value n g)
unfolding value
value-sum zero f g = sym (add_self 0)
value-sum (suc n) f g =
    ap₂ (λ (x v : ℕ). add x (mul 2 v)) (bit_plus (f 0) (g 0)) (value-sum n (λ i. f (suc i)) (λ i. g (suc i)))
    ∙ turn (f 0 % 2) (g 0 % 2) (value n (λ i. f (suc i))) (value n (λ i. g (suc i)))
  where
    turn : (x y u v : ℕ) → add (add x y) (mul 2 (add u v)) ≡ add (add x (mul 2 u)) (add y (mul 2 v))
    turn x y u v = simp ring

value_multiple : (n c : ℕ) (f : ℕ → ℕ) → value n (λ i. c * f i) ≡ mul (c % 2) (value n f)
unfolding value
value_multiple zero c f = sym (mul-zero (c % 2))
value_multiple (suc n) c f =
    ap₂ (λ (x v : ℕ). add x (mul 2 v)) (bit-times c (f 0)) (value_multiple n c (λ i. f (suc i)))
    ∙ turn (c % 2) (f 0 % 2) (value n (λ i. f (suc i)))
  where
    turn : (c x v : ℕ) → add (mul c x) (mul 2 (mul c v)) ≡ mul c (add x (mul 2 v))
    turn c x v = simp ring

product_turn : (c x w p v : ℕ) → v ≡ add x (mul 2 w) → add (mul c x) (mul 2 (add (mul c w) (mul p v))) ≡ mul (add c (mul 2 p)) v
product_turn c x w p v e = rw e turn
  where
    turn : add (mul c x) (mul 2 (add (mul c w) (mul p (add x (mul 2 w))))) ≡ mul (add c (mul 2 p)) (add x (mul 2 w))
    turn = simp ring

-- the value of a product is the product of the values, once all coefficients are counted
value_product : (n : ℕ) (p q : List ℕ) → length p + length q ≤ n → value n (product_coefficient p q) ≡ mul (list_value p) (list_value q)
unfolding value list_value
value_product n [] q h = value_same n (product_coefficient [] q) (λ i. 0) (λ i. ap (λ (x : ℕ). x % 2) (product_empty q i)) ∙ value-zeros n ∙ sym (zero-mul (list_value q))
value_product zero (c ∷ p) q h = absurd (omega arith)
value_product (suc n) (c ∷ p) q h =
    ap₂ (λ (x v : ℕ). add (x % 2) (mul 2 v)) (product_first c p q)
    (value_same n (λ i. product_coefficient (c ∷ p) q (suc i)) (λ i. c * coefficient q (suc i) + product_coefficient p q i) (λ i. ap (λ (x : ℕ). x % 2) (product_next c p q i))
    ∙ value-sum n (λ i. c * coefficient q (suc i)) (product_coefficient p q)
    ∙ ap₂ add (value_multiple n c (λ i. coefficient q (suc i))) (value_product n p q (omega arith)))
    ∙ ap (λ (x : ℕ). add x (mul 2 (add (mul (c % 2) (value n (λ i. coefficient q (suc i)))) (mul (list_value p) (list_value q))))) (bit-times c (coefficient q 0))
    ∙ product_turn (c % 2) (coefficient q 0 % 2) (value n (λ i. coefficient q (suc i))) (list_value p) (list_value q) (sym (value_list (suc n) q (omega arith)))

-- α is a root of the modulus
modulus_root : list_value modulus ≡ 0
unfolding list_value modulus mul mul_bits double add
modulus_root = refl

-- the value of the bits of a byte is the byte
bits_value : (k a : ℕ) → a < 2 ^ k → a < 256 → list_value (low_bits k a) ≡ a
unfolding list_value low_bits
bits_value zero a l h = omega arith
bits_value (suc k) a l h =
    ap₂ (λ (x v : ℕ). add x (mul 2 v)) (mod-mod a 2) (bits_value k (a / 2) (omega arith) (omega arith))
    ∙ ap (add (a % 2)) (mul-two (a / 2) (omega arith) ∙ double-small (a / 2) (omega arith) ∙ native.Mathlib.Nat.mul_comm 2 (a / 2))
    ∙ add_comm (a % 2) (a / 2 * 2)
    ∙ top a 1

-- ---- the statements

-- what is left of the division, at α
remainder_product : (a b c : ℕ) → a < 256 → b < 256 → Remainder a b c → mul a b ≡ c
unfolding low_bits modulus
remainder_product a b c ha hb h =
    let q : List ℕ = h.quotient in
    let n : ℕ = 16 + (length q + 9) in
    ap₂ mul (sym (bits_value 8 a ha ha)) (sym (bits_value 8 b hb hb))
    ∙ sym (value_product n (polynomial a) (polynomial b) (omega arith))
    ∙ value_same n (product_coefficient (polynomial a) (polynomial b)) (λ k. product_coefficient q modulus k + coefficient (polynomial c) k) h.divided
    ∙ value-sum n (product_coefficient q modulus) (coefficient (polynomial c))
    ∙ ap₂ add (value_product n q modulus (omega arith) ∙ ap (mul (list_value q)) modulus_root ∙ mul-zero (list_value q)) (value_list n (polynomial c) (omega arith) ∙ bits_value 8 c h.byte h.byte)
    ∙ add_zero_l c

pub sum_coefficients : SumCoefficients
sum_coefficients a b k ha hb = bits_add 8 a b k

pub product_iff : ProductIff
product_iff a b c ha hb = (λ e. subst (Remainder a b) e (product_remainder a b ha hb), remainder_product a b c ha hb)

pub inverse_iff : InverseIff
inverse_iff a c ha na = (
  λ e. subst (λ (v : ℕ). (v < 256) × (mul a v ≡ 1)) e (inverse-lt a, mul-inverse a ha na),
  λ h. mul_cancel a (inverse a) c ha na (inverse-lt a) h.0 (mul-inverse a ha na ∙ sym h.1),
)
