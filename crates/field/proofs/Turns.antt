-- The code's steps over plain numbers: doubling, and for each loop its start, one turn and its end, in terms of the definitions. Each turn is one
-- clause of the definition that the loop computes.
-- Assumes nothing.
use mathlib.Core.Path.{◌≡◌, sym, ap, ap₂, ◌∙◌, subst}
use Prim.Native.Nat.{ℕ, suc, ◌+◌, ◌-◌, ◌*◌, ◌/◌, ◌%◌, ◌^◌, ◌≤◌, ◌<◌}
use native.Mathlib.Nat.{mod-eq_of_lt, div-one}
use native.Mathlib.Numerals.{add-one}
use native.Mathlib.Omega.{arith}
use lib.Pow.{shr-shr}
use lib.Bits.{bit_xor, bit_and, and_mask}
use Rattle.field.specs.Field.{add, gate, double, mul_bits, mul, alpha, squares, inverse}
use Rattle.field.proofs.Sum.{bit-lt, add_comm}
use Rattle.field.proofs.Product.{gate-times, gate-lt, mul_bits_lem, mul-one, one-mul, mul_assoc}
use Rattle.field.proofs.Power.{inverse-lt, alpha-suc}

-- doubling: the bit that leaves, times hexadecimal 11D
pub double_fold : (x : ℕ) → x < 256 → bit_xor (2 * x) (2 * x / 256 * 285) ≡ double x
unfolding double add
double_fold x h =
    ap₂ (λ (u v : ℕ). bit_xor (2 * u) v) (sym (mod-eq_of_lt h)) (ap (λ (n : ℕ). n * 285) top ∙ gate-times (x / 128 % 2) 285 (bit-lt (x / 128)))
  where
    top : 2 * x / 256 ≡ x / 128 % 2
    top = omega arith

-- the low bit of n times y
bit-times : (n y : ℕ) → bit_and n 1 * y ≡ gate (n % 2) y
bit-times n y = ap (λ (b : ℕ). b * y) (and_mask n 1) ∙ gate-times (n % 2) y (bit-lt n)

pub bit-times-lt : (n y : ℕ) → y < 256 → bit_and n 1 * y < 256
bit-times-lt n y h = subst (λ (v : ℕ). v < 256) (sym (bit-times n y)) (gate-lt (n % 2) y h)

-- the product: with `left` bits still to come, what there is is the product of the bits above them
pub product_turn : (x y sum left twice : ℕ) → 0 < left → left ≤ 8 → sum ≡ mul_bits (8 - left) (x / 2 ^ left) y → twice ≡ double sum
    → bit_xor twice (bit_and (x / 2 ^ (left - 1)) 1 * y) ≡ mul_bits (8 - (left - 1)) (x / 2 ^ (left - 1)) y
unfolding mul_bits add
product_turn x y sum left twice p h e d =
    ap₂ bit_xor (d ∙ ap double (e ∙ ap (λ (a : ℕ). mul_bits (8 - left) a y) half)) (bit-times (x / 2 ^ (left - 1)) y)
    ∙ add_comm (double (mul_bits (8 - left) (x / 2 ^ (left - 1) / 2) y)) (gate (x / 2 ^ (left - 1) % 2) y)
    ∙ ap (λ (k : ℕ). mul_bits k (x / 2 ^ (left - 1)) y) next
  where
    back : left - 1 + 1 ≡ left
    back = omega arith

    half : x / 2 ^ left ≡ x / 2 ^ (left - 1) / 2
    half = sym (shr-shr x (left - 1) 1 ∙ ap (λ (k : ℕ). x / 2 ^ k) back)

    next : suc (8 - left) ≡ 8 - (left - 1)
    next = omega arith

pub product_end : (x y sum left : ℕ) → x < 256 → y < 256 → left ≡ 0 → sum ≡ mul_bits (8 - left) (x / 2 ^ left) y → sum ≡ mul x y
product_end x y sum left hx hy z e =
    e ∙ ap (λ (k : ℕ). mul_bits (8 - k) (x / 2 ^ k) y) z ∙ ap (λ (a : ℕ). mul_bits 8 a y) (div-one x) ∙ sym (mul_bits_lem x y hx hy)

-- the inverse: what there is, times the squares that are left
pub inverse-start : (x : ℕ) → mul 1 (squares 7 x) ≡ inverse x
unfolding inverse
inverse-start x = one-mul (inverse x) (inverse-lt x)

pub inverse-turn : (n r s x t u : ℕ) → n < 7 → mul r (squares (7 - n) s) ≡ inverse x → t ≡ mul s s → u ≡ mul r t → mul u (squares (7 - (n + 1)) t) ≡ inverse x
unfolding squares
inverse-turn n r s x t u h e p q =
    let left : ℕ = 7 - (n + 1) in
    ap (λ (v : ℕ). mul v (squares left t)) q
    ∙ mul_assoc r t (squares left t)
    ∙ ap (λ (v : ℕ). mul r (mul v (squares left v))) p
    ∙ ap (λ (k : ℕ). mul r (squares k s)) next
    ∙ e
  where
    next : suc (7 - (n + 1)) ≡ 7 - n
    next = omega arith

pub inverse-end : (n r s x : ℕ) → r < 256 → 7 ≤ n → mul r (squares (7 - n) s) ≡ inverse x → r ≡ inverse x
unfolding squares
inverse-end n r s x h z e = sym (mul-one r h) ∙ ap (λ (k : ℕ). mul r (squares k s)) (sym done) ∙ e
  where
    done : 7 - n ≡ 0
    done = omega arith

-- α^i, doubled
pub alpha-turn : (i v w : ℕ) → v ≡ alpha i → w ≡ double v → w ≡ alpha (i + 1)
alpha-turn i v w e d = d ∙ ap double e ∙ alpha-suc i ∙ ap alpha (sym (add-one i))
