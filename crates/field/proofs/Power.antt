-- Powers, the inverse, and the order of α. Squaring keeps sums, so a^256 = a holds at every byte because it holds at the eight powers of
-- two. Hence a · a^254 is its own square; by a computed test such a byte is 0 or 1, and if it were 0, then a = a · (a · a^254) would be 0.
-- The order of α is one walk of 254 doublings that never meets 1: if two powers were equal, cancellation would give a power that is 1.
-- Assumes nothing.
use mathlib.Core.Path.{◌≡◌, refl, sym, ap, ap₂, ◌∙◌, subst}
use mathlib.Core.Logic.{◌≢◌, ◌⊎◌, inl, inr, ⊎_elim}
use mathlib.Core.Bool.{Bool, true, not}
use Prim.Native.Nat.{ℕ, zero, suc, ◌+◌, ◌-◌, ◌*◌, ◌/◌, ◌%◌, ◌^◌, ◌≤◌, ◌<◌}
use native.Mathlib.Nat.{le_of_suc-le-suc, not-suc-le-zero, add-suc, suc-add, add-zero, zero-add, mul-suc}
use native.Mathlib.Omega.{arith}
use lib.Dec.{T, eqb}
use borrow.Author.Tests.{eq-eqb}
use Rattle.lists.specs.Choice.{both}
use Rattle.lists.proofs.Test.{all, all-at, equal_below, both_left, both_right, lt-or_ge}
use Rattle.field.specs.Field.{add, double, mul_bits, mul, power, alpha, squares, inverse}
use Rattle.field.proofs.Sum.{Additive, agree-byte}
use Rattle.field.proofs.Product.{ring, mul-lt, mul_comm, mul_assoc, mul_left_comm, mul-zero, zero-mul, one-mul, mul-one, mul-two}

-- ---- powers

pub power-lt : (a n : ℕ) → power a n < 256
unfolding power
power-lt a zero = omega arith
power-lt a (suc n) = mul-lt a (power a n)

pub power-add : (a m n : ℕ) → power a (m + n) ≡ mul (power a m) (power a n)
unfolding power
power-add a zero n = ap (power a) (zero-add n) ∙ sym (one-mul (power a n) (power-lt a n))
power-add a (suc m) n = ap (power a) (suc-add m n) ∙ ap (mul a) (power-add a m n) ∙ sym (mul_assoc a (power a m) (power a n))

pub power-one : (n : ℕ) → power 1 n ≡ 1
unfolding power
power-one zero = refl
power-one (suc n) = one-mul (power 1 n) (power-lt 1 n) ∙ power-one n

pub mul_power : (a b n : ℕ) → power (mul a b) n ≡ mul (power a n) (power b n)
unfolding power
mul_power a b zero = sym (one-mul 1 (omega arith))
mul_power a b (suc n) = ap (mul (mul a b)) (mul_power a b n) ∙ simp (mul_assoc, mul_left_comm)

pub power-mul : (a m n : ℕ) → power a (m * n) ≡ power (power a m) n
unfolding power
power-mul a m zero = ap (power a) (native.Mathlib.Nat.mul-zero m)
power-mul a m (suc n) =
    ap (power a) (mul-suc m n) ∙ power-add a (m * n) m ∙ mul_comm (power a (m * n)) (power a m) ∙ ap (mul (power a m)) (power-mul a m n)

pub power-two : (a : ℕ) → power a 2 ≡ mul a a
unfolding power
power-two a = sym (mul_assoc a a 1) ∙ mul-one (mul a a) (mul-lt a a)

-- ---- a^256 = a

-- squared k times: a^(2^k)
squared : ℕ → ℕ → ℕ
squared zero a = a
squared (suc k) a = squared k (mul a a)

square_add : (x y : ℕ) → mul (add x y) (add x y) ≡ add (mul x x) (mul y y)
square_add x y = simp ring

squared_add : (k : ℕ) → Additive (squared k)
unfolding squared
squared_add zero x y = refl
squared_add (suc k) x y = ap (squared k) (square_add x y) ∙ squared_add k (mul x x) (mul y y)

squared_basis : T (all (λ i. eqb (squared 8 (2 ^ i)) (2 ^ i)) 8)
unfolding squared mul mul_bits double add
squared_basis = tt

squared_self : (a : ℕ) → a < 256 → squared 8 a ≡ a
squared_self = agree-byte (squared 8) (λ x. x) (squared_add 8) (λ x y. refl) squared_basis

squared_squares : (k a : ℕ) → mul (mul a a) (squares k a) ≡ squared (suc k) a
unfolding squares squared
squared_squares zero a = mul-one (mul a a) (mul-lt a a)
squared_squares (suc k) a = sym (mul_assoc (mul a a) (mul a a) (squares k (mul a a))) ∙ squared_squares k (mul a a)

-- ---- the inverse

-- the exponent of the product of k squares: 2 + 4 + .. + 2^k
exponent : ℕ → ℕ
exponent zero = 0
exponent (suc k) = 2 + 2 * exponent k

squares-power : (k a : ℕ) → squares k a ≡ power a (exponent k)
unfolding squares exponent
squares-power zero a = unfold power in refl
squares-power (suc k) a =
    ap₂ mul (sym (power-two a)) (squares-power k (mul a a) ∙ ap (λ (x : ℕ). power x (exponent k)) (sym (power-two a)) ∙ sym (power-mul a 2 (exponent k)))
    ∙ sym (power-add a 2 (2 * exponent k))

pub inverse-power : (a : ℕ) → inverse a ≡ power a 254
unfolding inverse exponent
inverse-power a = squares-power 7 a

pub inverse_zero : inverse 0 ≡ 0
unfolding inverse squares
inverse_zero = ap (λ (x : ℕ). mul x (squares 6 (mul 0 0))) (zero-mul 0) ∙ zero-mul (squares 6 (mul 0 0))

pub inverse-lt : (a : ℕ) → inverse a < 256
inverse-lt a = subst (λ (x : ℕ). x < 256) (sym (inverse-power a)) (power-lt a 254)

absorb : (a : ℕ) → a < 256 → mul a (mul a (inverse a)) ≡ a
unfolding inverse
absorb a h = sym (mul_assoc a a (squares 7 a)) ∙ squared_squares 7 a ∙ squared_self a h

idempotent : (a : ℕ) → a < 256 → mul (mul a (inverse a)) (mul a (inverse a)) ≡ mul a (inverse a)
idempotent a h = turn a (inverse a) ∙ ap (λ (x : ℕ). mul x (inverse a)) (absorb a h)
  where
    turn : (x y : ℕ) → mul (mul x y) (mul x y) ≡ mul (mul x (mul x y)) y
    turn x y = simp (mul_assoc, mul_left_comm)

idempotent_test : ℕ → Bool
idempotent_test n = not (eqb (mul (suc (suc n)) (suc (suc n))) (suc (suc n)))

idempotent_all : T (all idempotent_test 254)
unfolding idempotent_test mul mul_bits double add
idempotent_all = tt

zero-or-one : (e : ℕ) → e < 256 → mul e e ≡ e → (e ≡ 0) ⊎ (e ≡ 1)
unfolding idempotent_test
zero-or-one zero h q = inl refl
zero-or-one (suc zero) h q = inr refl
zero-or-one (suc (suc n)) h q =
    absurd (subst (λ (b : Bool). T (not b)) (eq-eqb (mul (suc (suc n)) (suc (suc n))) (suc (suc n)) q) (all-at idempotent_test 254 idempotent_all n (omega arith)))

pub mul-inverse : (a : ℕ) → a < 256 → a ≢ 0 → mul a (inverse a) ≡ 1
mul-inverse a h n =
    ⊎_elim (λ z. absurd (n (sym (absorb a h) ∙ ap (mul a) z ∙ mul-zero a))) (λ o. o) (zero-or-one (mul a (inverse a)) (mul-lt a (inverse a)) (idempotent a h))

pub inverse-mul : (a : ℕ) → a < 256 → a ≢ 0 → mul (inverse a) a ≡ 1
inverse-mul a h n = mul_comm (inverse a) a ∙ mul-inverse a h n

-- a factor is taken away
pub inverse_cancel : (a b : ℕ) → a < 256 → a ≢ 0 → b < 256 → mul (inverse a) (mul a b) ≡ b
inverse_cancel a b ha na hb = sym (mul_assoc (inverse a) a b) ∙ ap (λ (x : ℕ). mul x b) (inverse-mul a ha na) ∙ one-mul b hb

pub mul_cancel : (a b c : ℕ) → a < 256 → a ≢ 0 → b < 256 → c < 256 → mul a b ≡ mul a c → b ≡ c
mul_cancel a b c ha na hb hc e = sym (inverse_cancel a b ha na hb) ∙ ap (mul (inverse a)) e ∙ inverse_cancel a c ha na hc

-- no divisors of zero
pub mul-eq-zero : (a b : ℕ) → a < 256 → a ≢ 0 → b < 256 → mul a b ≡ 0 → b ≡ 0
mul-eq-zero a b ha na hb e = sym (inverse_cancel a b ha na hb) ∙ ap (mul (inverse a)) e ∙ mul-zero (inverse a)

pub mul-ne-zero : (a b : ℕ) → a < 256 → a ≢ 0 → b < 256 → b ≢ 0 → mul a b ≢ 0
mul-ne-zero a b ha na hb nb e = nb (mul-eq-zero a b ha na hb e)

pub power-ne-zero : (a n : ℕ) → a < 256 → a ≢ 0 → power a n ≢ 0
unfolding power
power-ne-zero a zero ha na = omega arith
power-ne-zero a (suc n) ha na = mul-ne-zero a (power a n) ha na (power-lt a n) (power-ne-zero a n ha na)

-- ---- the powers of α

pub alpha-ne-zero : (i : ℕ) → alpha i ≢ 0
alpha-ne-zero i = power-ne-zero 2 i (omega arith) (omega arith)

pub alpha-suc : (i : ℕ) → double (alpha i) ≡ alpha (suc i)
unfolding power
alpha-suc i = sym (mul-two (alpha i) (power-lt 2 i))

-- α^i is the bit of value 2^i
bits_all : T (all (λ i. eqb (alpha i) (2 ^ i)) 8)
unfolding power mul mul_bits double add
bits_all = tt

pub alpha_bits : (i : ℕ) → i < 8 → alpha i ≡ 2 ^ i
alpha_bits = equal_below alpha (λ i. 2 ^ i) 8 bits_all

-- α is a root of the field's polynomial
pub alpha_root : add (alpha 8) (add (alpha 4) (add (alpha 3) (add (alpha 2) (alpha 0)))) ≡ 0
unfolding power mul mul_bits double add
alpha_root = refl

pub alpha-255 : alpha 255 ≡ 1
alpha-255 = last 254 ∙ ap (mul 2) (sym (inverse-power 2)) ∙ mul-inverse 2 (omega arith) (omega arith)
  where
    last : (n : ℕ) → alpha (suc n) ≡ mul 2 (alpha n)
    last n = unfold power in refl

-- none of v, 2 v, 4 v, .., n of them, is 1
never_one : ℕ → ℕ → Bool
never_one zero v = true
never_one (suc n) v = both (not (eqb v 1)) (never_one n (double v))

never_one-at : (n s : ℕ) → T (never_one n (alpha s)) → (i : ℕ) → i < n → alpha (s + i) ≢ 1
unfolding never_one
never_one-at zero s t i h = absurd (not-suc-le-zero h)
never_one-at (suc n) s t zero h =
    λ e. subst (λ (b : Bool). T (not b)) (eq-eqb (alpha s) 1 (ap alpha (sym (add-zero s)) ∙ e)) (both_left (not (eqb (alpha s) 1)) (never_one n (double (alpha s))) t)
never_one-at (suc n) s t (suc i) h =
    λ e. never_one-at n (suc s) (subst (λ (v : ℕ). T (never_one n v)) (alpha-suc s) (both_right (not (eqb (alpha s) 1)) (never_one n (double (alpha s))) t)) i
    (le_of_suc-le-suc h) (ap alpha (suc-add s i ∙ sym (add-suc s i)) ∙ e)

never_one-254 : T (never_one 254 (alpha 1))
unfolding never_one power mul mul_bits double add
never_one-254 = tt

pub alpha-ne-one : (i : ℕ) → 0 < i → i < 255 → alpha i ≢ 1
alpha-ne-one i p h e = never_one-at 254 1 never_one-254 (i - 1) (omega arith) (ap alpha back ∙ e)
  where
    back : 1 + (i - 1) ≡ i
    back = omega arith

alpha_inj_le : (i j : ℕ) → i ≤ j → j < 255 → alpha i ≡ alpha j → i ≡ j
alpha_inj_le i j l h e = ⊎_elim (λ p. absurd (alpha-ne-one (j - i) p (omega arith) one)) (λ z. omega arith) (lt-or_ge 0 (j - i))
  where
    whole : i + (j - i) ≡ j
    whole = omega arith

    one : alpha (j - i) ≡ 1
    one =
        mul_cancel (alpha i) (alpha (j - i)) 1 (power-lt 2 i) (alpha-ne-zero i) (power-lt 2 (j - i)) (omega arith)
        (sym (power-add 2 i (j - i)) ∙ ap alpha whole ∙ sym e ∙ sym (mul-one (alpha i) (power-lt 2 i)))

pub alpha_inj : (i j : ℕ) → i < 255 → j < 255 → alpha i ≡ alpha j → i ≡ j
alpha_inj i j hi hj e = ⊎_elim (λ l. alpha_inj_le i j (omega arith) hj e) (λ l. sym (alpha_inj_le j i l hi (sym e))) (lt-or_ge i j)

pub alpha-mod : (i : ℕ) → alpha (i % 255) ≡ alpha i
alpha-mod i =
    sym
    (ap alpha (sym whole)
    ∙ power-add 2 (255 * (i / 255)) (i % 255)
    ∙ ap (λ (x : ℕ). mul x (alpha (i % 255))) (power-mul 2 255 (i / 255) ∙ ap (λ (x : ℕ). power x (i / 255)) alpha-255 ∙ power-one (i / 255))
    ∙ one-mul (alpha (i % 255)) (power-lt 2 (i % 255)))
  where
    whole : 255 * (i / 255) + i % 255 ≡ i
    whole = omega arith
