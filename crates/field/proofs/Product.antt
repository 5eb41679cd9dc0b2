-- The product: it keeps sums in each operand, and goes by the low eight bits of each. So each law is a computed test at the powers
-- of two: 64 products for commutativity, 512 for associativity.
-- Assumes nothing.
use mathlib.Core.Path.{◌≡◌, refl, sym, ap, ap₂, ◌∙◌, subst}
use mathlib.Core.Bool.{Bool}
use Prim.Native.Nat.{ℕ, zero, suc, ◌*◌, ◌/◌, ◌%◌, ◌^◌, ◌<◌}
use native.Mathlib.Nat.{mod-lt, mod-eq_of_lt, zero-lt-suc}
use native.Mathlib.Omega.{arith}
use lib.Dec.{T, eqb, eqb→eq}
use Rattle.lists.proofs.Test.{all, all-at, equal_below}
use Rattle.field.specs.Field.{add, gate, double, mul_bits, mul}
use Rattle.field.proofs.Sum.{bit-lt, add_assoc, add_comm, add_self, add_zero_l, add_zero_r, add-lt, add_left_comm, add_cancel, add_swap, add-shr, add_low, add-mod, add_twice, Additive, additive-zero, agree-byte, agree}

pub byte-lt : (a : ℕ) → a % 256 < 256
byte-lt a = mod-lt a (zero-lt-suc 255)

byte-byte : (a : ℕ) → a % 256 % 256 ≡ a % 256
byte-byte a = mod-eq_of_lt (byte-lt a)

-- ---- a value taken by a bit

gate-bit : (x y v : ℕ) → x < 2 → y < 2 → gate (add x y) v ≡ add (gate x v) (gate y v)
unfolding add
gate-bit zero y v hx hy = refl
gate-bit (suc zero) zero v hx hy = sym (add_zero_r v)
gate-bit (suc zero) (suc zero) v hx hy = sym (add_self v)
gate-bit (suc zero) (suc (suc y)) v hx hy = absurd (omega arith)
gate-bit (suc (suc x)) y v hx hy = absurd (omega arith)

gate_low : (a b v : ℕ) → gate (add a b % 2) v ≡ add (gate (a % 2) v) (gate (b % 2) v)
gate_low a b v = ap (λ (x : ℕ). gate x v) (add_low 1 a b) ∙ gate-bit (a % 2) (b % 2) v (bit-lt a) (bit-lt b)

gate-add : (n : ℕ) → Additive (gate n)
gate-add zero a b = sym (add_zero_l 0)
gate-add (suc n) a b = refl

pub gate-lt : (n v : ℕ) → v < 256 → gate n v < 256
gate-lt zero v h = omega arith
gate-lt (suc n) v h = h

-- as code has it: the bit times the value
pub gate-times : (n v : ℕ) → n < 2 → n * v ≡ gate n v
gate-times zero v h = native.Mathlib.Nat.zero-mul v
gate-times (suc zero) v h = native.Mathlib.Nat.one-mul v
gate-times (suc (suc n)) v h = absurd (omega arith)

-- ---- doubling

-- shift and fold keeps sums, whatever constant m it folds in
fold_add : (m : ℕ) → Additive (λ b. add (2 * (b % 256)) (gate (b / 128 % 2) m))
fold_add m a b =
    ap₂ add (ap (λ (x : ℕ). 2 * x) (add-mod a b) ∙ add_twice (a % 256) (b % 256))
    (ap (λ (x : ℕ). gate (x % 2) m) (add-shr 7 a b) ∙ gate_low (a / 128) (b / 128) m)
    ∙ add_swap (2 * (a % 256)) (2 * (b % 256)) (gate (a / 128 % 2) m) (gate (b / 128 % 2) m)

pub double-add : Additive double
unfolding double
double-add = fold_add _

pub double-byte : (a : ℕ) → double (a % 256) ≡ double a
unfolding double
double-byte a = rw (byte-byte a, high)
  where
    high : a % 256 / 128 % 2 ≡ a / 128 % 2
    high = omega arith

-- no bit leaves a byte below 128, and nothing is folded in
fold_small : (m a : ℕ) → a < 128 → add (2 * (a % 256)) (gate (a / 128 % 2) m) ≡ 2 * a
fold_small m a h = ap₂ (λ (x y : ℕ). add (2 * x) (gate y m)) low high ∙ add_zero_r (2 * a)
  where
    low : a % 256 ≡ a
    low = omega arith

    high : a / 128 % 2 ≡ 0
    high = omega arith

pub double-small : (a : ℕ) → a < 128 → double a ≡ 2 * a
unfolding double
double-small = fold_small _

double_basis : T (all (λ i. eqb (double (2 ^ i)) (double (2 ^ i) % 256)) 8)
unfolding double add
double_basis = tt

-- the fold takes off just the bit that left
pub double-lt : (b : ℕ) → double b < 256
double-lt b = subst (λ (x : ℕ). x < 256) (sym (cut (b % 256) (byte-lt b)) ∙ double-byte b) (byte-lt (double (b % 256)))
  where
    cut_add : Additive (λ x. double x % 256)
    cut_add x y = ap (λ (v : ℕ). v % 256) (double-add x y) ∙ add-mod (double x) (double y)

    cut : (a : ℕ) → a < 256 → double a ≡ double a % 256
    cut = agree-byte double (λ x. double x % 256) double-add cut_add double_basis

-- ---- the product keeps sums in each operand

bits_right : (k a : ℕ) → Additive (mul_bits k a)
unfolding mul_bits
bits_right zero a b c = sym (add_self 0)
bits_right (suc k) a b c =
    ap₂ add (gate-add (a % 2) b c) (ap double (bits_right k (a / 2) b c) ∙ double-add (mul_bits k (a / 2) b) (mul_bits k (a / 2) c))
    ∙ add_swap (gate (a % 2) b) (gate (a % 2) c) (double (mul_bits k (a / 2) b)) (double (mul_bits k (a / 2) c))

bits_left : (k c : ℕ) → Additive (λ a. mul_bits k a c)
unfolding mul_bits
bits_left zero c a b = sym (add_self 0)
bits_left (suc k) c a b =
    ap₂ add (gate_low a b c)
    (ap (λ (x : ℕ). double (mul_bits k x c)) (add-shr 1 a b) ∙ ap double (bits_left k c (a / 2) (b / 2)) ∙ double-add (mul_bits k (a / 2) c) (mul_bits k (b / 2) c))
    ∙ add_swap (gate (a % 2) c) (gate (b % 2) c) (double (mul_bits k (a / 2) c)) (double (mul_bits k (b / 2) c))

pub bits_lt : (k a b : ℕ) → b < 256 → mul_bits k a b < 256
unfolding mul_bits
bits_lt zero a b h = omega arith
bits_lt (suc k) a b h = add-lt (gate (a % 2) b) (double (mul_bits k (a / 2) b)) (gate-lt (a % 2) b h) (double-lt (mul_bits k (a / 2) b))

pub mul-lt : (a b : ℕ) → mul a b < 256
unfolding mul
mul-lt a b = bits_lt 8 (a % 256) (b % 256) (byte-lt b)

pub mul-add : (a b c : ℕ) → mul a (add b c) ≡ add (mul a b) (mul a c)
unfolding mul
mul-add a b c = ap (mul_bits 8 (a % 256)) (add-mod b c) ∙ bits_right 8 (a % 256) (b % 256) (c % 256)

pub add-mul : (a b c : ℕ) → mul (add a b) c ≡ add (mul a c) (mul b c)
unfolding mul
add-mul a b c = ap (λ (x : ℕ). mul_bits 8 x (c % 256)) (add-mod a b) ∙ bits_left 8 (c % 256) (a % 256) (b % 256)

left-add : (b : ℕ) → Additive (λ a. mul a b)
left-add b x y = add-mul x y b

-- only the low eight bits count
pub mul-byte-l : (a b : ℕ) → mul (a % 256) b ≡ mul a b
unfolding mul
mul-byte-l a b = ap (λ (x : ℕ). mul_bits 8 x (b % 256)) (byte-byte a)

pub mul-byte-r : (a b : ℕ) → mul a (b % 256) ≡ mul a b
unfolding mul
mul-byte-r a b = ap (mul_bits 8 (a % 256)) (byte-byte b)

-- of bytes, the product is that of the eight bits
pub mul_bits_lem : (a b : ℕ) → a < 256 → b < 256 → mul a b ≡ mul_bits 8 a b
unfolding mul
mul_bits_lem a b ha hb = ap₂ (mul_bits 8) (mod-eq_of_lt ha) (mod-eq_of_lt hb)

-- ---- the product commutes and associates

comm_basis : T (all (λ i. all (λ j. eqb (mul (2 ^ i) (2 ^ j)) (mul (2 ^ j) (2 ^ i))) 8) 8)
unfolding mul mul_bits double add
comm_basis = tt

comm_at : (i j : ℕ) → i < 8 → j < 8 → mul (2 ^ i) (2 ^ j) ≡ mul (2 ^ j) (2 ^ i)
comm_at i j hi hj =
    equal_below (λ q. mul (2 ^ i) (2 ^ q)) (λ q. mul (2 ^ q) (2 ^ i)) 8
    (all-at (λ p. all (λ q. eqb (mul (2 ^ p) (2 ^ q)) (mul (2 ^ q) (2 ^ p))) 8) 8 comm_basis i hi) j hj

pub mul_comm : (a b : ℕ) → mul a b ≡ mul b a
mul_comm a b =
    agree (λ x. mul x b) (mul b) (left-add b) (mul-add b) (λ x. mul-byte-l x b) (mul-byte-r b)
    (λ i hi. agree (mul (2 ^ i)) (λ y. mul y (2 ^ i)) (mul-add (2 ^ i)) (left-add (2 ^ i)) (mul-byte-r (2 ^ i)) (λ y. mul-byte-l y (2 ^ i))
    (λ j hj. comm_at i j hi hj) b) a

assoc_test : ℕ → ℕ → ℕ → Bool
assoc_test i j k = eqb (mul (mul (2 ^ i) (2 ^ j)) (2 ^ k)) (mul (2 ^ i) (mul (2 ^ j) (2 ^ k)))

assoc_basis : T (all (λ i. all (λ j. all (assoc_test i j) 8) 8) 8)
unfolding assoc_test mul mul_bits double add
assoc_basis = tt

assoc_at : (i j k : ℕ) → i < 8 → j < 8 → k < 8 → mul (mul (2 ^ i) (2 ^ j)) (2 ^ k) ≡ mul (2 ^ i) (mul (2 ^ j) (2 ^ k))
unfolding assoc_test
assoc_at i j k hi hj hk =
    eqb→eq _ _ (all-at (assoc_test i j) 8 (all-at (λ q. all (assoc_test i q) 8) 8 (all-at (λ p. all (λ q. all (assoc_test p q) 8) 8) 8 assoc_basis i hi) j hj) k hk)

pub mul_assoc : (a b c : ℕ) → mul (mul a b) c ≡ mul a (mul b c)
mul_assoc a b c =
    agree (λ x. mul (mul x b) c) (λ x. mul x (mul b c))
    (λ x y. ap (λ v. mul v c) (add-mul x y b) ∙ add-mul (mul x b) (mul y b) c) (left-add (mul b c))
    (λ x. ap (λ v. mul v c) (mul-byte-l x b)) (λ x. mul-byte-l x (mul b c))
    (λ i hi.
    agree (λ x. mul (mul (2 ^ i) x) c) (λ x. mul (2 ^ i) (mul x c))
    (λ x y. ap (λ v. mul v c) (mul-add (2 ^ i) x y) ∙ add-mul (mul (2 ^ i) x) (mul (2 ^ i) y) c)
    (λ x y. ap (mul (2 ^ i)) (add-mul x y c) ∙ mul-add (2 ^ i) (mul x c) (mul y c))
    (λ x. ap (λ v. mul v c) (mul-byte-r (2 ^ i) x)) (λ x. ap (mul (2 ^ i)) (mul-byte-l x c))
    (λ j hj.
    agree (mul (mul (2 ^ i) (2 ^ j))) (λ x. mul (2 ^ i) (mul (2 ^ j) x))
    (mul-add (mul (2 ^ i) (2 ^ j)))
    (λ x y. ap (mul (2 ^ i)) (mul-add (2 ^ j) x y) ∙ mul-add (2 ^ i) (mul (2 ^ j) x) (mul (2 ^ j) y))
    (mul-byte-r (mul (2 ^ i) (2 ^ j))) (λ x. ap (mul (2 ^ i)) (mul-byte-r (2 ^ j) x))
    (λ k hk. assoc_at i j k hi hj hk) c) b) a

pub mul_left_comm : (a b c : ℕ) → mul a (mul b c) ≡ mul b (mul a c)
mul_left_comm a b c = sym (mul_assoc a b c) ∙ ap (λ (x : ℕ). mul x c) (mul_comm a b) ∙ mul_assoc b a c

-- ---- zero, one and two

pub mul-zero : (a : ℕ) → mul a 0 ≡ 0
mul-zero a = additive-zero (mul a) (mul-add a)

pub zero-mul : (a : ℕ) → mul 0 a ≡ 0
zero-mul a = additive-zero (λ x. mul x a) (left-add a)

one_basis : T (all (λ i. eqb (mul 1 (2 ^ i)) (2 ^ i)) 8)
unfolding mul mul_bits double add
one_basis = tt

pub one-mul : (a : ℕ) → a < 256 → mul 1 a ≡ a
one-mul = agree-byte (mul 1) (λ x. x) (mul-add 1) (λ x y. refl) one_basis

pub mul-one : (a : ℕ) → a < 256 → mul a 1 ≡ a
mul-one a h = mul_comm a 1 ∙ one-mul a h

two_basis : T (all (λ i. eqb (mul 2 (2 ^ i)) (double (2 ^ i))) 8)
unfolding mul mul_bits double add
two_basis = tt

pub mul-two : (a : ℕ) → a < 256 → mul 2 a ≡ double a
mul-two = agree-byte (mul 2) double (mul-add 2) double-add two_basis

-- both sides of an equation of sums and products, multiplied out and sorted; equal terms cancel
pub ruleset ring = (add_assoc, add_left_comm, add_comm, add_self, add_cancel, add_zero_l, add_zero_r, mul-add, add-mul, mul_assoc, mul_left_comm, mul_comm, mul-zero, zero-mul)
