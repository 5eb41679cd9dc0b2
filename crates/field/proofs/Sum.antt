-- The sum: the laws of exclusive or, and maps that keep sums. A map that keeps sums is fixed by its values at the powers of two,
-- since a number is the sum of its bits: so the product's laws need tests at eight numbers only.
-- Assumes nothing.
use mathlib.Core.Path.{◌≡◌, refl, sym, ap, ap₂, ◌∙◌}
use Prim.Native.Nat.{ℕ, zero, suc, ◌*◌, ◌+◌, ◌/◌, ◌%◌, ◌^◌, ◌<◌}
use native.Mathlib.Nat.{mod-lt, zero-lt-suc, add-zero, one-mul, zero-mul, mul_comm}
use native.Mathlib.Numerals.{one-add}
use native.Mathlib.Omega.{arith}
use lib.Arith.{bin_ind, lt-one}
use lib.Pow.{split, pow_pos, shr_lt}
use lib.Dec.{T, eqb}
use lib.Bits.{bit_xor, differ, xor_step, xor_comm, xor_self, xor_zero_r, xor_lt, xor_mod, xor_shr, xor_block, xor_shifted}
use Rattle.lists.proofs.Test.{all, equal_below, equal_bits}
use Rattle.field.specs.Field.{add}

-- ---- exclusive or associates, bit by bit

differ_assoc : (x y z : ℕ) → x < 2 → y < 2 → z < 2 → differ (differ x y) z ≡ differ x (differ y z)
differ_assoc = equal_bits (λ x y z. differ (differ x y) z) (λ x y z. differ x (differ y z)) tt

bit-differ : (x y : ℕ) → x < 2 → y < 2 → bit_xor x y ≡ differ x y
bit-differ x y hx hy = equal_bits (λ x y z. bit_xor x y) (λ x y z. differ x y) tt x y 0 hx hy (omega arith)

pub bit-lt : (n : ℕ) → n % 2 < 2
bit-lt n = mod-lt n (zero-lt-suc 1)

pub low_differ : (a b : ℕ) → bit_xor a b % 2 ≡ differ (a % 2) (b % 2)
low_differ a b = xor_mod a b 1 ∙ bit-differ (a % 2) (b % 2) (bit-lt a) (bit-lt b)

xor_assoc : (a b c : ℕ) → bit_xor (bit_xor a b) c ≡ bit_xor a (bit_xor b c)
xor_assoc a =
    bin_ind (λ (n : ℕ). (b c : ℕ) → bit_xor (bit_xor n b) c ≡ bit_xor n (bit_xor b c)) (λ b c. refl)
    (λ n ih b c.
    xor_step (bit_xor n b) c
    ∙ ap₂ (λ (x y : ℕ). x * 2 + y)
    (ap (λ (x : ℕ). bit_xor x (c / 2)) (xor_shr n b 1) ∙ ih (b / 2) (c / 2) ∙ ap (bit_xor (n / 2)) (sym (xor_shr b c 1)))
    (ap (λ (x : ℕ). differ x (c % 2)) (low_differ n b)
    ∙ differ_assoc (n % 2) (b % 2) (c % 2) (bit-lt n) (bit-lt b) (bit-lt c)
    ∙ ap (differ (n % 2)) (sym (low_differ b c)))
    ∙ sym (xor_step n (bit_xor b c))) a

-- ---- the sum's laws

pub add_assoc : (a b c : ℕ) → add (add a b) c ≡ add a (add b c)
unfolding add
add_assoc = xor_assoc

pub add_comm : (a b : ℕ) → add a b ≡ add b a
unfolding add
add_comm = xor_comm

pub add_self : (a : ℕ) → add a a ≡ 0
unfolding add
add_self = xor_self

pub add_zero_l : (a : ℕ) → add 0 a ≡ a
unfolding add
add_zero_l a = refl

pub add_zero_r : (a : ℕ) → add a 0 ≡ a
unfolding add
add_zero_r = xor_zero_r

pub add-lt : (a b : ℕ) → a < 256 → b < 256 → add a b < 256
unfolding add
add-lt = xor_lt 8

pub add_left_comm : (a b c : ℕ) → add a (add b c) ≡ add b (add a c)
add_left_comm a b c = sym (add_assoc a b c) ∙ ap (λ (x : ℕ). add x c) (add_comm a b) ∙ add_assoc b a c

pub add_cancel : (a b : ℕ) → add a (add a b) ≡ b
add_cancel a b = sym (add_assoc a a b) ∙ ap (λ (x : ℕ). add x b) (add_self a) ∙ add_zero_l b

-- a sum is zero only of equals
pub add-eq : (a b : ℕ) → add a b ≡ 0 → a ≡ b
add-eq a b e = sym (add_zero_r a) ∙ ap (add a) (sym e) ∙ add_cancel a b

pub add_swap : (a b c d : ℕ) → add (add a b) (add c d) ≡ add (add a c) (add b d)
add_swap a b c d = simp (add_assoc, add_left_comm)

-- ---- the sum and the bits: shifts keep sums, and so does cutting to the low k bits

pub add-shr : (k a b : ℕ) → add a b / 2 ^ k ≡ add (a / 2 ^ k) (b / 2 ^ k)
unfolding add
add-shr k a b = xor_shr a b k

pub add_low : (k a b : ℕ) → add a b % 2 ^ k ≡ add (a % 2 ^ k) (b % 2 ^ k)
unfolding add
add_low k a b = xor_mod a b k

pub add-mod : (a b : ℕ) → add a b % 256 ≡ add (a % 256) (b % 256)
add-mod = add_low 8

pub add_twice : (a b : ℕ) → 2 * add a b ≡ add (2 * a) (2 * b)
unfolding add
add_twice a b =
    mul_comm 2 (bit_xor a b)
    ∙ sym (add-zero (bit_xor a b * 2))
    ∙ sym (xor_block 1 a b 0 0 (zero-lt-suc 1) (zero-lt-suc 1))
    ∙ ap₂ bit_xor (add-zero (a * 2) ∙ mul_comm a 2) (add-zero (b * 2) ∙ mul_comm b 2)

-- ---- maps that keep sums

abbrev pub Additive : (ℕ → ℕ) → Type 0
Additive f = (a b : ℕ) → f (add a b) ≡ add (f a) (f b)

pub additive-zero : (f : ℕ → ℕ) → Additive f → f 0 ≡ 0
additive-zero f h = sym (add_cancel (f 0) (f 0)) ∙ ap (add (f 0)) (sym (h 0 0) ∙ ap f (add_self 0)) ∙ add_self (f 0)

-- a number is the sum of a multiple of 2^k and a number below 2^k
pub top : (a k : ℕ) → add (a / 2 ^ k * 2 ^ k) (a % 2 ^ k) ≡ a
unfolding add
top a k = xor_shifted (a / 2 ^ k) k (a % 2 ^ k) (mod-lt a (pow_pos k)) ∙ split a k

-- two maps that keep sums and agree at the first k powers of two agree below 2^k
module _ (f g : ℕ → ℕ) (hf : Additive f) (hg : Additive g) where
  at_zero : f 0 ≡ g 0
  at_zero = additive-zero f hf ∙ sym (additive-zero g hg)

  high-agree : (q p : ℕ) → q < 2 → f p ≡ g p → f (q * p) ≡ g (q * p)
  high-agree zero p h e = ap f (zero-mul p) ∙ at_zero ∙ ap g (sym (zero-mul p))
  high-agree (suc zero) p h e = ap f (one-mul p) ∙ e ∙ ap g (sym (one-mul p))
  high-agree (suc (suc q)) p h e = absurd (omega arith)

  pub agree_below : (k : ℕ) → ((i : ℕ) → i < k → f (2 ^ i) ≡ g (2 ^ i)) → (a : ℕ) → a < 2 ^ k → f a ≡ g a
  agree_below zero h a l = rw (lt-one l) at_zero
  agree_below (suc k) h a l =
      ap f (sym (top a k))
      ∙ hf (a / 2 ^ k * 2 ^ k) (a % 2 ^ k)
      ∙ ap₂ add
      (high-agree (a / 2 ^ k) (2 ^ k) (shr_lt 1 k (rw one-add l)) (h k (omega arith)))
      (agree_below k (λ i m. h i (omega arith)) (a % 2 ^ k) (mod-lt a (pow_pos k)))
      ∙ sym (hg (a / 2 ^ k * 2 ^ k) (a % 2 ^ k))
      ∙ ap g (top a k)

  -- at every byte, by a computed test at its eight bits
  pub agree-byte : T (all (λ i. eqb (f (2 ^ i)) (g (2 ^ i))) 8) → (a : ℕ) → a < 256 → f a ≡ g a
  agree-byte t = agree_below 8 (equal_below (λ i. f (2 ^ i)) (λ i. g (2 ^ i)) 8 t)

  -- and at all numbers, if they go by the low eight bits
  pub agree : ((a : ℕ) → f (a % 256) ≡ f a) → ((a : ℕ) → g (a % 256) ≡ g a) → ((i : ℕ) → i < 8 → f (2 ^ i) ≡ g (2 ^ i)) → (a : ℕ) → f a ≡ g a
  agree bf bg h a = sym (bf a) ∙ agree_below 8 h (a % 256) (mod-lt a (zero-lt-suc 255)) ∙ bg a
