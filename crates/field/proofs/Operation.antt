-- The statement of specs/Operation.antt. An operation with those laws takes 2 and a byte to the double of that byte: below 128 by a law, and 128 by the root.
-- By associativity it is the product where the left operand is a power of two, and as it keeps sums it is the product everywhere.
-- Assumes nothing.
use mathlib.Core.Path.{◌≡◌, refl, sym, ap, ap₂, ◌∙◌, subst}
use mathlib.Core.Logic.{⊎_elim}
use Prim.Native.Nat.{ℕ, zero, suc, ◌%◌, ◌^◌, ◌<◌}
use native.Mathlib.Nat.{mod-eq_of_lt, pow-succ'}
use native.Mathlib.Omega.{arith}
use lib.Pow.{pow-lt}
use Rattle.lists.proofs.Test.{lt-or_ge}
use Rattle.field.specs.Field.{add, double, mul, power, alpha}
use Rattle.field.specs.Operation.{power_of_two, IsFieldProduct, OnlyProduct}
use Rattle.field.proofs.Sum.{add-lt, add-mod, add-eq, Additive, agree_below}
use Rattle.field.proofs.Product.{byte-lt, mul-lt, mul-add, add-mul, mul_assoc, mul-two, one-mul, mul-one, double-add, double-small}
use Rattle.field.proofs.Power.{power-lt, alpha_root}

bit-half : (i : ℕ) → i < 7 → 2 ^ i < 128
bit-half i h = pow-lt h

bit_byte : (i : ℕ) → i < 8 → 2 ^ i < 256
bit_byte i h = pow-lt h

-- ---- there is no other

module _ (times : ℕ → ℕ → ℕ) (h : IsFieldProduct times) where
  -- the first eight powers of 2 are the bits of a byte
  powers : (n : ℕ) → n < 8 → power_of_two times n ≡ 2 ^ n
  unfolding power_of_two
  powers zero l = refl
  powers (suc n) l = ap (times 2) (powers n (omega arith)) ∙ h.twice_small (2 ^ n) (bit-half n (omega arith)) ∙ sym (pow-succ' 2 n)

  -- and the ninth is what the root leaves
  ninth : power_of_two times 8 ≡ add (2 ^ 4) (add (2 ^ 3) (add (2 ^ 2) (2 ^ 0)))
  ninth =
      add-eq (power_of_two times 8) (add (power_of_two times 4) (add (power_of_two times 3) (add (power_of_two times 2) (power_of_two times 0)))) h.root
      ∙ ap₂ add (powers 4 (omega arith)) (ap₂ add (powers 3 (omega arith)) (ap₂ add (powers 2 (omega arith)) (powers 0 (omega arith))))

  highest : times 2 (2 ^ 7) ≡ double (2 ^ 7)
  unfolding power_of_two double add
  highest = ap (times 2) (sym (powers 7 (omega arith))) ∙ ninth

  twice_bit : (i : ℕ) → i < 8 → times 2 (2 ^ i % 256) ≡ double (2 ^ i)
  twice_bit i l =
      ap (times 2) (mod-eq_of_lt (bit_byte i l))
      ∙ ⊎_elim (λ s. h.twice_small (2 ^ i) (bit-half i s) ∙ sym (double-small (2 ^ i) (bit-half i s)))
      (λ g. let e : 7 ≡ i = omega arith in subst (λ (j : ℕ). times 2 (2 ^ j) ≡ double (2 ^ j)) e highest) (lt-or_ge i 7)

  twice_add : Additive (λ x. times 2 (x % 256))
  twice_add x y = ap (times 2) (add-mod x y) ∙ h.distributes_left 2 (x % 256) (y % 256) (omega arith) (byte-lt x) (byte-lt y)

  twice : (a : ℕ) → a < 256 → times 2 a ≡ double a
  twice a l = ap (times 2) (sym (mod-eq_of_lt l)) ∙ agree_below (λ x. times 2 (x % 256)) double twice_add double-add 8 twice_bit a l

  bit_product : (i b : ℕ) → i < 8 → b < 256 → times (2 ^ i) b ≡ mul (2 ^ i) b
  bit_product zero b l k = h.one_left b k ∙ sym (one-mul b k)
  bit_product (suc i) b l k =
      let half : 2 ^ i < 128 = bit-half i (omega arith) in
      ap (λ (x : ℕ). times x b) (pow-succ' 2 i ∙ sym (h.twice_small (2 ^ i) half))
      ∙ h.associates 2 (2 ^ i) b (omega arith) (omega arith) k
      ∙ ap (times 2) (bit_product i b (omega arith) k)
      ∙ twice (mul (2 ^ i) b) (mul-lt (2 ^ i) b)
      ∙ sym (mul-two (mul (2 ^ i) b) (mul-lt (2 ^ i) b))
      ∙ sym (mul_assoc 2 (2 ^ i) b)
      ∙ ap (λ (x : ℕ). mul x b) (mul-two (2 ^ i) (omega arith) ∙ double-small (2 ^ i) half ∙ sym (pow-succ' 2 i))

  left-add : (b : ℕ) → b < 256 → Additive (λ x. times (x % 256) b)
  left-add b k x y = ap (λ (v : ℕ). times v b) (add-mod x y) ∙ h.distributes_right (x % 256) (y % 256) b (byte-lt x) (byte-lt y) k

  only : (a b : ℕ) → a < 256 → b < 256 → times a b ≡ mul a b
  only a b l k =
      ap (λ (x : ℕ). times x b) (sym (mod-eq_of_lt l))
      ∙ agree_below (λ x. times (x % 256) b) (λ x. mul x b) (left-add b k) (λ x y. add-mul x y b) 8
      (λ i g. ap (λ (x : ℕ). times x b) (mod-eq_of_lt (bit_byte i g)) ∙ bit_product i b g k) a l

-- ---- the product is one

module _ (times : ℕ → ℕ → ℕ) (e : (a b : ℕ) → a < 256 → b < 256 → times a b ≡ mul a b) where
  alphas : (n : ℕ) → power_of_two times n ≡ alpha n
  unfolding power_of_two power
  alphas zero = refl
  alphas (suc n) = ap (times 2) (alphas n) ∙ e 2 (alpha n) (omega arith) (power-lt 2 n)

  has_laws : IsFieldProduct times
  has_laws = record {
    byte = λ a b ha hb. subst (λ (v : ℕ). v < 256) (sym (e a b ha hb)) (mul-lt a b);
    distributes_left = λ a b c ha hb hc. e a (add b c) ha (add-lt b c hb hc) ∙ mul-add a b c ∙ ap₂ add (sym (e a b ha hb)) (sym (e a c ha hc));
    distributes_right = λ a b c ha hb hc. e (add a b) c (add-lt a b ha hb) hc ∙ add-mul a b c ∙ ap₂ add (sym (e a c ha hc)) (sym (e b c hb hc));
    associates = λ a b c ha hb hc.
        ap (λ (x : ℕ). times x c) (e a b ha hb) ∙ e (mul a b) c (mul-lt a b) hc ∙ mul_assoc a b c ∙ sym (ap (times a) (e b c hb hc) ∙ e a (mul b c) ha (mul-lt b c));
    one_left = λ a ha. e 1 a (omega arith) ha ∙ one-mul a ha;
    one_right = λ a ha. e a 1 ha (omega arith) ∙ mul-one a ha;
    twice_small = λ a h. e 2 a (omega arith) (omega arith) ∙ mul-two a (omega arith) ∙ double-small a h;
    root = ap₂ add (alphas 8) (ap₂ add (alphas 4) (ap₂ add (alphas 3) (ap₂ add (alphas 2) (alphas 0)))) ∙ alpha_root;
  }

pub only_product : OnlyProduct
only_product times = (only times, has_laws times)
