-- What the field owes, over all bytes: the laws of a field (F1), and that α = 2 has order 255 (F2).
-- `mul` takes its operands modulo 256, so the ring laws hold of all numbers; a law that holds of bytes only says so.
-- Assumes nothing.
use Rattle.std.specs.Prelude.{◌≡◌, ◌≢◌, ℕ, ◌^◌, ◌<◌}
use Rattle.field.specs.Field.{add, double, mul, inverse, alpha}

-- F1: bytes with exclusive or and the product modulo x^8+x^4+x^3+x^2+1 are a field
pub record FieldLaws : Type 0 where
  pub sum_commutes : (a b : ℕ) → add a b ≡ add b a
  pub sum_associates : (a b c : ℕ) → add (add a b) c ≡ add a (add b c)
  pub sum_zero : (a : ℕ) → add 0 a ≡ a
  pub sum_self : (a : ℕ) → add a a ≡ 0
  pub sum_byte : (a b : ℕ) → a < 256 → b < 256 → add a b < 256
  pub product_commutes : (a b : ℕ) → mul a b ≡ mul b a
  pub product_associates : (a b c : ℕ) → mul (mul a b) c ≡ mul a (mul b c)
  pub product_distributes : (a b c : ℕ) → mul a (add b c) ≡ add (mul a b) (mul a c)
  pub product_one : (a : ℕ) → a < 256 → mul 1 a ≡ a
  pub product_byte : (a b : ℕ) → mul a b < 256
  pub product_inverse : (a : ℕ) → a < 256 → a ≢ 0 → mul a (inverse a) ≡ 1
  pub inverse_zero : inverse 0 ≡ 0
  pub inverse_byte : (a : ℕ) → inverse a < 256
  pub product_nonzero : (a b : ℕ) → a < 256 → a ≢ 0 → b < 256 → b ≢ 0 → mul a b ≢ 0
  pub product_cancels : (a b c : ℕ) → a < 256 → a ≢ 0 → b < 256 → c < 256 → mul a b ≡ mul a c → b ≡ c

-- F2: α = 2 has order 255, and its powers 0 to 254 are distinct nonzero bytes. Its first eight powers are the bits of a byte, it is a root of
-- x^8+x^4+x^3+x^2+1 (that these fix the product of any two bytes is in Operation.antt), and doubling is the product with it
pub record AlphaLaws : Type 0 where
  pub order : alpha 255 ≡ 1
  pub distinct : (i j : ℕ) → i < 255 → j < 255 → alpha i ≡ alpha j → i ≡ j
  pub byte : (i : ℕ) → alpha i < 256
  pub nonzero : (i : ℕ) → alpha i ≢ 0
  pub bits : (i : ℕ) → i < 8 → alpha i ≡ 2 ^ i
  pub root : add (alpha 8) (add (alpha 4) (add (alpha 3) (add (alpha 2) (alpha 0)))) ≡ 0
  pub doubles : (a : ℕ) → a < 256 → double a ≡ mul 2 a
