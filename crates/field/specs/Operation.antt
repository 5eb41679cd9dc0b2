-- The field's product among all operations on bytes: the laws that it alone has (N5a, document 02: "Every product must be the field's").
-- Nothing here says how a product is worked out.
use Rattle.std.specs.Prelude.{◌≡◌, ◌↔◌, ℕ, zero, suc, ◌*◌, ◌<◌}
use Rattle.field.specs.Field.{add, mul}

-- 2 · 2 · .. · 2 by the operation, n factors
unfoldable pub power_of_two : (ℕ → ℕ → ℕ) → ℕ → ℕ
power_of_two times zero = 1
power_of_two times (suc n) = times 2 (power_of_two times n)

-- an operation on bytes that has the laws of a ring over exclusive or, doubles a byte below 128, and makes 2 a root of x^8+x^4+x^3+x^2+1. Without the
-- law of the bytes below 128 it would be fixed only up to a change of basis
pub record IsFieldProduct (times : ℕ → ℕ → ℕ) : Type 0 where
  pub byte : (a b : ℕ) → a < 256 → b < 256 → times a b < 256
  pub distributes_left : (a b c : ℕ) → a < 256 → b < 256 → c < 256 → times a (add b c) ≡ add (times a b) (times a c)
  pub distributes_right : (a b c : ℕ) → a < 256 → b < 256 → c < 256 → times (add a b) c ≡ add (times a c) (times b c)
  pub associates : (a b c : ℕ) → a < 256 → b < 256 → c < 256 → times (times a b) c ≡ times a (times b c)
  pub one_left : (a : ℕ) → a < 256 → times 1 a ≡ a
  pub one_right : (a : ℕ) → a < 256 → times a 1 ≡ a
  pub twice_small : (a : ℕ) → a < 128 → times 2 a ≡ 2 * a
  pub root : add (power_of_two times 8) (add (power_of_two times 4) (add (power_of_two times 3) (add (power_of_two times 2) (power_of_two times 0)))) ≡ 0

-- the field's product is such an operation, and on bytes it is the only one
abbrev pub OnlyProduct : Type 0
OnlyProduct = (times : ℕ → ℕ → ℕ) → IsFieldProduct times ↔ ((a b : ℕ) → a < 256 → b < 256 → times a b ≡ mul a b)
