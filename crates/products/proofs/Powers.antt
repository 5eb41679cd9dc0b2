-- Powers by squaring: an exponent is twice its half, plus its last bit. What is kept is that the power that is left of the square, times the result,
-- is the whole.
use mathlib.Core.Path.{◌≡◌, refl, sym, ap, ap₂, ◌∙◌}
use mathlib.Core.List.{List, [], ◌∷◌}
use Prim.Native.Nat.{ℕ, ◌+◌, ◌*◌, ◌/◌, ◌%◌}
use native.Mathlib.Omega.{arith}
use lib.ListN.{length, replicate}
use Rattle.lists.specs.Bytes.{Bytes}
use Rattle.field.specs.Field.{mul, power}
use Rattle.field.proofs.Product.{one-mul, mul-one, mul_assoc}
use Rattle.field.proofs.Power.{power-lt, power-add, power-mul, power-two}
use Rattle.words.specs.Word.{byte, bytes_from}
use Rattle.words.proofs.Words.{word_bytes}
use Rattle.products.specs.Products.{times, powers}

halved : (a n : ℕ) → power a n ≡ mul (power (mul a a) (n / 2)) (power a (n % 2))
halved a n =
    ap (power a) whole
    ∙ power-add a (2 * (n / 2)) (n % 2)
    ∙ ap (λ (x : ℕ). mul x (power a (n % 2))) (power-mul a 2 (n / 2) ∙ ap (λ (x : ℕ). power x (n / 2)) (power-two a))
  where
    whole : n ≡ 2 * (n / 2) + n % 2
    whole = omega arith

turn : (n : ℕ) (S R : List ℕ) → times (powers n S) R ≡ times (powers (n / 2) (times S S)) (times (powers (n % 2) S) R)
unfolding times powers
turn n [] R = refl
turn n (s ∷ S) [] = refl
turn n (s ∷ S) (r ∷ R) =
    ap₂ ◌∷◌ (ap (λ (x : ℕ). mul x r) (halved s n) ∙ mul_assoc (power (mul s s) (n / 2)) (power s (n % 2)) r) (turn n S R)

-- a turn of the loop
pub power-more : (n e : ℕ) (X S R S' R' : List ℕ) → times (powers n S) R ≡ powers e X → R' ≡ times (powers (n % 2) S) R → S' ≡ times S S
    → times (powers (n / 2) S') R' ≡ powers e X
power-more n e X S R S' R' h er es = ap₂ (λ (s r : List ℕ). times (powers (n / 2) s) r) es er ∙ sym (turn n S R) ∙ h

-- the first power, and the power of exponent 0
first-power : (l : List ℕ) → Bytes l → powers 1 l ≡ l
unfolding powers power
first-power [] h = refl
first-power (x ∷ l) h = ap₂ ◌∷◌ (mul-one x h.0) (first-power l h.1)

pub powers-one : (w : ℕ) (R : List ℕ) → times (powers 1 (bytes_from 8 0 w)) R ≡ times (bytes_from 8 0 w) R
powers-one w R = ap (λ (l : List ℕ). times l R) (first-power (bytes_from 8 0 w) (word_bytes 8 0 w))

ones-times : (l R : List ℕ) → length l ≡ length R → Bytes R → times (powers 0 l) R ≡ R
unfolding times powers power
ones-times [] [] e h = refl
ones-times [] (y ∷ R) e h = absurd (omega arith)
ones-times (x ∷ l) [] e h = absurd (omega arith)
ones-times (x ∷ l) (y ∷ R) e h = ap₂ ◌∷◌ (one-mul y h.0) (ones-times l R (omega arith) h.1)

pub powers-none : (w v : ℕ) → times (powers 0 (bytes_from 8 0 w)) (bytes_from 8 0 v) ≡ bytes_from 8 0 v
powers-none w v = ones-times (bytes_from 8 0 w) (bytes_from 8 0 v) refl (word_bytes 8 0 v)

times-ones : (n : ℕ) (l : List ℕ) → times (powers n l) (replicate (length l) 1) ≡ powers n l
unfolding times powers
times-ones n [] = refl
times-ones n (x ∷ l) = ap₂ ◌∷◌ (mul-one (power x n) (power-lt x n)) (times-ones n l)

pub power-first : (e w : ℕ) → times (powers e (bytes_from 8 0 w)) (bytes_from 8 0 0x0101010101010101) ≡ powers e (bytes_from 8 0 w)
power-first e w = unfold byte in times-ones e (bytes_from 8 0 w)
