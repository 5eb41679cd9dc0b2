-- Horner's rule at eight points at once, and the points themselves: powers of α, eight a word.
use mathlib.Core.Path.{◌≡◌, refl, sym, ap, ◌∙◌}
use mathlib.Core.List.{List, [], ◌∷◌}
use Prim.Native.Nat.{◌<◌, ℕ}
use lib.ListN.{replicate}
use Rattle.field.specs.Field.{add, mul, mul_bits, double, power, alpha}
use Rattle.field.proofs.Product.{one-mul, mul_assoc}
use Rattle.field.proofs.Power.{power-lt}
use Rattle.code.specs.Poly.{eval, padd}
use Rattle.words.specs.Word.{byte, bytes_from}
use Rattle.words.specs.Doubles.{Doubled}
use Rattle.words.proofs.Words.{same8}
use Rattle.words.proofs.Bits.{one_cell, byte_doubles}
use Rattle.products.specs.Products.{times, evals, listed}
use Rattle.products.proofs.Theorems.{evals-step}

-- ---- Horner's rule

-- the word has the values of p at the eight points of x
abbrev pub Values : ℕ → ℕ → List ℕ → Type 0
Values x v p = bytes_from 8 0 v ≡ evals p (bytes_from 8 0 x)

-- the values of no cells
pub horner_none : (x : ℕ) → Values x 0 []
unfolding evals eval byte
horner_none x = refl

-- the cell below comes in
pub horner_more : (x u v c : ℕ) (p : List ℕ) → bytes_from 8 0 v ≡ padd (replicate 8 c) (times (bytes_from 8 0 x) (bytes_from 8 0 u)) → Values x u p → Values x v (c ∷ p)
horner_more x u v c p ev eu =
    ev
    ∙ ap (λ (l : List ℕ). padd (replicate 8 c) (times (bytes_from 8 0 x) l)) eu
    ∙ sym (evals-step c p (bytes_from 8 0 x))

-- ---- the points

twofold : (m n v : ℕ) → mul 2 m ≡ n → mul n v ≡ mul 2 (mul m v)
twofold m n v e = ap (λ (t : ℕ). mul t v) (sym e) ∙ mul_assoc 2 m v

-- the doubles of α^e are the powers from e on
pub points_law : (e a c1 c2 c3 c4 c5 c6 c7 : ℕ) → a < 256 → a ≡ alpha e → Doubled one_cell a c1 c2 c3 c4 c5 c6 c7 → a ∷ c1 ∷ c2 ∷ c3 ∷ c4 ∷ c5 ∷ c6 ∷ c7 ∷ [] ≡ listed (λ i. alpha i) 8 e
unfolding listed power mul mul_bits double add
points_law e a c1 c2 c3 c4 c5 c6 c7 h ea d =
    let q = byte_doubles a c1 c2 c3 c4 c5 c6 c7 h d in
    let m0 : mul 1 a ≡ alpha e = ap (mul 1) ea ∙ one-mul (alpha e) (power-lt 2 e) in
    let m1 : mul 2 a ≡ mul 2 (alpha e) = ap (mul 2) ea in
    let m2 : mul 4 a ≡ mul 2 (mul 2 (alpha e)) = twofold 2 4 a refl ∙ ap (mul 2) m1 in
    let m3 : mul 8 a ≡ mul 2 (mul 2 (mul 2 (alpha e))) = twofold 4 8 a refl ∙ ap (mul 2) m2 in
    let m4 : mul 16 a ≡ mul 2 (mul 2 (mul 2 (mul 2 (alpha e)))) = twofold 8 16 a refl ∙ ap (mul 2) m3 in
    let m5 : mul 32 a ≡ mul 2 (mul 2 (mul 2 (mul 2 (mul 2 (alpha e))))) = twofold 16 32 a refl ∙ ap (mul 2) m4 in
    let m6 : mul 64 a ≡ mul 2 (mul 2 (mul 2 (mul 2 (mul 2 (mul 2 (alpha e)))))) = twofold 32 64 a refl ∙ ap (mul 2) m5 in
    let m7 : mul 128 a ≡ mul 2 (mul 2 (mul 2 (mul 2 (mul 2 (mul 2 (mul 2 (alpha e))))))) = twofold 64 128 a refl ∙ ap (mul 2) m6 in
    same8 _ _ _ _ _ _ _ _ _ _ _ _ _ _ _ _ (q.0 ∙ m0) (q.1 ∙ m1) (q.2 ∙ m2) (q.3 ∙ m3) (q.4 ∙ m4) (q.5 ∙ m5) (q.6 ∙ m6) (q.7 ∙ m7)

pub alpha-eight : alpha 8 ≡ 29
unfolding power mul mul_bits double add
alpha-eight = refl
