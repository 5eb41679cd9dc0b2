-- One cell of a word of points or of values: point i of eight is a power of α, value i is the polynomial's at that point, and the points eight places on
-- are each times α^8.
use mathlib.Core.Path.{◌≡◌, refl, sym, ap, ap₂, ◌∙◌}
use mathlib.Core.List.{List, [], ◌∷◌}
use Prim.Native.Nat.{ℕ, zero, suc, ◌+◌, ◌/◌, ◌<◌}
use native.Mathlib.Nat.{add-zero, not-suc-le-zero, le_of_suc-le-suc}
use native.Mathlib.Omega.{arith}
use lib.ListN.{length, get_or}
use Rattle.std.specs.Int.{to_le_bytes}
use Rattle.std.proofs.Common.{w64}
use Rattle.field.specs.Field.{alpha}
use Rattle.field.proofs.Product.{mul_comm}
use Rattle.field.proofs.Power.{power-add}
use Rattle.code.specs.Poly.{eval, pscale}
use Rattle.words.specs.Word.{byte, bytes_from}
use Rattle.words.proofs.LastCell.{byte_at}
use Rattle.products.specs.Products.{evals, listed}

-- the cells of a word are its bytes, as the library has them
pub word_is : (w : ℕ) → bytes_from 8 0 w ≡ to_le_bytes w64 w
unfolding byte
word_is w = let e : w / 1 ≡ w = omega arith in rw e refl

pub listed-length : (f : ℕ → ℕ) (n k : ℕ) → length (listed f n k) ≡ n
unfolding listed
listed-length f zero k = refl
listed-length f (suc n) k = ap suc (listed-length f n (suc k))

pub listed_at : (f : ℕ → ℕ) (n k i : ℕ) → i < n → get_or (listed f n k) i 0 ≡ f (k + i)
unfolding listed
listed_at f zero k i h = absurd (not-suc-le-zero h)
listed_at f (suc n) k zero h = ap f (sym (add-zero k))
listed_at f (suc n) k (suc i) h = let e : suc k + i ≡ k + suc i = omega arith in listed_at f n (suc k) i (le_of_suc-le-suc h) ∙ ap f e

pub evals-at : (P l : List ℕ) (i : ℕ) → i < length l → get_or (evals P l) i 0 ≡ eval P (get_or l i 0)
unfolding evals
evals-at P [] i h = absurd (not-suc-le-zero h)
evals-at P (z ∷ l) zero h = refl
evals-at P (z ∷ l) (suc i) h = evals-at P l i (le_of_suc-le-suc h)

-- the word has the points α^j, α^(j+1), ..
abbrev pub Points : ℕ → ℕ → Type 0
Points points j = bytes_from 8 0 points ≡ listed (λ i. alpha i) 8 j

pub point_at : (points j i c : ℕ) → i < 8 → Points points j → c ≡ byte points i → c ≡ alpha (j + i)
point_at points j i c h e q = q ∙ sym (byte_at i points h) ∙ ap (λ (l : List ℕ). get_or l i 0) e ∙ listed_at (λ i. alpha i) 8 j i h

pub value-at : (P : List ℕ) (values j i c : ℕ) → i < 8 → bytes_from 8 0 values ≡ evals P (listed (λ i. alpha i) 8 j) → c ≡ byte values i → c ≡ eval P (alpha (j + i))
value-at P values j i c h e q =
    q ∙ sym (byte_at i values h) ∙ ap (λ (l : List ℕ). get_or l i 0) e
    ∙ evals-at P (listed (λ i. alpha i) 8 j) i (omega (arith, listed-length (λ i. alpha i) 8 j)) ∙ ap (eval P) (listed_at (λ i. alpha i) 8 j i h)

points_on : (m n k : ℕ) → pscale (alpha m) (listed (λ i. alpha i) n k) ≡ listed (λ i. alpha i) n (k + m)
unfolding pscale listed
points_on m zero k = refl
points_on m (suc n) k =
    let e : suc k + m ≡ suc (k + m) = omega arith in
    ap₂ ◌∷◌ (mul_comm (alpha m) (alpha k) ∙ sym (power-add 2 k m)) (points_on m n (suc k) ∙ ap (listed (λ i. alpha i) n) e)

-- the points eight places on
pub points-more : (x y j : ℕ) → Points x j → bytes_from 8 0 y ≡ pscale (alpha 8) (bytes_from 8 0 x) → Points y (j + 8)
points-more x y j e f = f ∙ ap (pscale (alpha 8)) e ∙ points_on 8 8 j
