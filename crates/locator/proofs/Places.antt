-- The places that the search collects: what one cell and one word of eight cells add to the list, and how the list stands in the buffers. The roots
-- among m + n cells are those among the first m and then those among the next n.
use mathlib.Core.Path.{◌≡◌, refl, sym, ap, ap₂, ◌∙◌}
use mathlib.Core.Logic.{◌≢◌}
use mathlib.Core.Bool.{Bool, true, false}
use mathlib.Core.List.{List, [], ◌∷◌, ◌++◌, map, append-nil, append_assoc, map-append}
use Prim.Native.Nat.{ℕ, zero, suc, ◌+◌, ◌≤◌, ◌<◌}
use native.Mathlib.Omega.{arith}
use lib.Dec.{eqb}
use lib.ListN.{length, set, replicate, length-append, length-map}
use lib.Seq.{take-append-le}
use borrow.Author.Tests.{eq-eqb, ne_eqb}
use Rattle.lists.specs.Choice.{pick}
use Rattle.field.specs.Field.{alpha}
use Rattle.code.specs.Poly.{eval}
use Rattle.products.specs.Products.{evals}
use Rattle.words.specs.Word.{byte, bytes_from}
use Rattle.words.specs.Cells.{pad_to}
use Rattle.words.proofs.Pad.{pad_take, pad_snoc}
use Rattle.products.proofs.Values.{Points, value-at}
use Rattle.locator.specs.Locator.{roots_from}
use Rattle.locator.specs.Answer.{errors_at}
use Rattle.locator.specs.declared.Errors.{Errors}

-- ---- a list in a buffer

pad_past : (n : ℕ) (E : List ℕ) (c : ℕ) → n ≤ length E → pad_to n E ≡ pad_to n (E ++ (c ∷ []))
pad_past n E c h = sym (pad_take n E) ∙ ap (pad_to n) (sym (take-append-le n E (c ∷ []) h)) ∙ pad_take n (E ++ (c ∷ []))

-- stored behind the list, where there is room
pub store_more : (n i c : ℕ) (b E : List ℕ) → i < n → length E ≡ i → b ≡ pad_to n E → set b i c ≡ pad_to n (E ++ (c ∷ []))
store_more n i c b E h l e = ap₂ (λ (u : List ℕ) (k : ℕ). set u k c) e (sym l) ∙ pad_snoc n E c (omega arith)

pub store_none : (n i c : ℕ) (b E : List ℕ) → n ≤ i → length E ≡ i → b ≡ pad_to n E → b ≡ pad_to n (E ++ (c ∷ []))
store_none n i c b E h l e = e ∙ pad_past n E c (omega arith)

-- ---- one cell

-- what storing does to a buffer of 32 cells
abbrev pub Stores : ℕ → ℕ → List ℕ → List ℕ → Type 0
Stores i c b b' = (E : List ℕ) → length E ≡ i → b ≡ pad_to 32 E → b' ≡ pad_to 32 (E ++ (c ∷ []))

pub place_more : (f : Errors) (E : List ℕ) (place point : ℕ) (P Q : List ℕ) → point ≡ alpha place → Stores f.count place f.places P
    → Stores f.count point f.points Q → f ≡ errors_at E → record { count = f.count + 1; places = P; points = Q } ≡ errors_at (E ++ (place ∷ []))
unfolding errors_at
place_more f E place point P Q a hP hQ e =
    let n : f.count ≡ length E = ap (λ (l : Errors). l.count) e in
    let n' : f.count + 1 ≡ length (E ++ (place ∷ [])) = omega (arith, length-append E (place ∷ [])) in
    let p : P ≡ pad_to 32 (E ++ (place ∷ [])) = hP E (sym n) (ap (λ (l : Errors). l.places) e) in
    let q : Q ≡ pad_to 32 (map alpha (E ++ (place ∷ []))) =
    hQ (map alpha E) (length-map E alpha ∙ sym n) (ap (λ (l : Errors). l.points) e) ∙ ap (λ (v : ℕ). pad_to 32 (map alpha E ++ (v ∷ []))) a
    ∙ ap (pad_to 32) (sym (map-append alpha E (place ∷ []))) in
    rw (n', p, q) refl

-- ---- eight cells

pub roots_append : (P : List ℕ) (m n k : ℕ) → roots_from P (m + n) k ≡ roots_from P m k ++ roots_from P n (k + m)
unfolding roots_from
roots_append P zero n k =
    let a : 0 + n ≡ n = omega arith in
    let b : k ≡ k + 0 = omega arith in
    ap₂ (roots_from P) a b
roots_append P (suc m) n k =
    let a : suc m + n ≡ suc (m + n) = omega arith in
    let b : suc k + m ≡ k + suc m = omega arith in
    let ih : roots_from P (m + n) (suc k) ≡ roots_from P m (suc k) ++ roots_from P n (k + suc m) = roots_append P m n (suc k) ∙ ap (λ (i : ℕ). roots_from P m (suc k) ++ roots_from P n i) b in
    ap (λ (i : ℕ). roots_from P i k) a ∙ both (eqb (eval P (alpha k)) 0) k (roots_from P (m + n) (suc k)) (roots_from P m (suc k)) (roots_from P n (k + suc m)) ih
  where
    both : (t : Bool) (k : ℕ) (x y z : List ℕ) → x ≡ y ++ z → pick t (k ∷ x) x ≡ pick t (k ∷ y) y ++ z
    both true k x y z e = ap (λ (l : List ℕ). k ∷ l) e
    both false k x y z e = e

root_there : (P : List ℕ) (k : ℕ) → eval P (alpha k) ≡ 0 → roots_from P 1 k ≡ k ∷ []
unfolding roots_from
root_there P k z = let t : eqb (eval P (alpha k)) 0 ≡ true = eq-eqb (eval P (alpha k)) 0 z in rw t refl

root_none : (P : List ℕ) (k : ℕ) → eval P (alpha k) ≢ 0 → roots_from P 1 k ≡ []
unfolding roots_from
root_none P k n = let t : eqb (eval P (alpha k)) 0 ≡ false = ne_eqb (eval P (alpha k)) 0 n in rw t refl

-- one more cell of the word: it is a root, or it is none
module _ (P E : List ℕ) (values points j i c : ℕ) (f : Errors) (h : i < 8) (e : Points points j) (v : bytes_from 8 0 values ≡ evals P (bytes_from 8 0 points)) (q : c ≡ byte values i)
    (ef : f ≡ errors_at (E ++ roots_from P i j)) where
  abbrev value : ℕ
  value = eval P (alpha (j + i))

  grown : (l : List ℕ) → roots_from P 1 (j + i) ≡ l → errors_at (E ++ roots_from P i j ++ l) ≡ errors_at (E ++ roots_from P (i + 1) j)
  grown l el =
      ap errors_at (append_assoc E (roots_from P i j) l ∙ ap (λ (u : List ℕ). E ++ u) (ap (λ (u : List ℕ). roots_from P i j ++ u) (sym el) ∙ sym (roots_append P i 1 j)))

  pub word_root : (r : Errors) → c ≡ 0 → ((E : List ℕ) → f ≡ errors_at E → r ≡ errors_at (E ++ ((j + i) ∷ []))) → r ≡ errors_at (E ++ roots_from P (i + 1) j)
  word_root r z er =
      er (E ++ roots_from P i j) ef ∙ grown ((j + i) ∷ []) (root_there P (j + i) (sym (value-at P values j i c h (v ∙ ap (evals P) e) q) ∙ z))

  pub word_other : c ≢ 0 → f ≡ errors_at (E ++ roots_from P (i + 1) j)
  word_other n =
      ef ∙ ap errors_at (sym (append-nil (E ++ roots_from P i j))) ∙ grown [] (root_none P (j + i) (λ z. n (value-at P values j i c h (v ∙ ap (evals P) e) q ∙ z)))

pub word_none : (P E : List ℕ) (j : ℕ) (f : Errors) → f ≡ errors_at E → f ≡ errors_at (E ++ roots_from P 0 j)
unfolding roots_from
word_none P E j f e = e ∙ ap errors_at (sym (append-nil E))

-- ---- all cells

pub all_none : (P : List ℕ) → record { count = 0; places = replicate 32 0; points = replicate 32 0 } ≡ errors_at (roots_from P 0 0)
unfolding errors_at roots_from pad_to
all_none P = refl

pub all_more : (P : List ℕ) (j m k : ℕ) (f r : Errors) → j + m ≡ k → f ≡ errors_at (roots_from P j 0)
    → ((E : List ℕ) → f ≡ errors_at E → r ≡ errors_at (E ++ roots_from P m j)) → r ≡ errors_at (roots_from P k 0)
all_more P j m k f r e ef er =
    let z : 0 + j ≡ j = omega arith in
    er (roots_from P j 0) ef
    ∙ ap errors_at (ap (λ (i : ℕ). roots_from P j 0 ++ roots_from P m i) (sym z) ∙ sym (roots_append P j m 0) ∙ ap (λ (i : ℕ). roots_from P i 0) e)
