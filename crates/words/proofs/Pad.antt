-- A list of cells brought to n cells with zeros above it: its length, what it is for shorter and for whole lists, and that sums, multiples,
-- shifts and the weight are kept. Each law is an induction along the list.
use mathlib.Core.Path.{◌≡◌, refl, sym, ap, ap₂, ◌∙◌}
use mathlib.Core.Logic.{⊎_elim}
use mathlib.Core.List.{List, [], ◌∷◌, ◌++◌}
use Prim.Native.Nat.{ℕ, zero, suc, ◌+◌, ◌-◌, ◌≤◌, ◌<◌, zero-le}
use native.Mathlib.Nat.{suc_inj, le_of_suc-le-suc, zero-add}
use native.Mathlib.Omega.{arith}
use lib.ListN.{length, get_or, take, drop, set, replicate, get_or-eq_default}
use lib.Seq.{drop-drop, take_all, take-append-le}
use Rattle.lists.proofs.Test.{lt-or_ge}
use Rattle.field.specs.Field.{add, mul}
use Rattle.field.proofs.Sum.{add_self, add_zero_l, add_zero_r}
use Rattle.field.proofs.Product.{mul-zero}
use Rattle.code.specs.Code.{nonzero, weight}
use Rattle.code.specs.Poly.{padd, pscale}
use Rattle.words.specs.Cells.{shift_up, shift_down, pad_to}

pub pad_length : (n : ℕ) (l : List ℕ) → length (pad_to n l) ≡ n
unfolding pad_to
pad_length zero l = refl
pad_length (suc n) [] = ap suc (pad_length n [])
pad_length (suc n) (x ∷ l) = ap suc (pad_length n l)

pub pad_nil : (n : ℕ) → pad_to n [] ≡ replicate n 0
unfolding pad_to
pad_nil zero = refl
pad_nil (suc n) = ap (λ (t : List ℕ). 0 ∷ t) (pad_nil n)

-- a list of at most n cells, and zeros
pub pad_is : (n : ℕ) (l : List ℕ) → length l ≤ n → pad_to n l ≡ l ++ replicate (n - length l) 0
unfolding pad_to
pad_is n [] h =
    let e : n ≡ n - 0 = omega arith in
    pad_nil n ∙ ap (λ (k : ℕ). replicate k 0) e
pad_is zero (x ∷ l) h = absurd (omega arith)
pad_is (suc n) (x ∷ l) h =
    let e : n - length l ≡ suc n - suc (length l) = omega arith in
    ap (λ (t : List ℕ). x ∷ t) (pad_is n l (le_of_suc-le-suc h) ∙ ap (λ (k : ℕ). l ++ replicate k 0) e)

-- a list of n cells
pub pad_full : (n : ℕ) (l : List ℕ) → length l ≡ n → pad_to n l ≡ l
unfolding pad_to
pad_full zero [] h = refl
pad_full zero (x ∷ l) h = absurd (omega arith)
pad_full (suc n) [] h = absurd (omega arith)
pad_full (suc n) (x ∷ l) h = ap (λ (t : List ℕ). x ∷ t) (pad_full n l (suc_inj h))

pub pad_take : (n : ℕ) (l : List ℕ) → pad_to n (take n l) ≡ pad_to n l
unfolding pad_to
pad_take zero l = refl
pad_take (suc n) [] = refl
pad_take (suc n) (x ∷ l) = ap (λ (t : List ℕ). x ∷ t) (pad_take n l)

pub pad_at : (n : ℕ) (l : List ℕ) (k : ℕ) → k < n → get_or (pad_to n l) k 0 ≡ get_or l k 0
unfolding pad_to
pad_at zero l k h = absurd (omega arith)
pad_at (suc n) [] zero h = refl
pad_at (suc n) [] (suc k) h = pad_at n [] k (le_of_suc-le-suc h)
pad_at (suc n) (x ∷ l) zero h = refl
pad_at (suc n) (x ∷ l) (suc k) h = pad_at n l k (le_of_suc-le-suc h)

-- a list of at most n cells: all cells
pub pad_same : (n : ℕ) (l : List ℕ) → length l ≤ n → (k : ℕ) → get_or (pad_to n l) k 0 ≡ get_or l k 0
pad_same n l h k =
    ⊎_elim (λ m. pad_at n l k m)
    (λ m. get_or-eq_default (pad_to n l) 0 (omega (arith, pad_length n l)) ∙ sym (get_or-eq_default l 0 (omega arith))) (lt-or_ge k n)

pub pad_sum : (n : ℕ) (p q : List ℕ) → padd (pad_to n p) (pad_to n q) ≡ pad_to n (padd p q)
unfolding pad_to padd
pad_sum zero p q = refl
pad_sum (suc n) [] [] = ap₂ ◌∷◌ (add_self 0) (pad_sum n [] [])
pad_sum (suc n) [] (y ∷ q) = ap₂ ◌∷◌ (add_zero_l y) (pad_sum n [] q)
pad_sum (suc n) (x ∷ p) [] = ap₂ ◌∷◌ (add_zero_r x) (pad_sum n p [] ∙ ap (pad_to n) (none p))
  where
    none : (l : List ℕ) → padd l [] ≡ l
    none [] = refl
    none (y ∷ l) = refl
pad_sum (suc n) (x ∷ p) (y ∷ q) = ap (λ (t : List ℕ). add x y ∷ t) (pad_sum n p q)

pub pad_scale : (n a : ℕ) (p : List ℕ) → pscale a (pad_to n p) ≡ pad_to n (pscale a p)
unfolding pad_to pscale
pad_scale zero a p = refl
pad_scale (suc n) a [] = ap₂ ◌∷◌ (mul-zero a) (pad_scale n a [])
pad_scale (suc n) a (x ∷ p) = ap (λ (t : List ℕ). mul a x ∷ t) (pad_scale n a p)

pub pad_up : (n c : ℕ) (l : List ℕ) → shift_up c (pad_to n l) ≡ pad_to n (c ∷ l)
unfolding pad_to shift_up
pad_up zero c l = refl
pad_up (suc n) c [] = ap (λ (t : List ℕ). c ∷ t) (pad_up n 0 [] ∙ zero_only n)
  where
    zero_only : (m : ℕ) → pad_to m (0 ∷ []) ≡ pad_to m []
    zero_only zero = refl
    zero_only (suc m) = refl
pad_up (suc n) c (x ∷ l) = ap (λ (t : List ℕ). c ∷ t) (pad_up n x l)

pub pad_down : (n : ℕ) (l : List ℕ) → length l ≤ n → shift_down (pad_to n l) 0 ≡ pad_to n (drop 1 l)
unfolding pad_to shift_down
pad_down zero [] h = refl
pad_down zero (x ∷ l) h = absurd (omega arith)
pad_down (suc zero) [] h = refl
pad_down (suc zero) (x ∷ []) h = refl
pad_down (suc zero) (x ∷ y ∷ l) h = absurd (omega arith)
pad_down (suc (suc n)) [] h = ap (λ (t : List ℕ). 0 ∷ t) (pad_down (suc n) [] (omega arith))
pad_down (suc (suc n)) (x ∷ []) h = ap (λ (t : List ℕ). 0 ∷ t) (pad_down (suc n) [] (omega arith))
pad_down (suc (suc n)) (x ∷ y ∷ l) h = ap (λ (t : List ℕ). y ∷ t) (pad_down (suc n) (y ∷ l) (le_of_suc-le-suc h))

-- zeros at the end of a list are the padding's own
pub pad_more : (n k : ℕ) (l : List ℕ) → pad_to n (l ++ replicate k 0) ≡ pad_to n l
unfolding pad_to
pad_more zero k l = refl
pad_more (suc n) zero [] = refl
pad_more (suc n) (suc k) [] = ap (λ (t : List ℕ). 0 ∷ t) (pad_more n k [])
pad_more (suc n) k (x ∷ l) = ap (λ (t : List ℕ). x ∷ t) (pad_more n k l)

pub pad_zeros : (n k : ℕ) → pad_to n (replicate k 0) ≡ replicate n 0
pad_zeros n k = pad_more n k [] ∙ pad_nil n

drop_more : (m n k : ℕ) (l : List ℕ) → pad_to n (drop m (l ++ replicate k 0)) ≡ pad_to n (drop m l)
drop_more zero n k l = pad_more n k l
drop_more (suc m) n zero [] = refl
drop_more (suc m) n (suc k) [] = drop_more m n k [] ∙ ap (pad_to n) (lib.Seq.drop-nil m)
drop_more (suc m) n k (x ∷ l) = drop_more m n k l

-- cells moved down in two parts
pub drop_pad : (m j n : ℕ) (l : List ℕ) → length l ≤ n → pad_to n (drop m (pad_to n (drop j l))) ≡ pad_to n (drop (j + m) l)
drop_pad m j n l h =
    let s : length (drop j l) ≤ n = omega (arith, lib.ListN.length-drop j l) in
    ap (λ (t : List ℕ). pad_to n (drop m t)) (pad_is n (drop j l) s)
    ∙ drop_more m n (n - length (drop j l)) (drop j l)
    ∙ ap (pad_to n) (drop-drop m j l)

-- a cell stored behind the list
pub pad_snoc : (n : ℕ) (l : List ℕ) (c : ℕ) → length l < n → set (pad_to n l) (length l) c ≡ pad_to n (l ++ (c ∷ []))
unfolding pad_to
pad_snoc zero l c h = absurd (omega arith)
pad_snoc (suc n) [] c h = refl
pad_snoc (suc n) (x ∷ l) c h = ap (λ (t : List ℕ). x ∷ t) (pad_snoc n l c (omega arith))

-- the first cells, without the zeros above them
pub take_pad : (k n : ℕ) (l : List ℕ) → k ≤ length l → length l ≤ n → take k (pad_to n l) ≡ take k l
take_pad k n l h m = ap (take k) (pad_is n l m) ∙ take-append-le k l (replicate (n - length l) 0) h

pub pad_off : (n m : ℕ) (l : List ℕ) → length l ≡ n → n ≤ m → take n (pad_to m l) ≡ l
pad_off n m l e h = take_pad n m l (omega arith) (omega arith) ∙ take_all n l (omega arith)

-- zeros above have no weight
pub weight_pad : (n : ℕ) (R : List ℕ) → length R ≤ n → weight (pad_to n R) ≡ weight R
unfolding weight pad_to
weight_pad zero [] h = refl
weight_pad zero (x ∷ R) h = absurd (omega arith)
weight_pad (suc n) [] h = zero-add (weight (pad_to n [])) ∙ weight_pad n [] zero-le
weight_pad (suc n) (x ∷ R) h = ap (λ (w : ℕ). nonzero x + w) (weight_pad n R (le_of_suc-le-suc h))
