-- The row of a species under a list, and the rows of all numbers as the code makes them: from the last species down each gets its own row, so that what stands
-- before it in the list comes later and decides.
use Prim.Native.Nat.{ℕ, zero, suc, ◌+◌, ◌<◌, ◌≤◌}
use native.Mathlib.Omega.{arith}
use native.Mathlib.Nat.{zero-add, add-zero, not-suc-le-zero, le_of_suc-le-suc}
use mathlib.Core.Path.{◌≡◌, refl, sym, ap, subst, ◌∙◌}
use mathlib.Core.Logic.{⊎_elim}
use mathlib.Core.Bool.{Bool, true, false}
use mathlib.Core.List.{List, [], ◌∷◌}
use lib.ListN.{length, get_or, set, take, drop, replicate, get_or-replicate, drop_of_length-le, get_or-eq_default}
use lib.Seq.{drop-cons, get_or-take, length-take-le, get_or-set_same, get_or-set_other, ext_get_or}
use lib.Dec.{eqb}
use borrow.Author.Tests.{eqb-true, eqb-false}
use Rattle.lists.specs.Choice.{pick}
use Rattle.lists.proofs.Test.{lt-or_ge}
use Rattle.stand.specs.Table.{row_from, row_of, tabulate_from, rows_of}
use Rattle.stand.specs.Bounds.{RowsFit}

-- f i, f (i + 1), ..
pub length-tabulate : (n i : ℕ) (f : ℕ → ℕ) → length (tabulate_from i n f) ≡ n
unfolding tabulate_from
length-tabulate zero i f = refl
length-tabulate (suc n) i f = ap suc (length-tabulate n (suc i) f)

pub get_or_tabulate : (n i k : ℕ) (f : ℕ → ℕ) → k < n → get_or (tabulate_from i n f) k 0 ≡ f (i + k)
unfolding tabulate_from
get_or_tabulate zero i k f h = absurd (not-suc-le-zero h)
get_or_tabulate (suc n) i zero f h = ap f (sym (add-zero i))
get_or_tabulate (suc n) i (suc k) f h =
    let z : suc i + k ≡ i + suc k = omega arith in
    get_or_tabulate n (suc i) k f (le_of_suc-le-suc h) ∙ ap f z

-- a row is one of the listed species' or the last
pub row-most : (l : List ℕ) (i x m : ℕ) → i + length l ≤ m → 16 ≤ m → row_from i l x ≤ m
unfolding row_from
row-most [] i x m h k = k
row-most (y ∷ l) i x m h k =
    let z : i + suc (length l) ≤ m = h in
    by_test (eqb y x) (row-most l (suc i) x m (omega arith) k)
  where
    by_test : (t : Bool) → row_from (suc i) l x ≤ m → pick t i (row_from (suc i) l x) ≤ m
    by_test true r =
        let z : i + suc (length l) ≤ m = h in
        omega arith
    by_test false r = r

pub rows_fit : (l : List ℕ) → length l ≤ 16 → RowsFit (rows_of l)
rows_fit l h x =
    ⊎_elim
    (λ k.
    let r : row_from 0 l x ≤ 16 = row-most l 0 x 16 (omega arith) (omega arith) in
    let e : get_or (rows_of l) x 0 ≡ row_from 0 l x = get_or_tabulate 256 0 x (row_of l) k ∙ ap (row_of l) (zero-add x) in
    omega arith)
    (λ k.
    let e : get_or (rows_of l) x 0 ≡ 0 = get_or-eq_default (rows_of l) 0 (subst (λ (n : ℕ). n ≤ x) (sym (length-tabulate 256 0 (row_of l))) k) in
    omega arith)
    (lt-or_ge x 256)

-- a turn of the loop that makes the rows: the species at place i gets the row i
module _ (species : List ℕ) (n i : ℕ) (rows : List ℕ) (h : i < n) (m : n ≤ length species) (long : length rows ≡ 256)
    (is : (x : ℕ) → x < 256 → get_or rows x 0 ≡ row_from (suc i) (drop (suc i) (take n species)) x) where
  abbrev l : List ℕ
  l = take n species

  abbrev here : ℕ
  here = get_or species i 0

  split : drop i l ≡ here ∷ drop (suc i) l
  split = drop-cons l i 0 (omega (arith, length-take-le n species m)) ∙ ap (λ (y : ℕ). y ∷ drop (suc i) l) (get_or-take n species i 0 h)

  by_place : here < 256 → (x : ℕ) → x < 256 → (t : Bool) → eqb here x ≡ t → get_or (set rows here i) x 0 ≡ pick t i (row_from (suc i) (drop (suc i) l) x)
  by_place b x k true e = ap (λ (y : ℕ). get_or (set rows here i) y 0) (sym (eqb-true here x e)) ∙ get_or-set_same rows here i 0 (omega arith)
  by_place b x k false e = get_or-set_other rows here x i 0 (λ q. eqb-false here x e (sym q)) ∙ is x k

  pub rows_turn : here < 256 → (x : ℕ) → x < 256 → get_or (set rows here i) x 0 ≡ row_from i (drop i l) x
  unfolding row_from
  rows_turn b x k = rw split (by_place b x k (eqb here x) refl)

-- before the first turn
pub rows_start : (species : List ℕ) (n : ℕ) → n ≤ length species → (x : ℕ) → x < 256 → get_or (replicate 256 16) x 0 ≡ row_from n (drop n (take n species)) x
unfolding row_from
rows_start species n h x k =
    let l : length (take n species) ≤ n = omega (arith, length-take-le n species h) in
    rw (drop_of_length-le (take n species) l) (get_or-replicate 256 x 16 0 k)

-- after the last
pub rows_end : (l rows : List ℕ) → length rows ≡ 256 → ((x : ℕ) → x < 256 → get_or rows x 0 ≡ row_from 0 (drop 0 l) x) → rows ≡ rows_of l
rows_end l rows long is =
    ext_get_or 0 rows (rows_of l) (long ∙ sym (length-tabulate 256 0 (row_of l)))
    (λ x h.
    let k : x < 256 = omega arith in
    is x k ∙ sym (get_or_tabulate 256 0 x (row_of l) k ∙ ap (row_of l) (zero-add x)))
