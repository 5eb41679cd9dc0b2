-- Laws on lists that are given cell by cell (`tab`), on what a loop that writes them makes, and on parts of a list.
-- Most go by recursion on the number of cells.
use mathlib.Core.Path.{◌≡◌, refl, sym, ap, subst, ◌∙◌}
use mathlib.Core.List.{List, [], ◌∷◌, ◌++◌, append_assoc}
use Prim.Native.Nat.{ℕ, zero, suc, ◌+◌, ◌-◌, ◌<◌, ◌≤◌}
use native.Mathlib.Nat.{not-suc-le-zero, le_of_suc-le-suc, suc-add, zero-add}
use native.Mathlib.Omega.{arith}
use lib.ListN.{length, get_or, take, drop, replicate, length-drop}
use lib.Seq.{ext_get_or, drop-drop, take_all, take_at, drop_at, length-take-le}
use mathlib.Core.Logic.{◌≢◌}
use Rattle.std.specs.Prelude.{Some, slice_get, slice_set}
use Rattle.std.proofs.lemmas.Option.{slice_get-get_or}
use Rattle.std.proofs.lemmas.List.{get_or-set_same, length-set}
use Rattle.sheet.specs.Sheet.{tab}

pub length-tab : (n : ℕ) (f : ℕ → ℕ) → length (tab n f) ≡ n
length-tab zero f = refl
length-tab (suc n) f = ap suc (length-tab n (λ (i : ℕ). f (suc i)))

pub get_or_tab : (n : ℕ) (f : ℕ → ℕ) (i : ℕ) → i < n → get_or (tab n f) i 0 ≡ f i
get_or_tab zero f i l = absurd (not-suc-le-zero l)
get_or_tab (suc n) f zero l = refl
get_or_tab (suc n) f (suc i) l = get_or_tab n (λ (j : ℕ). f (suc j)) i (le_of_suc-le-suc l)

-- a list of n cells is `tab n f` where f says each of them
pub is_tab : (n : ℕ) (f : ℕ → ℕ) (l : List ℕ) → length l ≡ n → ((i : ℕ) → i < n → get_or l i 0 ≡ f i) → l ≡ tab n f
is_tab n f l e h = ext_get_or 0 l (tab n f) (e ∙ sym (length-tab n f)) (λ i b. h i (subst (λ (m : ℕ). i < m) e b) ∙ sym (get_or_tab n f i (subst (λ (m : ℕ). i < m) e b)))

-- the same cells, the same list
pub same-tab : (n : ℕ) (f g : ℕ → ℕ) → ((i : ℕ) → i < n → f i ≡ g i) → tab n f ≡ tab n g
same-tab n f g h = is_tab n g (tab n f) (length-tab n f) (λ i l. get_or_tab n f i l ∙ h i l)

pub tab-add : (a k : ℕ) (f : ℕ → ℕ) → tab (a + k) f ≡ tab a f ++ tab k (λ (j : ℕ). f (a + j))
tab-add zero k f = rw zero-add (same-tab k f (λ (j : ℕ). f (0 + j)) (λ i l. ap f (sym (zero-add i))))
tab-add (suc a) k f =
    rw suc-add
    (ap (λ (t : List ℕ). f 0 ∷ t)
    (tab-add a k (λ (i : ℕ). f (suc i)) ∙ ap (λ (t : List ℕ). tab a (λ (i : ℕ). f (suc i)) ++ t) (same-tab k (λ (j : ℕ). f (suc (a + j))) (λ (j : ℕ). f (suc a + j)) (λ i l. ap f (sym (suc-add a i))))))

-- a turn of a loop that stores the k cells w from cell a on
pub part-more : (a k : ℕ) (f : ℕ → ℕ) (o w : List ℕ) → a ≤ length o → length w ≡ k → ((j : ℕ) → j < k → get_or w j 0 ≡ f (a + j))
    → take a (tab a f ++ drop a o) ++ (w ++ drop k (drop a (tab a f ++ drop a o))) ≡ tab (a + k) f ++ drop (a + k) o
part-more a k f o w l e h =
    rw (take_at (tab a f) (drop a o) a (length-tab a f), drop_at (tab a f) (drop a o) a (length-tab a f), drop-drop, tab-add, append_assoc)
    (ap (λ (t : List ℕ). tab a f ++ (t ++ drop (a + k) o)) (is_tab k (λ (j : ℕ). f (a + j)) w e h))

-- ---- an element of a list that was written

module _ {A : Type 0} where
  pub get-set_same : (xs : List A) (i : ℕ) (v : A) → i < length xs → slice_get (slice_set xs i v) i ≡ Some v
  get-set_same xs i v l = slice_get-get_or (slice_set xs i v) i v (simp length-set l) ∙ ap (λ (x : A). Some x) (get_or-set_same xs i v v l)

  pub get-set_other : (xs : List A) (i j : ℕ) (v : A) → j ≢ i → slice_get (slice_set xs i v) j ≡ slice_get xs j
  get-set_other [] i j v n = refl
  get-set_other (x ∷ xs) zero zero v n = absurd (n refl)
  get-set_other (x ∷ xs) zero (suc j) v n = refl
  get-set_other (x ∷ xs) (suc i) zero v n = refl
  get-set_other (x ∷ xs) (suc i) (suc j) v n = get-set_other xs i j v (λ e. n (ap suc e))

  pub get-set_is : (xs : List A) (i : ℕ) (v y : A) → slice_get (slice_set xs i v) i ≡ Some y → y ≡ v
  get-set_is [] i v y q = absurd (cc)
  get-set_is (x ∷ xs) zero v y q = cc
  get-set_is (x ∷ xs) (suc i) v y q = get-set_is xs i v y q

-- all that follows cell a
pub rest_of : (a : ℕ) (s : List ℕ) → take (length s - a) (drop a s) ≡ drop a s
rest_of a s = take_all (length s - a) (drop a s) (rw length-drop (omega arith))

-- 255 zeros, of which the first n are lent
unfoldable pub zeros : List ℕ
zeros = replicate 255 0

pub lent : (n : ℕ) → n ≤ 255 → length (take n zeros) ≡ n
unfolding zeros
lent n h = length-take-le n zeros h
