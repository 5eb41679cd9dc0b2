-- The statements of specs/Species.antt: the test of a list says what is said of every place and of every two, by induction along it; a species that stands at a
-- place of a list without repeats has that row, and one that stands nowhere the last.
use mathlib.Core.Path.{◌≡◌, refl, sym, subst, ◌∙◌}
use mathlib.Core.Logic.{◌⊎◌, ◌↔◌, ◌≢◌, inl, inr, ⊎_elim}
use mathlib.Core.Bool.{Bool, true, false}
use mathlib.Core.List.{List, [], ◌∷◌}
use Prim.Native.Nat.{ℕ, zero, suc, zero-le, suc-le-suc, ◌+◌, ◌*◌, ◌-◌, ◌%◌, ◌<◌, ◌≤◌}
use native.Mathlib.Omega.{arith}
use native.Mathlib.Nat.{not-suc-le-zero, le_of_suc-le-suc, div-add-mod', mod-lt, add-zero, zero-add}
use lib.ListN.{length, get_or, length-take}
use lib.Dec.{ltb, eqb, lit<}
use borrow.Author.Tests.{eq-eqb, ne_eqb, eqb-true, eqb-false, le-ltb, ltb-false}
use Rattle.std.proofs.lemmas.List.Folds.{list_any_at, list_any_none}
use Rattle.std.proofs.lemmas.List.Elements.{All-from_get_or}
use Rattle.lists.specs.Choice.{pick}
use Rattle.lists.proofs.Test.{true_false}
use Rattle.plot.specs.Layout.{within}
use Rattle.plot.proofs.Cases.{pick_out}
use Rattle.plot_promises.proofs.Lines.{within_iff, pick_true}
use Rattle.stand.specs.declared.Tract.{Tract}
use Rattle.stand.specs.Table.{list_of, among, numbers_hold, species_hold, tract_listed, row_from, row_of, column_of}
use Rattle.stand_promises.specs.Species.{Listed, TractListed, RowsIff, ColumnsIff}

-- a number that is not among others
among-not : (x : ℕ) (l : List ℕ) → among x l ≡ false → (i : ℕ) → i < length l → get_or l i 0 ≢ x
among-not x l h i k e = true_false (list_any_at (λ y. eqb y x) l i 0 k (eq-eqb (get_or l i 0) x e)) h

not-among : (x : ℕ) (l : List ℕ) → ((i : ℕ) → i < length l → get_or l i 0 ≢ x) → among x l ≡ false
not-among x l h = list_any_none (λ y. eqb y x) l (All-from_get_or (λ y. eqb y x ≡ false) l 0 (λ i k. ne_eqb (get_or l i 0) x (h i k)))

-- each in its range, no two alike
record Numbers (l : List ℕ) : Type 0 where
  range : (i : ℕ) → i < length l → (1 ≤ get_or l i 0) × (get_or l i 0 ≤ 99)
  once : (i j : ℕ) → i < j → j < length l → get_or l i 0 ≢ get_or l j 0

module _ (x : ℕ) (l : List ℕ) where
  one_more : (1 ≤ x) × (x ≤ 99) → ((i : ℕ) → i < length l → get_or l i 0 ≢ x) → Numbers l → Numbers (x ∷ l)
  one_more r a n = record { range = range₁; once = once₁ }
    where
      range₁ : (i : ℕ) → i < suc (length l) → (1 ≤ get_or (x ∷ l) i 0) × (get_or (x ∷ l) i 0 ≤ 99)
      range₁ zero k = r
      range₁ (suc i) k = n.range i (le_of_suc-le-suc k)

      once₁ : (i j : ℕ) → i < j → j < suc (length l) → get_or (x ∷ l) i 0 ≢ get_or (x ∷ l) j 0
      once₁ i zero h k e = absurd (not-suc-le-zero h)
      once₁ zero (suc j) h k e = a j (le_of_suc-le-suc k) (sym e)
      once₁ (suc i) (suc j) h k e = n.once i j (le_of_suc-le-suc h) (le_of_suc-le-suc k) e

  one_less : Numbers (x ∷ l) → Numbers l
  one_less n = record { range = λ i k. n.range (suc i) (suc-le-suc k); once = λ i j h k. n.once (suc i) (suc j) (suc-le-suc h) (suc-le-suc k) }

numbers_iff : (l : List ℕ) → (numbers_hold l ≡ true) ↔ Numbers l
unfolding numbers_hold
numbers_iff [] = ((λ e. record { range = λ i k. absurd (not-suc-le-zero k); once = λ i j h k e. absurd (not-suc-le-zero k) }), λ n. refl)
numbers_iff (x ∷ l) = (
  (λ e.
      let p = pick_true (within 1 99 x) _ e in
      let q = pick_out (among x l) false (numbers_hold l) true p.1 (λ z. true_false z refl) in
      one_more x l ((within_iff 1 99 x).0 p.0) (among-not x l q.0) ((numbers_iff l).0 q.1)),
  (λ n.
      let w : within 1 99 x ≡ true = (within_iff 1 99 x).1 (n.range 0 (suc-le-suc zero-le)) in
      let a : among x l ≡ false = not-among x l (λ i k e. n.once 0 (suc i) (suc-le-suc zero-le) (suc-le-suc k) (sym e)) in
      rw (w, a) ((numbers_iff l).1 (one_less x l n))),
)

-- a list of at most sixteen
few_iff : (n : ℕ) (l : List ℕ) (t : Bool) → (numbers_hold l ≡ true) ↔ Numbers l → ltb 16 n ≡ t → (pick t false (numbers_hold l) ≡ true) ↔ ((n ≤ 16) × Numbers l)
few_iff n l true i e = ((λ h. absurd (true_false h refl)), λ h. absurd (true_false e (le-ltb 16 n h.0)))
few_iff n l false i e = ((λ h. (ltb-false 16 n e, i.0 h)), λ h. i.1 h.1)

pub species_iff : (l : List ℕ) → (species_hold l ≡ true) ↔ Listed l
species_iff l =
    let f = few_iff (length l) l (ltb 16 (length l)) (numbers_iff l) refl in (
      (λ h. let n = f.0 h in record { few = n.0; range = n.1.range; once = n.1.once }),
      λ h. f.1 (h.few, record { range = h.range; once = h.once }),
    )

pub tract_iff : (tract : Tract) → (tract_listed tract ≡ true) ↔ TractListed tract
tract_iff tract =
    let f = few_iff tract.listed (list_of tract) (ltb 16 tract.listed) (numbers_iff (list_of tract)) refl in (
      (λ h. let n = f.0 h in (n.0, record { few = omega (arith, length-take tract.listed tract.species, n.0); range = n.1.range; once = n.1.once })),
      λ h. f.1 (h.0, record { range = h.1.range; once = h.1.once }),
    )

-- the row of a species: nowhere in the list, or at a place of it
row-none : (l : List ℕ) (k x : ℕ) → ((i : ℕ) → i < length l → get_or l i 0 ≢ x) → row_from k l x ≡ 16
unfolding row_from
row-none [] k x h = refl
row-none (y ∷ l) k x h = rw (ne_eqb y x (h 0 (suc-le-suc zero-le))) (row-none l (suc k) x (λ i q. h (suc i) (suc-le-suc q)))

row_at : (l : List ℕ) (k x i : ℕ) → ((i j : ℕ) → i < j → j < length l → get_or l i 0 ≢ get_or l j 0) → i < length l → get_or l i 0 ≡ x → row_from k l x ≡ k + i
unfolding row_from
row_at [] k x i o h e = absurd (not-suc-le-zero h)
row_at (y ∷ l) k x zero o h e = rw (eq-eqb y x e) (sym (add-zero k))
row_at (y ∷ l) k x (suc i) o h e =
    let z : suc k + i ≡ k + suc i = omega arith in
    rw (ne_eqb y x (λ q. o 0 (suc i) (suc-le-suc zero-le) h (q ∙ sym e)))
    (row_at l (suc k) x i (λ a b p q. o (suc a) (suc b) (suc-le-suc p) (suc-le-suc q)) (le_of_suc-le-suc h) e ∙ z)

abbrev Somewhere : List ℕ → ℕ → Type 0
Somewhere l x = (i : ℕ) × (i < length l) × (get_or l i 0 ≡ x)

abbrev Nowhere : List ℕ → ℕ → Type 0
Nowhere l x = (i : ℕ) → i < length l → get_or l i 0 ≢ x

stands : (l : List ℕ) (x : ℕ) → Somewhere l x ⊎ Nowhere l x
stands [] x = inr (λ i k e. absurd (not-suc-le-zero k))
stands (y ∷ l) x = by_first (eqb y x) refl (stands l x)
  where
    none : y ≢ x → Nowhere l x → Nowhere (y ∷ l) x
    none d a zero k e = d e
    none d a (suc i) k e = a i (le_of_suc-le-suc k) e

    by_first : (t : Bool) → eqb y x ≡ t → Somewhere l x ⊎ Nowhere l x → Somewhere (y ∷ l) x ⊎ Nowhere (y ∷ l) x
    by_first true e r = inl (0, suc-le-suc zero-le, eqb-true y x e)
    by_first false e r = ⊎_elim (λ f. inl (suc f.0, suc-le-suc f.1, f.2)) (λ a. inr (none (eqb-false y x e) a)) r

pub rows_iff : RowsIff
rows_iff l n = record {
  listed = λ x i h. ((λ e. ⊎_elim (found x i h e) (λ a. absurd (let z : row_of l x ≡ 16 = row-none l 0 x a in omega arith)) (stands l x)), λ f. row_at l 0 x i n.once f.0 f.1 ∙ zero-add i);
  others = λ x. ((λ e i k q. let z : row_of l x ≡ 0 + i = row_at l 0 x i n.once k q in let w : length l ≤ 16 = n.few in omega arith), row-none l 0 x);
}
  where
    found : (x i : ℕ) → i < 16 → row_of l x ≡ i → Somewhere l x → (i < length l) × (get_or l i 0 ≡ x)
    found x i h e f =
        let z : f.0 ≡ i = sym (row_at l 0 x f.0 n.once f.1 f.2 ∙ zero-add f.0) ∙ e in
        (subst (λ (m : ℕ). m < length l) z f.1, subst (λ (m : ℕ). get_or l m 0 ≡ x) z f.2)

-- columns
pub columns_iff : ColumnsIff
columns_iff = record {
  column = λ class j h. ((λ e. (omega (arith, parts class), omega (arith, parts class, last class))), λ b. omega (arith, parts class, last class, b.0, b.1));
  twenty = λ class h. omega (arith, parts class);
}
  where
    parts : (class : ℕ) → column_of class * 10 + (class - 1) % 10 ≡ class - 1
    parts class = div-add-mod' (class - 1) 10

    last : (class : ℕ) → (class - 1) % 10 < 10
    last class = mod-lt (class - 1) {m = 10} (lit< tt)
