-- How many cells of a run are changed. What is laid at the run's start changes as many cells as it has that are not zero, and a shifted remainder that is
-- zero from the run's length on has no others.
use mathlib.Core.Path.{◌≡◌, refl, sym, ap, ap₂, ◌∙◌}
use mathlib.Core.Logic.{inl, inr, ⊎_elim}
use mathlib.Core.Bool.{true, false}
use mathlib.Core.List.{List, [], ◌∷◌}
use Prim.Native.Nat.{ℕ, zero, suc, ◌+◌, ◌≤◌, ◌<◌, zero-le}
use native.Mathlib.Nat.{suc_inj, le_of_suc-le-suc}
use native.Mathlib.Omega.{arith}
use lib.Dec.{eqb}
use lib.ListN.{length, get_or, take, drop}
use borrow.Author.Tests.{eq-eqb, ne_eqb, eqb-true}
use Rattle.lists.specs.Choice.{pick}
use Rattle.lists.proofs.Test.{true_or_false}
use Rattle.field.specs.Field.{add}
use Rattle.field.proofs.Sum.{add_self, add_zero_r, add_cancel}
use Rattle.code.specs.Poly.{padd}
use Rattle.code.specs.Code.{distance, nonzero, weight}
use Rattle.code.specs.Run.{Outside, ZeroFrom, added_at, changed_in}
use Rattle.code.proofs.Distance.{distance_self, distance-same}

-- a cell is changed by what is added to it, unless that is zero
nonzero-added : (x z : ℕ) → pick (eqb x (add x z)) 0 1 ≡ nonzero z
nonzero-added x zero = rw (eq-eqb x (add x 0) (sym (add_zero_r x)))
nonzero-added x (suc z) = rw (ne_eqb x (add x (suc z)) (λ e. let q : suc z ≡ 0 = sym (add_cancel x (suc z)) ∙ ap (add x) (sym e) ∙ add_self x in omega arith))

changed-front : (f : ℕ) (y e : List ℕ) → length e ≤ f → f ≤ length y → distance (take f y) (take f (padd y e)) ≡ weight e
unfolding distance padd weight
changed-front zero y [] h l = refl
changed-front zero y (z ∷ e) h l = absurd (omega arith)
changed-front (suc f) [] e h l = absurd (omega arith)
changed-front (suc f) (x ∷ y) [] h l = distance_self (take (suc f) (x ∷ y))
changed-front (suc f) (x ∷ y) (z ∷ e) h l = ap₂ ◌+◌ (nonzero-added x z) (changed-front f y e (le_of_suc-le-suc h) (le_of_suc-le-suc l))

pub changed-added : (s f : ℕ) (y e : List ℕ) → length e ≤ f → s + f ≤ length y → changed_in s f y (added_at s e y) ≡ weight e
unfolding added_at padd
changed-added zero f y e h l = changed-front f y e h (omega arith)
changed-added (suc s) f [] e h l = absurd (omega arith)
changed-added (suc s) f (x ∷ y) e h l = changed-added s f y e h (omega arith)

-- cells that are zero have no weight
weightless : (R : List ℕ) → ZeroFrom 0 R → weight R ≡ 0
unfolding weight
weightless [] h = refl
weightless (x ∷ R) h = ap₂ (λ (u v : ℕ). nonzero u + v) (h 0 zero-le) (weightless R (λ k l. h (suc k) zero-le))

pub weight-front : (f : ℕ) (R : List ℕ) → ZeroFrom f R → weight R ≡ weight (take f R)
unfolding weight
weight-front zero R h = weightless R h
weight-front (suc f) [] h = refl
weight-front (suc f) (x ∷ R) h = ap (λ (v : ℕ). nonzero x + v) (weight-front f R (λ k l. h (suc k) (omega arith)))

-- a word that agrees with y outside the run differs from it inside only
pub changed_inside : (s f : ℕ) (y c : List ℕ) → length c ≡ length y → ((i : ℕ) → i < length y → Outside s f i → get_or y i 0 ≡ get_or c i 0) → changed_in s f y c ≡ distance y c
unfolding distance
changed_inside zero zero [] [] e h = refl
changed_inside zero (suc f) [] [] e h = refl
changed_inside (suc s) zero [] [] e h = refl
changed_inside (suc s) (suc f) [] [] e h = refl
changed_inside s f [] (z ∷ c) e h = absurd (omega arith)
changed_inside s f (x ∷ y) [] e h = absurd (omega arith)
changed_inside (suc s) f (x ∷ y) (z ∷ c) e h =
    rw (eq-eqb x z (h 0 (omega arith) (inl (omega arith))))
    (omega (arith, changed_inside s f y c (suc_inj e) (λ i l o. h (suc i) (omega arith) (⊎_elim (λ m. inl (omega arith)) (λ m. inr (omega arith)) o))))
changed_inside zero zero (x ∷ y) (z ∷ c) e h =
    rw (eq-eqb x z (h 0 (omega arith) (inr (omega arith))))
    (omega (arith, changed_inside 0 0 y c (suc_inj e) (λ i l o. h (suc i) (omega arith) (inr (omega arith)))))
changed_inside zero (suc f) (x ∷ y) (z ∷ c) e h =
    ap (λ (w : ℕ). pick (eqb x z) 0 1 + w)
    (changed_inside 0 f y c (suc_inj e) (λ i l o. h (suc i) (omega arith) (⊎_elim (λ m. inl (omega arith)) (λ m. inr (omega arith)) o)))

-- words that differ in at most one cell agree outside a run of one cell
pub one_cell : (y c : List ℕ) → length c ≡ length y → 0 < length y → distance y c ≤ 1
    → (s : ℕ) × (s < length y) × ((i : ℕ) → i < length y → Outside s 1 i → get_or y i 0 ≡ get_or c i 0)
unfolding distance
one_cell [] c e l d = absurd (omega arith)
one_cell (x ∷ y) [] e l d = absurd (omega arith)
one_cell (x ∷ []) (z ∷ c) e l d = (0, omega arith, λ i m o. absurd (⊎_elim (λ k. omega arith) (λ k. omega arith) o))
one_cell (x ∷ (u ∷ y)) (z ∷ c) e l d =
    ⊎_elim
    (λ t.
    let k = one_cell (u ∷ y) c (suc_inj e) (omega arith) (let q : 0 + distance (u ∷ y) c ≤ 1 = rw t at d in omega arith) in
    (suc k.0, omega (arith, k.1), behind k.0 (eqb-true x z t) k.2))
    (λ t.
    let q : 1 + distance (u ∷ y) c ≤ 1 = rw t at d in
    (0, omega arith, first (sym (distance-same (u ∷ y) c (sym (suc_inj e)) (omega arith)))))
    (true_or_false (eqb x z))
  where
    behind : (s : ℕ) → x ≡ z → ((i : ℕ) → i < length (u ∷ y) → Outside s 1 i → get_or (u ∷ y) i 0 ≡ get_or c i 0)
        → (i : ℕ) → i < length (x ∷ (u ∷ y)) → Outside (suc s) 1 i → get_or (x ∷ (u ∷ y)) i 0 ≡ get_or (z ∷ c) i 0
    behind s q h zero m o = q
    behind s q h (suc i) m o = h i (le_of_suc-le-suc m) (⊎_elim (λ k. inl (omega arith)) (λ k. inr (omega arith)) o)

    first : c ≡ u ∷ y → (i : ℕ) → i < length (x ∷ (u ∷ y)) → Outside 0 1 i → get_or (x ∷ (u ∷ y)) i 0 ≡ get_or (z ∷ c) i 0
    first q zero m o = absurd (⊎_elim (λ k. omega arith) (λ k. omega arith) o)
    first q (suc i) m o = ap (λ (t : List ℕ). get_or t i 0) (sym q)

-- one cell more
pub weight-next : (i : ℕ) (R : List ℕ) → i < length R → weight (take (suc i) R) ≡ weight (take i R) + nonzero (get_or R i 0)
unfolding weight
weight-next i [] l = absurd (omega arith)
weight-next zero (x ∷ R) l = omega arith
weight-next (suc i) (x ∷ R) l = let h : weight (take (suc i) R) ≡ weight (take i R) + nonzero (get_or R i 0) = weight-next i R (le_of_suc-le-suc l) in omega arith
