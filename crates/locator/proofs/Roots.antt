-- The roots among the n cells: distinct, rising, all of them, and no more than the locator's size.
use mathlib.Core.Path.{◌≡◌, refl, sym, ap, ◌∙◌}
use mathlib.Core.Logic.{⊎_elim}
use mathlib.Core.Bool.{true, false}
use mathlib.Core.List.{List, [], ◌∷◌}
use Prim.Native.Nat.{ℕ, zero, suc, ◌+◌, ◌≤◌, ◌<◌}
use native.Mathlib.Nat.{le_of_suc-le-suc, eq-or-lt_of_le}
use native.Mathlib.Omega.{arith}
use lib.Dec.{eqb}
use lib.ListN.{length, get_or}
use borrow.Author.Tests.{eqb-true, eq-eqb, ne_eqb}
use Rattle.lists.proofs.Test.{true_or_false, true_false, lt-or_ge}
use Rattle.field.specs.Field.{alpha}
use Rattle.code.specs.Poly.{eval}
use Rattle.erasure.specs.Erasure.{among, DistinctPlaces}
use Rattle.erasure.proofs.Roots.{root_bound, among-here}
use Rattle.locator.specs.Locator.{Recursion, massey, mirrored, locator, roots_from, locations}
use Rattle.locator.proofs.Recursion.{Sound, mirrored-length, mirrored-bytes, mirrored-zero}

-- ---- roots

among_none : (j : ℕ) → among j [] ≡ true → ⊥
unfolding among
among_none j t = true_false t refl

among_off : (k j : ℕ) (E : List ℕ) → j < k → among j E ≡ false → among j (k ∷ E) ≡ false
unfolding among
among_off k j E l t = let f : eqb k j ≡ false = ne_eqb k j (λ p. omega arith) in rw f t

pub roots_above : (P : List ℕ) (n k j : ℕ) → j < k → among j (roots_from P n k) ≡ false
unfolding roots_from among
roots_above P zero k j h = refl
roots_above P (suc n) k j h =
    ⊎_elim (λ t. rw t (among_off k j (roots_from P n (suc k)) h (roots_above P n (suc k) j (omega arith))))
    (λ t. rw t (roots_above P n (suc k) j (omega arith))) (true_or_false (eqb (eval P (alpha k)) 0))

pub roots_places : (P : List ℕ) (m n k : ℕ) → k + n ≤ m → DistinctPlaces m (roots_from P n k)
unfolding roots_from
roots_places P m zero k h = tt
roots_places P m (suc n) k h =
    ⊎_elim (λ t. rw t (omega arith, roots_above P n (suc k) k (omega arith), roots_places P m n (suc k) (omega arith)))
    (λ t. rw t (roots_places P m n (suc k) (omega arith))) (true_or_false (eqb (eval P (alpha k)) 0))

-- so the locations are distinct cells
pub locations-places : (M m n : ℕ) (s : List ℕ) → n ≤ m → DistinctPlaces m (locations M n s)
unfolding locations
locations-places M m n s h = roots_places (locator (massey M s)) m n 0 (omega arith)

-- every root is there
pub roots_all : (P : List ℕ) (n k j : ℕ) → k ≤ j → j < k + n → eval P (alpha j) ≡ 0 → among j (roots_from P n k) ≡ true
unfolding roots_from among
roots_all P zero k j a b e = absurd (omega arith)
roots_all P (suc n) k j a b e =
    ⊎_elim
    (λ q. let t : eqb (eval P (alpha k)) 0 ≡ true = eq-eqb (eval P (alpha k)) 0 (ap (λ (i : ℕ). eval P (alpha i)) q ∙ e) in
    rw t (rw (eq-eqb k j q) refl))
    (λ q. ⊎_elim
    (λ t. rw t (let f : eqb k j ≡ false = ne_eqb k j (λ p. omega arith) in rw f (roots_all P n (suc k) j q (omega arith) e)))
    (λ t. rw t (roots_all P n (suc k) j q (omega arith) e))
    (true_or_false (eqb (eval P (alpha k)) 0)))
    (eq-or-lt_of_le a)

-- nothing else is
pub roots_are : (P : List ℕ) (n k j : ℕ) → among j (roots_from P n k) ≡ true → eval P (alpha j) ≡ 0
unfolding roots_from among
roots_are P zero k j t = absurd (true_false t refl)
roots_are P (suc n) k j t =
    ⊎_elim
    (λ z. let u : among j (k ∷ roots_from P n (suc k)) ≡ true = rw z at t in
    ⊎_elim (λ q. ap (λ (i : ℕ). eval P (alpha i)) (sym (eqb-true k j q)) ∙ eqb-true (eval P (alpha k)) 0 z)
    (λ q. let v : among j (roots_from P n (suc k)) ≡ true = rw q at u in roots_are P n (suc k) j v) (true_or_false (eqb k j)))
    (λ z. let u : among j (roots_from P n (suc k)) ≡ true = rw z at t in roots_are P n (suc k) j u)
    (true_or_false (eqb (eval P (alpha k)) 0))

-- the first is the lowest
pub roots_lowest : (P : List ℕ) (n k j : ℕ) → among j (roots_from P n k) ≡ true → (among (get_or (roots_from P n k) 0 0) (roots_from P n k) ≡ true) × (get_or (roots_from P n k) 0 0 ≤ j)
unfolding roots_from
roots_lowest P zero k j t = absurd (among_none j t)
roots_lowest P (suc n) k j t =
    ⊎_elim
    (λ z. rw z (
      among-here k (roots_from P n (suc k)),
      ⊎_elim (λ l. absurd (true_false t (rw z (among_off k j (roots_from P n (suc k)) l (roots_above P n (suc k) j (omega arith)))))) (λ l. l) (lt-or_ge j k),
    ))
    (λ z. let u : among j (roots_from P n (suc k)) ≡ true = rw z at t in rw z (roots_lowest P n (suc k) j u))
    (true_or_false (eqb (eval P (alpha k)) 0))

-- at most as many as the size
pub roots_few : (h b n : ℕ) (T : List ℕ) (k : Recursion) → n ≤ 255 → Sound h b T k → length (roots_from (locator k) n 0) ≤ k.size
unfolding locator
roots_few h b n T k hn g =
    let P : List ℕ = mirrored k.size k.connection in
    let E : List ℕ = roots_from P n 0 in
    ⊎_elim (λ l. le_of_suc-le-suc l)
    (λ l. absurd (g.head (mirrored-zero k.size k.connection
    (root_bound n E P hn (roots_places P n n 0 (omega arith)) (mirrored-bytes k.size k.connection g.cb) (roots_are P n 0) (omega (arith, mirrored-length k.size k.connection))))))
    (lt-or_ge (length E) (suc k.size))
