-- Filling by points is the filled word: the places are distinct, so that each value is added once, to the cell at its place.
use mathlib.Core.Path.{◌≡◌, refl, sym, ap, ◌∙◌, subst}
use mathlib.Core.Logic.{⊎_elim}
use mathlib.Core.Bool.{false}
use mathlib.Core.List.{List, [], ◌∷◌, map}
use Prim.Native.Nat.{ℕ, ◌<◌}
use native.Mathlib.Omega.{arith}
use lib.Dec.{eqb}
use lib.ListN.{length, get_or, set, length-map, length-set}
use lib.Seq.{take_all, get_or-set_same, get_or-set_other, ext_get_or}
use borrow.Author.Tests.{eqb-true, eqb-false}
use Rattle.lists.specs.Choice.{pick}
use Rattle.lists.proofs.Test.{true_or_false}
use Rattle.field.specs.Field.{add, alpha}
use Rattle.field.proofs.Sum.{add_zero_r}
use Rattle.code.specs.Poly.{padd}
use Rattle.code.proofs.Poly.{get_or_padd, padd-length}
use Rattle.erasure.specs.Filling.{value_at, laid_at, filled_at}
use Rattle.erasure.specs.Erasure.{among, DistinctPlaces, syndromes, rooted, error_cell, error_word, filled_word}
use Rattle.erasure.specs.Theorems.{FilledByPoints}
use Rattle.erasure.proofs.Fill.{error-length, error-at}

laid-length : (E vs y : List ℕ) → length (laid_at E vs y) ≡ length y
unfolding laid_at
laid-length [] vs y = refl
laid-length (m ∷ E) [] y = refl
laid-length (m ∷ E) (v ∷ vs) y = laid-length E vs (set y m (add (get_or y m 0) v)) ∙ length-set y m (add (get_or y m 0) v)

laid-at : (n : ℕ) (f : ℕ → ℕ) (E y : List ℕ) (k : ℕ) → DistinctPlaces n E → length y ≡ n
    → get_or (laid_at E (map f (map alpha E)) y) k 0 ≡ add (get_or y k 0) (pick (among k E) (f (alpha k)) 0)
unfolding laid_at among
laid-at n f [] y k p l = sym (add_zero_r (get_or y k 0))
laid-at n f (m ∷ E) y k p l =
    let v : ℕ = add (get_or y m 0) (f (alpha m)) in
    let mn : m < n = p.0 in
    laid-at n f E (set y m v) k p.2 (length-set y m v ∙ l)
    ∙ ⊎_elim
    (λ q. let e : m ≡ k = eqb-true m k q in
    let off : among k E ≡ false = subst (λ (i : ℕ). among i E ≡ false) e p.1 in
    rw (q, off) (add_zero_r (get_or (set y m v) k 0)
    ∙ subst (λ (i : ℕ). get_or (set y m v) i 0 ≡ add (get_or y i 0) (f (alpha i))) e (get_or-set_same y m v 0 (omega arith))))
    (λ q. rw q (ap (λ (w : ℕ). add w (pick (among k E) (f (alpha k)) 0)) (get_or-set_other y m k v 0 (λ e. eqb-false m k q (sym e)))))
    (true_or_false (eqb m k))

pub filled_by_points : FilledByPoints
unfolding filled_at filled_word error_cell
filled_by_points b r E y l p =
    let s : List ℕ = syndromes b r y in
    let e : List ℕ = error_word (length y) b E s in
    let vs : List ℕ = map (value_at b (rooted E) s) (map alpha E) in
    rw (take_all 63 E l, take_all 63 (map alpha E) (omega (arith, length-map E alpha)))
    (ext_get_or 0 (laid_at E vs y) (padd y e) (laid-length E vs y ∙ sym (padd-length y e (omega (arith, error-length (length y) b E s))))
    (λ k h. laid-at (length y) (value_at b (rooted E) s) E y k p refl
    ∙ sym (get_or_padd y e k ∙ ap (add (get_or y k 0)) (error-at (length y) b E s k (omega (arith, laid-length E vs y))))))
