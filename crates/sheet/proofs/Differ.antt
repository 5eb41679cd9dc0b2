-- When two lists differ: `differ` is what it says.
use mathlib.Core.Path.{◌≡◌, refl, sym, ap, ap₂, ◌∙◌}
use mathlib.Core.Logic.{◌↔◌, ◌≢◌, ⊎_elim}
use mathlib.Core.Bool.{true, false}
use mathlib.Core.List.{List, [], ◌∷◌}
use Prim.Native.Nat.{ℕ}
use lib.Dec.{eqb}
use borrow.Author.Tests.{eq-eqb, ne_eqb, eqb-true}
use Rattle.std.specs.Prelude.{not}
use Rattle.std.specs.Int.{from_bool}
use Rattle.lists.specs.Choice.{pick}
use Rattle.lists.proofs.Test.{zero_or, true_or_false, true_false}
use Rattle.sheet.specs.Sheet.{differ}
use Rattle.sheet.specs.Theorems.{DifferIff}

pub differ_self : (c : List ℕ) → differ c c ≡ false
unfolding differ
differ_self [] = refl
differ_self (x ∷ c) = rw (eq-eqb x x refl) (differ_self c)

pub differ_same : (c d : List ℕ) → differ c d ≡ false → c ≡ d
unfolding differ
differ_same [] [] h = refl
differ_same [] (y ∷ d) h = absurd (true_false refl h)
differ_same (x ∷ c) [] h = absurd (true_false refl h)
differ_same (x ∷ c) (y ∷ d) h =
    ⊎_elim (λ e. ap₂ (λ (z : ℕ) (l : List ℕ). z ∷ l) (eqb-true x y e) (differ_same c d (rw e at h)))
    (λ e. absurd (true_false refl (rw e at h))) (true_or_false (eqb x y))

pub differ-not : (c d : List ℕ) → c ≢ d → differ c d ≡ true
differ-not c d n = ⊎_elim (λ e. e) (λ e. absurd (n (differ_same c d e))) (true_or_false (differ c d))

pub differ_iff : DifferIff
differ_iff c d = (
  ((λ e q. true_false e (ap (differ c) (sym q) ∙ differ_self c)), differ-not c d),
  (differ_same c d, (λ q. ap (differ c) (sym q) ∙ differ_self c)),
)

-- a number that is 0 exactly where the lists are the same tells whether they differ
pub differ-number : (k : ℕ) (c d : List ℕ) → (k ≡ 0) ↔ (c ≡ d) → ◌≡◌ {A = ℕ} (from_bool (not (eqb k 0))) (pick (differ c d) 1 0)
differ-number k c d h = ⊎_elim (λ z. rw (eq-eqb k 0 z, (differ_iff c d).1.1 (h.0 z))) (λ z. rw (ne_eqb k 0 z, differ-not c d (λ e. z (h.1 e)))) (zero_or k)
