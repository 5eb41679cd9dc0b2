-- Words that differ: two words of one length are the same or not, and the lowest cell in which they differ is one only.
use mathlib.Core.Path.{◌≡◌, sym, ap, ◌∙◌}
use mathlib.Core.Logic.{◌≢◌, ◌⊎◌, inl, inr, ⊎_elim}
use mathlib.Core.List.{List}
use Prim.Native.Nat.{ℕ}
use native.Mathlib.Omega.{arith}
use lib.Dec.{eqb}
use lib.ListN.{length}
use borrow.Author.Tests.{eqb-true, eqb-false}
use Rattle.lists.proofs.Test.{true_or_false, lt-or_ge, zero_or}
use Rattle.code.specs.Code.{distance}
use Rattle.code.proofs.Distance.{distance_self, distance-same}
use Rattle.profile.specs.declared.Profile.{Profile}
use Rattle.spots.specs.Nearest.{LowestChanged}

pub same_or_not : (a b : ℕ) → (a ≡ b) ⊎ (a ≢ b)
same_or_not a b = ⊎_elim (λ t. inl (eqb-true a b t)) (λ t. inr (eqb-false a b t)) (true_or_false (eqb a b))

-- two words of one length are the same or not
pub word-or-not : (c d : List ℕ) → length c ≡ length d → (c ≡ d) ⊎ (c ≢ d)
word-or-not c d e =
    ⊎_elim (λ q. inl (distance-same c d e q)) (λ n. inr (λ q. n (ap (distance c) (sym q) ∙ distance_self c))) (zero_or (distance c d))

-- the lowest cell in which two words differ is one only
pub lowest_one : (p : Profile) (y c : List ℕ) (i j : ℕ) → length c ≡ length y → LowestChanged p y i c → LowestChanged p y j c → i ≡ j
lowest_one p y c i j e a b =
    ⊎_elim (λ q. a.clean q ∙ sym (b.clean q))
    (λ n. ⊎_elim (λ l. absurd ((a.differs n).1 (b.below i l))) (λ l. ⊎_elim (λ m. absurd ((b.differs n).1 (a.below j m))) (λ m. omega arith) (lt-or_ge j i)) (lt-or_ge i j))
    (word-or-not c y e)
