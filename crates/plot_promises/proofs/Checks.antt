-- Checks that are made in turn. A choice by tests in turn answers by the first check that fails, or goes on where all hold: for the checks of a record, of an added
-- plot and of a line alike, by induction along them.
use mathlib.Core.Path.{◌≡◌, refl, sym, subst, ◌∙◌}
use mathlib.Core.Logic.{◌⊎◌, ◌↔◌, ◌≢◌, inl, inr, ⊎_elim}
use mathlib.Core.Bool.{Bool, true, false, not}
use mathlib.Core.List.{List, [], ◌∷◌, ◌++◌}
use Prim.Native.Nat.{ℕ, ◌<◌, ◌≤◌}
use native.Mathlib.Omega.{arith}
use lib.Dec.{ltb, leb, eqb}
use borrow.Author.Tests.{ltb-true, ltb-false, leb-true, leb-false, eqb-true, eqb-false, not-true, not-false}
use Rattle.lists.specs.Choice.{pick}
use Rattle.lists.proofs.Test.{true_or_false, true_false}
use Rattle.plot_promises.specs.Checks.{Check, ◌unless◌, FirstFails, NoneFails}

-- the first check that fails is one, and then not all hold
pub first_one : (checks : List Check) (j k : ℕ) → FirstFails checks j → FirstFails checks k → j ≡ k
first_one [] j k a b = absurd a
first_one ((n unless A) ∷ checks) j k (inl a) (inl b) = a.1 ∙ sym b.1
first_one ((n unless A) ∷ checks) j k (inl a) (inr b) = absurd (a.0 b.0)
first_one ((n unless A) ∷ checks) j k (inr a) (inl b) = absurd (b.0 a.0)
first_one ((n unless A) ∷ checks) j k (inr a) (inr b) = first_one checks j k a.1 b.1

pub not-both : (checks : List Check) (k : ℕ) → FirstFails checks k → NoneFails checks → ⊥
not-both [] k a b = a
not-both ((n unless A) ∷ checks) k (inl a) b = a.0 b.0
not-both ((n unless A) ∷ checks) k (inr a) b = not-both checks k a.1 b.1

-- what holds of each number holds of that of the first check that fails
abbrev pub EachNumber : (ℕ → Type 0) → List Check → Type 0
EachNumber Q [] = Unit {0}
EachNumber Q ((n unless A) ∷ checks) = Q n × EachNumber Q checks

pub first_of : (Q : ℕ → Type 0) (checks : List Check) (k : ℕ) → EachNumber Q checks → FirstFails checks k → Q k
first_of Q [] k q a = absurd a
first_of Q ((n unless A) ∷ checks) k q (inl a) = subst Q (sym a.1) q.0
first_of Q ((n unless A) ∷ checks) k q (inr a) = first_of Q checks k q.1 a.1

-- checks after checks
pub first-before : (checks more : List Check) (k : ℕ) → FirstFails checks k → FirstFails (checks ++ more) k
first-before [] more k a = absurd a
first-before ((n unless A) ∷ checks) more k (inl a) = inl a
first-before ((n unless A) ∷ checks) more k (inr a) = inr (a.0, first-before checks more k a.1)

pub first-after : (checks more : List Check) (k : ℕ) → NoneFails checks → FirstFails more k → FirstFails (checks ++ more) k
first-after [] more k a f = f
first-after ((n unless A) ∷ checks) more k a f = inr (a.0, first-after checks more k a.1 f)

pub all_after : (checks more : List Check) → NoneFails checks → NoneFails more → NoneFails (checks ++ more)
all_after [] more a b = b
all_after ((n unless A) ∷ checks) more a b = (a.0, all_after checks more a.1 b)

-- a check with its test, true where the check fails, and what is answered then; `P` says what an answer has to do with the number of the check
module _ {A : Type 0} (P : A → ℕ → Type 0) where
  pub record Tested : Type 1 where
    pub number : ℕ
    pub holds : Type 0
    pub test : Bool
    pub answer : A
    pub fails : test ≡ true → holds → ⊥
    pub passes : test ≡ false → holds
    pub answers : P answer number

  -- the tests that are made
  module _ (number : ℕ) (answer : A) (answers : P answer number) where
    abbrev pub unless_true : (t : Bool) (B : Type 0) → (t ≡ true) ↔ B → Tested
    unless_true t B iff = record {
      number = number;
      holds = B;
      test = not t;
      answer = answer;
      answers = answers;
      fails = λ e h. true_false (iff.1 h) (not-true t e);
      passes = λ e. iff.0 (not-false t e);
    }

    abbrev pub unless_less : (x y : ℕ) → Tested
    unless_less x y = record {
      number = number;
      holds = y ≤ x;
      test = ltb x y;
      answer = answer;
      answers = answers;
      fails = λ e h. omega (arith, ltb-true x y e);
      passes = ltb-false x y;
    }

    abbrev pub unless_most : (x y : ℕ) → Tested
    unless_most x y = record {
      number = number;
      holds = y < x;
      test = leb x y;
      answer = answer;
      answers = answers;
      fails = λ e h. omega (arith, leb-true x y e);
      passes = leb-false x y;
    }

    abbrev pub unless_zero : (x : ℕ) → Tested
    unless_zero x = record {
      number = number;
      holds = x ≢ 0;
      test = eqb x 0;
      answer = answer;
      answers = answers;
      fails = λ e h. h (eqb-true x 0 e);
      passes = eqb-false x 0;
    }

  abbrev pub checks_of : List Tested → List Check
  checks_of [] = []
  checks_of (t ∷ ts) = (t.number unless t.holds) ∷ checks_of ts

  -- the answer of the first that fails, else `onward`
  abbrev pub choice : List Tested → A → A
  choice [] onward = onward
  choice (t ∷ ts) onward = pick t.test t.answer (choice ts onward)

  pub chosen : (ts : List Tested) (onward : A)
      → ((k : ℕ) × FirstFails (checks_of ts) k × P (choice ts onward) k) ⊎ (NoneFails (checks_of ts) × (choice ts onward ≡ onward))
  chosen [] onward = inr (tt, refl)
  chosen (t ∷ ts) onward =
      ⊎_elim
      (λ e. inl (t.number, inl (t.fails e, refl), (rw e t.answers)))
      (λ e.
      ⊎_elim
      (λ a. inl (a.0, inr (t.passes e, a.1), (rw e a.2)))
      (λ b. inr ((t.passes e, b.0), (rw e b.1)))
      (chosen ts onward))
      (true_or_false t.test)
