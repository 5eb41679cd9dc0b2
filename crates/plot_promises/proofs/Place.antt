-- What stands at a place of the payload, by document 01's checks before the lines: zeros to the end, a fault, or a record that passes them all.
-- Each test is the check that specs/Checks.antt states, so that the choice by tests is the first check that fails.
use mathlib.Core.Path.{◌≡◌, refl}
use mathlib.Core.Logic.{◌↔◌, ◌≢◌, ⊎_elim}
use mathlib.Core.Bool.{true, false}
use mathlib.Core.List.{List, [], ◌∷◌}
use Prim.Native.Nat.{ℕ, zero, suc, zero-le, suc-le-suc, ◌+◌, ◌<◌}
use native.Mathlib.Nat.{not-suc-le-zero, le_of_suc-le-suc}
use Rattle.std.specs.Prelude.{Some, None, Ok, Err}
use lib.ListN.{length, get_or}
use lib.Dec.{eqb}
use borrow.Author.Tests.{eq-eqb, ne_eqb, eqb-true, eqb-false}
use Rattle.lists.proofs.Test.{true_or_false, true_false}
use Rattle.plot.specs.declared.Refusal.{Refusal}
use Rattle.plot.specs.declared.Refusal.TheVariants.{BadMark, CutShort}
use Rattle.plot.specs.declared.Record.{Record}
use Rattle.plot.specs.Layout.{mark, header_length, plot_of, count_of, record_length}
use Rattle.plot_promises.specs.Checks.{NoneFails, Marked, header_checks, Zeros, FaultAt, in_zeros, in_record}
use Rattle.plot.specs.Grammar.{Step, all_zero, agree, outside_line, head_at, step_at}
use Rattle.plot.specs.Numbers.{number_of, place_of}
use Rattle.plot_promises.proofs.Checks.{Tested, unless_true, unless_less, unless_zero, chosen}
use Rattle.plot_promises.proofs.Refusals.{NoLine, AnswerRefuses, refuse}
use Rattle.plot_promises.proofs.Lines.{pick_true}

-- the mark, as far as both go
pub agree_iff : (ms s : List ℕ) → (agree ms s ≡ true) ↔ ((i : ℕ) → i < length s → i < length ms → get_or s i 0 ≡ get_or ms i 0)
unfolding agree
agree_iff [] s = (λ e i a b. absurd (not-suc-le-zero b), λ h. refl)
agree_iff (m ∷ ms) [] = (λ e i a b. absurd (not-suc-le-zero a), λ h. refl)
agree_iff (m ∷ ms) (x ∷ s) = (
  (λ e. let a = pick_true (eqb x m) (agree ms s) e in each (eqb-true x m a.0) ((agree_iff ms s).0 a.1)),
  (λ h. rw (eq-eqb x m (h 0 (suc-le-suc zero-le) (suc-le-suc zero-le))) ((agree_iff ms s).1 (λ i a b. h (suc i) (suc-le-suc a) (suc-le-suc b)))),
)
  where
    each : x ≡ m → ((i : ℕ) → i < length s → i < length ms → get_or s i 0 ≡ get_or ms i 0)
        → (i : ℕ) → i < length (x ∷ s) → i < length (m ∷ ms) → get_or (x ∷ s) i 0 ≡ get_or (m ∷ ms) i 0
    each e h zero a b = e
    each e h (suc i) a b = h i (le_of_suc-le-suc a) (le_of_suc-le-suc b)

pub zeros_iff : (s : List ℕ) → (all_zero s ≡ true) ↔ Zeros s
unfolding all_zero
zeros_iff [] = (λ e i a. absurd (not-suc-le-zero a), λ h. refl)
zeros_iff (x ∷ s) = (
  (λ e. let a = pick_true (eqb x 0) (all_zero s) e in each (eqb-true x 0 a.0) ((zeros_iff s).0 a.1)),
  (λ h. rw (eq-eqb x 0 (h 0 (suc-le-suc zero-le))) ((zeros_iff s).1 (λ i a. h (suc i) (suc-le-suc a)))),
)
  where
    each : x ≡ 0 → Zeros s → Zeros (x ∷ s)
    each e h zero a = e
    each e h (suc i) a = h i (le_of_suc-le-suc a)

module _ (at : ℕ) (s : List ℕ) where
  -- a step that is refused here
  abbrev pub StepRefuses : Step → ℕ → Type 0
  StepRefuses = AnswerRefuses at

  abbrev head_tests : List (Tested StepRefuses)
  head_tests =
      unless_true StepRefuses 5 (Err (BadMark at)) (refuse at (BadMark at) refl (refl, refl)) (agree mark s) (Marked s) (agree_iff mark s)
      ∷ unless_less StepRefuses 6 (Err (CutShort at)) (refuse at (CutShort at) refl (refl, refl)) (length s) header_length
      ∷ unless_less StepRefuses 7 (Err (outside_line at)) (refuse at (outside_line at) refl (refl, refl)) 40 (count_of s)
      ∷ unless_less StepRefuses 6 (Err (CutShort at)) (refuse at (CutShort at) refl (refl, refl)) (length s) (record_length (count_of s))
      ∷ unless_zero StepRefuses 7 (Err (outside_line at)) (refuse at (outside_line at) refl (refl, refl)) (plot_of s)
      ∷ []

  abbrev pub record_here : Record
  record_here = record { lines = at + header_length; count = count_of s; next = record { at = at + record_length (count_of s); last = plot_of s } }

  -- what stands here
  pub data StepIs : Type 0 where
    ends : Zeros s → step_at at s ≡ Ok None → StepIs
    stops : (r : Refusal) → step_at at s ≡ Err r → place_of r ≡ at → NoLine r → FaultAt (header_checks s) s (number_of r) → StepIs
    goes_on : get_or s 0 0 ≢ 0 → NoneFails (header_checks s) → step_at at s ≡ Ok (Some record_here) → StepIs

  zero-tail : get_or s 0 0 ≡ 0 → all_zero s ≡ false → step_at at s ≡ Err (BadMark at)
  unfolding step_at
  zero-tail z e = rw (eq-eqb _ _ z, e)

  zero-end : get_or s 0 0 ≡ 0 → all_zero s ≡ true → step_at at s ≡ Ok None
  unfolding step_at
  zero-end z e = rw (eq-eqb _ _ z, e)

  zero-first : get_or s 0 0 ≡ 0 → StepIs
  zero-first z =
      ⊎_elim
      (λ e. ends ((zeros_iff s).0 e) (zero-end z e))
      (λ e. stops (BadMark at) (zero-tail z e) refl (refl, refl) (in_zeros z (λ h. true_false ((zeros_iff s).1 h) e) refl))
      (true_or_false (all_zero s))

  record_first : get_or s 0 0 ≢ 0 → StepIs
  unfolding step_at head_at
  record_first z =
      ⊎_elim
      (λ a.
      let r = a.2.0 in
      stops r (rw (ne_eqb _ _ z) a.2.1) a.2.2.place_is a.2.3
      (in_record z (rw a.2.2.number_is a.1)))
      (λ b. goes_on z b.0 (rw (ne_eqb _ _ z) b.1))
      (chosen StepRefuses head_tests (Ok (Some record_here)))

  pub step_is : StepIs
  step_is = ⊎_elim (λ e. zero-first (eqb-true _ _ e)) (λ e. record_first (eqb-false _ _ e)) (true_or_false (eqb (get_or s 0 0) 0))
