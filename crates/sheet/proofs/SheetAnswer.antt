-- What the reader answers: all blocks corrected, or the first that is not. By recursion on the number of blocks left.
use mathlib.Core.Path.{◌≡◌, refl, sym, ap, ap₂, ◌∙◌}
use mathlib.Core.Logic.{◌⊎◌, inl, inr, ⊎_elim}
use mathlib.Core.Bool.{Bool, true, false}
use mathlib.Core.List.{List}
use Rattle.std.specs.Prelude.{Ok, Err}
use Rattle.std.specs.Result.{is_ok}
use Prim.Native.Nat.{ℕ, zero, suc, ◌+◌, ◌<◌, zero-le, suc-le-suc}
use native.Mathlib.Nat.{not-suc-le-zero, le_of_suc-le-suc, eq-or-lt_of_le, add_assoc}
use native.Mathlib.Omega.{arith}
use Rattle.lists.specs.Sum.{sum}
use Rattle.lists.proofs.Test.{true_or_false}
use Rattle.lists.proofs.Sum.{same_sum}
use Rattle.profile.specs.declared.Profile.{Profile}
use Rattle.sheet.specs.declared.Mode.{Mode}
use Rattle.block.specs.Numbers.{Verdict}
use Rattle.block.specs.declared.numbers.Refusal.{Refusal}
use Rattle.sheet.specs.declared.Refusal.TheVariants.{Block}
use Rattle.sheet.specs.Numbers.{Reading}
use Rattle.sheet.specs.Sheet.{block_verdict, unless_refused, changed_at, answer_from, sheet_answer}

-- a test is true of every number below n, or there is a first of which it is false
pub first_false : (f : ℕ → Bool) (n : ℕ)
    → ((i : ℕ) → i < n → f i ≡ true) ⊎ ((d : ℕ) × (d < n) × ((i : ℕ) → i < d → f i ≡ true) × (f d ≡ false))
first_false f zero = inl (λ i l. absurd (not-suc-le-zero l))
first_false f (suc n) =
    ⊎_elim
    (λ a. ⊎_elim (λ t. inl (λ i l. ⊎_elim (λ e. ap f e ∙ t) (λ k. a i k) (eq-or-lt_of_le (le_of_suc-le-suc l)))) (λ t. inr (n, omega arith, a, t)) (true_or_false (f n)))
    (λ z. inr (z.0, omega (arith, z.1), z.2, z.3)) (first_false f n)

-- where a block is not refused, the rest answers
not-refused : (v : Verdict) (d : ℕ) (rest : Reading) → is_ok v ≡ true → unless_refused v d rest ≡ rest
not-refused (Ok c) d rest t = refl
not-refused (Err e) d rest t = absurd (cc)

module _ (mode : Mode) (p : Profile) (sheet : List ℕ) where
  abbrev fine : ℕ → Bool
  fine d = is_ok (block_verdict mode p sheet d)

  -- one block more
  pub answer_on : (left d changed : ℕ) → fine d ≡ true → answer_from mode p sheet (suc left) d changed ≡ answer_from mode p sheet left (suc d) (changed + changed_at mode p sheet d)
  unfolding answer_from
  answer_on left d changed t = not-refused (block_verdict mode p sheet d) d (answer_from mode p sheet left (suc d) (changed + changed_at mode p sheet d)) t

  pub answer_stop : (left d changed : ℕ) (e : Refusal) → block_verdict mode p sheet d ≡ Err e → answer_from mode p sheet (suc left) d changed ≡ Err (Block d (Err e))
  unfolding answer_from
  answer_stop left d changed e q = rw q

  pub answer-end : (d changed : ℕ) → answer_from mode p sheet 0 d changed ≡ Ok changed
  unfolding answer_from
  answer-end d changed = refl

  all_from : (left d changed : ℕ) → ((i : ℕ) → i < left → fine (d + i) ≡ true)
      → answer_from mode p sheet left d changed ≡ Ok (changed + sum left (λ (i : ℕ). changed_at mode p sheet (d + i)))
  unfolding sum
  all_from zero d changed h = answer-end d changed ∙ ap (λ (n : ℕ). Ok n) (omega arith)
  all_from (suc left) d changed h =
      answer_on left d changed (ap fine (omega arith) ∙ h 0 (suc-le-suc zero-le))
      ∙ all_from left (suc d) (changed + changed_at mode p sheet d) (λ i l. ap fine (omega arith) ∙ h (suc i) (suc-le-suc l))
      ∙ ap (λ (n : ℕ). Ok n)
      (add_assoc changed (changed_at mode p sheet d) _
      ∙ ap (λ (x : ℕ). changed + x)
      (ap₂ (λ (a b : ℕ). a + b) (ap (changed_at mode p sheet) (omega arith)) (same_sum left _ _ (λ i l. ap (changed_at mode p sheet) (omega arith)))))

  first-from : (i left d changed : ℕ) (r : Refusal) → i < left → ((j : ℕ) → j < i → fine (d + j) ≡ true) → block_verdict mode p sheet (d + i) ≡ Err r
      → answer_from mode p sheet left d changed ≡ Err (Block (d + i) (Err r))
  first-from i zero d changed r l h t = absurd (not-suc-le-zero l)
  first-from zero (suc left) d changed r l h t =
      let e : d + 0 ≡ d = omega arith in
      rw e (answer_stop left d changed r (rw e at t))
  first-from (suc i) (suc left) d changed r l h t =
      let e : d + suc i ≡ suc d + i = omega arith in
      let z : d + 0 ≡ d = omega arith in
      answer_on left d changed (ap fine (sym z) ∙ h 0 (suc-le-suc zero-le))
      ∙ rw e
      (first-from i left (suc d) (changed + changed_at mode p sheet d) r (le_of_suc-le-suc l) (λ j k. ap fine (omega arith) ∙ h (suc j) (suc-le-suc k)) (rw e at t))

  pub all_accepted : ((d : ℕ) → d < p.depth → fine d ≡ true) → sheet_answer mode p sheet ≡ Ok (sum p.depth (changed_at mode p sheet))
  unfolding sheet_answer
  all_accepted h =
      let z : 0 + sum p.depth (λ (i : ℕ). changed_at mode p sheet (0 + i)) ≡ sum p.depth (λ (i : ℕ). changed_at mode p sheet (0 + i)) = omega arith in
      all_from p.depth 0 0 (λ i l. ap fine (omega arith) ∙ h i l)
      ∙ ap (λ (n : ℕ). Ok n) (z ∙ same_sum p.depth _ _ (λ i l. ap (changed_at mode p sheet) (omega arith)))

  pub first-refused : (d : ℕ) (r : Refusal) → d < p.depth → ((e : ℕ) → e < d → fine e ≡ true) → block_verdict mode p sheet d ≡ Err r → sheet_answer mode p sheet ≡ Err (Block d (Err r))
  unfolding sheet_answer
  first-refused d r l h t =
      let z : 0 + d ≡ d = omega arith in
      rw z at (first-from d p.depth 0 0 r l (λ j k. ap fine (omega arith) ∙ h j k) (rw (sym z) at t))
