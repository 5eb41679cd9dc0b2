-- What stands at a place, exactly when, with the checks before the lines (SteppingExactly) and with all of them (MovingExactly): one of three cases, and each excludes the
-- others.
use mathlib.Core.Path.{◌≡◌, sym, ap, ap₂, subst, ◌∙◌}
use mathlib.Core.Logic.{◌≢◌}
use mathlib.Core.List.{List}
use Prim.Native.Nat.{ℕ, ◌+◌}
use Rattle.std.specs.Prelude.{Some, None, Ok, Err}
use lib.ListN.{get_or}
use Rattle.plot.specs.declared.Cursor.{Cursor}
use Rattle.plot.specs.declared.Record.{Record}
use Rattle.plot.specs.declared.Refusal.{Refusal}
use Rattle.plot.specs.Layout.{plot_of, count_of, record_length}
use Rattle.plot.specs.Grammar.{Step, step_at, record_at}
use Rattle.plot.specs.Numbers.{number_of, place_of}
use Rattle.plot.proofs.Records.{late-end, late_record}
use Rattle.plot_promises.specs.Checks.{Check, NoneFails, header_checks, record_checks, Zeros, FaultAt}
use Rattle.plot_promises.specs.Refusals.{StandsExactly, SteppingExactly, MovingExactly}
use Rattle.plot_promises.proofs.Place as place
use Rattle.plot_promises.proofs.Place.{record_here, StepIs, step_is}
use Rattle.plot_promises.proofs.Refusals.{NoLine}
use Rattle.plot_promises.proofs.Turn.{zeros-first, fault_one, not_zeros, not_record, RecordIs, nothing, fault, holds, record_is}

-- an answer is one of three, with these checks of a record
module _ (answer : Step) (checks : List Check) (at : ℕ) (s : List ℕ) where
  data AnswerIs : Type 0 where
    ends : Zeros s → answer ≡ Ok None → AnswerIs
    stops : (r : Refusal) → answer ≡ Err r → place_of r ≡ at → FaultAt checks s (number_of r) → AnswerIs
    goes_on : get_or s 0 0 ≢ 0 → NoneFails checks → answer ≡ Ok (Some (record_here at s)) → AnswerIs

  abbrev Passes : ℕ → ℕ → Cursor → Type 0
  Passes lines count next =
      (get_or s 0 0 ≢ 0) × NoneFails checks × (lines ≡ at + 5) × (count ≡ count_of s) × (next.at ≡ at + record_length (count_of s)) × (next.last ≡ plot_of s)

  abbrev made : ℕ → ℕ → Cursor → Record
  made lines count next = record { lines = lines; count = count; next = next }

  ended : AnswerIs → answer ≡ Ok None → Zeros s
  ended (ends z e) q = z
  ended (stops r e p k) q = absurd (cc)
  ended (goes_on z a e) q = absurd (cc)

  zeros-end : AnswerIs → Zeros s → answer ≡ Ok None
  zeros-end (ends z e) h = e
  zeros-end (stops r e p k) h = absurd (not_zeros checks s (number_of r) k h)
  zeros-end (goes_on z a e) h = absurd (z (zeros-first s h))

  passes : (lines count : ℕ) (next : Cursor) → AnswerIs → answer ≡ Ok (Some (made lines count next)) → Passes lines count next
  passes lines count next (ends z e) q = absurd (cc)
  passes lines count next (stops r e p k) q = absurd (cc)
  passes lines count next (goes_on z a e) q =
      let same : made lines count next ≡ record_here at s = cc in
      (z, a, ap (λ (r : Record). r.lines) same, ap (λ (r : Record). r.count) same, ap (λ (r : Record). r.next.at) same, ap (λ (r : Record). r.next.last) same)

  is_record : (lines count : ℕ) (next : Cursor) → AnswerIs → Passes lines count next → answer ≡ Ok (Some (made lines count next))
  is_record lines count next (ends z e) h = absurd (h.0 (zeros-first s z))
  is_record lines count next (stops r e p k) h = absurd (not_record checks s (number_of r) h.0 k h.1)
  is_record lines count next (goes_on z a e) h =
      let n : record { at = at + record_length (count_of s); last = plot_of s } ≡ next = ap₂ (λ (a l : ℕ). record { at = a; last = l }) (sym h.4) (sym h.5) in
      e ∙ ap (λ (k : ℕ). Ok (Some (made k (count_of s) (record { at = at + record_length (count_of s); last = plot_of s })))) (sym h.2)
      ∙ ap₂ (λ (k : ℕ) (d : Cursor). Ok (Some (made lines k d))) (sym h.3) n

  abbrev RefusedAt : ℕ → ℕ → Type 0
  RefusedAt number place = (r : Refusal) × (answer ≡ Err r) × (number_of r ≡ number) × (place_of r ≡ place)

  fault_is : (number place : ℕ) → AnswerIs → RefusedAt number place → FaultAt checks s number × (place ≡ at)
  fault_is number place (ends z e) h = absurd (let q : answer ≡ Err h.0 = h.1 in cc)
  fault_is number place (stops r e p k) h =
      let q : answer ≡ Err h.0 = h.1 in
      let is : h.0 ≡ r = cc in
      (subst (FaultAt checks s) (sym (ap number_of is) ∙ h.2) k, sym h.3 ∙ ap place_of is ∙ p)
  fault_is number place (goes_on z a e) h = absurd (let q : answer ≡ Err h.0 = h.1 in cc)

  is_fault : (number place : ℕ) → AnswerIs → FaultAt checks s number → place ≡ at → RefusedAt number place
  is_fault number place (ends z e) f q = absurd (not_zeros checks s number f z)
  is_fault number place (stops r e p k) f q = (r, e, fault_one checks s (number_of r) number k f, p ∙ sym q)
  is_fault number place (goes_on z a e) f q = absurd (not_record checks s number z f a)

  exactly : AnswerIs → StandsExactly answer checks at s
  exactly is = record {
    ends = (ended is, zeros-end is);
    goes_on = λ lines count next. (passes lines count next is, is_record lines count next is);
    refused = λ number place. (fault_is number place is, λ h. is_fault number place is h.0 h.1);
  }

-- what stands at a place names no line
pub stepping_no_line : (at : ℕ) (s : List ℕ) (r : Refusal) → step_at at s ≡ Err r → NoLine r
stepping_no_line at s r q = by_step (step_is at s)
  where
    by_step : StepIs at s → NoLine r
    by_step (place.ends z e) = absurd (cc)
    by_step (place.stops r' e p o k) =
        let is : r' ≡ r = cc in
        subst NoLine is o
    by_step (place.goes_on z a e) = absurd (cc)

pub stepping_exactly : (at : ℕ) (s : List ℕ) → SteppingExactly at s
stepping_exactly at s = exactly (step_at at s) (header_checks s) at s (by_step (step_is at s))
  where
    by_step : StepIs at s → AnswerIs (step_at at s) (header_checks s) at s
    by_step (place.ends z e) = ends z e
    by_step (place.stops r e p o k) = stops r e p k
    by_step (place.goes_on z a e) = goes_on z a e

pub moving_exactly : (at last : ℕ) (s : List ℕ) → MovingExactly at last s
moving_exactly at last s = exactly (record_at at last s) (record_checks last s) at s (by_record (record_is at last s))
  where
    by_record : RecordIs at last s → AnswerIs (record_at at last s) (record_checks last s) at s
    by_record (nothing z e) = ends z (sym (late-end at last s e))
    by_record (fault r e p l y) = stops r e p y
    by_record (holds z a e g o) = goes_on z a (sym (late_record at last s (record_here at s) e g o))
