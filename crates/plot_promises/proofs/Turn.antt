-- A turn of the reading, by document 01's checks: zeros end it, the first check that fails stops it, and a record that passes them all goes before
-- what is read after it. The two checks after those of the header are made here.
use mathlib.Core.Path.{◌≡◌, refl, sym, ap, ◌∙◌}
use mathlib.Core.Logic.{◌≢◌, inl, inr, ⊎_elim}
use mathlib.Core.List.{List, [], ◌∷◌, ◌++◌}
use Prim.Native.Nat.{ℕ, zero, suc, zero-le, suc-le-suc, ◌-◌, ◌<◌, ◌≤◌}
use native.Mathlib.Omega.{arith}
use native.Mathlib.Nat.{not-suc-le-zero}
use Rattle.std.specs.Prelude.{Result, Some, None, Ok, Err}
use lib.ListN.{length, get_or, drop}
use Rattle.lists.proofs.Test.{lt-or_ge}
use Rattle.plot.specs.declared.Refusal.{Refusal}
use Rattle.plot.specs.declared.Refusal.TheVariants.{PlotOrder}
use Rattle.plot.specs.declared.BadLine.{BadLine}
use Rattle.plot.specs.declared.Record.{Record}
use Rattle.plot.specs.Layout.{header_length, plot_of, count_of, record_length, no_line, lines_check}
use Rattle.plot_promises.specs.Figures.{BadLineHere}
use Rattle.plot_promises.specs.Checks.{Check, NoneFails, header_checks, late_checks, record_checks, Zeros, FaultAt, RecordFault, in_zeros, in_record}
use Rattle.plot.specs.Grammar.{bad_line, step_at, record_at, Plots, Stopped, onto, read_from}
use Rattle.plot.specs.Numbers.{number_of, place_of}
use Rattle.plot.proofs.Cases.{plot_here, read-end, read_on}
use Rattle.plot.proofs.Records.{late-refused, late-lines, late_order}
use Rattle.plot.proofs.Records as records
use Rattle.plot.proofs.Lines.{all_held}
use Rattle.plot_promises.specs.Lines.{LinesHold}
use Rattle.plot_promises.proofs.Lines.{lines_hold_iff}
use Rattle.plot_promises.proofs.Checks.{first_one, not-both, first-before, first-after, all_after}
use Rattle.plot_promises.proofs.Refusals.{Refuses, Tells, LineOf, in_line, in_none}
use Rattle.plot_promises.proofs.FirstBad.{bad_index, bad_figure, found_first, hold_no_first}
use Rattle.plot_promises.proofs.Place as place
use Rattle.plot_promises.proofs.Place.{record_here, StepIs, step_is}

pub zeros-first : (s : List ℕ) → Zeros s → get_or s 0 0 ≡ 0
zeros-first [] h = refl
zeros-first (x ∷ s) h = h 0 (suc-le-suc zero-le)

-- what stands at a place has one fault at most, and none where zeros or a record stand
module _ (checks : List Check) (s : List ℕ) where
  pub fault_one : (j k : ℕ) → FaultAt checks s j → FaultAt checks s k → j ≡ k
  fault_one j k (in_zeros z h a) (in_zeros y g b) = a ∙ sym b
  fault_one j k (in_zeros z h a) (in_record y g) = absurd (y z)
  fault_one j k (in_record z h) (in_zeros y g b) = absurd (z y)
  fault_one j k (in_record z h) (in_record y g) = first_one checks j k h g

  pub not_zeros : (k : ℕ) → FaultAt checks s k → Zeros s → ⊥
  not_zeros k (in_zeros z h e) y = h y
  not_zeros k (in_record z h) y = z (zeros-first s y)

  pub not_record : (k : ℕ) → get_or s 0 0 ≢ 0 → FaultAt checks s k → NoneFails checks → ⊥
  not_record k z (in_zeros y h e) a = z y
  not_record k z (in_record y h) a = not-both checks k h a

-- a header that holds begins with the mark, so not with a zero
header_some : (s : List ℕ) → NoneFails (header_checks s) → get_or s 0 0 ≢ 0
header_some s h z =
    let l : header_length ≤ length s = h.1.0 in
    let m : get_or s 0 0 ≡ 0x50 = h.0 0 (omega arith) (suc-le-suc zero-le) in
    omega arith

fault_more : (checks more : List Check) (s : List ℕ) (k : ℕ) → FaultAt checks s k → FaultAt (checks ++ more) s k
fault_more checks more s k (in_zeros z h e) = in_zeros z h e
fault_more checks more s k (in_record z h) = in_record z (first-before checks more k h)

-- what stands at a place, with every check of its record made
module _ (at last : ℕ) (s : List ℕ) where
  pub data RecordIs : Type 0 where
    nothing : Zeros s → step_at at s ≡ Ok None → RecordIs
    fault : (r : Refusal) → record_at at last s ≡ Err r → place_of r ≡ at → LineOf (BadLineHere s) r → RecordFault last s (number_of r) → RecordIs
    holds : get_or s 0 0 ≢ 0 → NoneFails (record_checks last s) → step_at at s ≡ Ok (Some (record_here at s)) → lines_check no_line 0 (count_of s) (drop header_length s) ≡ Ok tt → last < plot_of s → RecordIs

  -- a record whose header holds
  module _ (z : get_or s 0 0 ≢ 0) (a : NoneFails (header_checks s)) (e : step_at at s ≡ Ok (Some (record_here at s))) where
    module _ (bad : BadLine) (g : lines_check no_line 0 (count_of s) (drop header_length s) ≡ Err bad) where
      lines_fail : RecordIs
      lines_fail =
          let b = found_first (drop header_length s) (count_of s) bad g in
          fault (bad_line at bad) (sym (late-lines at last s (record_here at s) e bad g)) refl (in_line refl (a, b))
          (in_record z (first-after (header_checks s) (late_checks last s) 7 a (inl ((λ h. hold_no_first (drop header_length s) (count_of s) h _ _ b), refl))))

    module _ (g : lines_check no_line 0 (count_of s) (drop header_length s) ≡ Ok tt) where
      hold : LinesHold (count_of s) (drop header_length s)
      hold = (lines_hold_iff _ _).0 (all_held no_line (count_of s) (drop header_length s) g)

      rise_fails : plot_of s ≤ last → RecordIs
      rise_fails o =
          fault (PlotOrder at) (sym (late_order at last s (record_here at s) e g o)) refl
          (in_none (refl, refl) (λ j i x. hold_no_first (drop header_length s) (count_of s) hold j i x.1))
          (in_record z (first-after (header_checks s) (late_checks last s) 8 a (inr (hold, inl ((λ k. omega arith), refl)))))

      rises_on : last < plot_of s → RecordIs
      rises_on o = holds z (all_after (header_checks s) (late_checks last s) a (hold, (o, tt))) e g o

    by_lines : (c : Result Unit BadLine) → lines_check no_line 0 (count_of s) (drop header_length s) ≡ c → RecordIs
    by_lines (Ok u) g = ⊎_elim (rises_on g) (rise_fails g) (lt-or_ge last (plot_of s))
    by_lines (Err bad) g = lines_fail bad g

    record_here_lem : RecordIs
    record_here_lem = by_lines (lines_check no_line 0 (count_of s) (drop header_length s)) refl

  record_step : StepIs at s → RecordIs
  record_step (place.ends z e) = nothing z e
  record_step (place.stops r e p o k) =
      fault r (sym (late-refused at last s r e)) p (in_none o (λ j i x. not_record (header_checks s) s (number_of r) (header_some s x.0) k x.0))
      (fault_more (header_checks s) (late_checks last s) s (number_of r) k)
  record_step (place.goes_on z a e) = record_here_lem z a e

  pub record_is : RecordIs
  record_is = record_step (step_is at s)

-- a turn of the reading goes by it
module _ (f at last : ℕ) (s : List ℕ) where
  pub data TurnIs : Type 0 where
    ends : Zeros s → read_from (suc f) at last s ≡ Plots [] at → TurnIs
    stops : (r : Refusal) → read_from (suc f) at last s ≡ Stopped r → place_of r ≡ at → LineOf (BadLineHere s) r → RecordFault last s (number_of r) → TurnIs
    goes_on : get_or s 0 0 ≢ 0 → (rec : Record) (e : step_at at s ≡ Ok (Some rec)) → lines_check no_line 0 rec.count (drop header_length s) ≡ Ok tt → last < rec.next.last
        → NoneFails (record_checks last s)
        → read_from (suc f) at last s ≡ onto (plot_here at last s rec e) (read_from f rec.next.at rec.next.last (drop (record_length rec.count) s)) → TurnIs

  turn_record : length s ≤ suc f → RecordIs at last s → TurnIs
  turn_record h (nothing z e) = ends z (read-end at last s (suc f) e)
  turn_record h (fault r e p l y) = stops r (records.stops at last s r (suc f) h e) p l y
  turn_record h (holds z a e g o) =
      let y : suc f - 1 ≡ f = omega arith in
      let rec : Record = record_here at s in
      goes_on z rec e g o a
      (read_on at last s rec e g (suc f) (suc-le-suc zero-le) o
      ∙ ap (λ (n : ℕ). onto (plot_here at last s rec e) (read_from n rec.next.at rec.next.last (drop (record_length rec.count) s))) y)

  pub turn_is : length s ≤ suc f → TurnIs
  turn_is h = turn_record h (record_is at last s)

-- so the reading stops by it
pub fault_reads : (f at last : ℕ) (s : List ℕ) (k : ℕ) → length s ≤ f → RecordFault last s k → (r : Refusal) × (read_from f at last s ≡ Stopped r) × Refuses at r k
fault_reads zero at last s k h x = absurd (not_zeros (record_checks last s) s k x (λ i l. absurd (let y : i < 0 = omega arith in not-suc-le-zero y)))
fault_reads (suc f) at last s k h x = by_turn (turn_is f at last s h)
  where
    by_turn : TurnIs f at last s → (r : Refusal) × (read_from (suc f) at last s ≡ Stopped r) × Refuses at r k
    by_turn (ends z q) = absurd (not_zeros (record_checks last s) s k x z)
    by_turn (stops r q p l y) = (r, q, record { number_is = fault_one (record_checks last s) s (number_of r) k y x; place_is = p })
    by_turn (goes_on z rec e g rise a q) = absurd (not_record (record_checks last s) s k z x a)

-- and by a line that fails, with its figure and its index
pub line_reads : (f at last : ℕ) (s : List ℕ) (figure index : ℕ) → length s ≤ f → BadLineHere s figure index
    → (r : Refusal) × (read_from f at last s ≡ Stopped r) × Tells r at figure index
line_reads zero at last s figure index h b =
    let l : header_length ≤ length s = b.0.1.0 in
    absurd (let y : 5 ≤ 0 = omega arith in not-suc-le-zero y)
line_reads (suc f) at last s figure index h b = by_turn (turn_is f at last s h)
  where
    by_turn : TurnIs f at last s → (r : Refusal) × (read_from (suc f) at last s ≡ Stopped r) × Tells r at figure index
    by_turn (ends z q) = absurd (header_some s b.0 (zeros-first s z))
    by_turn (stops r q p (in_line n x) y) = (r, q, (n, p, bad_figure _ _ _ _ _ _ x.1 b.1, bad_index _ _ _ _ _ _ x.1 b.1))
    by_turn (stops r q p (in_none o never) y) = absurd (never figure index b)
    by_turn (goes_on z rec e g rise a q) = absurd (hold_no_first (drop header_length s) (count_of s) a.1.1.1.1.1.0 figure index b.1)
