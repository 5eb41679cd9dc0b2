-- The check of a payload, exactly when (CheckingExactly): a reading that gives plots is of a payload that contains them, one that stops is of a payload
-- that has a fault there, and both the other way round.
use mathlib.Core.Path.{◌≡◌, refl, sym, ap, subst, ◌∙◌}
use mathlib.Core.Logic.{◌⊎◌, ◌≢◌, inl, inr, ⊎_elim}
use mathlib.Core.List.{List, ◌++◌}
use Prim.Native.Nat.{ℕ, ◌<◌, ◌≤◌}
use native.Mathlib.Omega.{arith}
use native.Mathlib.Nat.{le_refl, zero-add}
use Rattle.std.specs.Prelude.{Ok, Err}
use lib.ListN.{length, drop}
use borrow.Author.Tests.{lt-ltb}
use Rattle.lists.specs.Bytes.{Bytes}
use Rattle.lists.proofs.Test.{lt-or_ge}
use Rattle.plot.specs.declared.Refusal.{Refusal}
use Rattle.plot.specs.declared.Refusal.TheVariants.{WrongLength}
use Rattle.plot.specs.Layout.{Plot, bytes_of}
use Rattle.plot_promises.specs.Checks.{RecordFault, in_zeros, in_record, record_checks}
use Rattle.plot.specs.Grammar.{Parsed, Plots, Stopped, read_from, reading, longest}
use Rattle.plot.specs.Answers.{last_number, checked_of, checked}
use Rattle.plot.specs.Numbers.{number_of, place_of, figure_of, index_of, payload_number, payload_place, payload_end}
use Rattle.plot_promises.specs.Refusals.{AfterPlots, RefusedAs, CheckingExactly}
use Rattle.plot_promises.specs.Figures.{BadLineHere, BadLineAt}
use Rattle.plot.proofs.Cases.{reading-short}
use Rattle.plot_promises.proofs.Checks.{first_of}
use Rattle.plot_promises.proofs.Refusals.{number_some, place_unset, value_unset, Refuses, Tells, NoLine, LineOf, in_line, in_none}
use Rattle.plot_promises.proofs.Turn.{fault_reads, line_reads}
use Rattle.plot_promises.proofs.Sound.{Stops, ReadIs, read_is, reading-sound}
use Rattle.plot_promises.proofs.Complete.{stops_past}
use Rattle.plot_promises.proofs.Canonical.{contains-reads, reading-contains}

-- what the check answers, by the reading
module _ (s : List ℕ) where
  pub checks-plots : (ps : List Plot) (end : ℕ) → reading s ≡ Plots ps end → checked s ≡ Ok (record { at = end; last = last_number 0 ps })
  unfolding checked_of
  checks-plots ps end q = rw q

  pub checks_stopped : (r : Refusal) → reading s ≡ Stopped r → checked s ≡ Err r
  unfolding checked_of
  checks_stopped r q = rw q

  -- an answer of the number 0 is that of plots, any other that of a refusal
  pub plots_of : payload_number (checked s) ≡ 0 → (ps : List Plot) × (end : ℕ) × (reading s ≡ Plots ps end)
  plots_of z = by_reading (reading s) refl
    where
      by_reading : (q : Parsed) → reading s ≡ q → (ps : List Plot) × (end : ℕ) × (reading s ≡ Plots ps end)
      by_reading (Plots ps end) q = (ps, end, q)
      by_reading (Stopped r) q = absurd (number_some r (sym (ap payload_number (checks_stopped r q)) ∙ z))

  pub stopped_of : payload_number (checked s) ≢ 0 → (r : Refusal) × (reading s ≡ Stopped r)
  stopped_of z = by_reading (reading s) refl
    where
      by_reading : (q : Parsed) → reading s ≡ q → (r : Refusal) × (reading s ≡ Stopped r)
      by_reading (Plots ps end) q = absurd (z (ap payload_number (checks-plots ps end q)))
      by_reading (Stopped r) q = (r, q)

  long_stopped : longest < length s → reading s ≡ Stopped WrongLength
  unfolding reading
  long_stopped l = rw (lt-ltb longest (length s) l)

-- a reading that stops
module _ (s : List ℕ) (r : Refusal) (q : reading s ≡ Stopped r) where
  abbrev InLine : Type 0
  InLine = (number_of r ≡ 7) × BadLineAt s (place_of r) (figure_of r) (index_of r)

  pub stops_in : length s ≤ longest → Stops 0 0 s r
  stops_in l = subst (ReadIs 0 0 s) (sym (reading-short s l) ∙ q) (read_is (length s) 0 0 s (le_refl _))

  pub stops_long : longest < length s → r ≡ WrongLength
  stops_long l =
      let e : Stopped r ≡ Stopped WrongLength = sym q ∙ long_stopped s l in
      cc

  -- what stands where it stopped
  module _ (b : Bytes s) (l : length s ≤ longest) where
    after-plots : (Here : ℕ → List ℕ → Type 0) → let i = stops_in l in Here (last_number 0 i.plots) (drop (length (bytes_of i.plots)) s) → AfterPlots Here s (place_of r)
    after-plots Here h =
        let i = stops_in l in
        record {
          short = l;
          plots = i.plots;
          rest = drop (length (bytes_of i.plots)) s;
          rising = i.fronts.rising;
          form = i.fronts.form b;
          begins = sym i.begins ∙ zero-add (length (bytes_of i.plots));
          here = h;
        }

    short_line : InLine ⊎ NoLine r
    short_line = by_line (stops_in l).line
      where
        by_line : LineOf (BadLineHere (drop (length (bytes_of (stops_in l).plots)) s)) r → InLine ⊎ NoLine r
        by_line (in_line n x) = inl (n, after-plots (λ (last : ℕ) (rest : List ℕ). BadLineHere rest (figure_of r) (index_of r)) x)
        by_line (in_none o never) = inr o

  pub stopped_is : Bytes s → RefusedAs s (number_of r) (place_of r)
  stopped_is b =
      ⊎_elim
      (λ l. inl (l, ap number_of (stops_long l), ap place_of (stops_long l)))
      (λ l. inr (after-plots b l (λ (last : ℕ) (rest : List ℕ). RecordFault last rest (number_of r)) (stops_in l).fault))
      (lt-or_ge longest (length s))

  -- a line of it fails, or it names none
  pub stopped_line : Bytes s → InLine ⊎ NoLine r
  stopped_line b = ⊎_elim (λ l. inr (ap figure_of (stops_long l), ap index_of (stops_long l))) (short_line b) (lt-or_ge longest (length s))

  -- its number is one of those of the checks, or 2
  pub stopped_number : number_of r ≢ 9
  stopped_number e =
      ⊎_elim
      (λ l. let z : number_of r ≡ 2 = ap number_of (stops_long l) in omega arith)
      (λ l. fault_number _ _ (number_of r) (stops_in l).fault e)
      (lt-or_ge longest (length s))
    where
      fault_number : (last : ℕ) (t : List ℕ) (k : ℕ) → RecordFault last t k → k ≢ 9
      fault_number last t k (in_zeros z h a) = λ e. omega arith
      fault_number last t k (in_record z h) =
          first_of (λ (j : ℕ). j ≢ 9) (record_checks last t) k
          ((λ e. omega arith), ((λ e. omega arith), ((λ e. omega arith), ((λ e. omega arith), ((λ e. omega arith), ((λ e. omega arith), ((λ e. omega arith), tt))))))) h

-- bytes after plots at which the reading stops
reads-after : (Here : ℕ → List ℕ → Type 0) (P : ℕ → Refusal → Type 0) → ((f at last : ℕ) (t : List ℕ) → length t ≤ f → Here last t → (r : Refusal) × (read_from f at last t ≡ Stopped r) × P at r)
    → (s : List ℕ) (place : ℕ) → AfterPlots Here s place → (r : Refusal) × (reading s ≡ Stopped r) × P place r
reads-after Here P stop s place h =
    let l : length (bytes_of h.plots ++ h.rest) ≤ longest = subst (λ (t : List ℕ). length t ≤ longest) h.form h.short in
    let y = stops_past (P (length (bytes_of h.plots))) h.plots h.rest l h.rising (λ f e. stop f _ _ h.rest e h.here) in
    (y.0, ap reading h.form ∙ y.1, subst (λ (k : ℕ). P k y.0) (sym h.begins) y.2)

pub refused-reads : (s : List ℕ) (number place : ℕ) → RefusedAs s number place → (r : Refusal) × (reading s ≡ Stopped r) × Refuses place r number
refused-reads s number place (inl h) = (WrongLength, long_stopped s h.0, record { number_is = sym h.1; place_is = sym h.2 })
refused-reads s number place (inr h) = reads-after _ (λ (at : ℕ) (r : Refusal). Refuses at r number) (λ f at last t e x. fault_reads f at last t number e x) s place h

pub line_stops : (s : List ℕ) (place figure index : ℕ) → BadLineAt s place figure index → (r : Refusal) × (reading s ≡ Stopped r) × Tells r place figure index
line_stops s place figure index h = reads-after _ (λ (at : ℕ) (r : Refusal). Tells r at figure index) (λ f at last t e x. line_reads f at last t figure index e x) s place h

pub checking_exactly : (s : List ℕ) → Bytes s → CheckingExactly s
checking_exactly s b = record {
  accepted = λ end. (
    (λ h.
        let p = plots_of s h.0 in
        (p.0, reading-contains s p.0 p.1 b p.2, sym h.1 ∙ ap payload_end (checks-plots s p.0 p.1 p.2) ∙ sym (reading-sound s p.0 p.1 p.2).ends)),
    (λ h.
        let e = checks-plots s h.0 _ (contains-reads s h.0 h.1) in
        (ap payload_number e, ap payload_end e ∙ sym h.2)),
  );
  refused = λ number place z. (
    (λ h.
        let r = stopped_of s (λ e. z (sym h.0 ∙ e)) in
        let e = checks_stopped s r.0 r.1 in
        subst (RefusedAs s number) (sym (ap payload_place e) ∙ h.1)
        (subst (λ (k : ℕ). RefusedAs s k (place_of r.0)) (sym (ap payload_number e) ∙ h.0) (stopped_is s r.0 r.1 b))),
    (λ h.
        let r = refused-reads s number place h in
        let e = checks_stopped s r.0 r.1 in
        (ap payload_number e ∙ r.2.number_is, ap payload_place e ∙ r.2.place_is)),
  );
  cursor = λ plots c. checks-plots s plots _ (contains-reads s plots c);
  unset = (place_unset (checked s), value_unset _ (checked s));
}
