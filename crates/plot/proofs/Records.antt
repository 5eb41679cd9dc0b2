-- A record with every check of it made, case by case: from the plain facts that the tests of the code give, and what its answer says of the record and of the reading.
use Prim.Native.Nat.{ℕ, zero, suc, ◌+◌, ◌-◌, ◌<◌, ◌≤◌}
use native.Mathlib.Omega.{arith}
use native.Mathlib.Nat.{not-suc-le-zero}
use mathlib.Core.Path.{◌≡◌, refl, sym, ap, ◌∙◌}
use mathlib.Core.List.{List, [], ◌∷◌}
use Rattle.std.specs.Prelude.{Some, None, Result, Ok, Err}
use lib.ListN.{length, drop}
use lib.Seq.{drop-drop}
use lib.Dec.{leb}
use borrow.Author.Tests.{le-leb, lt-leb, leb-false}
use Rattle.plot.specs.declared.BadLine.{BadLine}
use Rattle.plot.specs.declared.Record.{Record}
use Rattle.plot.specs.declared.Refusal.{Refusal}
use Rattle.plot.specs.declared.Refusal.TheVariants.{PlotOrder}
use Rattle.plot.specs.Layout.{Plot, header_length, record_length, no_line, lines_check}
use Rattle.plot.specs.Grammar.{Step, bad_line, after_lines, all_zero, step_at, late_checked, record_at, Stopped, onto, read_step, read_from}
use Rattle.plot.proofs.Cases.{pick_out, plot_here, read_on, bounds}

-- every check made, from those before the lines
module _ (at last : ℕ) (s : List ℕ) where
  pub late-end : step_at at s ≡ Ok None → Ok None ≡ record_at at last s
  unfolding late_checked
  late-end e = rw e

  pub late-refused : (r : Refusal) → step_at at s ≡ Err r → Err r ≡ record_at at last s
  unfolding late_checked
  late-refused r e = rw e

  module _ (rec : Record) (e : step_at at s ≡ Ok (Some rec)) where
    pub late-lines : (bad : BadLine) → lines_check no_line 0 rec.count (drop header_length s) ≡ Err bad → Err (bad_line at bad) ≡ record_at at last s
    unfolding late_checked
    late-lines bad g = rw (e, g)

    module _ (g : lines_check no_line 0 rec.count (drop header_length s) ≡ Ok tt) where
      pub late_order : rec.next.last ≤ last → Err (PlotOrder at) ≡ record_at at last s
      unfolding late_checked
      late_order o = rw (e, g, le-leb _ _ o)

      pub late_record : last < rec.next.last → Ok (Some rec) ≡ record_at at last s
      unfolding late_checked
      late_record o = rw (e, g, lt-leb _ _ o)

-- and what the answer says: a record whose checks all hold ..
pub record Holding (at last : ℕ) (s : List ℕ) (rec : Record) : Type 0 where
  pub stands : step_at at s ≡ Ok (Some rec)
  pub lines : lines_check no_line 0 rec.count (drop header_length s) ≡ Ok tt
  pub rise : last < rec.next.last

-- the lines of a record that is not refused for them hold
pub after_out : {A : Type 0} (at : ℕ) (c : Result Unit BadLine) (rest : Result A Refusal) (x : A) → after_lines at c rest ≡ Ok x → (c ≡ Ok tt) × (rest ≡ Ok x)
after_out at (Ok u) rest x h = (refl, h)
after_out at (Err bad) rest x h = absurd (cc)

module _ (at last : ℕ) (s : List ℕ) (rec : Record) where
  by_step : (st : Step) → step_at at s ≡ st → late_checked at last s st ≡ Ok (Some rec) → Holding at last s rec
  unfolding late_checked
  by_step (Err r) e h = absurd (cc)
  by_step (Ok None) e h = absurd (cc)
  by_step (Ok (Some t)) e h =
      let p = after_out at (lines_check no_line 0 t.count (drop header_length s)) _ _ h in
      let q = pick_out (leb t.next.last last) _ _ _ p.1 (λ z. cc) in
      let same : t ≡ rec = cc in
      rw (sym same) (record { stands = e; lines = p.0; rise = leb-false _ _ q.0 })

  pub holding : record_at at last s ≡ Ok (Some rec) → Holding at last s rec
  holding h = by_step (step_at at s) refl h

-- .. the end of the records ..
pub ends : (at last : ℕ) (s : List ℕ) → record_at at last s ≡ Ok None → step_at at s ≡ Ok None
unfolding late_checked
ends at last s h = by_step (step_at at s) refl h
  where
    by_step : (st : Step) → step_at at s ≡ st → late_checked at last s st ≡ Ok None → step_at at s ≡ Ok None
    by_step (Ok None) e q = e
    by_step (Err r) e q = absurd (cc)
    by_step (Ok (Some t)) e q =
        let a = after_out at (lines_check no_line 0 t.count (drop header_length s)) _ _ q in
        let b = pick_out (leb t.next.last last) _ _ _ a.1 (λ z. cc) in
        absurd (cc)

-- .. or the refusal that ends the reading
pub stops : (at last : ℕ) (s : List ℕ) (r : Refusal) (f : ℕ) → length s ≤ f → record_at at last s ≡ Err r → read_from f at last s ≡ Stopped r
unfolding read_from read_step late_checked step_at all_zero
stops at last [] r zero h e = absurd (cc)
stops at last (x ∷ s) r zero h e = absurd (not-suc-le-zero h)
stops at last s r (suc f) h e = rw e

-- the reading from a record on whose checks all hold
pub holding-reads : (s : List ℕ) (at last : ℕ) (rec : Record) → Holding at last (drop at s) rec → (f : ℕ) → length s ≤ at + f
    → (p : Plot) × (p.number ≡ rec.next.last) × (read_from f at last (drop at s) ≡ onto p (read_from (f - 1) rec.next.at rec.next.last (drop rec.next.at s)))
holding-reads s at last rec h f l =
    let b = bounds s at last f rec h.stands in
    let past : at + record_length rec.count ≡ rec.next.at = b.past in
    let inside : rec.next.at ≤ length s = b.inside in
    let p = plot_here at last (drop at s) rec h.stands in
    let rest : drop (record_length rec.count) (drop at s) ≡ drop rec.next.at s = drop-drop (record_length rec.count) at s ∙ ap (λ (n : ℕ). drop n s) past in
    (p, refl, read_on at last (drop at s) rec h.stands h.lines f (omega arith) h.rise ∙ ap (λ (t : List ℕ). onto p (read_from (f - 1) rec.next.at rec.next.last t)) rest)
