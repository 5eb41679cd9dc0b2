-- A reading that gave plots, a record at a time: the lines of its first record hold, its number rises, and the rest is read; its records lie within the bytes
-- that were read. By induction on the steps of the reading.
use Prim.Native.Nat.{ℕ, zero, suc, zero-le, suc-le-suc, ◌+◌, ◌*◌, ◌-◌, ◌/◌, ◌<◌, ◌≤◌}
use native.Mathlib.Omega.{arith}
use native.Mathlib.Nat.{mul-div_left}
use mathlib.Core.Path.{◌≡◌, refl, sym, ap, ◌∙◌}
use mathlib.Core.Bool.{Bool, true, false}
use mathlib.Core.List.{List, [], ◌∷◌}
use Rattle.std.specs.Prelude.{Some, None, Result, Ok, Err}
use lib.ListN.{length, take, drop, length-append, length-drop}
use lib.Seq.{length-take-le}
use lib.Dec.{leb, lit<}
use borrow.Author.Tests.{leb-true, leb-false}
use Rattle.plot.specs.declared.BadLine.{BadLine}
use Rattle.plot.specs.declared.Record.{Record}
use Rattle.plot.specs.declared.Refusal.{Refusal}
use Rattle.plot.specs.Layout.{Plot, header_length, record_length, no_line, lines_check, lines_hold, lines_of, record_of, bytes_of}
use Rattle.plot.specs.Grammar.{Step, step_at, Parsed, Plots, Stopped, onto, read_from}
use Rattle.plot.proofs.Lines.{all_held}
use Rattle.plot.proofs.Cases.{Whole, whole, read-end, read-refused, plot_here, read-lines, read_order, read_on}

-- a reading that stopped gave no plots
pub not_stopped : (q : Parsed) (r : Refusal) (ps : List Plot) (end : ℕ) → q ≡ Stopped r → q ≡ Plots ps end → ⊥
not_stopped q r ps end a b = cc

onto_out : (p : Plot) (q : Parsed) (ps : List Plot) (end : ℕ) → onto p q ≡ Plots ps end → (qs : List Plot) × (ps ≡ p ∷ qs) × (q ≡ Plots qs end)
onto_out p (Plots qs e) ps end h =
    let a : ps ≡ p ∷ qs = cc in
    let b : e ≡ end = cc in
    (qs, a, ap (λ (n : ℕ). Plots qs n) b)
onto_out p (Stopped r) ps end h = absurd (cc)

-- a record of an accepted payload: its lines hold, its number rises, and the rest is accepted
module _ (at last : ℕ) (s : List ℕ) (rec : Record) (e : step_at at s ≡ Ok (Some rec)) where
  abbrev pub here : Plot
  here = plot_here at last s rec e

  pub record Accepts (f : ℕ) (ps : List Plot) (end : ℕ) : Type 0 where
    pub check : lines_check no_line 0 rec.count (drop header_length s) ≡ Ok tt
    pub hold : lines_hold no_line rec.count (drop header_length s) ≡ true
    pub rise : last < rec.next.last
    pub rest : List Plot
    pub is : ps ≡ here ∷ rest
    pub reads : read_from (f - 1) rec.next.at rec.next.last (drop (record_length rec.count) s) ≡ Plots rest end

  module _ (f : ℕ) (p : 0 < f) (ps : List Plot) (end : ℕ) (q : read_from f at last s ≡ Plots ps end) where
    by_rise : lines_check no_line 0 rec.count (drop header_length s) ≡ Ok tt → (t : Bool) → leb rec.next.last last ≡ t → Accepts f ps end
    by_rise g true o = absurd (not_stopped _ _ _ _ (read_order at last s rec e g f p (leb-true _ _ o)) q)
    by_rise g false o =
        let r = leb-false _ _ o in
        let out = onto_out _ _ _ _ (sym (read_on at last s rec e g f p r) ∙ q) in
        record { check = g; hold = all_held no_line rec.count (drop header_length s) g; rise = r; rest = out.0; is = out.1; reads = out.2 }

    by_lines : (c : Result Unit BadLine) → lines_check no_line 0 rec.count (drop header_length s) ≡ c → Accepts f ps end
    by_lines (Ok u) g = by_rise g (leb rec.next.last last) refl
    by_lines (Err bad) g = absurd (not_stopped _ _ _ _ (read-lines at last s rec e f p bad g) q)

    pub accepts : Accepts f ps end
    accepts = by_lines (lines_check no_line 0 rec.count (drop header_length s)) refl

-- the plot of a record
module _ (at last : ℕ) (s : List ℕ) (rec : Record) (e : step_at at s ≡ Ok (Some rec)) where
  room : record_length rec.count ≤ length s
  room = (whole at s rec e).fits

  pub lines-here : length (take (rec.count * 3) (drop header_length s)) ≡ rec.count * 3
  lines-here =
      let l : length (drop header_length s) ≡ length s - header_length = length-drop header_length s in
      let r : record_length rec.count ≤ length s = room in
      length-take-le (rec.count * 3) (drop header_length s) (omega arith)

  pub count_here : lines_of (here at last s rec e) ≡ rec.count
  count_here = ap (λ (n : ℕ). n / 3) lines-here ∙ mul-div_left rec.count {n = 3} (lit< tt)

  pub length-here : length (record_of (here at last s rec e)) ≡ record_length rec.count
  length-here = omega (arith, lines-here)

-- the records that were read lie within the bytes, and the reading ends after them
pub record Lies (at : ℕ) (s : List ℕ) (ps : List Plot) (end : ℕ) : Type 0 where
  pub ends : at + length (bytes_of ps) ≡ end
  pub fits : length (bytes_of ps) ≤ length s

lies-none : (at : ℕ) (s : List ℕ) (ps : List Plot) (end : ℕ) → Plots [] at ≡ Plots ps end → Lies at s ps end
lies-none at s [] end q =
    let e : at ≡ end = cc in
    record { ends = omega arith; fits = zero-le }
lies-none at s (p ∷ ps) end q = absurd (cc)

abbrev Steps : ℕ → Type 0
Steps f = (at last : ℕ) (s : List ℕ) (ps : List Plot) (end : ℕ) → length s ≤ f → read_from f at last s ≡ Plots ps end → Lies at s ps end

lies-step : (f : ℕ) → Steps f → (at last : ℕ) (s : List ℕ) (ps : List Plot) (end : ℕ) → length s ≤ suc f → read_from (suc f) at last s ≡ Plots ps end
    → (st : Step) → step_at at s ≡ st → Lies at s ps end
lies-step f ih at last s ps end h q (Ok None) e = lies-none at s ps end (sym (read-end at last s (suc f) e) ∙ q)
lies-step f ih at last s ps end h q (Err r) e = absurd (not_stopped _ _ _ _ (read-refused at last s (suc f) r h e) q)
lies-step f ih at last s ps end h q (Ok (Some rec)) e =
    let a = accepts at last s rec e (suc f) (suc-le-suc zero-le) ps end q in
    let w : Whole at s rec = whole at s rec e in
    let p : at + record_length rec.count ≡ rec.next.at = w.past in
    let r : record_length rec.count ≤ length s = w.fits in
    let l : length (drop (record_length rec.count) s) ≡ length s - record_length rec.count = length-drop (record_length rec.count) s in
    let z : suc f - 1 ≡ f = omega arith in
    let i = ih rec.next.at rec.next.last (drop (record_length rec.count) s) a.rest end (omega arith) (rw z at a.reads) in
    let k : rec.next.at + length (bytes_of a.rest) ≡ end = i.ends in
    let j : length (bytes_of a.rest) ≤ length (drop (record_length rec.count) s) = i.fits in
    let n : length (bytes_of (here at last s rec e ∷ a.rest)) ≡ record_length rec.count + length (bytes_of a.rest) =
    length-append (record_of (here at last s rec e)) (bytes_of a.rest) ∙ ap (λ (m : ℕ). m + length (bytes_of a.rest)) (length-here at last s rec e) in
    rw a.is (record { ends = omega arith; fits = omega arith })

pub lies : (f : ℕ) → Steps f
unfolding read_from
lies zero at last s ps end h q = lies-none at s ps end q
lies (suc f) at last s ps end h q = lies-step f (lies f) at last s ps end h q (step_at at s) refl
