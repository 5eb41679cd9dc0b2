use Prim.Native.Nat.{ℕ, ◌+◌, ◌*◌, ◌-◌, ◌/◌, ◌≤◌}
use native.Mathlib.Omega.{arith}
use mathlib.Core.Path.{◌≡◌, refl, sym, ap, subst, ◌∙◌}
use mathlib.Core.List.{List}
use Rattle.std.specs.Prelude.{Some, None, Ok, Err}
use Rattle.std.proofs.Common.{rules}
use lib.ListN.{length, drop, length-drop}
use Rattle.plot.specs.declared.Record.{Record}
use Rattle.plot.specs.Layout.{Plot, tallies}
use Rattle.plot.specs.Grammar.{record_at, read_from}
use Rattle.plot.specs.Answers.{checked_of}
use Rattle.plot.proofs.Cases.{Bounds, bounds, lines_long, read-end, reading-short, checked_stopped, checked-plots, checked-onto}
use Rattle.plot.proofs.Records.{holding, ends, stops, holding-reads}
use Rattle.plot.proofs.Entries.{reading-reads, checked_accepted, checked_refused, no_plots, go, go_reads}
use Rattle.stand.specs.Table.{most, plus_lines, plus_plots}
use Rattle.stand.specs.Bounds.{AtMost}
use Rattle.stand.proofs.Cells.{at-most_up, lines-most}
use Rattle.stand.proofs.Counting.{lines_of_record, record_ranges, record_next, record_one, no_record, read-plots}
use Rattle.stand.proofs.count.count_records.Goals as goal

-- the record that the cursor stands at lies in the payload
lies : (s : List ℕ) (at last : ℕ) (rec : Record) (h : record_at at last (drop at s) ≡ Ok (Some rec)) → Bounds s at last 0 rec (holding at last (drop at s) rec h).stands
lies s at last rec h = bounds s at last 0 rec (holding at last (drop at s) rec h).stands

pub loop-record-init : goal.loop-record-init
loop-record-init c =
    let s = c.args.payload.now in
    let h = c.requires in
    record {
      steps = length s;
      enough = omega arith;
      inside = omega arith;
      few = omega arith;
      same = ap (checked_of 0) (reading-short s h.short);
      cells = h.cells;
      left = λ ps end q. (ps, (reading-reads s ps end q).1, omega arith, refl);
    }

pub returns-in_err-record-clause-refused : goal.returns-in_err-record-clause-refused
returns-in_err-record-clause-refused c =
    let l = c.loop-record in
    let s = c.args.payload.now in
    let r = c.in_err-record.field-0.0 in
    let n : length (drop l.c.at s) ≤ l.invariant.steps = omega (arith, l.invariant.enough, length-drop l.c.at s) in
    let stopped = stops l.c.at l.c.last (drop l.c.at s) r l.invariant.steps n (sym c.in_err-record.ensures) in
    let e : c.from_residual.result ≡ Err r = search rules in
    rw e (checked_refused s r (l.invariant.same ∙ sym (checked_stopped l.c.last _ r stopped)))

pub slice_bounds-count_lines-count : goal.slice_bounds-count_lines-count
slice_bounds-count_lines-count c =
    let b = lies c.args.payload.now c.loop-record.c.at c.loop-record.c.last c.in-Some.record (sym c.in_ok-record.ensures ∙ ap Ok c.in-Some.is) in
    omega (arith, b.lines_at, b.past)

pub slice_bounds-count_lines-start : goal.slice_bounds-count_lines-start
slice_bounds-count_lines-start c =
    let b = lies c.args.payload.now c.loop-record.c.at c.loop-record.c.last c.in-Some.record (sym c.in_ok-record.ensures ∙ ap Ok c.in-Some.is) in
    omega (arith, b.lines_at, b.past)

pub slice_bounds-count_lines-end : goal.slice_bounds-count_lines-end
slice_bounds-count_lines-end c =
    let b = lies c.args.payload.now c.loop-record.c.at c.loop-record.c.last c.in-Some.record (sym c.in_ok-record.ensures ∙ ap Ok c.in-Some.is) in
    b.inside

pub count_lines-requires : goal.count_lines-requires
count_lines-requires c =
    let l = c.loop-record in
    let s = c.args.payload.now in
    let rec = c.in-Some.record in
    -- the record that the cursor stands at, all checks of which hold
    let h = holding l.c.at l.c.last (drop l.c.at s) rec (sym c.in_ok-record.ensures ∙ ap Ok c.in-Some.is) in
    let b = bounds s l.c.at l.c.last 0 rec h.stands in
    record {
      few = omega (arith, lines_long s l.c.at l.c.last 0 rec h.stands, b.few);
      ranges = record_ranges s l.c.at l.c.last rec h;
      cells = at-most_up (most + l.c.at * 85) (most + 1000000) l.table (omega (arith, l.invariant.inside, c.requires.short)) l.invariant.cells;
    }

pub loop-record-smaller : goal.loop-record-smaller
loop-record-smaller c =
    let b = lies c.args.payload.now c.loop-record.c.at c.loop-record.c.last c.in-Some.record (sym c.in_ok-record.ensures ∙ ap Ok c.in-Some.is) in
    omega (arith, b.past, b.inside)

pub loop-record-preserved : goal.loop-record-preserved
loop-record-preserved c =
    let l = c.loop-record in
    let i = l.invariant in
    let rows = c.args.rows.now.by_species in
    let s = c.args.payload.now in
    let at = l.c.at in
    let rec = c.in-Some.record in
    let h = holding at l.c.last (drop at s) rec (sym c.in_ok-record.ensures ∙ ap Ok c.in-Some.is) in
    let b = bounds s at l.c.last 0 rec h.stands in
    let past : at + (5 + rec.count * 3) ≡ rec.next.at = b.past in
    let lines = lines_of_record s rec in
    let n : length lines / 3 ≡ rec.count = omega (arith, lines_long s at l.c.last 0 rec h.stands) in
    let t = c.count_lines.ensures in
    let m = lines-most rows (length lines / 3) lines (most + at * 85) l.table (record_ranges s at l.c.last rec h) i.cells in
    let r = holding-reads s at l.c.last rec h i.steps i.enough in
    let rest = read_from (i.steps - 1) rec.next.at rec.next.last (drop rec.next.at s) in record {
      steps = i.steps - 1;
      enough = omega (arith, i.enough);
      inside = b.inside;
      few = omega (arith, i.few);
      same = i.same ∙ ap (checked_of l.c.last) r.2 ∙ checked-onto l.c.last r.0 rest ∙ ap (λ (k : ℕ). checked_of k rest) r.1;
      cells = subst (AtMost (most + rec.next.at * 85)) (sym t)
          (at-most_up (most + at * 85 + length lines / 3 * 255) (most + rec.next.at * 85) (plus_lines rows (tallies (length lines / 3) lines) l.table) (omega arith) m);
      left = λ ps end q.
          let o = i.left ps end q in
          let g = go s at l.c.last i.steps rec h.stands i.enough o.0 end o.1 in (
            g.rest,
            go_reads s at l.c.last i.steps rec h.stands i.enough o.0 end o.1,
            omega (arith, o.2, record_one s at l.c.last i.steps rec h.stands i.enough o.0 end o.1),
            o.3 ∙ record_next s at l.c.last i.steps rec h.stands i.enough o.0 end o.1 rows l.table ∙ ap (plus_plots rows g.rest) (sym t),
          );
    }

pub returns-clause-accepted : goal.returns-clause-accepted
returns-clause-accepted c =
    let l = c.loop-record in
    let i = l.invariant in
    let rows = c.args.rows.now.by_species in
    let s = c.args.payload.now in
    let none : c.in_ok-record.field-0 ≡ None = search rules in
    let e = read-end l.c.at l.c.last (drop l.c.at s) i.steps (ends l.c.at l.c.last (drop l.c.at s) (sym c.in_ok-record.ensures ∙ ap Ok none)) in
    let p = checked_accepted s l.c (i.same ∙ sym (checked-plots l.c.last l.c.at _ e)) in
    let o = i.left p.0 l.c.at p.1 in
    let left = no_plots o.0 l.c.at l.c.at (sym o.1 ∙ e) in
    let all = read-plots _ _ _ p.1 in
    record {
      reads = (p.0, l.c.at, p.1);
      count = omega (arith, o.2, ap length left, ap length all);
      table = sym (ap (λ (ps : List Plot). plus_plots rows ps c.args.table.now) all ∙ o.3 ∙ no_record rows _ l.table left);
    }
