use Rattle.std.proofs.Common.{◌≡◌, rules, ◌-◌, sym, ap, ◌∙◌, arith, ℕ, List, length, take, drop, [], Ok, Some, ◌/◌, ◌++◌, append_assoc}
use Rattle.plot.proofs.Cases.{bounds}
use Rattle.plot.proofs.Entries.{reading-reads, go, go_reads}
use Rattle.listing_text.specs.Text.{lines_text, plots_text}
use Rattle.listing_text.proofs.Puts.{puts_none, puts_then, puts_as}
use Rattle.listing_text.proofs.Texts.{plots-next, plots_end, text_done, read-plots}
use Rattle.listing_text.proofs.put_plots.Goals as goal

pub loop-record-init : goal.loop-record-init
loop-record-init c =
    let a = c.args in
    let p = c.requires in
    record {
      steps = length a.payload.now;
      plots = p.0;
      end = p.1;
      enough = omega arith;
      reads = (reading-reads a.payload.now _ _ p.2).1;
      done = [];
      puts = puts_none _;
      text = read-plots _ _ _ p.2;
    }

pub slice_bounds-put_lines-count : goal.slice_bounds-put_lines-count
slice_bounds-put_lines-count c = omega (arith, bounds _ _ 0 0 _ (sym c.next.ensures ∙ c.in-Ok-Some.is ∙ ap Ok c.in-Ok-Some.field-0-is))

pub slice_bounds-put_lines-start : goal.slice_bounds-put_lines-start
slice_bounds-put_lines-start c = let b = bounds c.args.payload.now _ 0 0 _ (sym c.next.ensures ∙ c.in-Ok-Some.is ∙ ap Ok c.in-Ok-Some.field-0-is) in search rules

pub slice_bounds-put_lines-end : goal.slice_bounds-put_lines-end
slice_bounds-put_lines-end c = let b = bounds c.args.payload.now _ 0 0 _ (sym c.next.ensures ∙ c.in-Ok-Some.is ∙ ap Ok c.in-Ok-Some.field-0-is) in search rules

pub loop-record-smaller : goal.loop-record-smaller
loop-record-smaller c = omega (arith, bounds _ _ 0 0 _ (sym c.next.ensures ∙ c.in-Ok-Some.is ∙ ap Ok c.in-Ok-Some.field-0-is))

pub loop-record-preserved : goal.loop-record-preserved
loop-record-preserved c =
    let step_is = sym c.next.ensures ∙ c.in-Ok-Some.is ∙ ap Ok c.in-Ok-Some.field-0-is in
    let i = c.loop-record.invariant in
    let r = c.in-Ok-Some.record in
    let lines = take (r.next.at - r.lines) (drop r.lines c.args.payload.now) in
    let g = go _ _ _ _ _ step_is i.enough _ _ i.reads in
    record {
      steps = i.steps - 1;
      plots = g.rest;
      end = i.end;
      enough = omega (arith, bounds _ _ 0 0 _ step_is);
      reads = go_reads _ _ _ _ _ step_is i.enough _ _ i.reads;
      done = _;
      puts = puts_then i.puts c.put_lines.ensures;
      text =
          i.text ∙ ap (λ (t : List ℕ). i.done ++ t) (plots-next _ _ _ _ _ step_is i.enough _ _ i.reads)
          ∙ sym (append_assoc i.done (lines_text r.next.last (length lines / 3) lines) (plots_text g.rest));
    }

pub returns-in_default : goal.returns-in_default
returns-in_default c =
    let i = c.loop-record.invariant in
    let none = plots_end _ _ _ _ i.enough (λ rec e. absurd (let x : c.next.result ≡ Ok (Some rec) = c.next.ensures ∙ e in cc)) _ _ i.reads in
    puts_as (text_done _ _ _ i.text none) i.puts

pub returns-in_default-2 : goal.returns-in_default-2
returns-in_default-2 c =
    let i = c.loop-record.invariant in
    let none = plots_end _ _ _ _ i.enough (λ rec e. absurd (let x : c.next.result ≡ Ok (Some rec) = c.next.ensures ∙ e in cc)) _ _ i.reads in
    puts_as (text_done _ _ _ i.text none) i.puts
