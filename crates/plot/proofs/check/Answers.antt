-- Each turn leaves the reading from the cursor on, and within a record the check of the lines that the iterator has left.
use Prim.Native.Nat.{◌-◌}
use native.Mathlib.Omega.{arith}
use mathlib.Core.Path.{◌≡◌, sym, ap, ◌∙◌}
use Rattle.std.specs.Prelude.{Some, None, Ok, Err}
use Rattle.std.proofs.Common.{rules}
use lib.ListN.{length, drop, length-drop}
use Rattle.plot.specs.Grammar.{step_at}
use Rattle.plot.specs.Answers.{checked_of}
use Rattle.plot.proofs.Cases.{read-end, read-refused, bounds, turn_lines, turn_order, turn_on, checked-onto, checked_stopped, checked-plots, reading_long, reading-short}
use Rattle.plot.proofs.Lines.{lines_bad, lines_on, lines_none}
use Rattle.plot.proofs.check.Goals as goal

pub returns-then-payload-gt-LONGEST : goal.returns-then-payload-gt-LONGEST
returns-then-payload-gt-LONGEST c = reading_long _ c.if-payload-gt-LONGEST.true

pub records-init : goal.records-init
records-init c =
    let s = c.args.payload.now in
    (length s, omega arith, omega arith, ap (checked_of 0) (reading-short s c.if-payload-gt-LONGEST.false))

pub returns-in_err-found : goal.returns-in_err-found
returns-in_err-found c =
    let o = c.records in
    let s = c.args.payload.now in
    let l : length (drop o.c.at s) ≡ length s - o.c.at = length-drop o.c.at s in
    let told : c.from_residual.result ≡ Err c.in_err-found.field-0.0 = search rules in
    told ∙ checked_stopped _ _ _ (read-refused _ _ _ _ _ (omega arith) (sym c.in_err-found.ensures)) ∙ sym o.invariant.3

pub returns-in_default : goal.returns-in_default
returns-in_default c =
    let o = c.records in
    let end_is : step_at o.c.at (drop o.c.at c.args.payload.now) ≡ Ok None = cc (c.in_ok-found.ensures) in
    checked-plots _ _ _ (read-end _ _ _ _ end_is) ∙ sym o.invariant.3

pub slice_bounds-lines-count : goal.slice_bounds-lines-count
slice_bounds-lines-count c =
    let o = c.records in
    let step_is : step_at o.c.at (drop o.c.at c.args.payload.now) ≡ Ok (Some c.in-Some.found) = cc (c.in_ok-found.ensures) in
    omega (arith, bounds _ _ 0 0 _ step_is)

pub slice_bounds-lines-start : goal.slice_bounds-lines-start
slice_bounds-lines-start c =
    let o = c.records in
    let step_is : step_at o.c.at (drop o.c.at c.args.payload.now) ≡ Ok (Some c.in-Some.found) = cc (c.in_ok-found.ensures) in
    omega (arith, bounds _ _ 0 0 _ step_is)

pub slice_bounds-lines-end : goal.slice_bounds-lines-end
slice_bounds-lines-end c =
    let o = c.records in
    let step_is : step_at o.c.at (drop o.c.at c.args.payload.now) ≡ Ok (Some c.in-Some.found) = cc (c.in_ok-found.ensures) in
    omega (arith, bounds _ _ 0 0 _ step_is)

pub loop-index-preserved : goal.loop-index-preserved
loop-index-preserved c =
    let a = c.in-Some-2.ensures.steps in
    let i = c.loop-index.invariant in
    record {
      can = search rules;
      finite = tt;
      three = search rules;
      lines = i.lines ∙ lines_on _ _ _ _ _ a.0.1.0 (a.0.1.1 ∙ i.three) _ c.from_bytes-line.ensures (sym c.in_default-check_line.is ∙ c.check_line.ensures) _ a.2;
    }

pub records-smaller : goal.records-smaller
records-smaller c =
    let o = c.records in
    let step_is : step_at o.c.at (drop o.c.at c.args.payload.now) ≡ Ok (Some c.in-Some.found) = cc (c.in_ok-found.ensures) in
    omega (arith, bounds _ _ 0 0 _ step_is)

-- `step_is` is the record that the cursor stands at
pub records-preserved : goal.records-preserved
records-preserved c =
    let o = c.records in
    let step_is : step_at o.c.at (drop o.c.at c.args.payload.now) ≡ Ok (Some c.in-Some.found) = cc (c.in_ok-found.ensures) in
    let i = c.loop-index.invariant in
    let a = c.in-None.ensures.steps in
    let g = i.lines ∙ lines_none _ _ _ (omega arith) in (
      o.invariant.0 - 1,
      omega (arith, bounds _ _ 0 0 _ step_is),
      omega (arith, bounds _ _ 0 0 _ step_is),
      o.invariant.3 ∙ ap (checked_of o.c.last) (turn_on _ _ _ _ _ step_is o.invariant.1 g c.if-found-c.false) ∙ checked-onto _ _ _,
    )

pub returns-in-Err : goal.returns-in-Err
returns-in-Err c =
    let o = c.records in
    let step_is : step_at o.c.at (drop o.c.at c.args.payload.now) ≡ Ok (Some c.in-Some.found) = cc (c.in_ok-found.ensures) in
    let a = c.in-Some-2.ensures.steps in
    let i = c.loop-index.invariant in
    let g = i.lines ∙ lines_bad _ _ _ _ _ a.0.1.0 (a.0.1.1 ∙ i.three) _ c.from_bytes-line.ensures _ c.in-Err.ensures _ a.1 in
    checked_stopped _ _ _ (turn_lines _ _ _ _ _ step_is o.invariant.1 _ g) ∙ sym o.invariant.3

pub returns-then-found-c : goal.returns-then-found-c
returns-then-found-c c =
    let o = c.records in
    let step_is : step_at o.c.at (drop o.c.at c.args.payload.now) ≡ Ok (Some c.in-Some.found) = cc (c.in_ok-found.ensures) in
    let i = c.loop-index.invariant in
    let a = c.in-None.ensures.steps in
    let g = i.lines ∙ lines_none _ _ _ (omega arith) in
    checked_stopped _ _ _ (turn_order _ _ _ _ _ step_is o.invariant.1 g c.if-found-c.true) ∙ sym o.invariant.3
