-- Each turn leaves the check of the lines that the iterator has left.
use native.Mathlib.Omega.{arith}
use mathlib.Core.Path.{sym, ◌∙◌}
use Rattle.std.proofs.Common.{rules}
use Rattle.plot.proofs.Lines.{lines_bad, lines_on, lines_none}
use Rattle.plot.proofs.tally.check_lines.Goals as goal

pub loop-index-preserved : goal.loop-index-preserved
loop-index-preserved c =
    let a = c.in-Some.ensures.steps in
    let i = c.loop-index.invariant in
    record {
      can = search rules;
      finite = tt;
      three = search rules;
      lines = i.lines ∙ lines_on _ _ _ _ _ a.0.1.0 (a.0.1.1 ∙ i.three) _ c.from_bytes-line.ensures (sym c.in_default.is ∙ c.check_line.ensures) _ a.2;
    }

pub returns-in-Err : goal.returns-in-Err
returns-in-Err c =
    let a = c.in-Some.ensures.steps in
    let i = c.loop-index.invariant in
    sym (i.lines ∙ lines_bad _ _ _ _ _ a.0.1.0 (a.0.1.1 ∙ i.three) _ c.from_bytes-line.ensures _ c.in-Err.ensures _ a.1)

pub returns : goal.returns
returns c =
    let a = c.in-None.ensures.steps in
    let i = c.loop-index.invariant in
    sym (i.lines ∙ lines_none _ _ _ (omega arith))
