-- The checks of an added plot in their order: each return is a case of `room_for`.
use mathlib.Core.Path.{sym, ◌∙◌}
use Rattle.plot.proofs.Entries.{add_long, add_odd, add-zero-plot, add-lines, add_order, add_full, add-here}
use Rattle.plot.proofs.room.Goals as goal

pub returns-then-lines-gt120 : goal.returns-then-lines-gt120
returns-then-lines-gt120 c = add_long _ _ _ _ c.if-lines-gt120.true

pub returns-then-lines-ne0 : goal.returns-then-lines-ne0
returns-then-lines-ne0 c = add_odd _ _ _ _ c.if-lines-gt120.false c.if-lines-ne0.true

pub returns-then-plot-eq0 : goal.returns-then-plot-eq0
returns-then-plot-eq0 c = add-zero-plot _ _ _ _ c.if-lines-gt120.false c.if-lines-ne0.false c.if-plot-eq0.true

pub returns-in-Err : goal.returns-in-Err
returns-in-Err c = add-lines _ _ _ _ c.if-lines-gt120.false c.if-lines-ne0.false c.if-plot-eq0.false _ (sym c.in-Err.ensures)

pub returns-then-plot-c : goal.returns-then-plot-c
returns-then-plot-c c =
    let hold = sym c.check_lines.ensures ∙ c.in_default.is in
    add_order _ _ _ _ c.if-lines-gt120.false c.if-lines-ne0.false c.if-plot-eq0.false hold c.if-plot-c.true

pub returns-then-size-at : goal.returns-then-size-at
returns-then-size-at c =
    let hold = sym c.check_lines.ensures ∙ c.in_default.is in
    add_full _ _ _ _ c.if-lines-gt120.false c.if-lines-ne0.false c.if-plot-eq0.false hold c.if-plot-c.false c.if-size-at.true

pub returns : goal.returns
returns c =
    let hold = sym c.check_lines.ensures ∙ c.in_default.is in
    add-here _ _ _ _ c.if-lines-gt120.false c.if-lines-ne0.false c.if-plot-eq0.false hold c.if-plot-c.false c.if-size-at.false
