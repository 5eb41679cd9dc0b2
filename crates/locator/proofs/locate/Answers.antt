-- The recursion left above the limit, a wrong number of roots, and all roots: the three cases of the answer.
use mathlib.Core.Path.{◌∙◌}
use Rattle.locator.proofs.Answer.{size_above, roots_missing, roots_right}
use Rattle.locator.proofs.locate.Goals as goal

pub returns-in_err-k : goal.returns-in_err-k
returns-in_err-k c =
    let a = c.args in
    c.from_residual.ensures ∙ size_above a.syndromes.now a.n a.h _ c.min.ensures c.in_err-k.ensures

pub returns-then-is_another : goal.returns-then-is_another
returns-then-is_another c =
    let a = c.args in
    let k = c.in_ok-k.ensures in
    roots_missing a.syndromes.now a.n a.h _ c.min.ensures _ _ _ _ c.min-2.ensures k.0 k.1 c.locator_cells-cells.ensures.0 c.roots_among-found.ensures c.if-is_another.true

pub returns : goal.returns
returns c =
    let a = c.args in
    let k = c.in_ok-k.ensures in
    roots_right a.syndromes.now a.n a.h _ c.min.ensures _ _ _ _ c.min-2.ensures k.0 k.1 c.locator_cells-cells.ensures.0 c.roots_among-found.ensures c.if-is_another.false
