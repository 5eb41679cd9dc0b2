-- The registers hold the polynomials with zeros above; what is laid is the filled cells.
use mathlib.Core.Path.{◌∙◌}
use Rattle.erasure.proofs.Words.{filled_law}
use Rattle.erasure.proofs.fill_places.Goals as goal

pub returns : goal.returns
returns c =
    let a = c.args in
    let n = c.min-n in
    let m = c.min-m in
    let k = c.min-k in
    c.lay.ensures
    ∙ filled_law a.b n.result m.result k.result a.syndromes.now a.places.now a.points.now a.cells.now _ _ _ _ n.ensures m.ensures k.ensures
    c.rooted_of.ensures
    c.shift_down-l.ensures
    (c.low_cells-w.ensures ∙ c.evaluator_of.ensures)
    (c.low_cells-d.ensures ∙ c.derivative_of.ensures)
