-- The doubles of a power of α are the next powers.
use mathlib.Core.Path.{◌∙◌}
use native.Mathlib.Omega.{arith}
use Rattle.products.proofs.Points.{points_law}
use Rattle.products.proofs.points_from.Goals as goal

pub returns : goal.returns
returns c =
    let d = c.of.result in
    c.word_of.ensures ∙ points_law c.args.e _ _ _ _ _ _ _ _ (omega (arith, c.of.ensures)) (c.of.ensures ∙ c.alpha_power.ensures) d.doubled
