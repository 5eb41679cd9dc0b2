-- Products, powers and values of eight cells at once.
use mathlib.Core.Path.{ap, ap₂, ◌∙◌}
use Rattle.products.specs.Products.{times, powers}
use Rattle.erasure.proofs.Words.{values_law}
use Rattle.erasure.proofs.Formula.values_at.Goals as goal

pub returns : goal.returns
returns c = c.word_times.ensures ∙ ap₂ times (c.word_power-inverse.ensures ∙ ap (powers 254) (c.word_times-below.ensures ∙ ap₂ times c.word_power-power.ensures c.values_at.ensures)) c.values_at-2.ensures ∙ values_law _ _ _ _
