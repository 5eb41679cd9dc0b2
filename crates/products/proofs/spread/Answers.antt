-- A byte in each cell: no cell carries into the next.
use mathlib.Core.Path.{ap, ◌∙◌}
use native.Mathlib.Omega.{arith}
use lib.ListN.{replicate}
use Rattle.products.proofs.Product.{spread_law}
use Rattle.products.proofs.spread.Goals as goal

pub returns : goal.returns
returns c = spread_law _ (omega (arith, c.from.ensures)) ∙ ap (replicate 8) c.from.ensures
