-- A bit of each cell times 255 is a mask of whole cells: no product carries.
use native.Mathlib.Omega.{arith}
use Rattle.products.proofs.Product.{chosen_law}
use Rattle.products.proofs.chosen.Goals as goal

pub returns : goal.returns
returns c = chosen_law _ _ _ (omega arith) (omega arith)
