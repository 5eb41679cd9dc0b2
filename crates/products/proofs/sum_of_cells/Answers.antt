-- Halves of the word are added, then halves of the half.
use native.Mathlib.Omega.{arith}
use Rattle.products.proofs.Total.{cells-sum}
use Rattle.products.proofs.sum_of_cells.Goals as goal

pub returns : goal.returns
returns c = cells-sum _ (omega arith)
