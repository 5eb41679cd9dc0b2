-- `Found::improved` meets its contract: a start and an extent fit a word.
use native.Mathlib.Omega.{arith}
use Rattle.code.proofs.Search.{extent-le}
use Rattle.register.specs.Words.{cells}
use Rattle.register.proofs.Cells.{cells-length}
use Rattle.block.proofs.search.Found.improved.Goals as goal

pub overflow_add-is_past : goal.overflow_add-is_past
overflow_add-is_past c = omega (arith, c.extent-e.ensures, extent-le (cells c.args.rest), cells-length c.args.rest)
