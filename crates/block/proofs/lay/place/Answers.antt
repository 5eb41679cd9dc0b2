-- `block::place` meets its contract: the read cells are copied, and the error is added to the run's part.
use Prim.Native.Nat.{◌+◌, ◌-◌}
use native.Mathlib.Omega.{arith}
use mathlib.Core.Path.{refl}
use Rattle.block.proofs.Steps.{placed_law}
use Rattle.block.proofs.lay.place.Goals as goal

pub returns : goal.returns
returns c =
    placed_law c.args.read.now _ _ _ _ c.args.start c.args.size (c.args.start + c.args.size - c.args.start) c.requires.size_in_bounds.0 (omega arith)
    c.copy_cells.ensures refl c.add_error.ensures
