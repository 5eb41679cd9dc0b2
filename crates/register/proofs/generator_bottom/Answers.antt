-- The generator on top moved down to the lowest cells, without its lowest, and divided by it.
use Prim.Native.Nat.{min}
use native.Mathlib.Omega.{arith}
use Rattle.register.specs.Words.{cells}
use Rattle.register.proofs.Cells.{cells-length}
use Rattle.register.proofs.Generator.{bottom_law}
use Rattle.register.proofs.generator_bottom.Goals as goal

pub returns : goal.returns
returns c =
    let a = c.args in
    bottom_law (min a.r 64) _ _ (cells a.g) _ _ _ _ (omega arith) (cells-length a.g) c.lowered.ensures c.bottom-c.ensures
    c.inverse.ensures c.push_top.ensures c.lowered-2.ensures c.scale.ensures
