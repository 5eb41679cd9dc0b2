-- The invariant: i cells are out. Cell i of the register is cell i % 8 of word i / 8.
use mathlib.Core.Path.{◌≡◌}
use lib.ListN.{length, take}
use Rattle.register.specs.Words.{unpack}
use Rattle.register.proofs.low_cells.Given as goal

abbrev pub invariant-loop-i : goal.invariant-loop-i
invariant-loop-i l = (length l.out ≡ 64) × (take l.i l.out ≡ take l.i (unpack l.w))
