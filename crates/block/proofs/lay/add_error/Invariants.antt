-- Before each turn the part is the sum up to i and as it was from there on.
use mathlib.Core.Path.{◌≡◌}
use mathlib.Core.List.{◌++◌}
use lib.ListN.{length, take, drop}
use Rattle.code.specs.Poly.{padd}
use Rattle.block.proofs.lay.add_error.Given as goal

abbrev pub invariant-cells : goal.invariant-cells
invariant-cells l = l.part ≡ take l.i (padd l.initial.part (take (length l.initial.part) l.error)) ++ drop l.i l.initial.part
