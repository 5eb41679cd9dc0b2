-- The invariant: the register holds the generator with as many roots as there were turns, but for its cell 1 on top, and d has the doubles of the next root.
use mathlib.Core.Path.{◌≡◌}
use Prim.Native.Nat.{◌+◌}
use lib.ListN.{take}
use Rattle.field.specs.Field.{alpha}
use Rattle.code.specs.Code.{generator}
use Rattle.register.specs.Words.{cells}
use Rattle.register.specs.Register.{on_top}
use Rattle.register.proofs.generator_top.Given as goal

abbrev pub invariant-loop : goal.invariant-loop
invariant-loop l = (l.d.c0 ≡ alpha (l.b + l.counter)) × (cells l.g ≡ on_top l.counter (take l.counter (generator l.b l.counter)))
