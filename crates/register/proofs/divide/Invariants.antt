-- The invariant: the input is the cells that are left and those that were taken, and the register is what these make of it.
use mathlib.Core.Path.{◌≡◌}
use mathlib.Core.List.{List, ◌++◌}
use Prim.Native.Nat.{ℕ}
use Rattle.register.specs.Words.{cells}
use Rattle.register.specs.Register.{feeds}
use Rattle.register.proofs.divide.Given as goal

abbrev pub invariant-loop-c : goal.invariant-loop-c
invariant-loop-c l = (taken : List ℕ) × (l.input ≡ l.c-iterator.iter.rest.now ++ taken) × (cells l.x ≡ feeds 64 (cells l.multiples.register) taken)
