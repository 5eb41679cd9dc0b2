-- The invariant: the cells that are left make of the register what all cells make of a blank one.
use mathlib.Core.Path.{◌≡◌}
use lib.ListN.{drop, replicate}
use Rattle.register.specs.Words.{cells}
use Rattle.register.specs.Register.{feeds_back}
use Rattle.register.proofs.divide_back.Given as goal

abbrev pub invariant-loop-c : goal.invariant-loop-c
invariant-loop-c l = feeds_back (cells l.multiples.register) (replicate 64 0) l.input ≡ feeds_back (cells l.multiples.register) (cells l.x) (drop l.c-index l.input)
