-- The invariant: i syndromes are read, the register has them, and the recursion has still to go over the others.
use Prim.Native.Nat.{◌≤◌}
use Rattle.register.specs.Words.{cells}
use Rattle.locator.specs.Answer.{recursion_of}
use Rattle.locator.proofs.States.{Reading}
use Rattle.locator.proofs.recursion_over.Given as goal

abbrev pub invariant-loop-i : goal.invariant-loop-i
invariant-loop-i l = record { size : l.k.size ≤ l.i; small : l.k.size ≤ l.limit; reading : Reading l.first l.i (cells l.read) (recursion_of l.k) }
