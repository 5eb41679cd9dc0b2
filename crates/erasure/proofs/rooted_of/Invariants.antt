-- The invariant: the register has the product for the points behind.
use Rattle.products.proofs.Backwards.{Behind}
use Rattle.erasure.proofs.Registers.{Rooted}
use Rattle.erasure.proofs.rooted_of.Given as goal

abbrev pub invariant-loop-x : goal.invariant-loop-x
invariant-loop-x l = Behind l.points l.x-iterator.iter.rest.now (Rooted l.p)
