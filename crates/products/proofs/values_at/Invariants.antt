-- The invariant: the word has the values of the cells behind.
use Rattle.products.proofs.Backwards.{Behind}
use Rattle.products.proofs.Points.{Values}
use Rattle.products.proofs.values_at.Given as goal

abbrev pub invariant-loop-c : goal.invariant-loop-c
invariant-loop-c l = Behind l.p l.c-iterator.iter.rest.now (Values l.points l.v)
