-- The invariant: what is left to lay, over the cells as they are, is the whole.
use mathlib.Core.Path.{◌≡◌}
use mathlib.Core.List.{map}
use Prim.Native.Nat.{◌≤◌}
use lib.ListN.{length}
use Rattle.erasure.specs.Filling.{quotient_at, laid_at}
use Rattle.erasure.proofs.Formula.lay.Given as goal

abbrev pub invariant-loop-eight : goal.invariant-loop-eight
invariant-loop-eight l = record {
  sizes : (l.eight-iterator.a.size ≡ 8) × (l.eight-iterator.b.size ≡ 8);
  fit : length l.eight-iterator.a.rest.now ≤ length l.eight-iterator.b.rest.now;
  laid : laid_at l.eight-iterator.a.rest.now (map (quotient_at l.self.b l.self.derivative.now l.self.evaluator.now) l.eight-iterator.b.rest.now) l.cells ≡ laid_at l.places (map (quotient_at l.self.b l.self.derivative.now l.self.evaluator.now) l.points) l.initial.cells;
}
