-- `candidates::put_lengths` meets its contract. The invariant: the runs of less than `size` cells are written, and counted.
use Prim.Native.Nat.{◌+◌, ◌-◌, ◌≤◌}
use lib.ListN.{length}
use Rattle.candidates.specs.Lengths.{length_at}
use Rattle.candidates.proofs.Written.{Wrote}
use Rattle.candidates.proofs.put_lengths.Given as goal

abbrev pub invariant-loop-size : goal.invariant-loop-size
invariant-loop-size l = record {
  near : l.size ≤ l.limit + 1;
  wrote : Wrote (length_at l.lengths) (length l.lengths) l.initial.pairs (l.size - 1) l.count l.pairs;
}
