-- `candidates::put_length` meets its contract. The invariant: the runs of this length from the starts below s are written, and counted.
use Rattle.candidates.specs.Lengths.{length_at}
use Rattle.candidates.proofs.Written.{Writing}
use Rattle.candidates.proofs.put_length.Given as goal

abbrev pub invariant-loop-s : goal.invariant-loop-s
invariant-loop-s l = Writing (length_at l.lengths) l.size l.k l.initial.pairs l.s l.count l.pairs
