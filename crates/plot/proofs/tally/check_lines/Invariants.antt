-- What is found in the lines is what is found in those that the iterator has left.
use Prim.Native.Nat.{◌/◌}
use mathlib.Core.Path.{◌≡◌}
use lib.ListN.{length}
use Rattle.std.specs.Slice.Iter.{chunks_exact_rest, chunks_exact_size}
use Rattle.std.specs.Iterator.Adapters.{enumerate_source, enumerate_count}
use Rattle.plot.specs.Layout.{no_line, lines_check}
use Rattle.plot.proofs.tally.check_lines.Given as goal

abbrev pub invariant-loop-index : goal.invariant-loop-index
invariant-loop-index l =
    let left = enumerate_source l.index-iterator in
    let rest = chunks_exact_rest left in record {
      can : (goal.iterator-loop-index).can_next l.index-iterator;
      finite : (goal.iterator-loop-index).is_finite l.index-iterator;
      three : chunks_exact_size left ≡ 3;
      lines : lines_check no_line 0 (length l.lines / 3) l.lines ≡ lines_check l.before (enumerate_count l.index-iterator) (length rest / 3) rest;
    }
