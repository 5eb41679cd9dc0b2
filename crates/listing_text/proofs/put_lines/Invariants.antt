-- What is put and the lines that the iterator has left are the text.
use Rattle.std.proofs.Common.{◌≡◌, ℕ, ◌/◌, List, ◌++◌, length}
use Rattle.std.specs.Slice.Iter.{chunks_exact_rest, chunks_exact_size}
use Rattle.listing_text.specs.Text.{lines_text}
use Rattle.listing_text.specs.Puts.{Puts}
use Rattle.listing_text.proofs.put_lines.Given as goal

abbrev pub invariant-loop-bytes : goal.invariant-loop-bytes
invariant-loop-bytes l =
    let rest = chunks_exact_rest l.bytes-iterator in record {
      can : (goal.iterator-loop-bytes).can_next l.bytes-iterator;
      finite : (goal.iterator-loop-bytes).is_finite l.bytes-iterator;
      three : chunks_exact_size l.bytes-iterator ≡ 3;
      done : List ℕ;
      puts : Puts done l.initial.w l.w;
      text : lines_text l.plot (length l.lines / 3) l.lines ≡ done ++ lines_text l.plot (length rest / 3) rest;
    }
