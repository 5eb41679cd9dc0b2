-- The blocks of the messages that the iterator has given stand in the sheet; each turn lays one more and touches no other, and at the end all stand there.
use Rattle.std.proofs.Common.{◌≡◌, ◌*◌, ◌≤◌, drop}
use Rattle.std.specs.Slice.Iter.{chunks_exact_rest, chunks_exact_size}
use Rattle.std.specs.Iterator.Adapters.{enumerate_source, enumerate_count}
use Rattle.profile.specs.Profile.{message_length}
use Rattle.sheet.proofs.Steps.{WrittenBelow}
use Rattle.sheet.proofs.write_blocks.Given as goal

abbrev pub invariant-loop-d : goal.invariant-loop-d
invariant-loop-d l =
    let left = enumerate_source l.d-iterator in
    let d = enumerate_count l.d-iterator in record {
      can : (goal.iterator-loop-d).can_next l.d-iterator;
      finite : (goal.iterator-loop-d).is_finite l.d-iterator;
      most : d ≤ l.p.depth;
      size : chunks_exact_size left ≡ message_length l.p;
      rest : chunks_exact_rest left ≡ drop (d * message_length l.p) l.payload;
      written : WrittenBelow l.p l.payload d l.sheet;
    }
