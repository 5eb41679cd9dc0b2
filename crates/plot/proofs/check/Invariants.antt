-- The payload check. Outer invariant: the whole reading is the reading from the cursor on; its measure is the bytes left. Inner invariant: what is found in the
-- lines of the record is what is found in those that the iterator has left.
use Prim.Native.Nat.{ℕ, ◌+◌, ◌-◌, ◌/◌, ◌≤◌}
use mathlib.Core.Path.{◌≡◌}
use lib.ListN.{length, take, drop}
use Rattle.std.specs.Slice.Iter.{chunks_exact_rest, chunks_exact_size}
use Rattle.std.specs.Iterator.Adapters.{enumerate_source, enumerate_count}
use Rattle.plot.specs.Layout.{no_line, lines_check}
use Rattle.plot.specs.Grammar.{read_from, reading}
use Rattle.plot.specs.Answers.{checked_of}
use Rattle.plot.proofs.check.Given as goal

abbrev pub invariant-loop-index : goal.invariant-loop-index
invariant-loop-index l =
    let left = enumerate_source l.index-iterator in
    let rest = chunks_exact_rest left in
    let lines = take (l.found.next.at - l.found.lines) (drop l.found.lines l.payload) in record {
      can : (goal.iterator-loop-index).can_next l.index-iterator;
      finite : (goal.iterator-loop-index).is_finite l.index-iterator;
      three : chunks_exact_size left ≡ 3;
      lines : lines_check no_line 0 (length lines / 3) lines ≡ lines_check l.before (enumerate_count l.index-iterator) (length rest / 3) rest;
    }

abbrev pub invariant-records : goal.invariant-records
invariant-records l =
    (f : ℕ) × (length l.payload ≤ l.c.at + f) × (l.c.at ≤ length l.payload)
    × (checked_of 0 (reading l.payload) ≡ checked_of l.c.last (read_from f l.c.at l.c.last (drop l.c.at l.payload)))

abbrev pub decreases-records : goal.decreases-records
decreases-records l = length l.payload - l.c.at
