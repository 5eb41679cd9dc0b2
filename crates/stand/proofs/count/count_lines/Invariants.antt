-- What is left to count are the lines that the iterator has left. A cell grows by at most 255 a line, which is 85 a byte.
use Prim.Native.Nat.{ℕ, ◌+◌, ◌*◌, ◌-◌, ◌/◌, ◌<◌, ◌≤◌}
use mathlib.Core.Path.{◌≡◌}
use lib.ListN.{length}
use Rattle.std.specs.Slice.Iter.{chunks_exact_rest, chunks_exact_size}
use Rattle.plot.specs.Layout.{tallies}
use Rattle.plot_promises.specs.Lines.{line_at, InRanges}
use Rattle.stand.specs.Table.{most, plus_lines}
use Rattle.stand.specs.Bounds.{AtMost}
use Rattle.stand.proofs.count.count_lines.Given as goal

abbrev pub invariant-loop-bytes : goal.invariant-loop-bytes
invariant-loop-bytes l =
    let rest = chunks_exact_rest l.bytes-iterator in record {
      can : (goal.iterator-loop-bytes).can_next l.bytes-iterator;
      finite : (goal.iterator-loop-bytes).is_finite l.bytes-iterator;
      three : chunks_exact_size l.bytes-iterator ≡ 3;
      few : length rest ≤ 120;
      ranges : (i : ℕ) → i < length rest / 3 → InRanges (line_at rest i);
      cells : AtMost (most + 1000000 + (120 - length rest) * 85) l.table;
      left : plus_lines l.rows.by_species (tallies (length l.lines / 3) l.lines) l.initial.table ≡ plus_lines l.rows.by_species (tallies (length rest / 3) rest) l.table;
    }
