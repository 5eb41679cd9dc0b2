use Prim.Native.Nat.{ℕ, ◌+◌, ◌*◌, ◌-◌, ◌/◌, ◌<◌}
use native.Mathlib.Omega.{arith}
use mathlib.Core.Path.{◌≡◌, sym, ap, subst, ◌∙◌}
use mathlib.Core.List.{List}
use lib.ListN.{length, length-append}
use Rattle.std.specs.Slice.Iter.{chunks_exact_rest, chunks_exact_size}
use Rattle.plot.specs.declared.Line.{Line}
use Rattle.plot.specs.Layout.{line_of, tallies}
use Rattle.plot_promises.specs.Lines.{line_at, InRanges}
use Rattle.stand.specs.Table.{most, plus_line, plus_lines}
use Rattle.stand.specs.Bounds.{AtMost}
use Rattle.stand.proofs.Cells.{at-most_up, line_most}
use Rattle.stand.proofs.Counting.{count_first, count_none, first_in, rest_in}
use Rattle.stand.proofs.count.count_lines.Goals as goal

-- lines that are left, each in its ranges
abbrev InRange : List ℕ → Type 0
InRange s = (i : ℕ) → i < length s / 3 → InRanges (line_at s i)

pub loop-bytes-init : goal.loop-bytes-init
loop-bytes-init c =
    let same = c.into_iter-bytes-iterator.ensures.into_iter_gives in
    let rest : chunks_exact_rest c.into_iter-bytes-iterator.result ≡ c.args.lines.now = ap chunks_exact_rest same ∙ c.chunks_exact-bytes-items.ensures.rest in
    let three : chunks_exact_size c.into_iter-bytes-iterator.result ≡ 3 = ap chunks_exact_size same ∙ c.chunks_exact-bytes-items.ensures.size in
    record {
      can = omega arith;
      finite = tt;
      three = three;
      few = omega (arith, ap length rest, c.requires.few);
      ranges = subst InRange (sym rest) c.requires.ranges;
      cells = at-most_up (most + 1000000) (most + 1000000 + (120 - length (chunks_exact_rest c.into_iter-bytes-iterator.result)) * 85) c.args.table.now (omega arith) c.requires.cells;
      left = ap (λ (s : List ℕ). plus_lines c.args.rows.now.by_species (tallies (length s / 3) s) c.args.table.now) (sym rest);
    }

pub count_line-requires : goal.count_line-requires
count_line-requires c =
    let l = c.loop-bytes.invariant in
    let s = c.in-Some.ensures.steps in
    let r = first_in c.in-Some.bytes.now (chunks_exact_rest c.next.new.self) (s.1.1 ∙ l.three) (subst InRange s.1.0 l.ranges) in
    record {
      ranges = subst InRanges (sym c.from_bytes.ensures) r;
      cells = at-most_up (most + 1000000 + (120 - length (chunks_exact_rest c.loop-bytes.bytes-iterator)) * 85) (most + most) c.loop-bytes.table (omega arith) l.cells;
    }

pub loop-bytes-preserved : goal.loop-bytes-preserved
loop-bytes-preserved c =
    let l = c.loop-bytes.invariant in
    let s = c.in-Some.ensures.steps in
    let rows = c.args.rows.now.by_species in
    let t = c.loop-bytes.table in
    let bytes = c.in-Some.bytes.now in
    let old = chunks_exact_rest c.loop-bytes.bytes-iterator in
    let rest = chunks_exact_rest c.next.new.self in
    let three : length bytes ≡ 3 = s.1.1 ∙ l.three in
    let three-after : chunks_exact_size c.next.new.self ≡ 3 = s.0 ∙ l.three in
    let long : length old ≡ 3 + length rest = omega (arith, ap length s.1.0, length-append bytes rest) in
    let ranges = subst InRange s.1.0 l.ranges in
    let counted = c.count_line.ensures ∙ ap (λ (line : Line). plus_line rows line t) c.from_bytes.ensures in
    let m = line_most rows (line_of bytes) (most + 1000000 + (120 - length old) * 85) t (first_in bytes rest three ranges).count.1 l.cells in
    record {
      can = omega arith;
      finite = tt;
      three = three-after;
      few = omega (arith, l.few);
      ranges = rest_in bytes rest three ranges;
      cells = subst (AtMost (most + 1000000 + (120 - length rest) * 85)) (sym counted)
          (at-most_up (most + 1000000 + (120 - length old) * 85 + 255) (most + 1000000 + (120 - length rest) * 85) (plus_line rows (line_of bytes) t) (omega (arith, l.few)) m);
      left = l.left
          ∙ ap (λ (x : List ℕ). plus_lines rows (tallies (length x / 3) x) t) s.1.0
          ∙ count_first bytes rest three rows t
          ∙ ap (plus_lines rows (tallies (length rest / 3) rest)) (sym counted);
    }

pub returns : goal.returns
returns c =
    let l = c.loop-bytes.invariant in
    let short = c.in-None.ensures.steps.1.0 in
    sym (l.left ∙ count_none c.args.rows.now.by_species (chunks_exact_rest c.loop-bytes.bytes-iterator) c.loop-bytes.table (omega (arith, short, l.three)))
