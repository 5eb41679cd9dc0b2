use mathlib.Core.Path.{◌≡◌}
use Prim.Native.Nat.{◌-◌, ◌+◌}
use native.Mathlib.Omega.{arith}
use Rattle.candidates.specs.Lengths.{length_at}
use Rattle.candidates.proofs.Written.{wrote_none, wrote_room, wrote-next}
use Rattle.candidates.proofs.put_lengths.Goals as goal

pub loop-size-init : goal.loop-size-init
loop-size-init c = record { near = omega arith; wrote = wrote_none _ _ _ }

pub put_length-count-requires-clause-room : goal.put_length-count-requires-clause-room
put_length-count-requires-clause-room c =
    let l = c.loop-size in
    wrote_room (length_at c.args.lengths.now) _ c.args.pairs.now c.requires.2 l.size l.count l.pairs (omega arith) l.invariant.wrote

pub loop-size-preserved : goal.loop-size-preserved
loop-size-preserved c =
    let l = c.loop-size in
    let z = c.put_length-count in
    let e : l.size + 1 - 1 ≡ l.size = omega arith in
    record {
      near = omega arith;
      wrote = rw e (wrote-next (length_at c.args.lengths.now) _ c.args.pairs.now c.requires.2 l.size l.count l.pairs (omega arith) l.invariant.wrote _ _ z.ensures.value z.ensures.pairs_after);
    }

pub returns : goal.returns
returns c =
    let l = c.loop-size in
    let e : l.size - 1 ≡ c.args.limit = omega arith in
    let w = rw e at l.invariant.wrote in
    record { value = w.counted; pairs_after = w.written }

pub returns-2 : goal.returns-2
returns-2 c =
    let l = c.loop-size in
    let z = c.put_length-count in
    let e : l.size ≡ c.args.limit = omega arith in
    let w = rw e at (wrote-next (length_at c.args.lengths.now) _ c.args.pairs.now c.requires.2 l.size l.count l.pairs (omega arith) l.invariant.wrote _ _ z.ensures.value z.ensures.pairs_after) in
    record { value = w.counted; pairs_after = w.written }
