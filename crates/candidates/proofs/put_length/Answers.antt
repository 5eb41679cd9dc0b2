use mathlib.Core.Path.{sym, ◌∙◌}
use Prim.Native.Nat.{◌<◌}
use native.Mathlib.Omega.{arith}
use lib.ListN.{length}
use Rattle.candidates.specs.Lengths.{length_at}
use Rattle.candidates.proofs.Written.{writing-none, writing_room, writing-found, writing_other}
use Rattle.candidates.proofs.put_length.Goals as goal
use Rattle.candidates.proofs.put_length.Goals.{then-from-size, else-from-size}

pub loop-s-init : goal.loop-s-init
loop-s-init c = writing-none (length_at c.args.lengths.now) c.args.size c.args.k c.args.pairs.now

pub put-requires : goal.put-requires
put-requires c =
    let l = c.loop-s in (
      writing_room (length_at c.args.lengths.now) c.args.size c.args.k c.args.pairs.now _ c.requires.room l.s l.count l.pairs (omega arith) l.invariant (sym c.from.ensures ∙ c.if-from-size.true),
      omega arith,
      omega arith,
    )

pub overflow_add-count : goal.overflow_add-count
overflow_add-count c =
    let l = c.loop-s in
    let room = writing_room (length_at c.args.lengths.now) c.args.size c.args.k c.args.pairs.now _ c.requires.room l.s l.count l.pairs (omega arith) l.invariant (sym c.from.ensures ∙ c.if-from-size.true) in
    omega (arith, room)

pub loop-s-preserved : goal.loop-s-preserved
loop-s-preserved c =
    let l = c.loop-s in
    let m : l.s < length c.args.lengths.now = omega arith in
    elim c.if-from-size.branch [
      | then-from-size w ↦
          let found = writing-found (length_at c.args.lengths.now) c.args.size c.args.k c.args.pairs.now _ c.requires.room l.s l.count l.pairs m l.invariant w.put.new.pairs (sym c.from.ensures ∙ w.if-from-size.true) w.put.ensures in
          record { counted = w.count-is ∙ found.counted; written = w.pairs-is ∙ found.written }
      | else-from-size w ↦
          let other = writing_other (length_at c.args.lengths.now) c.args.size c.args.k c.args.pairs.now _ c.requires.room l.s l.count l.pairs m l.invariant (λ e. w.if-from-size.false (c.from.ensures ∙ e)) in
          record { counted = w.count-is ∙ other.counted; written = w.pairs-is ∙ other.written }
    ]
