-- A refused plot leaves the payload; else its record is written where it was told to begin.
use Prim.Native.Nat.{◌+◌, ◌-◌}
use native.Mathlib.Omega.{arith}
use mathlib.Core.Path.{◌≡◌, sym}
use lib.ListN.{length}
use Rattle.plot.proofs.Entries.{taken, put_in, left_as_was}
use Rattle.plot.proofs.add.Goals as goal

pub returns-in_err-start-clause-payload_after : goal.returns-in_err-start-clause-payload_after
returns-in_err-start-clause-payload_after c = left_as_was _ _ _ (sym c.in_err-start.ensures)

-- the place was given, so that the plot fits there
pub overflow_add-end-2 : goal.overflow_add-end-2
overflow_add-end-2 c = omega (arith, taken c.args.payload.now (record { number = c.args.plot; lines = c.args.lines.now }) _ (sym c.in_ok-start.ensures))

pub slice_bounds-put_record-end : goal.slice_bounds-put_record-end
slice_bounds-put_record-end c = omega (arith, taken c.args.payload.now (record { number = c.args.plot; lines = c.args.lines.now }) _ (sym c.in_ok-start.ensures))

pub put_record-requires-clause-lines_len_bound : goal.put_record-requires-clause-lines_len_bound
put_record-requires-clause-lines_len_bound c = (taken c.args.payload.now (record { number = c.args.plot; lines = c.args.lines.now }) _ (sym c.in_ok-start.ensures)).short

pub returns-clause-payload_after : goal.returns-clause-payload_after
returns-clause-payload_after c =
    let a = c.args in
    let start = c.in_ok-start.start in
    let k : start + (5 + length a.lines.now) - start ≡ 5 + length a.lines.now = omega arith in
    put_in a.payload.now _ _ _ c.put_record.ensures (sym c.in_ok-start.ensures) _ k
