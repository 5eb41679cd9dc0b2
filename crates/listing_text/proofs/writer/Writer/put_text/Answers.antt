use Rattle.std.proofs.Common.{sym, add-one}
use Rattle.std.proofs.Math.Seq.{take-suc}
use Rattle.listing_text.proofs.Puts.{puts_none, puts_then, puts_as}
use Rattle.listing_text.proofs.writer.Writer.put_text.Goals as goal

pub loop-b-init : goal.loop-b-init
loop-b-init c = puts_none _

pub loop-b-preserved : goal.loop-b-preserved
loop-b-preserved c =
    let l = c.loop-b in
    let t = c.args.text.now in
    puts_as (sym (rw (add-one l.b-index) (take-suc t l.b-index 0 c.loop-b-test.true))) (puts_then l.invariant c.put.ensures)
