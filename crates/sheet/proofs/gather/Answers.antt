use Rattle.std.proofs.Common.{length, sym, ◌∙◌, arith}
use Rattle.lists.proofs.Fill.{fill_more, fill_all}
use Rattle.sheet.specs.Sheet.{block_of}
use Rattle.sheet.proofs.Apart.{block_length, block_cell}
use Rattle.sheet.proofs.gather.Goals as goal

pub loop-i-preserved : goal.loop-i-preserved
loop-i-preserved c =
    let l = c.loop-i in
    let a = c.args in
    let n = length a.out.now in
    let e = block_length a.depth n a.sheet.now a.d in
    rw (l.invariant, sym (block_cell a.depth n a.sheet.now a.d l.i c.loop-i-test.true))
    (fill_more l.i (block_of a.depth n a.sheet.now a.d) a.out.now 0 c.loop-i-test.true (omega (arith, e)))

pub returns : goal.returns
returns c =
    let a = c.args in
    let n = length a.out.now in
    let e = block_length a.depth n a.sheet.now a.d in
    c.loop-i.invariant ∙ fill_all c.loop-i.i (block_of a.depth n a.sheet.now a.d) a.out.now (omega (arith, e)) (omega arith)
