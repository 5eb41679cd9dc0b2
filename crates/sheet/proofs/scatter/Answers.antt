use Rattle.std.proofs.Common.{◌+◌, ◌*◌, ◌<◌, length, arith}
use Rattle.sheet.proofs.Places.{cell_inside}
use Rattle.sheet.proofs.Apart.{laid_more}
use Rattle.sheet.proofs.scatter.Goals as goal

pub loop-i-preserved : goal.loop-i-preserved
loop-i-preserved c =
    let l = c.loop-i in
    let a = c.args in
    let q = c.requires in
    let h : l.i * a.depth + a.d < length l.sheet = omega (arith, cell_inside a.depth _ l.i a.d q.0 c.loop-i-test.true) in
    laid_more l.i a.depth a.d a.word.now a.sheet.now l.sheet q.0 h l.invariant
