-- Each arm fills as its mode does.
use Rattle.sheet.proofs.Passes.{found-number, found_in, filled_in, filled-spots}
use Rattle.sheet.proofs.fill.fill_in.Goals as goal

pub returns-in-Spots : goal.returns-in-Spots
returns-in-Spots c =
    let a = c.args in
    let n = found-number _ _ _ _ _ (found_in _ _ _ _ _ _ c.in-Spots.is c.requires.found.1) in
    filled_in _ _ _ _ _ c.in-Spots.is
    (filled-spots a.p c.requires.in_range a.read.now c.requires.room.block_count n a.out.now _ c.requires.room.word_count c.correct.ensures.out_after)
