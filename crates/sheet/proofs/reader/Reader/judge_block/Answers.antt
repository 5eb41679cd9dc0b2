-- What is gathered into the scratch is the block.
use Rattle.sheet.proofs.Passes.{gathered_is, judged-at}
use Rattle.sheet.proofs.reader.Reader.judge_block.Goals as goal

pub returns : goal.returns
returns c =
    let a = c.args in
    judged-at _ _ _ _ _ (gathered_is a.self.now.p a.self.now.sheet.now a.d _ _ c.requires.room.block_count c.gather.ensures) c.judge_in.ensures
