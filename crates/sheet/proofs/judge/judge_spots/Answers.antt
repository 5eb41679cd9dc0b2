-- The corrector of spot mode, with profile and lengths right, answers by the verdict.
use Rattle.sheet.proofs.Passes.{judged-spots}
use Rattle.sheet.proofs.judge.judge_spots.Goals as goal

pub returns : goal.returns
returns c =
    judged-spots c.args.p c.requires.in_range c.args.read.now c.requires.room.block_count _ c.requires.room.word_count _ c.correct-verdict.ensures.value c.blank.ensures
