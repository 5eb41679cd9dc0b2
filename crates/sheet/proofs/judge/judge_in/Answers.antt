-- Each arm judges as its mode does.
use Rattle.std.proofs.Common.{arith}
use Rattle.lists.proofs.Bytes.{bytes_of}
use Rattle.sheet.proofs.Passes.{judged-burst, judged_in}
use Rattle.sheet.proofs.judge.judge_in.Goals as goal

pub returns-in-Burst : goal.returns-in-Burst
returns-in-Burst c =
    let y = c.args.read.now in
    judged_in _ _ _ _ _ c.in-Burst.is
    (judged-burst c.args.p c.requires.in_range y (record { count = c.requires.room.block_count; bytes = bytes_of y (λ i. omega (arith, c.type_inv.read i)) }) _
    c.judge.ensures.verdict_value c.judge.ensures.error_value)
