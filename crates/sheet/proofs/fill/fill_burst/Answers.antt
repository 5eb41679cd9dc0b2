-- By the error that was kept, or by the block's own cells, the fill leaves the codeword.
use Rattle.std.proofs.Common.{ap₂, ℕ, ◌∙◌, arith}
use Rattle.register.specs.Words.{cells}
use Rattle.lists.proofs.Bytes.{bytes_of}
use Rattle.block.specs.Runs.{Cells}
use Rattle.block.specs.Block.{fill_leaves, fill_by_leaves}
use Rattle.sheet.proofs.Passes.{filled_by, filled_again}
use Rattle.sheet.proofs.fill.fill_burst.Goals as goal

pub returns-in-Some : goal.returns-in-Some
returns-in-Some c =
    let a = c.args in
    let y = a.read.now in
    let h : Cells a.p y = record { count = c.requires.room.block_count; bytes = bytes_of y (λ i. omega (arith, c.type_inv.read i)) } in
    filled_by a.p c.requires.in_range y h a.run a.error c.requires.found.1 a.out.now c.requires.room.word_count c.in-Some.error c.in-Some.is c.requires.found.0 _
    (c.fill_by.ensures.out_after ∙ ap₂ (λ (s f : ℕ). fill_by_leaves a.p y s f (cells c.in-Some.error) a.out.now) c.from-start.ensures c.from-size.ensures)

pub returns-in-None : goal.returns-in-None
returns-in-None c =
    let a = c.args in
    let y = a.read.now in
    let h : Cells a.p y = record { count = c.requires.room.block_count; bytes = bytes_of y (λ i. omega (arith, c.type_inv.read i)) } in
    filled_again a.p c.requires.in_range y h a.run a.error c.requires.found.1 a.out.now c.requires.room.word_count _
    (c.fill.ensures.out_after ∙ ap₂ (λ (s f : ℕ). fill_leaves a.p y s f a.out.now) c.from-start.ensures c.from-size.ensures)
