-- The block's entry, with profile and lengths right, writes the block, and its cells are laid.
use Rattle.std.proofs.Common.{◌≡◌, length, sym, ◌∙◌}
use Rattle.block.specs.Block.{encode}
use Rattle.block.proofs.Answers.{block_written}
use Rattle.sheet.proofs.Lists.{zeros, lent}
use Rattle.sheet.proofs.write_block.Goals as goal

pub returns : goal.returns
unfolding zeros
returns c =
    let a = c.args in
    let h = c.requires in
    let w = c.write in
    let n = lent a.p.n h.in_range.n_most in
    let q : w.new.cells ≡ encode a.p.b a.p.r a.message.now = w.ensures.cells_after ∙ block_written a.p h.in_range a.message.now _ h.d_lt_depth.1 n in
    let z : length w.new.cells ≡ a.p.n = w.auto.cells ∙ n in
    rw (sym q, sym z) c.scatter.ensures
