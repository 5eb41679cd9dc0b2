-- Each word takes the highest cell of the one before, the first one takes c.
use mathlib.Core.Path.{◌∙◌, ap}
use Prim.Native.Nat.{ℕ}
use Rattle.words.specs.Word.{bytes_from}
use Rattle.words.specs.Cells.{shift_up}
use native.Mathlib.Omega.{arith}
use Rattle.words.proofs.Words.{top_cell}
use Rattle.register.proofs.Cells.{cells_up}
use Rattle.register.proofs.push_bottom.Goals as goal

pub returns : goal.returns
returns c =
    cells_up _ _ _ (c.word_up.ensures ∙ ap (λ (k : ℕ). shift_up k (bytes_from 8 0 c.args.x.w0)) (top_cell _ _ (omega arith) c.at_top.ensures))
    c.word_up-2.ensures
    c.word_up-3.ensures
    c.word_up-4.ensures
    c.word_up-5.ensures
    c.word_up-6.ensures
    c.word_up-7.ensures
    c.word_up-8.ensures
