use mathlib.Core.Path.{sym, ap, ◌∙◌}
use Prim.Native.Nat.{ℕ, ◌+◌}
use native.Mathlib.Omega.{arith}
use Rattle.words.specs.Word.{bytes_from}
use Rattle.words.specs.Cells.{shift_up}
use Rattle.words.proofs.Words.{top_cell}
use Rattle.words.proofs.Load.{load_none, load_more, load_all, load_past, no_cells}
use Rattle.words.proofs.load_word.Goals as goal

pub returns-then-s-k : goal.returns-then-s-k
returns-then-s-k c = load_past c.args.k c.args.s.now (omega arith)

pub loop-i-init : goal.loop-i-init
loop-i-init c = (omega (arith, c.min-end.ensures), no_cells ∙ sym (load_none 8 (c.args.k + 8) _ c.args.s.now (omega (arith, c.min-end.ensures))))

pub loop-i-preserved : goal.loop-i-preserved
loop-i-preserved c =
    let l = c.loop-i in
    let a = c.args in (
      omega arith,
      load_more 8 (a.k + 8) l.i a.s.now _ _ (omega arith) (omega (arith, c.min-end.ensures)) (omega (arith, c.min-end.ensures)) l.invariant.1
          (c.word_up-w.ensures ∙ ap (λ (x : ℕ). shift_up x (bytes_from 8 0 l.w)) (top_cell _ _ (omega arith) c.at_top.ensures)),
    )

pub returns : goal.returns
returns c =
    let l = c.loop-i in
    let a = c.args in
    l.invariant.1 ∙ load_all 8 a.k l.i a.s.now (omega arith) (omega (arith, l.invariant.0))
