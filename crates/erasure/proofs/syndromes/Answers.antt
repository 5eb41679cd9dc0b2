use mathlib.Core.Path.{sym, ◌∙◌}
use mathlib.Core.List.{List}
use Prim.Native.Nat.{ℕ, ◌/◌}
use native.Mathlib.Omega.{arith}
use Rattle.words.proofs.Pad.{pad_nil}
use Rattle.erasure.specs.Erasure.{syndromes}
use Rattle.erasure.proofs.Fill.{syndromes-length}
use Rattle.erasure.proofs.Words.{syndrome_cell, syndromes-end, pad_more}
use Rattle.erasure.proofs.syndromes.Goals as goal

pub loop-i-init : goal.loop-i-init
loop-i-init c = sym (pad_nil 64)

pub loop-i-preserved : goal.loop-i-preserved
loop-i-preserved c =
    let l = c.loop-i in
    let a : ℕ = c.args.b in
    let y : List ℕ = c.args.rest.now in
    pad_more 64 l.i _ (syndromes a _ y) _ (omega arith) (omega (arith, syndromes-length a c.min-n.result y)) l.invariant
    (syndrome_cell _ _ l.i _ _ _ (omega arith) (c.syndrome_words-w.ensures (l.i / 8) (omega arith)) c.cell_at.ensures)

pub returns : goal.returns
returns c = c.loop-i.invariant ∙ syndromes-end _ _ _ c.loop-i.i (omega arith) c.min-n.ensures
