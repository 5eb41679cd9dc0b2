use mathlib.Core.Path.{◌≡◌, ap, ◌∙◌}
use native.Mathlib.Omega.{arith}
use lib.ListN.{length, replicate, get_or-append}
use lib.Seq.{length-take-le}
use Rattle.words.specs.Word.{bytes_from}
use Rattle.erasure.proofs.Words.{points-first, points-next, words_more}
use Rattle.erasure.proofs.syndrome_words.Goals as goal

pub loop-word-init : goal.loop-word-init
loop-word-init c = record { here = points-first _ _ c.points_from-x.ensures; values = λ j h. absurd (omega arith) }

pub loop-word-preserved : goal.loop-word-preserved
loop-word-preserved c =
    let l = c.loop-word in
    record {
      here = points-next _ l.word-index l.x _ l.invariant.here c.next_points-x.ensures;
      values = words_more _ _ l.word-items l.word-index _ l.x (omega arith) l.invariant.here c.values_at.ensures l.invariant.values;
    }

pub returns : goal.returns
returns c =
    let l = c.loop-word in λ k h.
    let n : length l.word-items ≡ c.args.count = c.loop-word.auto.word-items ∙ length-take-le c.args.count (replicate 8 0) (omega (arith, c.requires)) in
    ap (bytes_from 8 0) (get_or-append l.word-items _ 0 k (omega arith)) ∙ l.invariant.values k (omega arith)
