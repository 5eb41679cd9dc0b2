-- Each byte beside one of the mark, as far as both go.
use Rattle.std.proofs.Common.{rules, tests, eqb, ◌∙◌}
use Rattle.std.proofs.lemmas.Iterator.{YieldsList-from_slice, YieldsList-from_zip}
use Rattle.std.proofs.lemmas.Iterator.Consumers.{YieldsList-at}
use Rattle.std.proofs.lemmas.Iterator.Search.{all_from_yields_List}
use Rattle.plot.specs.Layout.{mark}
use Rattle.plot.proofs.Cases.{agree_is}
use Rattle.plot.proofs.layout.has_mark.Goals as goal

pub returns : goal.returns
returns c =
    let s = c.args.s.now in
    let bytes = YieldsList-at c.zip.ensures.first (YieldsList-from_slice s c.iter.ensures.rest) in
    let marks = YieldsList-at c.zip.ensures.second (YieldsList-from_slice mark c.iter-2.ensures.rest) in
    all_from_yields_List (λ p. eqb p.0 p.1) c.all.new.self _ c.all.result c.all.ensures.ran (YieldsList-from_zip bytes marks) (λ x b q k. search (rules, tests))
    ∙ agree_is mark s
