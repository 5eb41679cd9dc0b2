use Prim.Native.Nat.{◌+◌}
use mathlib.Core.Path.{sym, ap, ◌∙◌}
use Rattle.std.proofs.lemmas.List.{take_rest}
use Rattle.plot.proofs.Lines.{range_told}
use Rattle.stand.specs.Table.{among}
use Rattle.stand.proofs.Lists.{numbers_out, numbers_twice, numbers_on, numbers-end}
use Rattle.stand.proofs.list.numbers_hold.Goals as goal

pub returns-then-not-contains : goal.returns-then-not-contains
returns-then-not-contains c =
    let n = c.new.ensures in
    let w = range_told 1 99 _ n.start n.end n.exhausted c.contains.ensures.value c.if-not-contains.true in
    sym (c.loop-i.invariant ∙ numbers_out _ _ c.loop-i-test.true w)

pub returns-then-contains : goal.returns-then-contains
returns-then-contains c =
    let n = c.new.ensures in
    let w = range_told 1 99 _ n.start n.end n.exhausted c.contains.ensures.value c.if-not-contains.false in
    let a = sym (c.contains-in-loop-i.ensures.value ∙ ap (among _) (take_rest c.args.s.now (c.loop-i.i + 1))) ∙ c.if-contains.true in
    sym (c.loop-i.invariant ∙ numbers_twice _ _ c.loop-i-test.true w a)

pub loop-i-preserved : goal.loop-i-preserved
loop-i-preserved c =
    let n = c.new.ensures in
    let w = range_told 1 99 _ n.start n.end n.exhausted c.contains.ensures.value c.if-not-contains.false in
    let a = sym (c.contains-in-loop-i.ensures.value ∙ ap (among _) (take_rest c.args.s.now (c.loop-i.i + 1))) ∙ c.if-contains.false in
    c.loop-i.invariant ∙ numbers_on _ _ c.loop-i-test.true w a

pub returns : goal.returns
returns c = sym (c.loop-i.invariant ∙ numbers-end _ _ c.loop-i-test.false)
