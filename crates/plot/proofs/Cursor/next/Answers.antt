-- Past the end and at a zero byte the rest decides; else the checks of `head` on the bytes from the place on.
use Rattle.plot.specs.Grammar.{head_at, all_zero}
use mathlib.Core.Path.{sym, ap, ◌∙◌}
use Rattle.plot.proofs.Cases.{step_past, step_head, step_end, step-tail}
use Rattle.plot.proofs.Lists.{tail-part}
use Rattle.plot.proofs.Cursor.next.Goals as goal

pub returns-then-payload-at : goal.returns-then-payload-at
returns-then-payload-at c = step_past _ _ c.if-payload-at.true

pub returns-then-payload-at-ne0 : goal.returns-then-payload-at-ne0
returns-then-payload-at-ne0 c =
    let a = c.args in
    c.head.ensures ∙ ap (head_at a.self.at) (tail-part a.payload.now a.self.at)
    ∙ step_head _ _ c.if-payload-at.false c.if-payload-at-ne0.true

pub returns-then-all_zero : goal.returns-then-all_zero
returns-then-all_zero c =
    let a = c.args in
    step_end _ _ c.if-payload-at.false c.if-payload-at-ne0.false
    (sym (c.all_zero.ensures ∙ ap all_zero (tail-part a.payload.now a.self.at)) ∙ c.if-all_zero.true)

pub returns : goal.returns
returns c =
    let a = c.args in
    step-tail _ _ c.if-payload-at.false c.if-payload-at-ne0.false
    (sym (c.all_zero.ensures ∙ ap all_zero (tail-part a.payload.now a.self.at)) ∙ c.if-all_zero.false)
