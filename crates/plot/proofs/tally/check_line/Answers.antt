-- The checks of a line in their order: each return is a case of `line_check`.
use mathlib.Core.Path.{sym, ◌∙◌}
use Rattle.plot.proofs.Lines.{range_told, line_species, line_class, line_count_lem, line_order, line_holds_lem}
use Rattle.plot.proofs.tally.check_line.Goals as goal

pub returns-then-not-contains : goal.returns-then-not-contains
returns-then-not-contains c =
    let a = c.new.ensures in
    line_species _ _ (range_told 1 99 _ a.start a.end a.exhausted c.contains.ensures.value c.if-not-contains.true)

pub returns-then-not-contains-2 : goal.returns-then-not-contains-2
returns-then-not-contains-2 c =
    let a = c.new.ensures in
    let b = c.new-2.ensures in
    line_class _ _ (range_told 1 99 _ a.start a.end a.exhausted c.contains.ensures.value c.if-not-contains.false)
    (range_told 1 200 _ b.start b.end b.exhausted c.contains-2.ensures.value c.if-not-contains-2.true)

pub returns-then-not-contains-3 : goal.returns-then-not-contains-3
returns-then-not-contains-3 c =
    let a = c.new.ensures in
    let b = c.new-2.ensures in
    let d = c.new-3.ensures in
    line_count_lem _ _ (range_told 1 99 _ a.start a.end a.exhausted c.contains.ensures.value c.if-not-contains.false)
    (range_told 1 200 _ b.start b.end b.exhausted c.contains-2.ensures.value c.if-not-contains-2.false)
    (range_told 1 255 _ d.start d.end d.exhausted c.contains-3.ensures.value c.if-not-contains-3.true)

pub returns-then-not-rises_above : goal.returns-then-not-rises_above
returns-then-not-rises_above c =
    let a = c.new.ensures in
    let b = c.new-2.ensures in
    let d = c.new-3.ensures in
    line_order _ _ (range_told 1 99 _ a.start a.end a.exhausted c.contains.ensures.value c.if-not-contains.false)
    (range_told 1 200 _ b.start b.end b.exhausted c.contains-2.ensures.value c.if-not-contains-2.false)
    (range_told 1 255 _ d.start d.end d.exhausted c.contains-3.ensures.value c.if-not-contains-3.false)
    (sym c.rises_above.ensures ∙ c.if-not-rises_above.true)

pub returns : goal.returns
returns c =
    let a = c.new.ensures in
    let b = c.new-2.ensures in
    let d = c.new-3.ensures in
    line_holds_lem _ _ (range_told 1 99 _ a.start a.end a.exhausted c.contains.ensures.value c.if-not-contains.false)
    (range_told 1 200 _ b.start b.end b.exhausted c.contains-2.ensures.value c.if-not-contains-2.false)
    (range_told 1 255 _ d.start d.end d.exhausted c.contains-3.ensures.value c.if-not-contains-3.false)
    (sym c.rises_above.ensures ∙ c.if-not-rises_above.false)
