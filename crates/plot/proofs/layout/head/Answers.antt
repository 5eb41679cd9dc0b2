-- The checks before the lines, in their order: each return is a case of `head_at`.
use native.Mathlib.Omega.{arith}
use mathlib.Core.Path.{◌≡◌, sym, ◌∙◌}
use mathlib.Core.Bool.{true}
use Rattle.plot.specs.Layout.{mark}
use Rattle.plot.specs.Grammar.{agree}
use Rattle.plot.proofs.Cases.{head_mark, head_short, head_lines, head_cut, head_plot, head_record}
use Rattle.plot.proofs.layout.head.Goals as goal

pub returns-then-not-has_mark : goal.returns-then-not-has_mark
returns-then-not-has_mark c = head_mark _ _ (sym c.has_mark.ensures ∙ c.if-not-has_mark.true)

pub returns-then-s-lt-HEADER : goal.returns-then-s-lt-HEADER
returns-then-s-lt-HEADER c =
    let marked : agree mark c.args.s.now ≡ true = sym c.has_mark.ensures ∙ c.if-not-has_mark.false in
    head_short _ _ marked c.if-s-lt-HEADER.true

pub returns-then-count-gt-MOST_LINES : goal.returns-then-count-gt-MOST_LINES
returns-then-count-gt-MOST_LINES c =
    let marked : agree mark c.args.s.now ≡ true = sym c.has_mark.ensures ∙ c.if-not-has_mark.false in
    head_lines _ _ marked c.if-s-lt-HEADER.false (omega arith)

pub returns-then-s-count : goal.returns-then-s-count
returns-then-s-count c =
    let marked : agree mark c.args.s.now ≡ true = sym c.has_mark.ensures ∙ c.if-not-has_mark.false in
    head_cut _ _ marked c.if-s-lt-HEADER.false (omega arith) (omega arith)

pub returns-then-plot-eq0 : goal.returns-then-plot-eq0
returns-then-plot-eq0 c =
    let marked : agree mark c.args.s.now ≡ true = sym c.has_mark.ensures ∙ c.if-not-has_mark.false in
    head_plot _ _ marked c.if-s-lt-HEADER.false (omega arith) (omega arith) (omega arith)

pub returns : goal.returns
returns c =
    let marked : agree mark c.args.s.now ≡ true = sym c.has_mark.ensures ∙ c.if-not-has_mark.false in
    rw (c.from-count.ensures, c.from_le_bytes-plot.ensures) (head_record c.args.at c.args.s.now marked c.if-s-lt-HEADER.false (omega arith) (omega arith) (omega arith))
