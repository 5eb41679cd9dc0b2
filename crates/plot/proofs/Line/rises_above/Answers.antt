-- Each return is a case of `rises`.
use borrow.Author.Tests.{le-ltb, lt-ltb, eq-eqb, ne_eqb}
use Rattle.plot.specs.Layout.{rises}
use Rattle.plot.proofs.Line.rises_above.Goals as goal

pub returns-then-before-self : goal.returns-then-before-self
unfolding rises
returns-then-before-self c = rw (lt-ltb _ _ c.if-before-self.true)

pub returns-then-before-self-2 : goal.returns-then-before-self-2
unfolding rises
returns-then-before-self-2 c = rw (le-ltb _ _ c.if-before-self.false, ne_eqb _ _ c.if-before-self-2.true)

pub returns : goal.returns
unfolding rises
returns c = rw (le-ltb _ _ c.if-before-self.false, eq-eqb _ _ c.if-before-self-2.false)
