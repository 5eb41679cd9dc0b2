-- The cells before i are laid and no cell of another block is touched: place i D + d has remainder d by D.
use Rattle.sheet.specs.Steps.{Laid}
use Rattle.sheet.proofs.scatter.Given as goal

abbrev pub invariant-loop-i : goal.invariant-loop-i
invariant-loop-i l = Laid l.depth l.i l.d l.word l.initial.sheet l.sheet
