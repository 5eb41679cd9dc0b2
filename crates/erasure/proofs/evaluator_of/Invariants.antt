-- The invariant: the sum so far and what is left of the syndromes make the whole.
use mathlib.Core.Path.{◌≡◌}
use lib.ListN.{drop}
use Rattle.code.specs.Poly.{padd}
use Rattle.register.specs.Words.{cells}
use Rattle.erasure.specs.Filling.{windows}
use Rattle.erasure.proofs.evaluator_of.Given as goal

abbrev pub invariant-loop-x : goal.invariant-loop-x
invariant-loop-x l = padd (cells l.w) (windows (cells l.rest) (drop l.x-index l.s)) ≡ windows (cells l.fn.l) l.s
