-- `alpha_power` meets its contract. The loop's invariant: the result is α to the number of turns so far; e modulo 255 turns serve, since
-- α^255 is 1. Assumes nothing.
use mathlib.Core.Path.{◌≡◌}
use Rattle.field.specs.Field.{alpha}
use Rattle.field.proofs.alpha_power.Given as goal

abbrev pub invariant-loop : goal.invariant-loop
invariant-loop l = l.result ≡ alpha l.counter
