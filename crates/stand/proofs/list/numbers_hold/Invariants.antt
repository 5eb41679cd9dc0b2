-- Species numbers, none twice: the invariant is that those from `i` on decide.
use mathlib.Core.Path.{◌≡◌}
use lib.ListN.{drop}
use Rattle.stand.specs.Table.{numbers_hold}
use Rattle.stand.proofs.list.numbers_hold.Given as goal

abbrev pub invariant-loop-i : goal.invariant-loop-i
invariant-loop-i l = numbers_hold l.s ≡ numbers_hold (drop l.i l.s)
