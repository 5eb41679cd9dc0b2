-- The plots from the cursor on are searched; the measure is the bytes left. No step of an accepted payload is a refusal.
use Prim.Native.Nat.{ℕ, ◌+◌, ◌-◌, ◌≤◌}
use mathlib.Core.Path.{◌≡◌}
use mathlib.Core.List.{List}
use lib.ListN.{length, drop}
use Rattle.plot.specs.Layout.{Plot}
use Rattle.plot.specs.Grammar.{Plots, read_from}
use Rattle.plot.specs.Answers.{seek, located}
use Rattle.plot.proofs.search.Given as goal

abbrev pub invariant-loop-found : goal.invariant-loop-found
invariant-loop-found l =
    (f : ℕ) × (ps : List Plot) × (end : ℕ) × (length l.payload ≤ l.c.at + f) × (read_from f l.c.at l.c.last (drop l.c.at l.payload) ≡ Plots ps end)
    × (located l.plot l.payload ≡ seek l.plot l.c.at ps)

abbrev pub decreases-loop-found : goal.decreases-loop-found
decreases-loop-found l = length l.payload - l.c.at
