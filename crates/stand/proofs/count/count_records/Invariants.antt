-- The whole reading is the reading from the cursor on, and where it gives plots, those that are left to count are the ones from the cursor on; the measure is the
-- bytes left. Each record has five bytes or more, and a cell grows by at most 85 a byte.
use Prim.Native.Nat.{ℕ, ◌+◌, ◌*◌, ◌-◌, ◌≤◌}
use mathlib.Core.Path.{◌≡◌}
use mathlib.Core.List.{List}
use lib.ListN.{length, drop}
use Rattle.plot.specs.Layout.{Plot}
use Rattle.plot.specs.Grammar.{Plots, read_from, reading}
use Rattle.plot.specs.Answers.{checked_of}
use Rattle.stand.specs.Table.{most, plus_plots}
use Rattle.stand.specs.Bounds.{AtMost}
use Rattle.stand.proofs.count.count_records.Given as goal

-- the plots that are left, where the reading gives plots
abbrev Left : List ℕ → List ℕ → List (List ℕ) → ℕ → List (List ℕ) → ℕ → ℕ → ℕ → Type 0
Left rows s t records u f at last =
    (ps : List Plot) (end : ℕ) → reading s ≡ Plots ps end
    → (qs : List Plot) × (read_from f at last (drop at s) ≡ Plots qs end) × (length ps ≡ records + length qs) × (plus_plots rows ps t ≡ plus_plots rows qs u)

abbrev pub invariant-loop-record : goal.invariant-loop-record
invariant-loop-record l = record {
  steps : ℕ;
  enough : length l.payload ≤ l.c.at + steps;
  inside : l.c.at ≤ length l.payload;
  few : l.records ≤ l.c.at;
  same : checked_of 0 (reading l.payload) ≡ checked_of l.c.last (read_from steps l.c.at l.c.last (drop l.c.at l.payload));
  cells : AtMost (most + l.c.at * 85) l.table;
  left : Left l.rows.by_species l.payload l.initial.table l.records l.table steps l.c.at l.c.last;
}

abbrev pub decreases-loop-record : goal.decreases-loop-record
decreases-loop-record l = length l.payload - l.c.at
