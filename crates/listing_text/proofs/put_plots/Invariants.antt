-- What is put and the lines of the plots from the cursor on are the text; the measure is the bytes left.
use Rattle.std.proofs.Common.{◌≡◌, ℕ, ◌+◌, ◌-◌, ◌≤◌, List, ◌++◌, length, drop}
use Rattle.plot.specs.Layout.{Plot}
use Rattle.plot.specs.Grammar.{Plots, read_from, reading}
use Rattle.listing_text.specs.Text.{plots_text, plot_lines}
use Rattle.listing_text.specs.Puts.{Puts}
use Rattle.listing_text.proofs.put_plots.Given as goal

abbrev pub invariant-loop-record : goal.invariant-loop-record
invariant-loop-record l = record {
  steps : ℕ;
  plots : List Plot;
  end : ℕ;
  enough : length l.payload ≤ l.c.at + steps;
  reads : read_from steps l.c.at l.c.last (drop l.c.at l.payload) ≡ Plots plots end;
  done : List ℕ;
  puts : Puts done l.initial.w l.w;
  text : plot_lines (reading l.payload) ≡ done ++ plots_text plots;
}

abbrev pub decreases-loop-record : goal.decreases-loop-record
decreases-loop-record l = length l.payload - l.c.at
