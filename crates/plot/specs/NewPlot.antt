-- The plot that is to be added, as the caller lends it.
use Rattle.plot.specs.Layout.{Plot}
use Rattle.plot.specs.declared.layout.NewPlot.{NewPlot}

abbrev pub new_plot : NewPlot → Plot
new_plot p = record { number = p.number; lines = p.lines.now }
