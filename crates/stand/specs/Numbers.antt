-- Each answer on a stand table as the number, the place and the values of the documents (N4f), case by case. An accepted answer has the number 0, and a value that
-- an answer does not have is 0.
use Rattle.std.specs.Prelude.{ℕ, Result}
use Rattle.answers.specs.Numbers.{or_zero, value_or_zero}
use Rattle.plot.specs.Numbers.{number_of, place_of, figure_of, index_of}
use Rattle.stand.specs.declared.TableRefusal.{TableRefusal}
use Rattle.stand.specs.declared.TableRefusal.TheVariants.{SpeciesList, TractFull, NoPlots, Payload}
use Rattle.stand.specs.declared.PerPlot.{PerPlot}

-- "13 species list", "14 tract full", "15 no plots", or the payload's own
abbrev pub refused_number : TableRefusal → ℕ
refused_number SpeciesList = 13
refused_number TractFull = 14
refused_number NoPlots = 15
refused_number (Payload r) = number_of r

-- the payload's own, and 0 for the three
abbrev pub refused_place : TableRefusal → ℕ
refused_place SpeciesList = 0
refused_place TractFull = 0
refused_place NoPlots = 0
refused_place (Payload r) = place_of r

abbrev pub refused_figure : TableRefusal → ℕ
refused_figure SpeciesList = 0
refused_figure TractFull = 0
refused_figure NoPlots = 0
refused_figure (Payload r) = figure_of r

abbrev pub refused_index : TableRefusal → ℕ
refused_index SpeciesList = 0
refused_index TractFull = 0
refused_index NoPlots = 0
refused_index (Payload r) = index_of r

-- beginning and adding
abbrev pub answer_number : {A : Type 0} → Result A TableRefusal → ℕ
answer_number r = or_zero refused_number r

abbrev pub answer_place : {A : Type 0} → Result A TableRefusal → ℕ
answer_place r = or_zero refused_place r

abbrev pub answer_figure : {A : Type 0} → Result A TableRefusal → ℕ
answer_figure r = or_zero refused_figure r

abbrev pub answer_index : {A : Type 0} → Result A TableRefusal → ℕ
answer_index r = or_zero refused_index r

-- the total
abbrev pub total_number : Result ℕ TableRefusal → ℕ
total_number = or_zero refused_number

abbrev pub total_trees : Result ℕ TableRefusal → ℕ
total_trees = value_or_zero (λ trees. trees)

-- trees per plot
abbrev pub per_plot_number : Result PerPlot TableRefusal → ℕ
per_plot_number = or_zero refused_number

abbrev pub per_plot_quotient : Result PerPlot TableRefusal → ℕ
per_plot_quotient = value_or_zero (λ p. p.quotient)

abbrev pub per_plot_remainder : Result PerPlot TableRefusal → ℕ
per_plot_remainder = value_or_zero (λ p. p.remainder)
