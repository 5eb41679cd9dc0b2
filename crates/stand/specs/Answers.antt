-- What each entry on a stand table answers and leaves (N4b, N4d, N4e, N4f). Numbers.antt has the numbers of each answer.
use Rattle.std.specs.Prelude.{ℕ, ◌+◌, ◌/◌, ◌%◌, not, Result, Ok, Err, List, length, ltb, leb, eqb}
use Rattle.lists.specs.Choice.{pick}
use Rattle.plot.specs.Grammar.{Parsed, Plots, Stopped, longest, reading}
use Rattle.plot.specs.declared.Refusal.TheVariants.{WrongLength}
use Rattle.stand.specs.Table.{list_of, places_of, species_hold, tract_listed, rows_of, plus_plots, plots_in, limits_hold, table_total}
use Rattle.stand.specs.declared.Tract.{Tract}
use Rattle.stand.specs.declared.TableRefusal.TheVariants.{SpeciesList, TractFull, NoPlots, Payload}
use Rattle.stand.specs.declared.TableRefusal.{TableRefusal}
use Rattle.stand.specs.declared.PerPlot.{PerPlot}

-- the tract with this species list and these counters
abbrev pub tract_of : List ℕ → ℕ → ℕ → Tract
tract_of l payloads records = record { species = places_of l; listed = length l; payloads = payloads; records = records }

-- what beginning a table and adding to it answer
abbrev pub Answer : Type 0
Answer = Result Unit TableRefusal

-- beginning: "13 species list"
abbrev pub begun_answer : List ℕ → Answer
begun_answer l = pick (species_hold l) (Ok tt) (Err SpeciesList)

-- a payload's own answer
unfoldable pub payload_answer : Parsed → Answer
payload_answer (Plots ps end) = Ok tt
payload_answer (Stopped r) = Err (Payload r)

-- "Payloads are added one after another, up to 1,000."
abbrev pub most_payloads : ℕ
most_payloads = 1000

-- adding a payload of this length to a state: "13 species list, after 2, ..; 14 tract full, next, for a payload beyond 1,000 or a cell or counter handed in above
-- 400,000,000"; where none of these comes, `next`
unfoldable pub judged : List (List ℕ) → Tract → ℕ → Answer → Answer
judged t tract size next =
    pick (ltb longest size) (Err (Payload WrongLength))
    (pick (not (tract_listed tract)) (Err SpeciesList)
    (pick (leb most_payloads tract.payloads) (Err TractFull)
    (pick (not (limits_hold t tract)) (Err TractFull)
    next)))

-- and then the payload's own
unfoldable pub add_answer : List (List ℕ) → Tract → List ℕ → Answer
add_answer t tract s = judged t tract (length s) (payload_answer (reading s))

-- the table and the tract after it: "A refused payload leaves the table unchanged."
unfoldable pub table_after : Answer → Tract → Parsed → List (List ℕ) → List (List ℕ)
table_after (Ok u) tract q t = plus_plots (rows_of (list_of tract)) (plots_in q) t
table_after (Err r) tract q t = t

abbrev pub with_more_records : Tract → ℕ → Tract
with_more_records tract records = record { species = tract.species; listed = tract.listed; payloads = tract.payloads + 1; records = tract.records + records }

unfoldable pub tract_after : Answer → Parsed → Tract → Tract
tract_after (Ok u) q tract = with_more_records tract (length (plots_in q))
tract_after (Err r) q tract = tract

abbrev pub add_table : List (List ℕ) → Tract → List ℕ → List (List ℕ)
add_table t tract s = table_after (add_answer t tract s) tract (reading s) t

abbrev pub add_tract : List (List ℕ) → Tract → List ℕ → Tract
add_tract t tract s = tract_after (add_answer t tract s) (reading s) tract

-- "the total, the sum of the cells"
unfoldable pub total_answer : List (List ℕ) → Tract → Result ℕ TableRefusal
total_answer t tract =
    pick (not (tract_listed tract)) (Err SpeciesList)
    (pick (not (limits_hold t tract)) (Err TractFull)
    (Ok (table_total t)))

-- "Trees per plot, the table's total over the number of records added, come as a whole quotient and the exact remainder."; "15 no plots, last, for the
-- quotient only, when no plot was added"
unfoldable pub per_plot_of : ℕ → Result ℕ TableRefusal → Result PerPlot TableRefusal
per_plot_of records (Ok trees) = pick (eqb records 0) (Err NoPlots) (Ok (record { quotient = trees / records; remainder = trees % records }))
per_plot_of records (Err r) = Err r

abbrev pub per_plot_answer : List (List ℕ) → Tract → Result PerPlot TableRefusal
per_plot_answer t tract = per_plot_of tract.records (total_answer t tract)
