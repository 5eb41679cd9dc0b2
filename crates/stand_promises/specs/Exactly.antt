-- What the entries on a stand table answer and leave, for every state that is handed in (N4d to N4f): each refusal exactly when, in document 02's order, with table and counters as
-- they were; and what an accepted payload adds. proofs/Exactly.antt proves these.
use Rattle.std.specs.Prelude.{◌≡◌, ◌⊎◌, ◌↔◌, ◌≢◌, List, [], ◌∷◌, ◌++◌, ℕ, ◌+◌, ◌*◌, ◌^◌, ◌<◌, ◌≤◌, length, get_or}
use Rattle.plot.specs.Layout.{Plot}
use Rattle.plot.specs.Answers.{checked}
use Rattle.plot.specs.Numbers.{payload_number, payload_place, payload_figure, payload_index}
use Rattle.plot_promises.specs.Checks.{Check, ◌unless◌, FirstFails, NoneFails}
use Rattle.plot_promises.specs.Canonical.{Contains}
use Rattle.stand.specs.declared.Tract.{Tract}
use Rattle.stand.specs.Table.{list_of, cell_of, table_total}
use Rattle.stand.specs.Answers.{tract_of, begun_answer, add_answer, add_table, add_tract, total_answer, per_plot_answer}
use Rattle.stand.specs.Numbers.{answer_number, answer_place, answer_figure, answer_index, total_number, total_trees, per_plot_number, per_plot_quotient, per_plot_remainder}
use Rattle.stand_promises.specs.Species.{Listed, TractListed}
use Rattle.stand_promises.specs.Trees.{trees_at}

-- "a bare array of seventeen arrays of twenty counts"
pub record Shape (t : List (List ℕ)) : Type 0 where
  pub rows : length t ≡ 17
  pub columns : (i : ℕ) → i < 17 → length (get_or t i []) ≡ 20

-- no "cell or counter handed in above 400,000,000"
pub record Limits (t : List (List ℕ)) (tract : Tract) : Type 0 where
  pub payloads : tract.payloads ≤ 400000000
  pub records : tract.records ≤ 400000000
  pub cells : (i j : ℕ) → cell_of t i j ≤ 400000000

-- "Answers, for a state handed in too: 13 species list .. ; 14 tract full, next": the checks of every entry that takes a state
abbrev pub state_checks : List (List ℕ) → Tract → List Check
state_checks t tract = (13 unless (TractListed tract)) ∷ (14 unless (Limits t tract)) ∷ []

-- adding: "13 .., after 2", and 14 too "for a payload beyond 1,000"
abbrev pub adding_checks : List (List ℕ) → Tract → List ℕ → List Check
adding_checks t tract s =
    (2 unless (length s ≤ 4048))
    ∷ (13 unless (TractListed tract))
    ∷ (14 unless (tract.payloads < 1000))
    ∷ (14 unless (Limits t tract))
    ∷ []

-- the quotient: "15 no plots, last"
abbrev pub per_plot_checks : List (List ℕ) → Tract → List Check
per_plot_checks t tract = state_checks t tract ++ ((15 unless (tract.records ≢ 0)) ∷ [])

-- beginning a table from a species list
pub record BeginningExactly (l : List ℕ) : Type 0 where
  pub accepted : (answer_number (begun_answer l) ≡ 0) ↔ Listed l
  pub refused : (answer_number (begun_answer l) ≡ 13) ↔ (Listed l → ⊥)
  pub unset : (answer_place (begun_answer l) ≡ 0) × (answer_figure (begun_answer l) ≡ 0) × (answer_index (begun_answer l) ≡ 0)
  -- the tract has that list, wherever it is taken
  pub list : Listed l → (payloads records : ℕ) → TractListed (tract_of l payloads records) × (list_of (tract_of l payloads records) ≡ l)
  pub other : (payloads records : ℕ) → (Listed l → ⊥) → TractListed (tract_of l payloads records) → ⊥

-- adding the payload s
pub record AddingPayload (t : List (List ℕ)) (tract : Tract) (s : List ℕ) : Type 0 where
  pub refused : (number place figure index : ℕ) → number ≢ 0
      → ((answer_number (add_answer t tract s) ≡ number) × (answer_place (add_answer t tract s) ≡ place) × (answer_figure (add_answer t tract s) ≡ figure) × (answer_index (add_answer t tract s) ≡ index))
      ↔ ((FirstFails (adding_checks t tract s) number × (place ≡ 0) × (figure ≡ 0) × (index ≡ 0))
      ⊎ (NoneFails (adding_checks t tract s) × (payload_number (checked s) ≡ number) × (payload_place (checked s) ≡ place) × (payload_figure (checked s) ≡ figure) × (payload_index (checked s) ≡ index)))
  pub accepted : (answer_number (add_answer t tract s) ≡ 0) ↔ (NoneFails (adding_checks t tract s) × (payload_number (checked s) ≡ 0))
  pub unset : answer_number (add_answer t tract s) ≡ 0 → (answer_place (add_answer t tract s) ≡ 0) × (answer_figure (add_answer t tract s) ≡ 0) × (answer_index (add_answer t tract s) ≡ 0)
  -- "A refused payload leaves the table unchanged.", and the counters
  pub unchanged : answer_number (add_answer t tract s) ≢ 0 → (add_table t tract s ≡ t) × (add_tract t tract s ≡ tract)
  pub list : ((add_tract t tract s).species ≡ tract.species) × ((add_tract t tract s).listed ≡ tract.listed)
  -- an accepted one, which contains these plots
  pub counters : answer_number (add_answer t tract s) ≡ 0 → (plots : List Plot) → Contains s plots
      → ((add_tract t tract s).payloads ≡ tract.payloads + 1) × ((add_tract t tract s).records ≡ tract.records + length plots)
  pub cells : Shape t → answer_number (add_answer t tract s) ≡ 0 → (plots : List Plot) → Contains s plots
      → (i j : ℕ) → i < 17 → j < 20 → cell_of (add_table t tract s) i j ≡ cell_of t i j + trees_at (list_of tract) i j plots
  pub shape : Shape t → Shape (add_table t tract s)
  -- no sum overflows: cells and counters have 32 bits
  pub fits : answer_number (add_answer t tract s) ≡ 0 → ((i j : ℕ) → cell_of (add_table t tract s) i j < 2 ^ 32) × ((add_tract t tract s).payloads < 2 ^ 32) × ((add_tract t tract s).records < 2 ^ 32)

-- the total: "the sum of the cells"
pub record TotalExactly (t : List (List ℕ)) (tract : Tract) : Type 0 where
  pub refused : (number : ℕ) → number ≢ 0 → (total_number (total_answer t tract) ≡ number) ↔ FirstFails (state_checks t tract) number
  pub accepted : (total_number (total_answer t tract) ≡ 0) ↔ NoneFails (state_checks t tract)
  pub sum : total_number (total_answer t tract) ≡ 0 → total_trees (total_answer t tract) ≡ table_total t
  pub unset : total_number (total_answer t tract) ≢ 0 → total_trees (total_answer t tract) ≡ 0
  -- no sum overflows: the total has 64 bits
  pub fits : Shape t → total_number (total_answer t tract) ≡ 0 → total_trees (total_answer t tract) < 2 ^ 64

-- "Trees per plot, the table's total over the number of records added, come as a whole quotient and the exact remainder."
pub record PerPlotExactly (t : List (List ℕ)) (tract : Tract) : Type 0 where
  pub refused : (number : ℕ) → number ≢ 0 → (per_plot_number (per_plot_answer t tract) ≡ number) ↔ FirstFails (per_plot_checks t tract) number
  pub accepted : (per_plot_number (per_plot_answer t tract) ≡ 0) ↔ NoneFails (per_plot_checks t tract)
  pub exact : per_plot_number (per_plot_answer t tract) ≡ 0
      → (per_plot_quotient (per_plot_answer t tract) * tract.records + per_plot_remainder (per_plot_answer t tract) ≡ total_trees (total_answer t tract)) × (per_plot_remainder (per_plot_answer t tract) < tract.records)
  pub unset : per_plot_number (per_plot_answer t tract) ≢ 0 → (per_plot_quotient (per_plot_answer t tract) ≡ 0) × (per_plot_remainder (per_plot_answer t tract) ≡ 0)
