-- Payloads added one after another to a table begun empty, refused ones in between (N4b): what the table, its counters, its total and its trees per plot are then, over the plots of the accepted ones.
-- proofs/InTurn.antt proves it for every list of payloads.
use Rattle.std.specs.Prelude.{◌≡◌, ◌↔◌, ◌≢◌, ℕ, ◌+◌, ◌*◌, ◌<◌, length, eqb}
use mathlib.Core.List.{List, [], ◌∷◌, flat_map}
use Rattle.lists.specs.Choice.{pick}
use Rattle.lists.specs.Bytes.{Bytes}
use Rattle.plot.specs.Layout.{Plot}
use Rattle.plot.specs.Answers.{checked}
use Rattle.plot.specs.Numbers.{payload_number}
use Rattle.plot_promises.specs.Canonical.{Contains}
use Rattle.stand.specs.declared.Tract.{Tract}
use Rattle.stand.specs.Table.{empty_table, cell_of}
use Rattle.stand.specs.Answers.{tract_of, add_answer, add_table, add_tract, total_answer, per_plot_answer}
use Rattle.stand.specs.Numbers.{answer_number, total_number, total_trees, per_plot_number, per_plot_quotient, per_plot_remainder}
use Rattle.stand_promises.specs.Species.{Listed}
use Rattle.stand_promises.specs.Trees.{trees_at, all_trees}
use Rattle.stand_promises.specs.Exactly.{Shape}

-- what the caller keeps: a table and its tract
pub record State : Type 0 where
  pub table : List (List ℕ)
  pub tract : Tract

-- "a table begun empty" from a species list
abbrev pub begun : List ℕ → State
begun l = record { table = empty_table; tract = tract_of l 0 0 }

-- what adding a payload answers by number, and leaves
abbrev pub number_at : State → List ℕ → ℕ
number_at st s = answer_number (add_answer st.table st.tract s)

abbrev pub after : State → List ℕ → State
after st s = record { table = add_table st.table st.tract s; tract = add_tract st.table st.tract s }

-- "Payloads are added one after another": the state after all of them, and those that are accepted when their turn comes
unfoldable pub after_all : State → List (List ℕ) → State
after_all st [] = st
after_all st (s ∷ payloads) = after_all (after st s) payloads

unfoldable pub accepted_of : State → List (List ℕ) → List (List ℕ)
accepted_of st [] = []
accepted_of st (s ∷ payloads) = pick (eqb (number_at st s) 0) (s ∷ accepted_of (after st s) payloads) (accepted_of (after st s) payloads)

-- each of these payloads contains the plots at its place
abbrev pub AllContain : List (List ℕ) → List (List Plot) → Type 0
AllContain [] [] = Unit {0}
AllContain [] (plots ∷ more) = ⊥
AllContain (s ∷ payloads) [] = ⊥
AllContain (s ∷ payloads) (plots ∷ more) = Contains s plots × AllContain payloads more

-- every payload is of bytes
abbrev pub AllBytes : List (List ℕ) → Type 0
AllBytes [] = Unit {0}
AllBytes (s ∷ payloads) = Bytes s × AllBytes payloads

-- all plots, one payload after the other: a plot number in two payloads is two plots
abbrev pub together : List (List Plot) → List Plot
together plots = flat_map (λ (ps : List Plot). ps) plots

-- what a state holds of these plots of so many payloads
pub record Holds (l : List ℕ) (st : State) (payloads : ℕ) (plots : List Plot) : Type 0 where
  -- "each cell must equal its trees in all added tallies, counted from the records, .."
  pub cells : (i j : ℕ) → i < 17 → j < 20 → cell_of st.table i j ≡ trees_at l i j plots
  -- ".. and the total, the sum of the cells, all of them": TotalExactly says that it is the sum of the cells
  pub total : (total_number (total_answer st.table st.tract) ≡ 0) × (total_trees (total_answer st.table st.tract) ≡ all_trees plots)
  pub payload_count : st.tract.payloads ≡ payloads
  pub record_count : st.tract.records ≡ length plots
  -- "the table's total over the number of records added": with no record 15, else exact
  pub no_plots : (per_plot_number (per_plot_answer st.table st.tract) ≡ 15) ↔ (length plots ≡ 0)
  pub per_plot : length plots ≢ 0 → (per_plot_number (per_plot_answer st.table st.tract) ≡ 0)
      × (per_plot_quotient (per_plot_answer st.table st.tract) * length plots + per_plot_remainder (per_plot_answer st.table st.tract) ≡ all_trees plots)
      × (per_plot_remainder (per_plot_answer st.table st.tract) < length plots)

-- the payloads `payloads` added in turn to the table begun from the list l
pub record AddedInTurn (l : List ℕ) (payloads : List (List ℕ)) : Type 0 where
  -- those that are accepted contain plots, and for these the table holds what it should
  pub plots : (pss : List (List Plot)) × AllContain (accepted_of (begun l) payloads) pss
  pub holds : (pss : List (List Plot)) → AllContain (accepted_of (begun l) payloads) pss
      → Holds l (after_all (begun l) payloads) (length (accepted_of (begun l) payloads)) (together pss)
  pub shape : Shape (after_all (begun l) payloads).table
  -- "up to 1,000": the next payload is accepted exactly if it is accepted by itself and fewer were added; so no table that was begun empty is full before
  pub next : (s : List ℕ) → Bytes s → (number_at (after_all (begun l) payloads) s ≡ 0) ↔ ((length (accepted_of (begun l) payloads) < 1000) × (payload_number (checked s) ≡ 0))

abbrev pub InTurn : Type 0
InTurn = (l : List ℕ) → Listed l → (payloads : List (List ℕ)) → AllBytes payloads → AddedInTurn l payloads
