-- The statements of specs/Exactly.antt. Each answer is a choice by tests in turn, so that it is the refusal of the first check that fails or goes on to the payload's own, to the sum
-- and to the quotient; what an accepted payload adds is what its plots do to the table.
use mathlib.Core.Path.{◌≡◌, refl, sym, ap, subst, ◌∙◌}
use mathlib.Core.Logic.{◌⊎◌, ◌↔◌, ◌≢◌, inl, inr, ⊎_elim}
use mathlib.Core.Bool.{Bool, true, false}
use mathlib.Core.List.{List, [], ◌∷◌, ◌++◌}
use Rattle.std.specs.Prelude.{Result, Ok, Err}
use Prim.Native.Nat.{ℕ, ◌+◌, ◌*◌, ◌/◌, ◌%◌, ◌<◌, ◌≤◌}
use native.Mathlib.Omega.{arith}
use native.Mathlib.Nat.{div-add-mod', mod-lt}
use lib.ListN.{length, take, drop, replicate}
use lib.Seq.{take_all, take_at}
use Rattle.lists.proofs.Test.{true_false, zero_or}
use Rattle.plot.specs.declared.Refusal.TheVariants.{WrongLength}
use Rattle.plot.specs.Layout.{Plot, bytes_of}
use Rattle.plot.specs.Grammar.{Parsed, Plots, Stopped, longest, reading}
use Rattle.plot.specs.Answers.{checked_of, checked}
use Rattle.plot.specs.Numbers.{payload_number, payload_place, payload_figure, payload_index}
use Rattle.plot_promises.specs.Checks.{Check, ◌unless◌, FirstFails, NoneFails}
use Rattle.plot_promises.specs.Canonical.{Contains}
use Rattle.plot_promises.proofs.Checks.{first_one, not-both, first_of, first-before, first-after, all_after, Tested, unless_true, unless_less, unless_most, chosen}
use Rattle.plot_promises.proofs.Refusals.{number_some}
use Rattle.plot_promises.proofs.Canonical.{contains-reads}
use Rattle.plot_promises.proofs.Sound.{reading-sound}
use Rattle.stand.specs.declared.Tract.{Tract}
use Rattle.stand.specs.declared.TableRefusal.{TableRefusal}
use Rattle.stand.specs.declared.TableRefusal.TheVariants.{SpeciesList, TractFull, NoPlots, Payload}
use Rattle.stand.specs.Table.{list_of, places_of, species_hold, tract_listed, rows_of, cell_of, plus_plots, plots_in, most, limits_hold, table_total}
use Rattle.stand.specs.Answers.{Answer, tract_of, begun_answer, payload_answer, judged, add_answer, tract_after, add_table, add_tract, total_answer, per_plot_answer}
use Rattle.stand.specs.Numbers.{refused_number, answer_number, answer_place, answer_figure, answer_index, total_number, total_trees, per_plot_number, per_plot_quotient, per_plot_remainder}
use Rattle.stand.proofs.Limits.{limits_iff}
use Rattle.stand.proofs.Counting.{read-plots, records_few}
use Rattle.stand.proofs.Entries.{begun-refused, begun_accepted, Added, added, left-table, left_tract, new-table, new_tract, per_plot-none, per_plot_some, per_plot-refused}
use Rattle.stand_promises.specs.Species.{Listed, TractListed}
use Rattle.stand_promises.specs.Trees.{lines_in}
use Rattle.stand_promises.specs.Exactly.{Shape, Limits, state_checks, adding_checks, per_plot_checks, BeginningExactly, AddingPayload, TotalExactly, PerPlotExactly}
use Rattle.stand_promises.proofs.Species.{species_iff, tract_iff}
use Rattle.stand_promises.proofs.Trees.{Does, does-plots}
use Rattle.stand_promises.proofs.Bounds.{payload-most, total-most}

-- ---- beginning

-- the list that sixteen places hold
places_list : (l : List ℕ) → length l ≤ 16 → take (length l) (places_of l) ≡ l
places_list l h = ap (λ (x : List ℕ). take (length l) (x ++ drop (length l) (replicate 16 0))) (take_all 16 l h) ∙ take_at l (drop (length l) (replicate 16 0)) (length l) refl

pub beginning_exactly : (l : List ℕ) → BeginningExactly l
beginning_exactly l = by_test (species_hold l) refl
  where
    listed : Listed l → (p r : ℕ) → TractListed (tract_of l p r) × (list_of (tract_of l p r) ≡ l)
    listed n p r = ((n.few, subst Listed (sym (places_list l n.few)) n), places_list l n.few)

    other : (p r : ℕ) → (Listed l → ⊥) → TractListed (tract_of l p r) → ⊥
    other p r d n = d (subst Listed (places_list l n.0) n.1)

    answers : (a : Answer) → begun_answer l ≡ a → (answer_place a ≡ 0) × (answer_figure a ≡ 0) × (answer_index a ≡ 0)
        → (answer_number a ≡ 0) ↔ Listed l → (answer_number a ≡ 13) ↔ (Listed l → ⊥) → BeginningExactly l
    answers a e u f g = record { accepted = rw e f; refused = rw e g; unset = rw e u; list = listed; other = other }

    by_test : (t : Bool) → species_hold l ≡ t → BeginningExactly l
    by_test true e =
        answers (Ok tt) (sym (begun_accepted l e)) (refl, refl, refl) ((λ z. (species_iff l).0 e), λ n. refl)
        ((λ z. absurd (let y : ◌≡◌ {A = ℕ} 0 13 = z in omega arith)), λ d. absurd (d ((species_iff l).0 e)))
    by_test false e =
        answers (Err SpeciesList) (sym (begun-refused l e)) (refl, refl, refl)
        ((λ z. absurd (let y : ◌≡◌ {A = ℕ} 13 0 = z in omega arith)), λ n. absurd (true_false ((species_iff l).1 n) e))
        ((λ z n. true_false ((species_iff l).1 n) e), λ d. refl)

-- ---- the checks of a state

limits_are : (t : List (List ℕ)) (tract : Tract) → (limits_hold t tract ≡ true) ↔ Limits t tract
limits_are t tract = (
  (λ h. let w = (limits_iff t tract).0 h in record { payloads = w.payloads; records = w.records; cells = w.cells }),
  λ w. (limits_iff t tract).1 (record { payloads = w.payloads; records = w.records; cells = w.cells }),
)

-- ---- adding

-- the number of a refusal is not 0
refused_some : (r : TableRefusal) → refused_number r ≢ 0
refused_some SpeciesList e = omega arith
refused_some TractFull e = omega arith
refused_some NoPlots e = omega arith
refused_some (Payload r) e = number_some r e

accepted_of_lem : (a : Answer) → answer_number a ≡ 0 → a ≡ Ok tt
accepted_of_lem (Ok u) e = refl
accepted_of_lem (Err r) e = absurd (refused_some r e)

refused_of : (a : Answer) → answer_number a ≢ 0 → (r : TableRefusal) × (a ≡ Err r)
refused_of (Ok u) e = absurd (e refl)
refused_of (Err r) e = (r, refl)

-- an answer's four numbers
abbrev Tells : Answer → ℕ → ℕ → ℕ → ℕ → Type 0
Tells a number place figure index = (answer_number a ≡ number) × (answer_place a ≡ place) × (answer_figure a ≡ figure) × (answer_index a ≡ index)

abbrev ByNumber : Answer → ℕ → Type 0
ByNumber a k = Tells a k 0 0 0

-- those of the payload's own answer
own_answer : (q : Parsed) → Tells (payload_answer q) (payload_number (checked_of 0 q)) (payload_place (checked_of 0 q)) (payload_figure (checked_of 0 q)) (payload_index (checked_of 0 q))
unfolding payload_answer checked_of
own_answer (Plots ps end) = (refl, refl, refl, refl)
own_answer (Stopped r) = (refl, refl, refl, refl)

module _ (t : List (List ℕ)) (tract : Tract) (s : List ℕ) where
  abbrev tests : List (Tested ByNumber)
  tests =
      unless_less ByNumber 2 (Err (Payload WrongLength)) (refl, refl, refl, refl) longest (length s)
      ∷ unless_true ByNumber 13 (Err SpeciesList) (refl, refl, refl, refl) (tract_listed tract) (TractListed tract) (tract_iff tract)
      ∷ unless_most ByNumber 14 (Err TractFull) (refl, refl, refl, refl) 1000 tract.payloads
      ∷ unless_true ByNumber 14 (Err TractFull) (refl, refl, refl, refl) (limits_hold t tract) (Limits t tract) (limits_are t tract)
      ∷ []

  abbrev answer : Answer
  answer = add_answer t tract s

  adding_is : ((k : ℕ) × FirstFails (adding_checks t tract s) k × ByNumber answer k) ⊎ (NoneFails (adding_checks t tract s) × (answer ≡ payload_answer (reading s)))
  unfolding add_answer judged
  adding_is = chosen ByNumber tests (payload_answer (reading s))

  check_some : (k : ℕ) → FirstFails (adding_checks t tract s) k → k ≢ 0
  check_some k = first_of (λ (j : ℕ). j ≢ 0) (adding_checks t tract s) k ((λ e. omega arith), ((λ e. omega arith), ((λ e. omega arith), ((λ e. omega arith), tt))))

  abbrev RefusedIff : Type 0
  RefusedIff =
      (number place figure index : ℕ) → number ≢ 0
      → Tells answer number place figure index
      ↔ ((FirstFails (adding_checks t tract s) number × (place ≡ 0) × (figure ≡ 0) × (index ≡ 0))
      ⊎ (NoneFails (adding_checks t tract s) × (payload_number (checked s) ≡ number) × (payload_place (checked s) ≡ place) × (payload_figure (checked s) ≡ figure) × (payload_index (checked s) ≡ index)))

  abbrev AcceptedIff : Type 0
  AcceptedIff = (answer_number answer ≡ 0) ↔ (NoneFails (adding_checks t tract s) × (payload_number (checked s) ≡ 0))

  by_check : (k : ℕ) → FirstFails (adding_checks t tract s) k → ByNumber answer k → RefusedIff × AcceptedIff
  by_check k f b = (
    (λ number place figure index z. (
      (λ a. inl (subst (FirstFails (adding_checks t tract s)) (sym b.0 ∙ a.0) f, sym a.1 ∙ b.1, sym a.2 ∙ b.2, sym a.3 ∙ b.3)),
      ⊎_elim (λ g. (b.0 ∙ first_one (adding_checks t tract s) k number f g.0, b.1 ∙ sym g.1, b.2 ∙ sym g.2, b.3 ∙ sym g.3))
          (λ g. absurd (not-both (adding_checks t tract s) k f g.0)),
    )),
    ((λ z. absurd (check_some k f (sym b.0 ∙ z))), λ g. absurd (not-both (adding_checks t tract s) k f g.0)),
  )

  by_payload : NoneFails (adding_checks t tract s) → answer ≡ payload_answer (reading s) → RefusedIff × AcceptedIff
  by_payload n e =
      let o = subst (λ (a : Answer). Tells a (payload_number (checked s)) (payload_place (checked s)) (payload_figure (checked s)) (payload_index (checked s))) (sym e) (own_answer (reading s)) in (
        (λ number place figure index z. (
          (λ a. inr (n, sym o.0 ∙ a.0, sym o.1 ∙ a.1, sym o.2 ∙ a.2, sym o.3 ∙ a.3)),
          ⊎_elim (λ g. absurd (not-both (adding_checks t tract s) number g.0 n)) (λ g. (o.0 ∙ g.1, o.1 ∙ g.2, o.2 ∙ g.3, o.3 ∙ g.4)),
        )),
        ((λ z. (n, sym o.0 ∙ z)), λ g. o.0 ∙ g.1),
      )

  both_iff : RefusedIff × AcceptedIff
  both_iff = ⊎_elim (λ f. by_check f.0 f.1 f.2) (λ f. by_payload f.0 f.1) adding_is

  -- an accepted payload
  module _ (z : answer_number answer ≡ 0) where
    is : answer ≡ Ok tt
    is = accepted_of_lem answer z

    taken : Added t tract s
    taken = added t tract s is

    few : length (list_of tract) ≤ 16
    few = ((tract_iff tract).0 taken.listed).1.few

    pub does : Shape t → (ps : List Plot) → Contains s ps → Does (list_of tract) t (add_table t tract s) (lines_in ps)
    does h ps c =
        subst (λ (u : List (List ℕ)). Does (list_of tract) t u (lines_in ps))
        (ap (λ (qs : List Plot). plus_plots (rows_of (list_of tract)) qs t) (sym (read-plots (reading s) ps (length (bytes_of ps)) (contains-reads s ps c))) ∙ new-table t tract s is)
        (does-plots (list_of tract) few ps 0 c.rising t h)

    pub counts : (ps : List Plot) → Contains s ps → ((add_tract t tract s).payloads ≡ tract.payloads + 1) × ((add_tract t tract s).records ≡ tract.records + length ps)
    counts ps c = (
      ap (λ (u : Tract). u.payloads) (sym (new_tract t tract s is)),
      ap (λ (u : Tract). u.records) (sym (new_tract t tract s is)) ∙ ap (λ (qs : List Plot). tract.records + length qs) (read-plots (reading s) ps (length (bytes_of ps)) (contains-reads s ps c)),
    )

    -- how far it grows
    pub grows : (m : ℕ) → ((i j : ℕ) → cell_of t i j ≤ m) → (i j : ℕ) → cell_of (add_table t tract s) i j ≤ m + 344080
    grows m a =
        subst (λ (u : List (List ℕ)). (i j : ℕ) → cell_of u i j ≤ m + 344080)
        (ap (λ (qs : List Plot). plus_plots (rows_of (list_of tract)) qs t) (sym (read-plots (reading s) _ _ taken.reads)) ∙ new-table t tract s is)
        (payload-most (rows_of (list_of tract)) s taken.plots taken.end taken.reads m t a)

    pub counters_grow : ((add_tract t tract s).payloads ≡ tract.payloads + 1) × ((add_tract t tract s).records ≤ tract.records + 1000)
    counters_grow =
        let e : (add_tract t tract s).records ≡ tract.records + length (plots_in (reading s)) = ap (λ (u : Tract). u.records) (sym (new_tract t tract s is)) in
        (ap (λ (u : Tract). u.payloads) (sym (new_tract t tract s is)), omega (arith, e, records_few s _ _ taken.reads))

    shaped : Shape t → Shape (add_table t tract s)
    shaped h =
        subst Shape (ap (λ (qs : List Plot). plus_plots (rows_of (list_of tract)) qs t) (sym (read-plots (reading s) _ _ taken.reads)) ∙ new-table t tract s is)
        (does-plots (list_of tract) few taken.plots 0 (reading-sound s _ _ taken.reads).rising t h).shape

    fit : ((i j : ℕ) → cell_of (add_table t tract s) i j < 4294967296) × ((add_tract t tract s).payloads < 4294967296) × ((add_tract t tract s).records < 4294967296)
    fit =
        let w = taken.within in (
          (λ i j. omega (arith, grows most w.cells i j)),
          omega (arith, counters_grow.0, taken.few),
          omega (arith, counters_grow.1, w.records),
        )

  pub unchanged : answer_number answer ≢ 0 → (add_table t tract s ≡ t) × (add_tract t tract s ≡ tract)
  unchanged d =
      let r = refused_of answer d in
      (sym (left-table t tract s r.0 r.1), sym (left_tract t tract s r.0 r.1))

  list_kept : (a : Answer) (q : Parsed) → ((tract_after a q tract).species ≡ tract.species) × ((tract_after a q tract).listed ≡ tract.listed)
  unfolding tract_after
  list_kept (Ok u) q = (refl, refl)
  list_kept (Err r) q = (refl, refl)

  pub adding_payload : AddingPayload t tract s
  adding_payload = record {
    refused = both_iff.0;
    accepted = both_iff.1;
    unset = λ z. let e = is z in (ap answer_place e, ap answer_figure e, ap answer_index e);
    unchanged = unchanged;
    list = list_kept answer (reading s);
    counters = counts;
    cells = λ h z ps c. (does z h ps c).cells;
    shape = λ h. ⊎_elim (λ z. shaped z h) (λ d. subst Shape (sym (unchanged d).0) h) (zero_or (answer_number answer));
    fits = fit;
  }

-- ---- the total and the trees per plot

-- a number that is that of the first check that fails, or 0
module _ (checks : List Check) (n : ℕ) where
  abbrev Numbered : Type 0
  Numbered = ((k : ℕ) × FirstFails checks k × (n ≡ k)) ⊎ (NoneFails checks × (n ≡ 0))

  exactly : ((k : ℕ) → FirstFails checks k → k ≢ 0) → Numbered → ((number : ℕ) → number ≢ 0 → (n ≡ number) ↔ FirstFails checks number) × ((n ≡ 0) ↔ NoneFails checks)
  exactly some =
      ⊎_elim
      (λ f. (
        (λ number z. ((λ e. subst (FirstFails checks) (sym f.2 ∙ e) f.1), λ g. f.2 ∙ first_one checks f.0 number f.1 g)),
        ((λ e. absurd (some f.0 f.1 (sym f.2 ∙ e))), λ g. absurd (not-both checks f.0 f.1 g)),
      ))
      (λ f. (
        (λ number z. ((λ e. absurd (z (sym e ∙ f.1))), λ g. absurd (not-both checks number g f.0))),
        ((λ e. f.0), λ g. f.1),
      ))

module _ (t : List (List ℕ)) (tract : Tract) where
  abbrev TotalBy : Result ℕ TableRefusal → ℕ → Type 0
  TotalBy a k = (r : TableRefusal) × (a ≡ Err r) × (refused_number r ≡ k)

  abbrev total_tests : List (Tested TotalBy)
  total_tests =
      unless_true TotalBy 13 (Err SpeciesList) (SpeciesList, refl, refl) (tract_listed tract) (TractListed tract) (tract_iff tract)
      ∷ unless_true TotalBy 14 (Err TractFull) (TractFull, refl, refl) (limits_hold t tract) (Limits t tract) (limits_are t tract)
      ∷ []

  abbrev sum : Result ℕ TableRefusal
  sum = total_answer t tract

  total_is : ((k : ℕ) × FirstFails (state_checks t tract) k × TotalBy sum k) ⊎ (NoneFails (state_checks t tract) × (sum ≡ Ok (table_total t)))
  unfolding total_answer
  total_is = chosen TotalBy total_tests (Ok (table_total t))

  total_some : (k : ℕ) → FirstFails (state_checks t tract) k → k ≢ 0
  total_some k = first_of (λ (j : ℕ). j ≢ 0) (state_checks t tract) k ((λ e. omega arith), ((λ e. omega arith), tt))

  trees_of : (a : Result ℕ TableRefusal) → a ≡ Ok (table_total t) ⊎ ((r : TableRefusal) × (a ≡ Err r)) → (total_number a ≡ 0 → total_trees a ≡ table_total t) × (total_number a ≢ 0 → total_trees a ≡ 0)
  trees_of a (inl e) = ((λ z. ap total_trees e), λ d. absurd (d (ap total_number e)))
  trees_of a (inr f) = ((λ z. absurd (refused_some f.0 (sym (ap total_number f.1) ∙ z))), λ d. ap total_trees f.1)

  pub total_exactly : TotalExactly t tract
  total_exactly =
      let e = exactly (state_checks t tract) (total_number sum) total_some (⊎_elim (λ f. inl (f.0, f.1, ap total_number f.2.1 ∙ f.2.2)) (λ f. inr (f.0, ap total_number f.1)) total_is) in
      let u = trees_of sum (⊎_elim (λ f. inr (f.2.0, f.2.1)) (λ f. inl f.1) total_is) in
      record {
        refused = e.0;
        accepted = e.1;
        sum = u.0;
        unset = u.1;
        fits = λ h z.
            let m : table_total t ≤ length t * 8000000000 = total-most t (λ i k. h.columns i (omega (arith, h.rows))) (e.1.0 z).1.0.cells in
            let n : length t ≡ 17 = h.rows in
            omega (arith, u.0 z);
      }

  -- trees per plot, by the total and the number of records
  abbrev last : List Check
  last = (15 unless (tract.records ≢ 0)) ∷ []

  pub data PerPlotIs : Type 0 where
    none : (k : ℕ) → FirstFails (per_plot_checks t tract) k → (r : TableRefusal) → per_plot_answer t tract ≡ Err r → refused_number r ≡ k → PerPlotIs
    some : NoneFails (per_plot_checks t tract) → per_plot_answer t tract ≡ Ok (record { quotient = table_total t / tract.records; remainder = table_total t % tract.records }) → PerPlotIs

  per_plot_is : PerPlotIs
  per_plot_is =
      ⊎_elim
      (λ f. none f.0 (first-before (state_checks t tract) last f.0 f.1) f.2.0 (sym (per_plot-refused tract.records sum f.2.0 f.2.1)) f.2.2)
      (λ f.
      ⊎_elim
      (λ z. none 15 (first-after (state_checks t tract) last 15 f.0 (inl ((λ d. d z), refl))) NoPlots (sym (per_plot-none tract.records sum (table_total t) f.1 z)) refl)
      (λ d. some (all_after (state_checks t tract) last f.0 (d, tt)) (sym (per_plot_some tract.records sum (table_total t) f.1 d)))
      (zero_or tract.records))
      total_is

  check_known : (k : ℕ) → FirstFails (per_plot_checks t tract) k → k ≢ 0
  check_known k = first_of (λ (j : ℕ). j ≢ 0) (per_plot_checks t tract) k ((λ e. omega arith), ((λ e. omega arith), ((λ e. omega arith), tt)))

  records_some : NoneFails (per_plot_checks t tract) → tract.records ≢ 0
  records_some n = n.1.1.0

  pub per_plot_exactly : PerPlotExactly t tract
  per_plot_exactly = by_case per_plot_is
    where
      by_case : PerPlotIs → PerPlotExactly t tract
      by_case (none k f r e q) =
          let x = exactly (per_plot_checks t tract) (per_plot_number (per_plot_answer t tract)) check_known (inl (k, f, ap per_plot_number e ∙ q)) in
          record {
            refused = x.0;
            accepted = x.1;
            exact = λ z. absurd (refused_some r (sym (ap per_plot_number e) ∙ z));
            unset = λ d. (ap per_plot_quotient e, ap per_plot_remainder e);
          }
      by_case (some n e) =
          let x = exactly (per_plot_checks t tract) (per_plot_number (per_plot_answer t tract)) check_known (inr (n, ap per_plot_number e)) in
          let sum_is : total_trees sum ≡ table_total t = total_exactly.sum (total_exactly.accepted.1 (n.0, (n.1.0, tt))) in
          let positive : 0 < tract.records = ⊎_elim (λ z. absurd (records_some n z)) (λ d. omega arith) (zero_or tract.records) in
          record {
            refused = x.0;
            accepted = x.1;
            exact = λ z.
                rw e (div-add-mod' (table_total t) tract.records ∙ sym sum_is, mod-lt (table_total t) positive);
            unset = λ d. absurd (d (ap per_plot_number e));
          }
