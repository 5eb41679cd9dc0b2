-- The cases of what the entries answer and leave, each from the plain facts that the tests of the code give; and what an accepted payload says of the state that it
-- was added to.
use Prim.Native.Nat.{ℕ, ◌/◌, ◌%◌, ◌<◌, ◌≤◌}
use mathlib.Core.Path.{◌≡◌, refl, sym, ap, ◌∙◌}
use mathlib.Core.Bool.{Bool, true, false, not}
use mathlib.Core.List.{List}
use Rattle.std.specs.Prelude.{Result, Ok, Err}
use lib.ListN.{length}
use lib.Dec.{ltb, leb}
use borrow.Author.Tests.{le-ltb, lt-leb, eq-eqb, ne_eqb, ltb-false, leb-false, not-false}
use Rattle.lists.specs.Choice.{pick}
use Rattle.lists.proofs.Test.{true_false}
use Rattle.plot.specs.declared.Refusal.{Refusal}
use Rattle.plot.specs.Layout.{Plot}
use Rattle.plot.specs.Grammar.{Parsed, Plots, Stopped, longest, reading}
use Rattle.plot.proofs.Cases.{pick_out}
use Rattle.stand.specs.declared.Tract.{Tract}
use Rattle.stand.specs.declared.TableRefusal.{TableRefusal}
use Rattle.stand.specs.declared.TableRefusal.TheVariants.{SpeciesList, NoPlots, Payload}
use Rattle.stand.specs.Table.{list_of, species_hold, tract_listed, rows_of, plus_plots, plots_in, limits_hold}
use Rattle.stand.specs.Answers.{Answer, tract_of, begun_answer, payload_answer, judged, add_answer, table_after, with_more_records, tract_after, add_table, add_tract, per_plot_of}
use Rattle.stand.proofs.Limits.{Within, limits_iff}

-- beginning
pub begun-refused : (l : List ℕ) → species_hold l ≡ false → Err SpeciesList ≡ begun_answer l
begun-refused l h = rw h

pub begun_accepted : (l : List ℕ) → species_hold l ≡ true → Ok tt ≡ begun_answer l
begun_accepted l h = rw h

-- a state to which a payload of this length may be added
module _ (t : List (List ℕ)) (tract : Tract) (size : ℕ) where
  pub record Open : Type 0 where
    pub short : size ≤ longest
    pub listed : tract_listed tract ≡ true
    pub few : tract.payloads < 1000
    pub within : Within t tract
    pub onward : (next : Answer) → judged t tract size next ≡ next

  pub open_of : (next : Answer) → judged t tract size next ≡ Ok tt → Open
  unfolding judged
  open_of next h =
      let p1 = pick_out (ltb longest size) _ _ _ h (λ e. cc) in
      let p2 = pick_out (not (tract_listed tract)) _ _ _ p1.1 (λ e. cc) in
      let p3 = pick_out (leb 1000 tract.payloads) _ _ _ p2.1 (λ e. cc) in
      let p4 = pick_out (not (limits_hold t tract)) _ _ _ p3.1 (λ e. cc) in
      let s = ltb-false _ _ p1.0 in
      let l = not-false _ p2.0 in
      let f = leb-false _ _ p3.0 in
      let w = not-false _ p4.0 in
      record {
        short = s;
        listed = l;
        few = f;
        within = (limits_iff t tract).0 w;
        onward = λ n. rw (le-ltb _ _ s, l, lt-leb _ _ f, w);
      }

  -- a refusal of the state is that of adding
  pub refused_all : (r : TableRefusal) → judged t tract size (Ok tt) ≡ Err r → (next : Answer) → judged t tract size next ≡ Err r
  unfolding judged
  refused_all r h next =
      by_test (ltb longest size) _ _ _ h
      (λ h1. by_test (not (tract_listed tract)) _ _ _ h1
      (λ h2. by_test (leb 1000 tract.payloads) _ _ _ h2
      (λ h3. by_test (not (limits_hold t tract)) _ _ _ h3 (λ h4. cc))))
    where
      by_test : (b : Bool) (x y z : Answer) → pick b x y ≡ Err r → (y ≡ Err r → z ≡ Err r) → pick b x z ≡ Err r
      by_test true x y z e f = e
      by_test false x y z e f = f e

-- what adding answers
module _ (t : List (List ℕ)) (tract : Tract) (s : List ℕ) where
  pub add-reading : Open t tract (length s) → payload_answer (reading s) ≡ add_answer t tract s
  unfolding add_answer
  add-reading o = sym (o.onward (payload_answer (reading s)))

  pub add-plots : Open t tract (length s) → (ps : List Plot) (end : ℕ) → reading s ≡ Plots ps end → Ok tt ≡ add_answer t tract s
  unfolding payload_answer
  add-plots o ps end q = sym (ap payload_answer q) ∙ add-reading o

  pub add_stopped : Open t tract (length s) → (r : Refusal) → reading s ≡ Stopped r → Err (Payload r) ≡ add_answer t tract s
  unfolding payload_answer
  add_stopped o r q = sym (ap payload_answer q) ∙ add-reading o

  pub add-refused : (r : TableRefusal) → judged t tract (length s) (Ok tt) ≡ Err r → add_answer t tract s ≡ Err r
  unfolding add_answer
  add-refused r h = refused_all t tract (length s) r h (payload_answer (reading s))

  -- a payload that is added
  pub record Added : Type 0 where
    pub listed : tract_listed tract ≡ true
    pub few : tract.payloads < 1000
    pub within : Within t tract
    pub plots : List Plot
    pub end : ℕ
    pub reads : reading s ≡ Plots plots end

  payload-added : (q : Parsed) → payload_answer q ≡ Ok tt → (ps : List Plot) × (end : ℕ) × (q ≡ Plots ps end)
  unfolding payload_answer
  payload-added (Plots ps end) h = (ps, end, refl)
  payload-added (Stopped r) h = absurd (cc)

  pub added : add_answer t tract s ≡ Ok tt → Added
  unfolding add_answer
  added h =
      let o = open_of t tract (length s) (payload_answer (reading s)) h in
      let q = payload-added (reading s) (sym (o.onward (payload_answer (reading s))) ∙ h) in
      record {
        listed = o.listed;
        few = o.few;
        within = o.within;
        plots = q.0;
        end = q.1;
        reads = q.2;
      }

  -- what it leaves
  pub left-table : (r : TableRefusal) → add_answer t tract s ≡ Err r → t ≡ add_table t tract s
  unfolding table_after
  left-table r e = rw e

  pub left_tract : (r : TableRefusal) → add_answer t tract s ≡ Err r → tract ≡ add_tract t tract s
  unfolding tract_after
  left_tract r e = rw e

  module _ (e : add_answer t tract s ≡ Ok tt) where
    pub new-table : plus_plots (rows_of (list_of tract)) (plots_in (reading s)) t ≡ add_table t tract s
    unfolding table_after
    new-table = rw e

    pub new_tract : with_more_records tract (length (plots_in (reading s))) ≡ add_tract t tract s
    unfolding tract_after
    new_tract = rw e

-- a list that is taken has at most sixteen species
pub listed_few : (tract : Tract) → tract_listed tract ≡ true → tract.listed ≤ 16
listed_few tract h = ltb-false _ _ (pick_out (ltb 16 tract.listed) _ _ _ h (λ e. true_false e refl)).0

-- trees per plot
module _ (records : ℕ) (a : Result ℕ TableRefusal) where
  module _ (trees : ℕ) (e : a ≡ Ok trees) where
    pub per_plot-none : records ≡ 0 → Err NoPlots ≡ per_plot_of records a
    unfolding per_plot_of
    per_plot-none h = rw (e, eq-eqb _ _ h)

    pub per_plot_some : (records ≡ 0 → ⊥) → Ok (record { quotient = trees / records; remainder = trees % records }) ≡ per_plot_of records a
    unfolding per_plot_of
    per_plot_some h = rw (e, ne_eqb _ _ h)

  pub per_plot-refused : (r : TableRefusal) → a ≡ Err r → Err r ≡ per_plot_of records a
  unfolding per_plot_of
  per_plot-refused r e = rw e
