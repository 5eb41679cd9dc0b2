-- Payloads added in turn, by induction along them: each accepted one adds its plots' trees, each refused one nothing. A table begun empty stays under the limit, since 1,000 payloads
-- add at most 344,080,000 to a cell; so nothing but the payload itself and the thousand decides.
use mathlib.Core.Path.{◌≡◌, refl, sym, ap, ap₂, subst, ◌∙◌}
use mathlib.Core.Logic.{◌↔◌, ◌≢◌, inl, ⊎_elim}
use mathlib.Core.Bool.{Bool}
use mathlib.Core.List.{List, [], ◌∷◌, ◌++◌, flat_map, append_assoc}
use Prim.Native.Nat.{ℕ, zero, suc, zero-le, ◌+◌, ◌*◌, ◌<◌, ◌≤◌}
use native.Mathlib.Omega.{arith}
use native.Mathlib.Nat.{le_of_eq}
use lib.ListN.{length, get_or, take, replicate, length-append, get_or-replicate}
use borrow.Author.Tests.{eq-eqb, ne_eqb}
use Rattle.lists.specs.Bytes.{Bytes}
use Rattle.lists.proofs.Test.{zero_or}
use Rattle.plot.specs.declared.Line.{Line}
use Rattle.plot.specs.Layout.{Plot, tallies_of}
use Rattle.plot.specs.Answers.{checked}
use Rattle.plot.specs.Numbers.{payload_number}
use Rattle.plot.proofs.Entries.{reading-reads}
use Rattle.plot_promises.specs.Checks.{Check, ◌unless◌}
use Rattle.plot_promises.specs.Canonical.{Contains}
use Rattle.plot_promises.proofs.Canonical.{reading-contains}
use Rattle.plot_promises.proofs.Checks.{not-both, first-after, all_after}
use Rattle.plot_promises.proofs.Checking.{plots_of}
use Rattle.stand.specs.declared.Tract.{Tract}
use Rattle.stand.specs.Table.{list_of, empty_table, cell_of, table_total}
use Rattle.stand.specs.Answers.{total_answer, per_plot_answer}
use Rattle.stand.specs.Numbers.{total_number, total_trees, per_plot_number, per_plot_quotient, per_plot_remainder}
use Rattle.stand_promises.specs.Species.{Listed, TractListed}
use Rattle.stand_promises.specs.Trees.{lines_in, trees_where, all_trees}
use Rattle.stand_promises.specs.Exactly.{Shape, Limits, state_checks, per_plot_checks}
use Rattle.stand_promises.specs.InTurn.{State, begun, number_at, after, after_all, accepted_of, AllContain, AllBytes, together, Holds, InTurn}
use Rattle.stand_promises.proofs.Trees.{Does, does-none, does_then, trees_append}
use Rattle.stand_promises.proofs.Exactly.{beginning_exactly, adding_payload, does, counts, grows, counters_grow, unchanged, total_exactly, per_plot_exactly}

-- ---- plots one after the other
lines-append : (ps qs : List Plot) → lines_in (ps ++ qs) ≡ lines_in ps ++ lines_in qs
unfolding flat_map
lines-append [] qs = refl
lines-append (p ∷ ps) qs = ap (λ (ls : List Line). tallies_of p ++ ls) (lines-append ps qs) ∙ sym (append_assoc (tallies_of p) (lines_in ps) (lines_in qs))

trees_both : (test : Line → Bool) (ps qs : List Plot) → trees_where test (lines_in (ps ++ qs)) ≡ trees_where test (lines_in ps) + trees_where test (lines_in qs)
trees_both test ps qs = ap (trees_where test) (lines-append ps qs) ∙ trees_append test (lines_in ps) (lines_in qs)

together-more : (ps : List Plot) (pss : List (List Plot)) → together (ps ∷ pss) ≡ ps ++ together pss
unfolding flat_map
together-more ps pss = refl

-- ---- states that are reached from a table begun empty
record Reached (l : List ℕ) (st : State) : Type 0 where
  list : list_of st.tract ≡ l
  listed : TractListed st.tract
  shape : Shape st.table
  few : st.tract.payloads ≤ 1000
  cells : (i j : ℕ) → cell_of st.table i j ≤ st.tract.payloads * 344080
  records : st.tract.records ≤ st.tract.payloads * 1000

-- every cell of an empty table is 0
zero_row : (m j : ℕ) → ◌≡◌ {A = ℕ} (get_or (replicate m 0) j 0) 0
zero_row zero j = refl
zero_row (suc m) zero = refl
zero_row (suc m) (suc j) = zero_row m j

zero-table : (n m i j : ℕ) → cell_of (replicate n (replicate m 0)) i j ≡ 0
zero-table zero m i j = refl
zero-table (suc n) m zero j = zero_row m j
zero-table (suc n) m (suc i) j = zero-table n m i j

reached-begun : (l : List ℕ) → Listed l → Reached l (begun l)
reached-begun l n =
    let b = (beginning_exactly l).list n 0 0 in
    record {
      list = b.1;
      listed = b.0;
      shape = record { rows = refl; columns = λ i h. ap length (get_or-replicate 17 i (replicate 20 0) [] h) };
      few = zero-le;
      cells = λ i j. le_of_eq (zero-table 17 20 i j);
      records = zero-le;
    }

module _ (l : List ℕ) (st : State) (r : Reached l st) where
  limits : Limits st.table st.tract
  limits = record {
    payloads = omega (arith, r.few);
    records = omega (arith, r.few, r.records);
    cells = λ i j. omega (arith, r.few, r.cells i j);
  }

  -- the next payload
  next_iff : (s : List ℕ) → (number_at st s ≡ 0) ↔ ((st.tract.payloads < 1000) × (payload_number (checked s) ≡ 0))
  next_iff s = (
    (λ z. let a = (adding_payload st.table st.tract s).accepted.0 z in (a.0.1.1.0, a.1)),
    (λ h.
        let q = plots_of s h.1 in
        (adding_payload st.table st.tract s).accepted.1 (((reading-reads s q.0 q.1 q.2).0, (r.listed, (h.0, (limits, tt)))), h.1)),
  )

  -- the state after it
  reached-after : (s : List ℕ) → Reached l (after st s)
  reached-after s =
      let a = adding_payload st.table st.tract s in
      ⊎_elim
      (λ z.
      let g = counters_grow st.table st.tract s z in
      let h = ((next_iff s).0 z).0 in
      record {
        list = same_list ∙ r.list;
        listed = (subst (λ (n : ℕ). n ≤ 16) (sym a.list.1) r.listed.0, subst Listed (sym same_list) r.listed.1);
        shape = a.shape r.shape;
        few = omega (arith, g.0, h);
        cells = λ i j. omega (arith, g.0, grows st.table st.tract s z (st.tract.payloads * 344080) r.cells i j);
        records = omega (arith, g.0, g.1, r.records);
      })
      (λ d. subst (Reached l) (sym (same_after d)) r)
      (zero_or (number_at st s))
    where
      same_after : number_at st s ≢ 0 → after st s ≡ st
      same_after d =
          let u = unchanged st.table st.tract s d in
          ap₂ (λ (t : List (List ℕ)) (c : Tract). record { table = t; tract = c }) u.0 u.1

      same_list : list_of (after st s).tract ≡ list_of st.tract
      same_list =
          let a = (adding_payload st.table st.tract s).list in
          ap₂ (λ (n : ℕ) (x : List ℕ). take n x) a.1 a.0

-- ---- payloads in turn, from a state that is reached

-- what the payloads ss do to the state st
record From (l : List ℕ) (st : State) (ss : List (List ℕ)) : Type 0 where
  reached : Reached l (after_all st ss)
  plots : (pss : List (List Plot)) × AllContain (accepted_of st ss) pss
  counted : (pss : List (List Plot)) → AllContain (accepted_of st ss) pss
      → Does l st.table (after_all st ss).table (lines_in (together pss)) × ((after_all st ss).tract.records ≡ st.tract.records + length (together pss))
  payloads : (after_all st ss).tract.payloads ≡ st.tract.payloads + length (accepted_of st ss)

-- no payload
from-none : (l : List ℕ) (st : State) → Reached l st → From l st []
unfolding after_all accepted_of flat_map
from-none l st r = record {
  reached = r;
  plots = ([], tt);
  counted = λ pss c. counted₁ pss c;
  payloads = omega arith;
}
  where
    counted₁ : (pss : List (List Plot)) → AllContain [] pss → Does l st.table st.table (lines_in (together pss)) × (st.tract.records ≡ st.tract.records + length (together pss))
    counted₁ [] c = (does-none l st.table r.shape, omega arith)
    counted₁ (ps ∷ pss) c = absurd c

-- one more, and then the others
module _ (l : List ℕ) (st : State) (s : List ℕ) (ss : List (List ℕ)) (r : Reached l st) (f : From l (after st s) ss) where
  abbrev Counted : List Plot → Type 0
  Counted plots = Does l st.table (after_all (after st s) ss).table (lines_in plots) × ((after_all (after st s) ss).tract.records ≡ st.tract.records + length plots)

  -- the plots of the payload before those of the others
  counted-more : number_at st s ≡ 0 → (ps : List Plot) (pss : List (List Plot)) → Contains s ps → AllContain (accepted_of (after st s) ss) pss → Counted (ps ++ together pss)
  counted-more z ps pss c cs =
      let g = f.counted pss cs in
      let d = subst (λ (x : List ℕ). Does x st.table (after st s).table (lines_in ps)) r.list (does st.table st.tract s z r.shape ps c) in
      let k = counts st.table st.tract s z ps c in (
        subst (Does l st.table (after_all (after st s) ss).table) (sym (lines-append ps (together pss)))
            (does_then l st.table (after st s).table (after_all (after st s) ss).table (lines_in ps) (lines_in (together pss)) d g.0),
        omega (arith, g.1, k.1, length-append ps (together pss)),
      )

  from_accepted : Bytes s → number_at st s ≡ 0 → From l st (s ∷ ss)
  unfolding after_all accepted_of flat_map
  from_accepted b z =
      let q = plots_of s ((next_iff l st r s).0 z).1 in
      let g = counters_grow st.table st.tract s z in
      let n : length (accepted_of st (s ∷ ss)) ≡ suc (length (accepted_of (after st s) ss)) = ap length e in
      record {
        reached = f.reached;
        plots = (q.0 ∷ f.plots.0, subst (λ (x : List (List ℕ)). AllContain x (q.0 ∷ f.plots.0)) (sym e) (reading-contains s q.0 q.1 b q.2, f.plots.1));
        counted = λ pss c. by_first pss (subst (λ (x : List (List ℕ)). AllContain x pss) e c);
        payloads = omega (arith, f.payloads, g.0);
      }
    where
      e : accepted_of st (s ∷ ss) ≡ s ∷ accepted_of (after st s) ss
      e = rw (eq-eqb (number_at st s) 0 z)

      by_first : (pss : List (List Plot)) → AllContain (s ∷ accepted_of (after st s) ss) pss → Counted (together pss)
      by_first [] c = absurd c
      by_first (ps ∷ pss) c = counted-more z ps pss c.0 c.1

  from-refused : number_at st s ≢ 0 → From l st (s ∷ ss)
  unfolding after_all accepted_of
  from-refused d =
      let u = unchanged st.table st.tract s d in
      let n : length (accepted_of st (s ∷ ss)) ≡ length (accepted_of (after st s) ss) = ap length e in
      let same : (after st s).tract.records ≡ st.tract.records = ap (λ (t : Tract). t.records) u.1 in
      let same-payloads : (after st s).tract.payloads ≡ st.tract.payloads = ap (λ (t : Tract). t.payloads) u.1 in
      record {
        reached = f.reached;
        plots = (f.plots.0, subst (λ (x : List (List ℕ)). AllContain x f.plots.0) (sym e) f.plots.1);
        counted = λ pss c.
            let g = f.counted pss (subst (λ (x : List (List ℕ)). AllContain x pss) e c) in
            (subst (λ (t : List (List ℕ)). Does l t (after_all (after st s) ss).table (lines_in (together pss))) u.0 g.0, omega (arith, g.1));
        payloads = omega (arith, f.payloads);
      }
    where
      e : accepted_of st (s ∷ ss) ≡ accepted_of (after st s) ss
      e = rw (ne_eqb (number_at st s) 0 d)

from_all : (l : List ℕ) (ss : List (List ℕ)) → AllBytes ss → (st : State) → Reached l st → From l st ss
from_all l [] b st r = from-none l st r
from_all l (s ∷ ss) b st r =
    let f = from_all l ss b.1 (after st s) (reached-after l st r s) in
    ⊎_elim (λ z. from_accepted l st s ss r f b.0 z) (λ d. from-refused l st s ss r f d) (zero_or (number_at st s))

-- ---- from a table begun empty

empty_total : table_total empty_table ≡ 0
empty_total = refl

module _ (l : List ℕ) (n : Listed l) (ss : List (List ℕ)) (b : AllBytes ss) where
  abbrev end : State
  end = after_all (begun l) ss

  all : From l (begun l) ss
  all = from_all l ss b (begun l) (reached-begun l n)

  checks_hold : (TractListed end.tract) × (Limits end.table end.tract × Unit {0})
  checks_hold = (all.reached.listed, (limits l end all.reached, tt))

  abbrev last : List Check
  last = (15 unless (end.tract.records ≢ 0)) ∷ []

  total-zero : total_number (total_answer end.table end.tract) ≡ 0
  total-zero = (total_exactly end.table end.tract).accepted.1 checks_hold

  module _ (pss : List (List Plot)) (c : AllContain (accepted_of (begun l) ss) pss) where
    abbrev plots : List Plot
    plots = together pss

    counted : Does l empty_table end.table (lines_in plots)
    counted = (all.counted pss c).0

    total_is : total_trees (total_answer end.table end.tract) ≡ all_trees plots
    total_is = omega (arith, (total_exactly end.table end.tract).sum total-zero, counted.total, empty_total)

    record_count : end.tract.records ≡ length plots
    record_count = omega (arith, (all.counted pss c).1)

    no_plots : (per_plot_number (per_plot_answer end.table end.tract) ≡ 15) ↔ (length plots ≡ 0)
    no_plots =
        let i = (per_plot_exactly end.table end.tract).refused 15 (λ e. omega arith) in (
          (λ e. ⊎_elim (λ z. z) (λ d. absurd (not-both (per_plot_checks end.table end.tract) 15 (i.0 e) (all_after (state_checks end.table end.tract) last checks_hold ((λ z. d (sym record_count ∙ z)), tt)))) (zero_or (length plots))),
          λ z. i.1 (first-after (state_checks end.table end.tract) last 15 checks_hold (inl ((λ d. d (record_count ∙ z)), refl))),
        )

    per_plot : length plots ≢ 0 → (per_plot_number (per_plot_answer end.table end.tract) ≡ 0)
        × (per_plot_quotient (per_plot_answer end.table end.tract) * length plots + per_plot_remainder (per_plot_answer end.table end.tract) ≡ all_trees plots)
        × (per_plot_remainder (per_plot_answer end.table end.tract) < length plots)
    per_plot d =
        let p = per_plot_exactly end.table end.tract in
        let z = p.accepted.1 (all_after (state_checks end.table end.tract) last checks_hold ((λ e. d (sym record_count ∙ e)), tt)) in
        let x = p.exact z in (
          z,
          subst (λ (k : ℕ). per_plot_quotient (per_plot_answer end.table end.tract) * k + per_plot_remainder (per_plot_answer end.table end.tract) ≡ all_trees plots) record_count (x.0 ∙ total_is),
          subst (λ (k : ℕ). per_plot_remainder (per_plot_answer end.table end.tract) < k) record_count x.1,
        )

    holds : Holds l end (length (accepted_of (begun l) ss)) plots
    holds = record {
      cells = λ i j h k. omega (arith, counted.cells i j h k, zero-table 17 20 i j);
      total = (total-zero, total_is);
      payload_count = omega (arith, all.payloads);
      record_count = record_count;
      no_plots = no_plots;
      per_plot = per_plot;
    }

pub in_turn : InTurn
in_turn l n ss b =
    let f = all l n ss b in
    let k : (after_all (begun l) ss).tract.payloads ≡ length (accepted_of (begun l) ss) = omega (arith, f.payloads) in
    record {
      plots = f.plots;
      holds = holds l n ss b;
      shape = f.reached.shape;
      next = λ s c. subst (λ (m : ℕ). (number_at (after_all (begun l) ss) s ≡ 0) ↔ ((m < 1000) × (payload_number (checked s) ≡ 0))) k (next_iff l (after_all (begun l) ss) f.reached s);
    }
