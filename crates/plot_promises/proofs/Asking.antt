-- Asking for a plot, exactly when (AskingExactly): the search gives the record of the plot that has the number, or finds that none has it; on a payload that
-- is refused it is the payload's own refusal.
use mathlib.Core.Path.{◌≡◌, refl, sym, ap, subst, ◌∙◌}
use mathlib.Core.Logic.{◌⊎◌, ◌≢◌, inl, inr, ⊎_elim}
use mathlib.Core.List.{List, [], ◌∷◌, ◌++◌}
use Prim.Native.Nat.{ℕ, ◌+◌}
use native.Mathlib.Omega.{arith}
use Rattle.std.specs.Prelude.{Err}
use lib.ListN.{length}
use borrow.Author.Tests.{eqb-true, eqb-false}
use lib.Dec.{eqb}
use Rattle.lists.specs.Bytes.{Bytes}
use Rattle.lists.proofs.Test.{true_or_false}
use Rattle.plot.specs.declared.Refusal.{Refusal}
use Rattle.plot.specs.declared.Refusal.TheVariants.{NoSuchPlot}
use Rattle.plot.specs.Layout.{Plot, record_of, bytes_of}
use Rattle.plot.specs.Grammar.{Parsed, Plots, Stopped, reading}
use Rattle.plot.specs.Answers.{checked, seek, located, asked}
use Rattle.plot.specs.Numbers.{payload_number, payload_place, located_number, located_place, located_start, located_length}
use Rattle.plot_promises.specs.Canonical.{Rising, Contains, FoundAt}
use Rattle.plot_promises.specs.Refusals.{RecordAt, Absent, AskingExactly}
use Rattle.plot_promises.proofs.Refusals.{number_some, refused_as, place_unset}
use Rattle.plot.proofs.Entries.{located-plots, located_stopped, part-refused}
use Rattle.plot_promises.proofs.Canonical.{contains-fits, contains_form, contains-reads, reading-contains, rising-at, found-payload}
use Rattle.plot_promises.proofs.Checking.{checks_stopped, stopped_of, stopped_number}

-- the search among plots: the first that has the number, or none has it
pub record Found (n : ℕ) (ps : List Plot) : Type 0 where
  pub before : List Plot
  pub plot : Plot
  pub after : List Plot
  pub is : ps ≡ before ++ plot ∷ after
  pub number : plot.number ≡ n

abbrev pub None : ℕ → List Plot → Type 0
None n ps = (before : List Plot) (p : Plot) (after : List Plot) → ps ≡ before ++ p ∷ after → p.number ≢ n

none_first : (n : ℕ) (x : Plot) (ps : List Plot) → x.number ≢ n → None n ps → None n (x ∷ ps)
none_first n x ps h k [] p after e =
    let z : x ≡ p = cc in
    λ y. h (ap (λ (t : Plot). t.number) z ∙ y)
none_first n x ps h k (b ∷ before) p after e =
    let z : ps ≡ before ++ p ∷ after = cc in
    k before p after z

seeks : (n at : ℕ) (ps : List Plot) → Found n ps ⊎ (None n ps × (seek n at ps ≡ Err NoSuchPlot))
unfolding seek
seeks n at [] = inr ((λ before p after e. absurd (no_split before p after e)), refl)
  where
    no_split : (before : List Plot) (p : Plot) (after : List Plot) → [] ≡ before ++ p ∷ after → ⊥
    no_split [] p after e = let z : ◌≡◌ {A = ℕ} 0 1 = cc in omega arith
    no_split (b ∷ before) p after e = let z : ◌≡◌ {A = ℕ} 0 1 = cc in omega arith
seeks n at (x ∷ ps) =
    ⊎_elim
    (λ e. inl (record { before = []; plot = x; after = ps; is = refl; number = eqb-true _ _ e }))
    (λ e.
    ⊎_elim
    (λ f. inl (record { before = x ∷ f.before; plot = f.plot; after = f.after; is = ap (λ (t : List Plot). x ∷ t) f.is; number = f.number }))
    (λ k. inr (none_first n x ps (eqb-false _ _ e) k.0, (rw e k.1)))
    (seeks n (at + length (record_of x)) ps))
    (true_or_false (eqb x.number n))

-- the record of a plot that the payload contains
pub found_in : (s : List ℕ) (ps qs : List Plot) (p : Plot) → Contains s (ps ++ p ∷ qs) → FoundAt p.number s (length (bytes_of ps)) (record_of p)
found_in s ps qs p c =
    subst (λ (t : List ℕ). FoundAt p.number t (length (bytes_of ps)) (record_of p)) (sym (contains_form s (ps ++ p ∷ qs) c))
    (found-payload (length s) ps p qs c.rising (contains-fits s (ps ++ p ∷ qs) c) c.short)

module _ (n : ℕ) (s : List ℕ) (ps : List Plot) (c : Contains s ps) where
  pub record FoundIn : Type 0 where
    pub plot : Found n ps
    pub at : FoundAt n s (length (bytes_of plot.before)) (record_of plot.plot)

  -- on an accepted payload
  pub asks : FoundIn ⊎ (None n ps × (located n s ≡ Err NoSuchPlot))
  asks =
      ⊎_elim
      (λ f. inl (record {
        plot = f;
        at = subst (λ (k : ℕ). FoundAt k s (length (bytes_of f.before)) (record_of f.plot)) f.number
            (found_in s f.before f.after f.plot (subst (Contains s) f.is c));
      }))
      (λ k. inr (k.0, located-plots n s ps _ (contains-reads s ps c) ∙ k.1))
      (seeks n 0 ps)

module _ (n : ℕ) (s : List ℕ) where
  -- on a payload that is refused
  stopped_located : (r : Refusal) → reading s ≡ Stopped r → located n s ≡ Err r
  stopped_located r q = sym (located_stopped n s r q)

  -- an answer of asking, by the reading
  pub data AskedIs : Type 0 where
    found : (ps : List Plot) (c : Contains s ps) → FoundIn n s ps c → AskedIs
    none : (ps : List Plot) → Contains s ps → None n ps → located n s ≡ Err NoSuchPlot → AskedIs
    refused : (r : Refusal) → reading s ≡ Stopped r → located n s ≡ Err r → AskedIs

  pub asked_is : Bytes s → AskedIs
  asked_is b = by_reading (reading s) refl
    where
      by_reading : (q : Parsed) → reading s ≡ q → AskedIs
      by_reading (Stopped r) q = refused r q (stopped_located r q)
      by_reading (Plots ps end) q =
          let c = reading-contains s ps end b q in
          ⊎_elim (λ f. found ps c f) (λ k. none ps c k.0 k.1) (asks n s ps c)

  record_found : (start : ℕ) (bytes : List ℕ) → RecordAt n s start bytes → FoundAt n s start bytes
  record_found start bytes r =
      let f : FoundAt n s (length (bytes_of r.before)) (record_of r.plot) =
      subst (λ (k : ℕ). FoundAt k s (length (bytes_of r.before)) (record_of r.plot)) r.number (found_in s r.before r.after r.plot r.contains) in
      record { number = f.number; start = f.start ∙ sym r.begins; size = f.size ∙ ap length (sym r.is); part = f.part ∙ sym r.is }

  found_record : (start : ℕ) (bytes : List ℕ) → AskedIs → located_number (located n s) ≡ 0 → located_start (located n s) ≡ start → asked n s ≡ bytes → RecordAt n s start bytes
  found_record start bytes (found ps c f) z a p = record {
    before = f.plot.before;
    plot = f.plot.plot;
    after = f.plot.after;
    contains = subst (Contains s) f.plot.is c;
    number = f.plot.number;
    begins = sym a ∙ f.at.start;
    is = sym p ∙ f.at.part;
  }
  found_record start bytes (none ps c k l) z a p = absurd (let y : ◌≡◌ {A = ℕ} 9 0 = sym (ap located_number l) ∙ z in omega arith)
  found_record start bytes (refused r q l) z a p = absurd (number_some r (sym (ap located_number l) ∙ z))

  none-absent : AskedIs → located_number (located n s) ≡ 9 → Absent n s
  none-absent (found ps c f) z = absurd (let y : ◌≡◌ {A = ℕ} 0 9 = sym f.at.number ∙ z in omega arith)
  none-absent (none ps c k l) z = record { plots = ps; contains = c; none = k }
  none-absent (refused r q l) z = absurd (stopped_number s r q (sym (ap located_number l) ∙ z))

  absent_none : Absent n s → located n s ≡ Err NoSuchPlot
  absent_none a =
      ⊎_elim
      (λ f. absurd (a.none f.plot.before f.plot.plot f.plot.after f.plot.is f.plot.number))
      (λ k. k.1)
      (asks n s a.plots a.contains)

  zero-absent : AskedIs → payload_number (checked s) ≡ 0 → n ≡ 0 → located_number (located n s) ≡ 9
  zero-absent (found ps c f) z e =
      let h = rising-at 0 f.plot.before f.plot.plot f.plot.after (subst (Rising 0) f.plot.is c.rising) in
      absurd (h.0.some (f.plot.number ∙ e))
  zero-absent (none ps c k l) z e = ap located_number l
  zero-absent (refused r q l) z e = absurd (number_some r (sym (ap payload_number (checks_stopped s r q)) ∙ z))

  own_refusal : (number place : ℕ) → number ≢ 0 → number ≢ 9 → AskedIs → located_number (located n s) ≡ number → located_place (located n s) ≡ place
      → (payload_number (checked s) ≡ number) × (payload_place (checked s) ≡ place)
  own_refusal number place z y (found ps c f) a p = absurd (z (sym a ∙ f.at.number))
  own_refusal number place z y (none ps c k l) a p = absurd (y (sym a ∙ ap located_number l))
  own_refusal number place z y (refused r q l) a p =
      let e = checks_stopped s r q in
      (ap payload_number e ∙ sym (ap located_number l) ∙ a, ap payload_place e ∙ sym (ap located_place l) ∙ p)

  refusal_own : (number place : ℕ) → number ≢ 0 → payload_number (checked s) ≡ number → payload_place (checked s) ≡ place
      → (located_number (located n s) ≡ number) × (located_place (located n s) ≡ place)
  refusal_own number place z a p =
      let r = stopped_of s (λ e. z (sym a ∙ e)) in
      let e = checks_stopped s r.0 r.1 in
      let l = stopped_located r.0 r.1 in
      (ap located_number l ∙ sym (ap payload_number e) ∙ a, ap located_place l ∙ sym (ap payload_place e) ∙ p)

  empty_part : located_number (located n s) ≢ 0 → (asked n s ≡ []) × (located_start (located n s) ≡ 0) × (located_length (located n s) ≡ 0)
  empty_part h =
      let r = refused_as (located n s) h in
      (sym (part-refused (located n s) s r.0 r.1), ap located_start r.1, ap located_length r.1)

pub asking_exactly : (n : ℕ) (s : List ℕ) → Bytes s → AskingExactly n s
asking_exactly n s b =
    let is : AskedIs n s = asked_is n s b in
    record {
      found = λ start bytes. ((λ h. found_record n s start bytes is h.number h.start h.part), record_found n s start bytes);
      absent = ((λ h. none-absent n s is h.0), λ a. (ap located_number (absent_none n s a), ap located_place (absent_none n s a)));
      zero = zero-absent n s is;
      refused = λ number place z y. ((λ h. own_refusal n s number place z y is h.0 h.1), λ h. refusal_own n s number place z h.0 h.1);
      empty = empty_part n s;
      unset = place_unset (located n s);
    }
