-- The promises of specs/LookAndFill.antt. A look answers what correcting answers; a fill goes by five cases, and what its test means is Within.antt.
use mathlib.Core.Path.{◌≡◌, refl, sym, ap, ap₂, subst, ◌∙◌}
use mathlib.Core.Logic.{◌≢◌, ◌⊎◌, inl, inr, ⊎_elim}
use mathlib.Core.Bool.{Bool, true, false}
use Rattle.std.specs.Prelude.{Ok, Err}
use mathlib.Core.List.{List}
use Prim.Native.Nat.{ℕ, ◌+◌, ◌-◌, ◌≤◌, ◌<◌}
use native.Mathlib.Omega.{arith}
use lib.Dec.{eqb}
use lib.ListN.{length}
use borrow.Author.Tests.{eqb-true, eq-eqb}
use Rattle.lists.specs.Choice.{pick, both}
use Rattle.lists.specs.Bytes.{Bytes}
use Rattle.lists.proofs.Test.{true_or_false, true_false, pick_of, lt-or_ge}
use Rattle.code.specs.Run.{shifted_remainder}
use Rattle.words.specs.Cells.{pad_to}
use Rattle.profile.specs.Profile.{InRange, in_range}
use Rattle.profile.specs.Refusals.{refusing, EarlyRefusals}
use Rattle.profile.proofs.Ranges.{in_range_lem}
use Rattle.answers.proofs.Numbers.{no_place}
use Rattle.profile.proofs.Refusing.{refusing_of, same-refusing, early_of}
use Rattle.block.specs.Block.{verdict, corrected, filled, is_span, is_within, run_word, correct_fits, correct_answer, correct_leaves, look_answer, look_error, filling, fill_answer, fill_leaves, fill_by_answer, fill_by_leaves}
use Rattle.block.specs.Numbers.{Verdict, Filled, correction_start, correction_length, verdict_number, verdict_start, verdict_length, filled_number}
use Rattle.block.specs.Runs.{Word, Reached}
use Rattle.block.specs.Promises.{LentBlock}
use Rattle.block.specs.LookAndFill.{LookIff, LookRefusals, Fills, FilledIff, OneWithin, NoCodewordIff, FillLimitFree, EmptyRun, FillRefusals, LooksThenFills, FillsAtOnce}
use Rattle.profile.specs.declared.Profile.{Profile}
use Rattle.block.specs.declared.numbers.Correction.{Correction}
use Rattle.block.specs.declared.numbers.Correction.TheVariants.{Run}
use Rattle.block.specs.declared.numbers.Refusal.{Refusal}
use Rattle.block.specs.declared.numbers.Refusal.TheVariants as refusals
use Rattle.block.specs.declared.numbers.FillRefusal.TheVariants as fills
use Rattle.block.proofs.NumberLaws.{number-3, number-4, number-16, case_of, verdict-0, verdict-late, no_values}
use Rattle.block.proofs.Shortest.{empty_run}
use Rattle.block.proofs.Entries.{same-fits, correct_fits_lem, correct_rest, look_one, look_two, look_rest, error-rest}
use Rattle.block.proofs.Verdicts.{verdict-none, verdict-two, verdict_sparse, verdict-one}
use Rattle.block.proofs.Answers.{block-kept}
use Rattle.block.proofs.Promises.{two_lengths}
use Rattle.block.proofs.Filling.{span_iff, fill_one, fill_two, fill_span, fill_rest, by_shifted}
use Rattle.block.proofs.Within.{within-reached, reached-within, look_span, look_within, look_word}

-- ---- the look

-- where it is accepted or refused by its cells
look_is : (p : Profile) (y : List ℕ) → InRange p → length y ≡ p.n → look_answer p y ≡ verdict p y
look_is p y v l = sym (look_rest p y ((in_range_lem p).1 v) l (verdict p y) refl)

pub look_iff : LookIff
look_iff p y v h =
    let e : look_answer p y ≡ verdict p y = look_is p y v h.count in
    let none = verdict-none p y v h in
    let two = verdict-two p y v h in
    let sparse = verdict_sparse p y v h in
    record {
      none = (λ q. none.0 (sym e ∙ number-3 (look_answer p y) q), λ n. ap verdict_number (e ∙ none.1 n));
      two = (λ q. two.0 (sym e ∙ number-4 (look_answer p y) q), λ n. ap verdict_number (e ∙ two.1 n));
      one = λ s f. (
        λ q.
            let w : verdict p y ≡ Ok (Run s f) =
            verdict-0 p y (ap verdict_number (sym e) ∙ q.0) ∙ ap₂ (λ (i j : ℕ). Ok (Run i j)) (ap verdict_start (sym e) ∙ q.1) (ap verdict_length (sym e) ∙ q.2) in
            (corrected p y, (verdict-one p y v h s f (corrected p y)).0 (w, refl)),
        λ k.
            let w : look_answer p y ≡ Ok (Run s f) = e ∙ ((verdict-one p y v h s f k.0).1 k.1).0 in
            (ap verdict_number w, ap verdict_start w, ap verdict_length w),
      );
      sparse = (λ q. sparse.0 (sym e ∙ number-16 (look_answer p y) q), λ n. ap verdict_number (e ∙ sparse.1 n));
    }

module _ (p : Profile) (y : List ℕ) where
  of_burst : case_of (look_answer p y) ≢ 2
  unfolding look_answer
  of_burst =
      refusing_of p (eqb (length y) p.n) (Err refusals.BadProfile) (Err refusals.WrongLength) (verdict p y) (λ (w : Verdict). case_of w ≢ 2) (λ q. omega arith) (λ q. omega arith)
      (verdict-late p y).burst

  pub look_refusals : LookRefusals p y
  unfolding look_answer
  look_refusals = record {
    early =
        early_of p (eqb (length y) p.n) (length y ≡ p.n) (eqb-true (length y) p.n, eq-eqb (length y) p.n) verdict_number (Err refusals.BadProfile) (Err refusals.WrongLength) (verdict p y) refl refl
        (verdict-late p y).not_1 (verdict-late p y).not_2;
    place = no_place (look_answer p y);
    run = λ n. let z = no_values (look_answer p y) n in (z.start, z.size);
    no_cells = (λ q. of_burst (ap case_of q), λ t j q. of_burst (ap case_of q));
  }

-- ---- the fill

-- the five cases, with what is answered and left in each
five : (P : Filled → List ℕ → Type 0) (out word : List ℕ) → P (Err fills.BadProfile) out → P (Err fills.WrongLength) out → P (Err fills.BadSpan) out → P (Err fills.NoCodeword) out → P (Ok tt) word
    → (valid fits span within : Bool)
    → P (pick valid (pick fits (pick span (pick within (Ok tt) (Err fills.NoCodeword)) (Err fills.BadSpan)) (Err fills.WrongLength)) (Err fills.BadProfile))
    (pick valid (pick fits (pick span (pick within word out) out) out) out)
five P out word one two bad none done false fits span within = one
five P out word one two bad none done true false span within = two
five P out word one two bad none done true true false within = bad
five P out word one two bad none done true true true false = none
five P out word one two bad none done true true true true = done

fill_of : (P : Filled → List ℕ → Type 0) (p : Profile) (y : List ℕ) (s f : ℕ) (out : List ℕ)
    → P (Err fills.BadProfile) out → P (Err fills.WrongLength) out → P (Err fills.BadSpan) out → P (Err fills.NoCodeword) out → P (Ok tt) (run_word p y s f)
    → P (fill_answer p y s f out) (fill_leaves p y s f out)
unfolding fill_answer fill_leaves filling refusing
fill_of P p y s f out one two bad none done =
    five P out (run_word p y s f) one two bad none done (in_range p) (correct_fits p y out) (is_span p s f) (is_within p y s f)

-- of n cells and a second buffer of n bytes
module _ (p : Profile) (y : List ℕ) (s f : ℕ) (out : List ℕ) (v : InRange p) (h : LentBlock p y out) where
  abbrev number : ℕ
  number = filled_number (fill_answer p y s f out)

  fits : correct_fits p y out ≡ true
  fits = correct_fits_lem p y out h.cells.count h.second

  bad_span : is_span p s f ≡ false → number ≡ 12
  bad_span e = sym (ap filled_number (fill_span p y s f out ((in_range_lem p).1 v) fits e).0)

  module _ (e : is_span p s f ≡ true) where
    no_word : is_within p y s f ≡ false → number ≡ 3
    no_word t = sym (ap filled_number (fill_rest p y s f out ((in_range_lem p).1 v) fits e (Err fills.NoCodeword) out (rw t) (rw t)).0)

    its_word : is_within p y s f ≡ true → Fills p y s f out (run_word p y s f)
    its_word t =
        let z = fill_rest p y s f out ((in_range_lem p).1 v) fits e (Ok tt) (run_word p y s f) (rw t) (rw t) in
        record { accepted = sym (ap filled_number z.0); leaves = sym z.1 }

  -- by the two tests
  fill_cases : {P : Type 0} → (is_span p s f ≡ false → P) → (is_span p s f ≡ true → is_within p y s f ≡ false → P) → (is_span p s f ≡ true → is_within p y s f ≡ true → P) → P
  fill_cases bad none done =
      ⊎_elim (λ e. ⊎_elim (λ t. done e t) (λ t. none e t) (true_or_false (is_within p y s f))) bad (true_or_false (is_span p s f))

  fills_there : (c : List ℕ) → Fills p y s f out c → (f < p.r) × Reached p y s f c
  fills_there c k =
      fill_cases (λ e. absurd (let z : number ≡ 12 = bad_span e in omega (arith, k.accepted)))
      (λ e t. absurd (let z : number ≡ 3 = no_word e t in omega (arith, k.accepted)))
      (λ e t.
      let z = (span_iff p s f).0 e in
      (z.1, subst (Reached p y s f) (sym (its_word e t).leaves ∙ k.leaves) (within-reached p y v h.cells s f z.0 z.1 t)))

  fills_back : (c : List ℕ) → (f < p.r) × Reached p y s f c → Fills p y s f out c
  fills_back c k =
      let z = reached-within p y v h.cells s f c k.0 k.1 in
      let w = its_word ((span_iff p s f).1 (k.1.run, k.0)) z.0 in
      record { accepted = w.accepted; leaves = w.leaves ∙ sym z.1 }

  none_there : number ≡ 3 → (s + f ≤ p.n) × (f < p.r) × ((c : List ℕ) → Reached p y s f c → ⊥)
  none_there q =
      fill_cases (λ e. absurd (let z : number ≡ 12 = bad_span e in omega arith))
      (λ e t. let z = (span_iff p s f).0 e in (z.0, z.1, λ c k. true_false (reached-within p y v h.cells s f c z.1 k).0 t))
      (λ e t. absurd (let z : number ≡ 0 = (its_word e t).accepted in omega arith))

  none_back : (s + f ≤ p.n) × (f < p.r) × ((c : List ℕ) → Reached p y s f c → ⊥) → number ≡ 3
  none_back k =
      ⊎_elim (λ t. absurd (k.2 (run_word p y s f) (within-reached p y v h.cells s f k.0 k.1 t)))
      (λ t. no_word ((span_iff p s f).1 (k.0, k.1)) t) (true_or_false (is_within p y s f))

pub filled_iff : FilledIff
filled_iff p y s f out c v h = (fills_there p y s f out v h c, fills_back p y s f out v h c)

pub no_codeword_iff : NoCodewordIff
no_codeword_iff p y s f out v h = (none_there p y s f out v h, none_back p y s f out v h)

pub one-within : OneWithin
one-within p y s f c d v h l k j = (reached-within p y v h s f c l k).1 ∙ sym (reached-within p y v h s f d l j).1

pub empty_run_iff : EmptyRun
empty_run_iff p y s out c v h l = (
  λ k.
      let z : Reached p y s 0 c = ((filled_iff p y s 0 out c v h).0 k).1 in
      let q : c ≡ y = empty_run p.n p.r p.b y s c h.cells.count z in
      (subst (Word p) q z.codeword, q),
  λ k.
      (filled_iff p y s 0 out c v h).1
      (omega (arith, v.r_least), record { run = omega arith; codeword = subst (Word p) (sym k.1) k.0; agree = λ i m o. ap (λ (u : List ℕ). lib.ListN.get_or u i 0) (sym k.1) }),
)

module _ (p q : Profile) (y : List ℕ) (s f : ℕ) (out : List ℕ) (v : InRange p) (w : InRange q) (en : p.n ≡ q.n) (er : p.r ≡ q.r) (eb : p.b ≡ q.b) where
  same-filling : {A : Type 0} (one two span none a b : A) → a ≡ b → filling p y s f out (is_within p y s f) one two span none a ≡ filling q y s f out (is_within q y s f) one two span none b
  unfolding filling is_span is_within
  same-filling one two span none a b e =
      same-refusing p q (correct_fits p y out) (correct_fits q y out) one two _ _ v w (same-fits p q y out en) (rw (en, er, eb, e))

  same_fill : (fill_answer p y s f out ≡ fill_answer q y s f out) × (fill_leaves p y s f out ≡ fill_leaves q y s f out)
  unfolding fill_answer fill_leaves
  same_fill = (same-filling _ _ _ _ _ _ refl, same-filling out out out out (run_word p y s f) (run_word q y s f) (rw (er, eb)))

pub fill_limit_free : FillLimitFree
fill_limit_free p q y s f out v w en er eb = same_fill p q y s f out v w en er eb

-- ---- refusals of the fill

module _ (p : Profile) (y : List ℕ) (s f : ℕ) (out : List ℕ) where
  abbrev late : Filled
  late = pick (is_span p s f) (pick (is_within p y s f) (Ok tt) (Err fills.NoCodeword)) (Err fills.BadSpan)

  late_of : (P : Filled → Type 0) → P (Ok tt) → P (Err fills.NoCodeword) → P (Err fills.BadSpan) → P late
  late_of P done none bad = pick_of P (is_span p s f) _ (Err fills.BadSpan) (pick_of P (is_within p y s f) (Ok tt) (Err fills.NoCodeword) done none) bad

  fill_early : EarlyRefusals p ((length y ≡ p.n) × (length out ≡ p.n)) (filled_number (fill_answer p y s f out))
  unfolding fill_answer filling correct_fits
  fill_early =
      early_of p (correct_fits p y out) _ (two_lengths (length y) (length out) p.n p.n) filled_number (Err fills.BadProfile) (Err fills.WrongLength) late refl refl
      (late_of (λ (w : Filled). filled_number w ≢ 1) (λ q. omega arith) (λ q. omega arith) (λ q. omega arith))
      (late_of (λ (w : Filled). filled_number w ≢ 2) (λ q. omega arith) (λ q. omega arith) (λ q. omega arith))

  -- a span's sum and length, each within its bound or past it
  past : InRange p → is_span p s f ≡ false → (p.n < s + f) ⊎ (p.r - 1 < f)
  past v e =
      ⊎_elim inl
      (λ l. inr (⊎_elim (λ m. absurd (true_false ((span_iff p s f).1 (l, m)) e)) (λ m. omega (arith, v.r_least)) (lt-or_ge f p.r)))
      (lt-or_ge p.n (s + f))

  not_past : (p.n < s + f) ⊎ (p.r - 1 < f) → is_span p s f ≡ false
  not_past k =
      ⊎_elim (λ e. absurd (let z = (span_iff p s f).0 e in ⊎_elim (λ l. omega (arith, z.0)) (λ l. omega (arith, z.1)) k)) (λ e. e) (true_or_false (is_span p s f))

  lengths : correct_fits p y out ≡ true → (length y ≡ p.n) × (length out ≡ p.n)
  unfolding correct_fits
  lengths w = (two_lengths (length y) (length out) p.n p.n).0 w

  -- a span is not refused by 12
  not-12 : (x : Bool) → filled_number (pick x (Ok tt) (Err fills.NoCodeword)) ≢ 12
  not-12 true z = omega arith
  not-12 false z = omega arith

  span_other : in_range p ≡ true → correct_fits p y out ≡ true → is_span p s f ≡ true → filled_number (fill_answer p y s f out) ≢ 12
  span_other t w e z = not-12 (is_within p y s f) (ap filled_number (fill_rest p y s f out t w e _ _ refl refl).0 ∙ z)

  -- 12 is neither 1 nor 2, so profile and lengths are right
  span_there : filled_number (fill_answer p y s f out) ≡ 12 → InRange p × ((length y ≡ p.n) × (length out ≡ p.n)) × ((p.n < s + f) ⊎ (p.r - 1 < f))
  span_there q =
      ⊎_elim
      (λ t. ⊎_elim
      (λ w.
      let v : InRange p = (in_range_lem p).0 t in
      (v, lengths w, ⊎_elim (λ e. absurd (span_other t w e q)) (λ e. past v e) (true_or_false (is_span p s f))))
      (λ w. absurd (let z : filled_number (fill_answer p y s f out) ≡ 2 = sym (ap filled_number (fill_two p y s f out t w).0) in omega arith))
      (true_or_false (correct_fits p y out)))
      (λ t. absurd (let z : filled_number (fill_answer p y s f out) ≡ 1 = sym (ap filled_number (fill_one p y s f out t).0) in omega arith))
      (true_or_false (in_range p))

  span_back : InRange p × ((length y ≡ p.n) × (length out ≡ p.n)) × ((p.n < s + f) ⊎ (p.r - 1 < f)) → filled_number (fill_answer p y s f out) ≡ 12
  span_back k =
      sym (ap filled_number (fill_span p y s f out ((in_range_lem p).1 k.0) (correct_fits_lem p y out k.1.0 k.1.1) (not_past k.2)).0)

  pub fill_refusals : FillRefusals p y s f out
  fill_refusals = record {
    early = fill_early;
    span = (span_there, span_back);
    not_ambiguous = fill_of (λ (a : Filled) (o : List ℕ). filled_number a ≢ 4) p y s f out (λ q. omega arith) (λ q. omega arith) (λ q. omega arith) (λ q. omega arith) (λ q. omega arith);
    place = no_place (fill_answer p y s f out);
    kept = fill_of (λ (a : Filled) (o : List ℕ). filled_number a ≢ 0 → o ≡ out) p y s f out (λ n. refl) (λ n. refl) (λ n. refl) (λ n. refl) (λ n. absurd (n refl));
  }

-- ---- a look, then its fill

-- a look accepts only n cells under a profile in range
look_fits : (p : Profile) (y : List ℕ) → verdict_number (look_answer p y) ≡ 0 → InRange p × (length y ≡ p.n)
look_fits p y q =
    ⊎_elim
    (λ t. ⊎_elim (λ c. ((in_range_lem p).0 t, eqb-true (length y) p.n c))
    (λ c. absurd (let z : verdict_number (look_answer p y) ≡ 2 = sym (ap verdict_number (look_two p y t (λ m. true_false (eq-eqb (length y) p.n m) c))) in omega arith))
    (true_or_false (eqb (length y) p.n)))
    (λ t. absurd (let z : verdict_number (look_answer p y) ≡ 1 = sym (ap verdict_number (look_one p y t)) in omega arith))
    (true_or_false (in_range p))

module _ (p : Profile) (y out : List ℕ) (b : Bytes y) (l : length out ≡ p.n) where
  both_yes : (a : Bool) → a ≡ both a true
  both_yes true = refl
  both_yes false = refl

  same_answer : look_answer p y ≡ correct_answer p y out
  unfolding look_answer correct_answer correct_fits
  same_answer =
      ap (λ (t : Bool). refusing p t (Err refusals.BadProfile) (Err refusals.WrongLength) (verdict p y)) (both_yes (eqb (length y) p.n) ∙ ap (both (eqb (length y) p.n)) (sym (eq-eqb (length out) p.n l)))

  -- the fill of an accepted look, on n cells under a profile in range
  filled_look : (v : InRange p) → length y ≡ p.n → verdict_number (look_answer p y) ≡ 0
      → Fills p y (verdict_start (look_answer p y)) (verdict_length (look_answer p y)) out (correct_leaves p y out)
  filled_look v c q =
      let e : look_answer p y ≡ verdict p y = look_is p y v c in
      let h : LentBlock p y out = record { cells = record { count = c; bytes = b }; second = l } in
      let a : verdict_number (verdict p y) ≡ 0 = ap verdict_number (sym e) ∙ q in
      let s : ℕ = verdict_start (verdict p y) in
      let f : ℕ = verdict_length (verdict p y) in
      let w : Fills p y s f out (run_word p y s f) = its_word p y s f out v h (look_span p y v h.cells a) (look_within p y v h.cells a) in
      let left : run_word p y s f ≡ correct_leaves p y out =
      (correct_rest p y out ((in_range_lem p).1 v) (fits p y s f out v h) (verdict p y) _ refl (look_word p y v h.cells a out)).1 in
      subst (λ (u : Verdict). Fills p y (verdict_start u) (verdict_length u) out (correct_leaves p y out)) (sym e)
      (record { accepted = w.accepted; leaves = w.leaves ∙ left })

  pub accepted_look : verdict_number (look_answer p y) ≡ 0 → Fills p y (verdict_start (look_answer p y)) (verdict_length (look_answer p y)) out (correct_leaves p y out)
  accepted_look q = let z = look_fits p y q in filled_look z.0 z.1 q

pub looks_then_fills : LooksThenFills
looks_then_fills p y out b l =
    let e : look_answer p y ≡ correct_answer p y out = same_answer p y out b l in
    record { answer = e; accepted = accepted_look p y out b l; refused = λ n. block-kept p y out (λ q. n (ap verdict_number e ∙ q)) }

-- by the shifted remainder that the look has
pub fills-at_once : FillsAtOnce
fills-at_once p y out q =
    let z = look_fits p y q in
    let v : InRange p = z.0 in
    let at : look_answer p y ≡ verdict p y = look_is p y v z.1 in
    by_shifted p y _ _ out (look_error p y)
    (λ _ _ _. sym (error-rest p y ((in_range_lem p).1 v) z.1 _ refl) ∙ ap (λ (u : Verdict). pad_to 64 (shifted_remainder p.b p.r (verdict_start u) y)) (sym at))

accepted_done : (w : Filled) → filled_number w ≡ 0 → w ≡ Ok tt
accepted_done (Ok t) q = refl
accepted_done (Err fills.BadProfile) q = absurd (omega arith)
accepted_done (Err fills.WrongLength) q = absurd (omega arith)
accepted_done (Err fills.BadSpan) q = absurd (omega arith)
accepted_done (Err fills.NoCodeword) q = absurd (omega arith)

-- so the fill of its run leaves what correcting leaves
pub fill_by_look : (p : Profile) (y out E : List ℕ) → Bytes y → length out ≡ p.n → E ≡ look_error p y → verdict_number (look_answer p y) ≡ 0
    → fill_by_leaves p y (verdict_start (look_answer p y)) (verdict_length (look_answer p y)) E out ≡ correct_leaves p y out
fill_by_look p y out E b l e q =
    ap (λ (u : List ℕ). fill_by_leaves p y (verdict_start (look_answer p y)) (verdict_length (look_answer p y)) u out) e ∙ (fills-at_once p y out q).1 ∙ (accepted_look p y out b l q).leaves

-- in the words of correcting: a look that refuses leaves all as it was, and the fill of an accepted one is done
module _ (p : Profile) (y out : List ℕ) (b : Bytes y) (l : length out ≡ p.n) where
  pub look_refused : (e : Refusal) → look_answer p y ≡ Err e → (Err e ≡ correct_answer p y out) × (out ≡ correct_leaves p y out)
  unfolding correct_leaves filled
  look_refused e a =
      let q : correct_answer p y out ≡ Err e = sym (same_answer p y out b l) ∙ a in
      (sym q, ap (filled p y out) (sym q))

  pub look_filled : (k : Correction) (E : List ℕ) → look_answer p y ≡ Ok k → E ≡ look_error p y
      → (Ok k ≡ correct_answer p y out) × (fill_by_answer p y (correction_start k) (correction_length k) E out ≡ Ok tt)
      × (fill_by_leaves p y (correction_start k) (correction_length k) E out ≡ correct_leaves p y out)
  look_filled k E a e =
      let q : verdict_number (look_answer p y) ≡ 0 = ap verdict_number a in
      let same = fills-at_once p y out q in
      let done = accepted_look p y out b l q in
      let by : (w : Verdict) → look_answer p y ≡ w → (fill_by_answer p y (verdict_start w) (verdict_length w) E out ≡ Ok tt)
      × (fill_by_leaves p y (verdict_start w) (verdict_length w) E out ≡ correct_leaves p y out) =
      λ w i. rw (← i, e) (accepted_done _ (ap filled_number same.0 ∙ done.accepted), same.1 ∙ done.leaves) in
      (sym a ∙ same_answer p y out b l, (by (Ok k) a).0, (by (Ok k) a).1)
