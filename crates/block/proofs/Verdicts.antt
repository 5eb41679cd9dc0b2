-- What the verdict on n cells says: a block is clean, or the search has found what it means, and the rule decides on the run that it found; each equivalence
-- goes by these cases.
use mathlib.Core.Path.{◌≡◌, refl, sym, ap, ap₂, ◌∙◌, subst}
use mathlib.Core.Logic.{◌↔◌, ◌≢◌, ◌⊎◌, inl, inr, ⊎_elim}
use mathlib.Core.Bool.{true, false}
use Rattle.std.specs.Prelude.{Ok, Err}
use mathlib.Core.List.{List}
use Prim.Native.Nat.{ℕ, ◌≤◌, ◌<◌, zero-le}
use native.Mathlib.Nat.{pos_of_ne-zero}
use native.Mathlib.Omega.{arith}
use lib.Dec.{ltb}
use lib.ListN.{length, take}
use borrow.Author.Tests.{ltb-true, ltb-false, lt-ltb, le-ltb}
use Rattle.lists.specs.Choice.{pick}
use Rattle.lists.proofs.Test.{true_or_false, true_false}
use Rattle.code.specs.Poly.{padd}
use Rattle.code.specs.Run.{shifted_remainder, added_at, changed_in}
use Rattle.code.specs.Search.{Best}
use Rattle.code.proofs.Poly.{padd-zeros}
use Rattle.code.proofs.Theorems.{two_runs}
use Rattle.profile.specs.Profile.{InRange, half, is_sparse}
use Rattle.profile.proofs.Sparse.{sparse_run_iff, short_exempt, short-run}
use Rattle.block.specs.Block.{is_clean, run_verdict, decided, judged, verdict, run_word, filled, corrected}
use Rattle.block.specs.Runs.{Cells, Word, Reached, NoneReached, TwoReached, OneReached, SparseRepair, OneAccepted, OneSparse}
use Rattle.block.specs.Promises.{ExactlyOne}
use Rattle.profile.specs.declared.Profile.{Profile}
use Rattle.block.specs.Numbers.{Verdict, verdict_number}
use Rattle.block.specs.declared.numbers.Correction.TheVariants.{Run, Cells as ChangedCells}
use Rattle.block.specs.declared.numbers.Refusal.TheVariants.{Uncorrectable, Ambiguous, Sparse}
use Rattle.block.proofs.Shortest.{empty_run, word, first, best, e, scan, reach_word, extent_reach, clean_word, word_clean, clean_verdict, wrong_verdict, reach_start, reach_size, small, best_reach, best-least, ruled_by, at_size, apart}

-- nothing added is the word itself
pub added_none : (y : List ℕ) (s : ℕ) (R : List ℕ) → s ≤ length y → added_at s (take 0 R) y ≡ y
unfolding added_at
added_none y s R l = ap (padd y) (rw mathlib.Core.List.append-nil) ∙ padd-zeros y s l

-- a run of no cells is exempt from the rule
pub clean_exempt : (p : Profile) (y c : List ℕ) → SparseRepair p y 0 0 c → ⊥
clean_exempt p y c = short_exempt p 0 (changed_in 0 0 y c) zero-le

-- the codeword of a verdict
pub corrected-at : (p : Profile) (y : List ℕ) (s f : ℕ) → verdict p y ≡ Ok (Run s f) → corrected p y ≡ added_at s (take f (shifted_remainder p.b p.r s y)) y
unfolding corrected filled
corrected-at p y s f q = rw q

module _ (p : Profile) (y : List ℕ) (v : InRange p) (h : Cells p y) where
  -- ---- a clean block

  module _ (t : is_clean p.b p.r y ≡ true) where
    itself : Reached p y 0 0 y
    itself = record { run = zero-le; codeword = clean_word p y v h t; agree = λ i l o. refl }

    clean_cells : run_word p y 0 0 ≡ y
    clean_cells = added_none y 0 (shifted_remainder p.b p.r 0 y) zero-le

    pub clean_one : OneReached p y 0 0 y
    clean_one = record {
      within = zero-le;
      reached = itself;
      least = λ s f c k. zero-le;
      others = λ s f c k n. pos_of_ne-zero (λ q. n (empty_run p.n p.r p.b y s c h.count (subst (λ (x : ℕ). Reached p y s x c) q k)));
      clean = λ _. (refl, refl);
    }

    -- and no other start, length and codeword
    clean_only : (s f : ℕ) (c : List ℕ) → OneReached p y s f c → (s ≡ 0) × (f ≡ 0) × (c ≡ y)
    clean_only s f c o =
        let f₀ : f ≡ 0 = (let l : f ≤ 0 = o.least 0 0 y itself in omega arith) in
        let q : c ≡ y = empty_run p.n p.r p.b y s c h.count (subst (λ (x : ℕ). Reached p y s x c) f₀ o.reached) in
        ((o.clean q).0, f₀, q)

  -- ---- a block that is not clean

  module _ (t : is_clean p.b p.r y ≡ false) where
    abbrev k : Best
    k = best p y v h

    abbrev W : ℕ → ℕ → List ℕ
    W = word p y v h

    too_long : p.limit < k.size → verdict p y ≡ (Err Uncorrectable)
    unfolding decided
    too_long l = wrong_verdict p y v h t ∙ rw (lt-ltb p.limit k.size l)

    twice : k.size ≤ p.limit → k.again ≡ true → verdict p y ≡ (Err Ambiguous)
    unfolding decided
    twice l a = wrong_verdict p y v h t ∙ rw (le-ltb p.limit k.size l, a)

    once : k.size ≤ p.limit → k.again ≡ false → verdict p y ≡ run_verdict p (first p y v h) k.start k.size
    unfolding decided
    once l a = wrong_verdict p y v h t ∙ rw (le-ltb p.limit k.size l, a)

    long_none : p.limit < k.size → NoneReached p y
    long_none l s f c m r = let q : k.size ≤ f = reach_size p y v h t s f c m r in omega arith

    module _ (l : k.size ≤ p.limit) where
      hit : Reached p y k.start k.size (W k.start k.size)
      hit = best_reach p y v h t l

      -- a second start
      two_starts : k.again ≡ true → TwoReached p y
      two_starts a =
          let w = (scan p y v h).twin a l in
          let other : Reached p y w.0 k.size (W w.0 k.size) =
          extent_reach p y v h w.0 k.size (small p y v h t l) (let q : e p y v h w.0 ≡ k.size = w.3 in omega (arith, w.2)) (let q : e p y v h w.0 ≡ k.size = w.3 in omega arith) in
          record {
            size = k.size;
            within = l;
            least = best-least p y v h t l;
            start₁ = k.start;
            start₂ = w.0;
            first = W k.start k.size;
            second = W w.0 k.size;
            reached₁ = hit;
            reached₂ = other;
            differ = apart p y v h t l k.start w.0 (W k.start k.size) (W w.0 k.size) (λ q. w.4 (sym q)) hit other;
          }

      -- where no second start has it, a run of that length that reaches a codeword starts there
      module _ (a : k.again ≡ false) where
        same_start : (s : ℕ) (c : List ℕ) → Reached p y s k.size c → s ≡ k.start
        same_start s c r =
            let q : e p y v h s ≡ k.size = at_size p y v h t l s c r in
            (scan p y v h).alone a s l (reach_start p y v h t s k.size c r) (omega (arith, r.run)) q

        same_word : (s : ℕ) (c : List ℕ) → Reached p y s k.size c → c ≡ W k.start k.size
        same_word s c r =
            reach_word p y v h s k.size c (small p y v h t l) r ∙ ap (λ (x : ℕ). W x k.size) (same_start s c r)

        one-start : OneReached p y k.start k.size (W k.start k.size)
        one-start = record {
          within = l;
          reached = hit;
          least = best-least p y v h t l;
          others = λ s f c r n. longer k.size f (best-least p y v h t l s f c r) (λ q. n (same_word s c (subst (λ (x : ℕ). Reached p y s x c) (sym q) r)));
          clean = λ q. absurd (true_false (word_clean p y v h (subst (Word p) q hit.codeword)) t);
        }
          where
            longer : (m f : ℕ) → m ≤ f → (m ≡ f → ⊥) → m < f
            longer m f u n = omega arith

        one_only : (s f : ℕ) (c : List ℕ) → OneReached p y s f c → (s ≡ k.start) × (f ≡ k.size) × (c ≡ W k.start k.size)
        one_only s f c o =
            let q : f ≡ k.size = (let i : f ≤ k.size = o.least k.start k.size _ hit in let j : k.size ≤ f = reach_size p y v h t s f c o.within o.reached in omega arith) in
            let r : Reached p y s k.size c = subst (λ (x : ℕ). Reached p y s x c) q o.reached in
            (same_start s c r, q, same_word s c r)

  -- two codewords of the least length leave no only one
  two_one : (s f : ℕ) (c : List ℕ) → TwoReached p y → OneReached p y s f c → ⊥
  two_one s f c z o =
      let q : z.size ≤ f = z.least s f c o.reached in
      let a : (z.first ≢ c) → ⊥ = λ n. (let l : f < z.size = o.others z.start₁ z.size z.first z.reached₁ n in omega arith) in
      let b : (z.second ≢ c) → ⊥ = λ n. (let l : f < z.size = o.others z.start₂ z.size z.second z.reached₂ n in omega arith) in
      a (λ i. b (λ j. z.differ (i ∙ sym j)))

-- ---- the verdicts

-- the cases: what the verdict is and what holds, for whoever wants either
module _ (p : Profile) (y : List ℕ) (v : InRange p) (h : Cells p y) where
  -- document 01 mends by the run (s, f), and by no other
  pub record IsOne (s f : ℕ) : Type 0 where
    pub holds : OneReached p y s f (run_word p y s f)
    pub only : (s' f' : ℕ) (c : List ℕ) → OneReached p y s' f' c → (s' ≡ s) × (f' ≡ f) × (c ≡ run_word p y s f)

  -- and by the rule the block is thin, or mended
  abbrev Ruled : ℕ → ℕ → Type 0
  Ruled s f = ((verdict p y ≡ (Err Sparse)) × SparseRepair p y s f (run_word p y s f)) ⊎ ((verdict p y ≡ Ok (Run s f)) × (SparseRepair p y s f (run_word p y s f) → ⊥))

  by_rule : (s f : ℕ) → verdict p y ≡ pick (is_sparse p f (changed_in s f y (run_word p y s f))) (Err Sparse) (Ok (Run s f)) → Ruled s f
  by_rule s f q =
      let k = sparse_run_iff p f (changed_in s f y (run_word p y s f)) in
      ⊎_elim (λ t. inl (q ∙ rw t, k.0 t)) (λ t. inr (q ∙ rw t, λ z. true_false (k.1 z) t)) (true_or_false (is_sparse p f (changed_in s f y (run_word p y s f))))

  pub cases : ((verdict p y ≡ (Err Uncorrectable)) × NoneReached p y) ⊎ (((verdict p y ≡ (Err Ambiguous)) × TwoReached p y) ⊎ ((s f : ℕ) × IsOne s f × Ruled s f))
  cases =
      ⊎_elim
      (λ t. inr (inr (
        0,
        0,
        record {
          holds = rw (clean_cells p y v h t) (clean_one p y v h t);
          only = λ s f c o. rw (clean_cells p y v h t) (clean_only p y v h t s f c o);
        },
        by_rule 0 0 (clean_verdict p y v h t ∙ rw (← short-run p 0 (changed_in 0 0 y (run_word p y 0 0)) zero-le)),
      )))
      (λ t. ⊎_elim
      (λ l. let m : p.limit < (best p y v h).size = ltb-true _ _ l in inl (too_long p y v h t m, long_none p y v h t m))
      (λ l. let m : (best p y v h).size ≤ p.limit = ltb-false _ _ l in
      ⊎_elim (λ a. inr (inl (twice p y v h t m a, two_starts p y v h t m a)))
      (λ a. inr (inr (
        (best p y v h).start,
        (best p y v h).size,
        record { holds = one-start p y v h t m a; only = one_only p y v h t m a },
        by_rule _ _ (once p y v h t m a ∙ ruled_by p y v h _ _ _ (small p y v h t m) (best_reach p y v h t m)),
      )))
      (true_or_false (best p y v h).again))
      (true_or_false (ltb p.limit (best p y v h).size)))
      (true_or_false (is_clean p.b p.r y))

  none_two : NoneReached p y → TwoReached p y → ⊥
  none_two n z = n z.start₁ z.size z.first z.within z.reached₁

  none_one : (s f : ℕ) (c : List ℕ) → NoneReached p y → OneReached p y s f c → ⊥
  none_one s f c n o = n s f c o.within o.reached

pub exactly_one : ExactlyOne
exactly_one p y v h = record {
  some = ⊎_elim (λ a. inl a.1) (λ r. inr (⊎_elim (λ b. inl b.1) (λ c. inr (c.0, c.1, run_word p y c.0 c.1, c.2.holds)) r)) (cases p y v h);
  none_two = none_two p y v h;
  none_one = none_one p y v h;
  two_one = two_one p y v h;
}

-- one verdict has one number
clash : {u w z : Verdict} → u ≡ w → u ≡ z → verdict_number w ≢ verdict_number z → ⊥
clash q e n = n (ap verdict_number (sym q ∙ e))

corrected_inj : {s f a e : ℕ} → ◌≡◌ {A = Verdict} (Ok (Run s f)) (Ok (Run a e)) → (s ≡ a) × (f ≡ e)
corrected_inj q = (cc, cc)

module _ (p : Profile) (y : List ℕ) (v : InRange p) (h : Cells p y) where
  -- what follows from a verdict, case by case
  from : {A : Type 0} → ((verdict p y ≡ (Err Uncorrectable)) → NoneReached p y → A) → ((verdict p y ≡ (Err Ambiguous)) → TwoReached p y → A)
      → ((s f : ℕ) → IsOne p y v h s f → verdict p y ≡ (Err Sparse) → SparseRepair p y s f (run_word p y s f) → A)
      → ((s f : ℕ) → IsOne p y v h s f → verdict p y ≡ Ok (Run s f) → (SparseRepair p y s f (run_word p y s f) → ⊥) → A) → A
  from none two sparse one =
      ⊎_elim (λ a. none a.0 a.1)
      (⊎_elim (λ b. two b.0 b.1) (λ c. ⊎_elim (λ k. sparse c.0 c.1 c.2 k.0 k.1) (λ k. one c.0 c.1 c.2 k.0 k.1) c.3))
      (cases p y v h)

  -- the same run and codeword
  moved : {s f a l : ℕ} {c d : List ℕ} → (s ≡ a) × (f ≡ l) × (c ≡ d) → SparseRepair p y s f c → SparseRepair p y a l d
  moved {s} {f} {a} {l} {c} {d} i z = subst (SparseRepair p y a l) i.2 (subst (λ (x : ℕ). SparseRepair p y a x c) i.1 (subst (λ (x : ℕ). SparseRepair p y x f c) i.0 z))

  pub verdict-none : (verdict p y ≡ (Err Uncorrectable)) ↔ NoneReached p y
  verdict-none = (
    λ q. from (λ e n. n) (λ e z. absurd (clash q e (λ i. omega arith))) (λ s f o e k. absurd (clash q e (λ i. omega arith))) (λ s f o e k. absurd (clash q e (λ i. omega arith))),
    λ n. from (λ e _. e) (λ e z. absurd (none_two p y v h n z)) (λ s f o e k. absurd (none_one p y v h s f _ n o.holds)) (λ s f o e k. absurd (none_one p y v h s f _ n o.holds)),
  )

  pub verdict-two : (verdict p y ≡ (Err Ambiguous)) ↔ TwoReached p y
  verdict-two = (
    λ q. from (λ e n. absurd (clash q e (λ i. omega arith))) (λ e z. z) (λ s f o e k. absurd (clash q e (λ i. omega arith))) (λ s f o e k. absurd (clash q e (λ i. omega arith))),
    λ z. from (λ e n. absurd (none_two p y v h n z)) (λ e _. e) (λ s f o e k. absurd (two_one p y v h s f _ z o.holds)) (λ s f o e k. absurd (two_one p y v h s f _ z o.holds)),
  )

  pub verdict_sparse : (verdict p y ≡ (Err Sparse)) ↔ OneSparse p y
  verdict_sparse = (
    λ q. from (λ e n. absurd (clash q e (λ i. omega arith))) (λ e z. absurd (clash q e (λ i. omega arith))) (λ s f o e k. (s, f, run_word p y s f, o.holds, k)) (λ s f o e k. absurd (clash q e (λ i. omega arith))),
    λ z. from (λ e n. absurd (none_one p y v h z.0 z.1 z.2 n z.3)) (λ e t. absurd (two_one p y v h z.0 z.1 z.2 t z.3)) (λ s f o e k. e)
        (λ s f o e k. absurd (k (moved (o.only z.0 z.1 z.2 z.3) z.4))),
  )

  pub verdict-one : (s f : ℕ) (c : List ℕ) → ((verdict p y ≡ Ok (Run s f)) × (corrected p y ≡ c)) ↔ OneAccepted p y s f c
  verdict-one s f c = (
    λ q. from (λ e n. absurd (clash q.0 e (λ i. omega arith))) (λ e z. absurd (clash q.0 e (λ i. omega arith))) (λ a l o e k. absurd (clash q.0 e (λ i. omega arith)))
        (λ a l o e k.
        let i : (a ≡ s) × (l ≡ f) = corrected_inj (sym e ∙ q.0) in
        let j : run_word p y s f ≡ c = sym (corrected-at p y s f q.0) ∙ q.1 in
        subst (OneAccepted p y s f) j (rw (sym i.0, sym i.1) (o.holds, k))),
    λ z. from (λ e n. absurd (none_one p y v h s f c n z.0)) (λ e t. absurd (two_one p y v h s f c t z.0))
        (λ a l o e k. let i = o.only s f c z.0 in absurd (z.1 (moved (sym i.0, sym i.1, sym i.2) k)))
        (λ a l o e k.
        let i = o.only s f c z.0 in
        (e ∙ ap₂ (λ (i j : ℕ). Ok (Run i j)) (sym i.0) (sym i.1), corrected-at p y a l e ∙ sym i.2)),
  )

-- n, r, b and L are all that the verdict and its codeword read of the profile
module _ (p q : Profile) (y : List ℕ) (en : p.n ≡ q.n) (er : p.r ≡ q.r) (eb : p.b ≡ q.b) (el : p.limit ≡ q.limit) where
  pub same-verdict : verdict p y ≡ verdict q y
  unfolding verdict judged decided run_verdict is_sparse
  same-verdict = rw (en, er, eb, el)

  pub same-filled : (out : List ℕ) (w : Verdict) → filled p y out w ≡ filled q y out w
  unfolding filled
  same-filled out (Ok (Run s f)) = rw (er, eb)
  same-filled out (Ok (ChangedCells t j)) = refl
  same-filled out (Err e) = refl

-- where L ≥ h, a codeword within a run of at most h cells is the block's: no shorter run reaches another, and the run found is too short for the rule
pub verdict-half : (p : Profile) (y : List ℕ) (s f : ℕ) (c : List ℕ) → InRange p → Cells p y → half p ≤ p.limit → f ≤ half p → Reached p y s f c
    → ((a e : ℕ) × (verdict p y ≡ Ok (Run a e))) × (corrected p y ≡ c)
verdict-half p y s f c v h l m k =
    let same : (a e : ℕ) (d : List ℕ) → Reached p y a e d → e ≤ f → d ≡ c =
    λ a e d r u. two_runs p.n p.r p.b y a e s f d c v.n_most h.count r k (omega arith) in
    from p y v h (λ q n. absurd (n s f c (omega arith) k))
    (λ q z.
    let u : z.size ≤ f = z.least s f c k in
    absurd (z.differ (same z.start₁ z.size z.first z.reached₁ u ∙ sym (same z.start₂ z.size z.second z.reached₂ u))))
    (λ a e o q z. let u : e ≤ f = o.holds.least s f c k in absurd (short_exempt p e _ (omega arith) z))
    (λ a e o q z. ((a, e, q), corrected-at p y a e q ∙ same a e (run_word p y a e) o.holds.reached (o.holds.least s f c k)))
