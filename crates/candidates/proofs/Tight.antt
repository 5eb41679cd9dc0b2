-- Tight runs. A run that reaches a codeword can be cut to the extent of its shifted remainder, and where the lowest cell of that is zero its first cell can be left out; what
-- remains is tight. So the run from s is tight exactly if the lowest cell is not zero and the extent is its length, and a codeword has one tight run only, since that run goes
-- from the first to the last cell that it changes.
use mathlib.Core.Path.{◌≡◌, refl, sym, ap, ◌∙◌, subst}
use mathlib.Core.Logic.{◌≢◌, inl, inr, ⊎_elim}
use mathlib.Core.Bool.{Bool, true, false}
use mathlib.Core.List.{List, ◌++◌}
use Prim.Native.Nat.{ℕ, zero, suc, ◌+◌, ◌-◌, ◌≤◌, ◌<◌}
use native.Mathlib.Nat.{le_of_suc-le-suc, eq-or-lt_of_le}
use native.Mathlib.Omega.{arith}
use lib.Dec.{eqb, ltb}
use lib.ListN.{length, get_or, take, replicate, length-replicate}
use lib.Seq.{get_or-take, get_or-append-add}
use borrow.Author.Tests.{eqb-false, ltb-false}
use Rattle.lists.specs.Choice.{pick}
use Rattle.lists.proofs.Test.{lt-or_ge, zero_or, true_or_false, true_false}
use Rattle.field.specs.Field.{add}
use Rattle.field.proofs.Sum.{add_self, add_cancel, add_zero_r}
use Rattle.code.specs.Run.{added_at, shifted_remainder}
use Rattle.code.specs.Search.{extent}
use Rattle.code.proofs.Poly.{get_or_padd}
use Rattle.profile.specs.Profile.{InRange}
use Rattle.block.specs.Block.{is_clean}
use Rattle.block.specs.Runs.{Cells, Word, Reached}
use Rattle.profile.specs.declared.Profile.{Profile}
use Rattle.block.proofs.Shortest.{e, e_is, first, word, empty_run, reach_extent, reach_word, extent_reach, clean_word, word_clean}
use Rattle.candidates.specs.Candidates.{tight_from, tight_length}
use Rattle.candidates.specs.Promises.{TightRun, FirstToLast, TightIff}
use Rattle.candidates.proofs.Steps.{tight_found}

-- the cell at s of what is laid there: the lowest cell of the error is added
laid_cell : (s f : ℕ) (y E : List ℕ) → 0 < f → get_or (added_at s (take f E) y) s 0 ≡ add (get_or y s 0) (get_or E 0 0)
unfolding added_at
laid_cell s f y E h =
    let l : length {A = ℕ} (replicate s 0) + 0 ≡ s = omega (arith, length-replicate {A = ℕ} s 0) in
    get_or_padd y (replicate s 0 ++ take f E) s
    ∙ ap (add (get_or y s 0))
    (ap (λ (i : ℕ). get_or (replicate s 0 ++ take f E) i 0) (sym l) ∙ get_or-append-add (replicate s 0) (take f E) 0 0 ∙ get_or-take f E 0 0 h)

-- it is the cell read exactly if that is zero
added-same : (x z : ℕ) → x ≡ add x z → z ≡ 0
added-same x z h = sym (add_cancel x z) ∙ ap (add x) (sym h) ∙ add_self x

-- none of three tests holds where the answer is not zero
none-holds : (a b d : Bool) (k f : ℕ) → 0 < f → pick a 0 (pick b 0 (pick d 0 k)) ≡ f → (a ≡ false) × (b ≡ false) × (d ≡ false) × (k ≡ f)
none-holds true b d k f pos q = absurd (omega arith)
none-holds false true d k f pos q = absurd (omega arith)
none-holds false false true k f pos q = absurd (omega arith)
none-holds false false false k f pos q = (refl, refl, refl, q)

module _ (p : Profile) (y : List ℕ) (v : InRange p) (h : Cells p y) where
  -- the shifted remainder, and the length kept for a start
  abbrev E : ℕ → List ℕ
  E s = shifted_remainder p.b p.r s y

  abbrev pub t : ℕ → ℕ
  t = tight_length p (first p y v h)

  small : (f : ℕ) → f ≤ p.limit → f < p.r
  small f l = omega (arith, v.limit_below)

  -- ---- runs made longer and shorter

  -- a longer run from the same start reaches the same codeword
  grown : (s f k : ℕ) (c : List ℕ) → k ≤ f → s + f ≤ p.n → Reached p y s k c → Reached p y s f c
  grown s f k c l run r = record { run = run; codeword = r.codeword; agree = λ i m o. r.agree i m (⊎_elim inl (λ q. inr (omega arith)) o) }

  -- a first or a last cell that is as it was read can be left out
  without-first : (s f : ℕ) (c : List ℕ) → get_or y s 0 ≡ get_or c s 0 → Reached p y s (suc f) c → Reached p y (suc s) f c
  without-first s f c same r = record {
    run = omega (arith, r.run);
    codeword = r.codeword;
    agree = λ i m o.
        ⊎_elim
        (λ q. ⊎_elim (λ u. ap (λ (j : ℕ). get_or y j 0) u ∙ same ∙ ap (λ (j : ℕ). get_or c j 0) (sym u)) (λ u. r.agree i m (inl u)) (eq-or-lt_of_le (le_of_suc-le-suc q)))
        (λ q. r.agree i m (inr (omega arith))) o;
  }

  without-last : (s f : ℕ) (c : List ℕ) → get_or y (s + f) 0 ≡ get_or c (s + f) 0 → Reached p y s (suc f) c → Reached p y s f c
  without-last s f c same r = record {
    run = omega (arith, r.run);
    codeword = r.codeword;
    agree = λ i m o.
        ⊎_elim (λ q. r.agree i m (inl q))
        (λ q. ⊎_elim (λ u. ap (λ (j : ℕ). get_or y j 0) (sym u) ∙ same ∙ ap (λ (j : ℕ). get_or c j 0) u) (λ u. r.agree i m (inr (omega arith))) (eq-or-lt_of_le q)) o;
  }

  -- a run of no cells reaches what was read alone
  pub none-reached : (s f : ℕ) (c : List ℕ) → f ≡ 0 → Reached p y s f c → c ≡ y
  none-reached s f c z r = empty_run p.n p.r p.b y s c h.count (subst (λ (k : ℕ). Reached p y s k c) z r)

  -- a run that reaches a codeword reaches it with as many cells as the extent
  cut : (s f : ℕ) (c : List ℕ) → f < p.r → Reached p y s f c → Reached p y s (e p y v h s) c
  cut s f c l r =
      let k : ℕ = e p y v h s in
      let m : k ≤ f = reach_extent p y v h s f c l r in
      let short : Reached p y s k (word p y v h s k) = extent_reach p y v h s k (omega arith) (omega (arith, r.run)) (omega arith) in
      let same : word p y v h s k ≡ c = reach_word p y v h s f (word p y v h s k) l (grown s f k (word p y v h s k) m r.run short) ∙ sym (reach_word p y v h s f c l r) in
      subst (Reached p y s k) same short

  -- the first cell of the run is as it was read exactly if the lowest cell of the shifted remainder is zero
  first_cell : (s f : ℕ) (c : List ℕ) → 0 < f → f < p.r → Reached p y s f c → get_or c s 0 ≡ add (get_or y s 0) (get_or (E s) 0 0)
  first_cell s f c pos l r = ap (λ (w : List ℕ). get_or w s 0) (reach_word p y v h s f c l r) ∙ laid_cell s f y (E s) pos

  first-same : (s f : ℕ) (c : List ℕ) → 0 < f → f < p.r → get_or (E s) 0 0 ≡ 0 → Reached p y s f c → get_or y s 0 ≡ get_or c s 0
  first-same s f c pos l z r = sym (first_cell s f c pos l r ∙ ap (add (get_or y s 0)) z ∙ add_zero_r (get_or y s 0))

  -- ---- from the first to the last cell changed

  pub to_ends : (s f : ℕ) (c : List ℕ) → TightRun p y s f c → FirstToLast p y s f c
  to_ends s zero c k = record {
    within = k.within;
    reached = k.reached;
    first = λ pos. absurd (omega arith);
    last = λ pos. absurd (omega arith);
    clean = λ z. (k.clean (none-reached s 0 c refl k.reached)).0;
  }
  to_ends s (suc f) c k = record {
    within = k.within;
    reached = k.reached;
    first = λ pos q. k.tight (suc s) f (omega arith) (omega arith) (omega arith) (without-first s f c q k.reached);
    last = λ pos q.
        let end : s + suc f - 1 ≡ s + f = omega arith in
        k.tight s f (omega arith) (omega arith) (omega arith) (without-last s f c (subst (λ (j : ℕ). get_or y j 0 ≡ get_or c j 0) end q) k.reached);
    clean = λ z. absurd (omega arith);
  }

  pub of_ends : (s f : ℕ) (c : List ℕ) → FirstToLast p y s f c → TightRun p y s f c
  of_ends s f c k = record {
    within = k.within;
    reached = k.reached;
    tight = λ s' f' l m n r.
        ⊎_elim (λ q. k.first (omega arith) (r.agree s (omega (arith, k.reached.run)) (inl q)))
        (λ q. k.last (omega arith) (r.agree (s + f - 1) (omega (arith, k.reached.run)) (inr (omega arith)))) (lt-or_ge s s');
    clean = λ q. ⊎_elim (λ z. (k.clean z, z)) (λ z. absurd (k.first (omega arith) (ap (λ (w : List ℕ). get_or w s 0) (sym q)))) (zero_or f);
  }

  -- every run that reaches c has these two cells
  has_ends : (s f s' f' : ℕ) (c : List ℕ) → 0 < f → TightRun p y s f c → Reached p y s' f' c → (s' ≤ s) × (s + f ≤ s' + f')
  has_ends s f s' f' c pos k r =
      let e : FirstToLast p y s f c = to_ends s f c k in (
        ⊎_elim (λ q. absurd (e.first pos (r.agree s (omega (arith, k.reached.run)) (inl q)))) (λ q. q) (lt-or_ge s s'),
        ⊎_elim (λ q. absurd (e.last pos (r.agree (s + f - 1) (omega (arith, k.reached.run)) (inr (omega arith))))) (λ q. q) (lt-or_ge (s' + f') (s + f)),
      )

  -- ---- what the length kept for a start says

  t_is : (s : ℕ) → t s ≡ tight_from p s (E s)
  unfolding tight_length shifted_remainder
  t_is s = refl

  -- a length that is not zero is the extent, and the lowest cell is not zero
  pub record Kept (s f : ℕ) : Type 0 where
    pub lowest : get_or (E s) 0 0 ≢ 0
    pub size : e p y v h s ≡ f
    pub within : f ≤ p.limit
    pub run : s + f ≤ p.n

  kept_from : (s f : ℕ) → tight_from p s (E s) ≡ f → 0 < f → Kept s f
  unfolding tight_from
  kept_from s f q pos =
      let k : ℕ = extent (E s) in
      let no = none-holds (eqb (get_or (E s) 0 0) 0) (ltb p.limit k) (ltb p.n (s + k)) k f pos q in
      record {
        lowest = eqb-false (get_or (E s) 0 0) 0 no.0;
        size = e_is p y v h s ∙ no.3;
        within = omega (arith, ltb-false p.limit k no.1, no.3);
        run = omega (arith, ltb-false p.n (s + k) no.2, no.3);
      }

  pub kept_of : (s f : ℕ) → t s ≡ f → 0 < f → Kept s f
  kept_of s f q pos = kept_from s f (sym (t_is s) ∙ q) pos

  of_kept : (s f : ℕ) → Kept s f → t s ≡ f
  of_kept s f k =
      let q : extent (E s) ≡ f = sym (e_is p y v h s) ∙ k.size in
      t_is s ∙ sym (tight_found p s (E s) f (sym q) (get_or (E s) 0 0) refl k.lowest k.within k.run)

  -- a codeword within such a run changes the run's first cell
  changes_first : (s f : ℕ) (c : List ℕ) → 0 < f → Kept s f → Reached p y s f c → get_or y s 0 ≢ get_or c s 0
  changes_first s f c pos k r q =
      k.lowest (added-same (get_or y s 0) (get_or (E s) 0 0) (q ∙ first_cell s f c pos (small f k.within) r))

  -- ---- exactly the tight runs

  pub kept_tight : (s f : ℕ) → 0 < f → Kept s f → TightRun p y s f (word p y v h s f)
  kept_tight s f pos k =
      let c : List ℕ = word p y v h s f in
      let r : Reached p y s f c = extent_reach p y v h s f (small f k.within) k.run (omega (arith, k.size)) in
      let differ : get_or y s 0 ≢ get_or c s 0 = changes_first s f c pos k r in
      record {
        within = k.within;
        reached = r;
        tight = λ s' f' l m n q.
            ⊎_elim
            (λ u.
            let at-s : Reached p y s f' c = subst (λ (i : ℕ). Reached p y i f' c) (sym u) q in
            let n₁ : e p y v h s ≤ f' = reach_extent p y v h s f' c (omega (arith, small f k.within)) at-s in omega (arith, k.size))
            (λ u. differ (q.agree s (omega (arith, k.run)) (inl u)))
            (eq-or-lt_of_le l);
        clean = λ q. absurd (differ (ap (λ (w : List ℕ). get_or w s 0) (sym q)));
      }

  pub tight_kept : (s f : ℕ) (c : List ℕ) → 0 < f → TightRun p y s f c → Kept s f
  tight_kept s f c pos k =
      let l : f < p.r = small f k.within in
      let m : e p y v h s ≤ f = reach_extent p y v h s f c l k.reached in
      let whole : e p y v h s ≡ f = ⊎_elim (λ q. q) (λ q. absurd (k.tight s (e p y v h s) (omega arith) (omega arith) q (cut s f c l k.reached))) (eq-or-lt_of_le m) in
      record { lowest = λ z. (to_ends s f c k).first pos (first-same s f c pos l z k.reached); size = whole; within = k.within; run = k.reached.run }

  pub tight_length_of : (s f : ℕ) (c : List ℕ) → 0 < f → TightRun p y s f c → (s < p.n) × (t s ≡ f)
  tight_length_of s f c pos k = (omega (arith, k.reached.run), of_kept s f (tight_kept s f c pos k))

  -- ---- every codeword has one, and one only

  -- within every run of at most L cells that reaches it
  pub record Within (f : ℕ) (c : List ℕ) : Type 0 where
    pub start : ℕ
    pub size : ℕ
    pub tight : TightRun p y start size c
    pub shorter : size ≤ f

  shrunk : (m s f : ℕ) (c : List ℕ) → f ≤ m → f ≤ p.limit → c ≢ y → Reached p y s f c → Within f c
  shrunk zero s f c l w n r = absurd (n (none-reached s f c (omega arith) r))
  shrunk (suc m) s f c l w n r = by_extent (e p y v h s) refl (cut s f c (small f w) r) (λ k a q. shrunk m (suc s) k c (omega arith) (omega arith) n q)
    where
      least : e p y v h s ≤ f
      least = reach_extent p y v h s f c (small f w) r

      by_extent : (k : ℕ) → e p y v h s ≡ k → Reached p y s k c → ((k : ℕ) → suc k ≤ f → Reached p y (suc s) k c → Within k c) → Within f c
      by_extent zero q z next = absurd (n (none-reached s 0 c refl z))
      by_extent (suc k) q z next =
          let fits : suc k ≤ f = omega (arith, least) in
          let few : suc k < p.r = small (suc k) (omega arith) in
          ⊎_elim
          (λ low. let b : Within k c = next k fits (without-first s k c (first-same s (suc k) c (omega arith) few low z) z) in record { start = b.start; size = b.size; tight = b.tight; shorter = omega (arith, b.shorter) })
          (λ low.
          let kept : Kept s (suc k) = record { lowest = low; size = q; within = omega arith; run = z.run } in
          record {
            start = s;
            size = suc k;
            tight = subst (TightRun p y s (suc k)) (sym (reach_word p y v h s (suc k) c few z)) (kept_tight s (suc k) (omega arith) kept);
            shorter = fits;
          })
          (zero_or (get_or (E s) 0 0))

  -- the block itself
  itself : Word p y → TightRun p y 0 0 y
  itself w = record { within = omega arith; reached = record { run = omega arith; codeword = w; agree = λ i m o. refl }; tight = λ s f l m n r. omega arith; clean = λ _. (refl, refl) }

  -- two codewords lie within no run of at most L cells
  only_clean : (s f : ℕ) (c : List ℕ) → f ≤ p.limit → Reached p y s f c → Word p y → y ≡ c
  only_clean s f c l r w =
      let own : Reached p y s f y = record { run = r.run; codeword = w; agree = λ i m o. refl } in
      reach_word p y v h s f y (small f l) own ∙ sym (reach_word p y v h s f c (small f l) r)

  pub every_tight : (s f : ℕ) (c : List ℕ) → f ≤ p.limit → Reached p y s f c → Within f c
  every_tight s f c l r =
      ⊎_elim
      (λ q.
      let w : Word p y = clean_word p y v h q in
      let same : y ≡ c = only_clean s f c l r w in
      record { start = 0; size = 0; tight = subst (TightRun p y 0 0) same (itself w); shorter = omega arith })
      (λ q. shrunk f s f c (omega arith) l (λ z. true_false (word_clean p y v h (subst (Word p) z r.codeword)) q) r)
      (true_or_false (is_clean p.b p.r y))

  pub one_tight : (s f s' f' : ℕ) (c : List ℕ) → TightRun p y s f c → TightRun p y s' f' c → (s ≡ s') × (f ≡ f')
  one_tight s f s' f' c k j =
      ⊎_elim (λ z. clean_pair (none-reached s f c z k.reached))
      (λ z. ⊎_elim (λ u. clean_pair (none-reached s' f' c u j.reached))
      (λ u.
      let a = has_ends s f s' f' c (omega arith) k j.reached in
      let b = has_ends s' f' s f c (omega arith) j k.reached in
      (omega (arith, a.0, b.0), omega (arith, a.0, b.0, a.1, b.1)))
      (zero_or f'))
      (zero_or f)
    where
      clean_pair : c ≡ y → (s ≡ s') × (f ≡ f')
      clean_pair q = ((k.clean q).0 ∙ sym (j.clean q).0, (k.clean q).1 ∙ sym (j.clean q).1)

  -- a run that is listed reaches one codeword
  pub same-codeword : (s f : ℕ) (c d : List ℕ) → f ≤ p.limit → Reached p y s f c → Reached p y s f d → c ≡ d
  same-codeword s f c d l r q = reach_word p y v h s f c (small f l) r ∙ sym (reach_word p y v h s f d (small f l) q)

  -- the tight run of no cells is that of a block that is a codeword
  pub none_clean : (s f : ℕ) (c : List ℕ) → f ≡ 0 → TightRun p y s f c → (is_clean p.b p.r y ≡ true) × (s ≡ 0)
  none_clean s f c z k =
      let q : c ≡ y = none-reached s f c z k.reached in
      (word_clean p y v h (subst (Word p) q k.reached.codeword), (k.clean q).0)

  pub clean_none : (s f : ℕ) (c : List ℕ) → is_clean p.b p.r y ≡ true → TightRun p y s f c → f ≡ 0
  clean_none s f c q k = (k.clean (sym (only_clean s f c k.within k.reached (clean_word p y v h q)))).1

  pub clean_tight : is_clean p.b p.r y ≡ true → TightRun p y 0 0 y
  clean_tight q = itself (clean_word p y v h q)

  -- tight runs from the same start have the same length
  pub same-length-from : (s f f' : ℕ) (c d : List ℕ) → TightRun p y s f c → TightRun p y s f' d → f ≡ f'
  same-length-from s f f' c d k j =
      ⊎_elim (λ z. z ∙ sym (clean_none s f' d (none_clean s f c z k).0 j))
      (λ z. ⊎_elim (λ u. clean_none s f c (none_clean s f' d u j).0 k ∙ sym u)
      (λ u. sym (of_kept s f (tight_kept s f c (omega arith) k)) ∙ of_kept s f' (tight_kept s f' d (omega arith) j))
      (zero_or f'))
      (zero_or f)

pub tight_iff : TightIff
tight_iff p y s f c v h = (to_ends p y v h s f c, of_ends p y v h s f c)
