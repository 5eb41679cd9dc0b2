-- What the search says of runs. A run shorter than r reaches a codeword exactly if it is at least as long as the extent of its shifted
-- remainder, and then one only; two starts of the least length reach different codewords, since a common one would lie within a shorter run.
use mathlib.Core.Path.{◌≡◌, refl, sym, ap, ◌∙◌, subst}
use mathlib.Core.Logic.{◌↔◌, ◌≢◌, inl, inr, ⊎_elim}
use mathlib.Core.Bool.{true, false}
use Rattle.std.specs.Prelude.{Ok, Err}
use mathlib.Core.List.{List, []}
use Prim.Native.Nat.{ℕ, zero, suc, ◌+◌, ◌≤◌, ◌<◌}
use native.Mathlib.Nat.{eq-or-lt_of_le, min-le_left}
use native.Mathlib.Omega.{arith}
use lib.ListN.{length, take, length-take}
use lib.Seq.{ext_get_or}
use borrow.Author.Tests.{eqb-true, eq-eqb}
use Rattle.lists.specs.Choice.{pick}
use Rattle.lists.proofs.Test.{lt-or_ge, true_false}
use Rattle.code.specs.Poly.{eval}
use Rattle.code.specs.Code.{generator, remainder}
use Rattle.code.specs.Run.{Reaches, ZeroFrom, shifted_remainder, added_at, changed_in}
use Rattle.code.specs.Search.{Best, extent, extents, scanned}
use Rattle.code.proofs.Poly.{eval-same}
use Rattle.code.proofs.Distance.{zero-at}
use Rattle.code.proofs.Division.{remainder-syndrome, remainder-zero, codeword-syndromes, syndromes-codeword}
use Rattle.code.proofs.Search.{extent-zero, extent-least, Scan, scan-all}
use Rattle.code.proofs.Changed.{changed-added, weight-front}
use Rattle.code.proofs.Theorems.{run-reaches}
use Rattle.profile.specs.Profile.{InRange, is_sparse}
use Rattle.block.specs.Block.{is_clean, run_verdict, decided, judged, verdict}
use Rattle.block.specs.Runs.{Cells, Word, Reached, Least}
use Rattle.profile.specs.declared.Profile.{Profile}
use Rattle.block.specs.declared.numbers.Correction.TheVariants.{Run}
use Rattle.block.specs.declared.numbers.Refusal.TheVariants.{Sparse}

-- a run of no cells reaches the read cells alone
pub empty_run : (n r b : ℕ) (y : List ℕ) (s : ℕ) (c : List ℕ) → length y ≡ n → Reaches n r b y s 0 c → c ≡ y
empty_run n r b y s c l h =
    ext_get_or 0 c y (h.codeword.cells ∙ sym l)
    (λ i m. sym (h.agree i (omega (arith, h.codeword.cells)) (⊎_elim inl (λ k. inr (omega arith)) (lt-or_ge i s))))

-- a codeword within two runs of one length lies within a shorter one
pub overlap : (n r b : ℕ) (y : List ℕ) (s t f : ℕ) (c : List ℕ) → s < t → Reaches n r b y s (suc f) c → Reaches n r b y t (suc f) c → Reaches n r b y (suc s) f c
overlap n r b y s t f c l h k = record {
  run = omega (arith, h.run);
  codeword = h.codeword;
  agree = λ i m o.
      ⊎_elim
      (λ q. ⊎_elim (λ e. k.agree i m (inl (omega arith))) (λ u. h.agree i m (inl (omega arith))) (eq-or-lt_of_le (native.Mathlib.Nat.le_of_suc-le-suc q)))
      (λ q. h.agree i m (inr (omega arith))) o;
}

module _ (p : Profile) (y : List ℕ) (v : InRange p) (h : Cells p y) where
  -- the shifted remainders
  abbrev R : ℕ → List ℕ
  R s = shifted_remainder p.b p.r s y

  abbrev pub word : ℕ → ℕ → List ℕ
  word s f = added_at s (take f (R s)) y

  abbrev pub first : List ℕ
  first = remainder p.r (generator p.b p.r) y

  abbrev pub e : ℕ → ℕ
  e = extents (generator p.b p.r) first

  abbrev pub best : Best
  best = scanned e p.n p.limit p.n

  pub e_is : (s : ℕ) → e s ≡ extent (R s)
  unfolding extents shifted_remainder
  e_is s = refl

  pub scan : Scan e p.n p.limit p.n best
  scan = scan-all e p.n p.limit p.n

  exact : (s f : ℕ) (c : List ℕ) → f < p.r → s + f ≤ p.n → Reached p y s f c ↔ (ZeroFrom f (R s) × (c ≡ word s f))
  exact s f c lf run = run-reaches p.n p.r p.b y s f c v.r_below v.n_most h.count h.bytes (omega arith) run

  pub reach_zero : (s f : ℕ) (c : List ℕ) → f < p.r → Reached p y s f c → ZeroFrom f (R s)
  reach_zero s f c l k = ((exact s f c l k.run).0 k).0

  pub reach_extent : (s f : ℕ) (c : List ℕ) → f < p.r → Reached p y s f c → e s ≤ f
  reach_extent s f c l k = rw (e_is s) (extent-least (R s) f (reach_zero s f c l k))

  pub reach_word : (s f : ℕ) (c : List ℕ) → f < p.r → Reached p y s f c → c ≡ word s f
  reach_word s f c l k = ((exact s f c l k.run).0 k).1

  pub extent_reach : (s f : ℕ) → f < p.r → s + f ≤ p.n → e s ≤ f → Reached p y s f (word s f)
  extent_reach s f l run m =
      (exact s f (word s f) l run).1 ((λ k q. extent-zero (R s) k (let u : extent (R s) ≤ f = rw (e_is s) at m in omega arith)), refl)

  -- ---- the rule on the run that was found

  -- the cells of the shifted remainder that are not zero are those that its codeword changes
  pub ruled_by : (s f : ℕ) (c : List ℕ) → f < p.r → Reached p y s f c → run_verdict p first s f ≡ pick (is_sparse p f (changed_in s f y (word s f))) (Err Sparse) (Ok (Run s f))
  unfolding run_verdict shifted_remainder
  ruled_by s f c l k =
      ap (λ (w : ℕ). pick (is_sparse p f w) (Err Sparse) (Ok (Run s f)))
      (weight-front f (R s) (reach_zero s f c l k) ∙ sym (changed-added s f y (take f (R s)) (few f (R s)) (omega (arith, k.run, h.count))))
    where
      few : (f : ℕ) (l : List ℕ) → length (take f l) ≤ f
      few f l = simp length-take (omega (arith, min-le_left f (length l)))

  -- ---- clean

  pub clean_word : is_clean p.b p.r y ≡ true → Word p y
  unfolding is_clean
  clean_word t =
      let z : extent first ≡ 0 = eqb-true (extent first) 0 t in
      syndromes-codeword p.n p.r p.b y v.r_below (omega (arith, v.r_most)) h.count h.bytes
      (λ i hi. sym (remainder-syndrome p.r p.b i y hi h.bytes)
      ∙ eval-same first [] (Rattle.field.specs.Field.alpha (p.b + i)) (λ k. extent-zero first k (omega arith))
      ∙ unfold eval in refl)

  pub word_clean : Word p y → is_clean p.b p.r y ≡ true
  unfolding is_clean
  word_clean w =
      let z = remainder-zero p.r p.b y (omega (arith, v.r_most)) h.bytes (codeword-syndromes p.n p.r p.b y w) in
      eq-eqb (extent first) 0 (omega (arith, extent-least first 0 (λ k _. zero-at first k z)))

  pub clean_verdict : is_clean p.b p.r y ≡ true → verdict p y ≡ Ok (Run 0 0)
  unfolding is_clean verdict judged
  clean_verdict t = rw t

  -- ---- not clean

  module _ (wrong : is_clean p.b p.r y ≡ false) where
    pub wrong_verdict : verdict p y ≡ decided p first best
    unfolding is_clean verdict judged
    wrong_verdict = rw wrong

    pub not_empty : (s f : ℕ) (c : List ℕ) → Reached p y s f c → f ≢ 0
    not_empty s f c k z =
        let k₀ : Reached p y s 0 c = subst (λ (x : ℕ). Reached p y s x c) z k in
        let q : c ≡ y = empty_run p.n p.r p.b y s c h.count k₀ in
        true_false (word_clean (subst (Word p) q k.codeword)) wrong

    -- a run within the limit that reaches a codeword starts in the block, and the least length is no longer
    pub reach_start : (s f : ℕ) (c : List ℕ) → Reached p y s f c → s < p.n
    reach_start s f c k = let d : f ≢ 0 = not_empty s f c k in omega (arith, k.run)

    pub reach_size : (s f : ℕ) (c : List ℕ) → f ≤ p.limit → Reached p y s f c → best.size ≤ f
    reach_size s f c l k =
        let m : e s ≤ f = reach_extent s f c (omega (arith, v.limit_below)) k in
        omega (arith, scan.least s (reach_start s f c k) (omega (arith, k.run)))

    module _ (within : best.size ≤ p.limit) where
      pub small : best.size < p.r
      small = omega (arith, v.limit_below)

      pub best_reach : Reached p y best.start best.size (word best.start best.size)
      best_reach =
          let f : (best.start < p.n) × (best.start + best.size ≤ p.n) × (e best.start ≡ best.size) = scan.found within in
          extent_reach best.start best.size small f.1 (omega (arith, f.2))

      pub best-least : Least p y best.size
      best-least s f c k = ⊎_elim (λ l. omega arith) (λ l. reach_size s f c (omega arith) k) (lt-or_ge p.limit f)

      -- a run of the least length that reaches a codeword: its shifted remainder has that extent
      pub at_size : (s : ℕ) (c : List ℕ) → Reached p y s best.size c → e s ≡ best.size
      at_size s c k =
          let m : e s ≤ best.size = reach_extent s best.size c small k in
          omega (arith, scan.least s (reach_start s best.size c k) (omega (arith, k.run)))

      -- two starts of that length reach different codewords
      apart_from : (f s t : ℕ) (c : List ℕ) → Least p y f → f ≢ 0 → s < t → Reached p y s f c → Reached p y t f c → ⊥
      apart_from zero s t c least n l k j = n refl
      apart_from (suc f) s t c least n l k j = let m : suc f ≤ f = least (suc s) f c (overlap p.n p.r p.b y s t f c l k j) in omega arith

      pub apart : (s t : ℕ) (c d : List ℕ) → s ≢ t → Reached p y s best.size c → Reached p y t best.size d → c ≢ d
      apart s t c d n k j q =
          let j₀ : Reached p y t best.size c = subst (Reached p y t best.size) (sym q) j in
          let z : best.size ≢ 0 = not_empty s best.size c k in
          ⊎_elim (λ l. apart_from best.size s t c best-least z l k j₀)
          (λ l. apart_from best.size t s c best-least z (omega arith) j₀ k) (lt-or_ge s t)
