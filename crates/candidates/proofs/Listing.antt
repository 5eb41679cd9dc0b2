-- What stands in the list of a block, in its order: exactly the tight runs of codewords. An entry of the buffer is an entry of the list.
use mathlib.Core.Path.{◌≡◌, sym, ap, ap₂, ◌∙◌, subst}
use mathlib.Core.Logic.{◌≢◌, ⊎_elim}
use Rattle.std.specs.Prelude.{Ok}
use mathlib.Core.Bool.{true, false}
use mathlib.Core.List.{List}
use Prim.Native.Nat.{ℕ, zero, suc, ◌+◌, ◌*◌, ◌≤◌, ◌<◌}
use native.Mathlib.Omega.{arith}
use lib.ListN.{length, get_or}
use Rattle.lists.proofs.Test.{zero_or, true_or_false}
use Rattle.profile.specs.Profile.{InRange}
use Rattle.profile.proofs.Ranges.{in_range_lem}
use Rattle.block.specs.Block.{is_clean}
use Rattle.block.specs.Runs.{Cells}
use Rattle.profile.specs.declared.Profile.{Profile}
use Rattle.block.proofs.Shortest.{word}
use Rattle.candidates.specs.Candidates.{Run, candidates, laid_behind, list_answer, list_leaves}
use Rattle.candidates.specs.Numbers.{listed_count}
use Rattle.candidates.specs.Promises.{TightRun, LentList, Entry, list_count}
use Rattle.candidates.proofs.Laying.{pair_at}
use Rattle.candidates.proofs.Lists.{none, Stands, Ordered, length_most, up_to_each, up_to_has, up_to_ordered}
use Rattle.candidates.proofs.Entries.{list_done, list_fits_lem, listed_clean, listed_wrong}
use Rattle.candidates.proofs.Tight.{t, kept_of, kept_tight, tight_length_of, none_clean, clean_none, clean_tight}

-- ---- the list, clean or not

-- no list is longer than the block
pub listed-most : (p : Profile) (y : List ℕ) → InRange p → length (candidates p y) ≤ p.n
listed-most p y v =
    ⊎_elim (λ q. omega (arith, ap length (sym (listed_clean p y q)), v.n_least)) (λ q. rw (listed_wrong p y q) (length_most _ p.n p.limit)) (true_or_false (is_clean p.b p.r y))

module _ (p : Profile) (y : List ℕ) (v : InRange p) (h : Cells p y) where
  pub listed-ordered : Ordered (candidates p y)
  listed-ordered =
      ⊎_elim (λ q. subst Ordered (listed_clean p y q) (λ i j l m. absurd (omega arith)))
      (λ q. rw (listed_wrong p y q) (up_to_ordered (t p y v h) p.n p.limit)) (true_or_false (is_clean p.b p.r y))

  -- each run that stands in it is tight
  pub listed_tight : (i s f : ℕ) → i < length (candidates p y) → get_or (candidates p y) i none ≡ record { start = s; size = f } → (c : List ℕ) × TightRun p y s f c
  listed_tight i s f l q = ⊎_elim (λ a. clean a i l q) (λ a. wrong a i l q) (true_or_false (is_clean p.b p.r y))
    where
      clean : is_clean p.b p.r y ≡ true → (i : ℕ) → i < length (candidates p y) → get_or (candidates p y) i none ≡ record { start = s; size = f } → (c : List ℕ) × TightRun p y s f c
      clean a zero l q =
          let x : none ≡ record { start = s; size = f } = ap (λ (u : List Run). get_or u 0 none) (listed_clean p y a) ∙ q in
          (y, subst (λ (z : Run). TightRun p y z.start z.size y) x (clean_tight p y v h a))
      clean a (suc i) l q = absurd (omega (arith, ap length (sym (listed_clean p y a))))

      wrong : is_clean p.b p.r y ≡ false → (i : ℕ) → i < length (candidates p y) → get_or (candidates p y) i none ≡ record { start = s; size = f } → (c : List ℕ) × TightRun p y s f c
      wrong a i l q =
          let l₁ = rw (listed_wrong p y a) at l in
          let x = ap (λ (u : List Run). get_or u i none) (sym (listed_wrong p y a)) ∙ q in
          let k = up_to_each (t p y v h) p.n p.limit i l₁ in
          let size : t p y v h s ≡ f = ap (λ (z : Run). t p y v h z.start) (sym x) ∙ k.1 ∙ ap (λ (z : Run). z.size) x in
          let pos : 0 < f = omega (arith, k.2, ap (λ (z : Run). z.size) x) in
          (word p y v h s f, kept_tight p y v h s f pos (kept_of p y v h s f size pos))

  -- and each tight run stands in it
  pub tight_listed : (s f : ℕ) (c : List ℕ) → TightRun p y s f c → Stands (record { start = s; size = f }) (candidates p y)
  tight_listed s f c k = ⊎_elim by_none by_some (zero_or f)
    where
      by_none : f ≡ 0 → Stands (record { start = s; size = f }) (candidates p y)
      by_none z =
          let a = none_clean p y v h s f c z k in
          let x : none ≡ record { start = s; size = f } = ap₂ (λ (i j : ℕ). record { start = i; size = j }) (sym a.1) (sym z) in
          subst (Stands (record { start = s; size = f })) (listed_clean p y a.0) (0, omega arith, x)

      by_some : f ≢ 0 → Stands (record { start = s; size = f }) (candidates p y)
      by_some z =
          let a = tight_length_of p y v h s f c (omega arith) k in
          ⊎_elim (λ q. absurd (z (clean_none p y v h s f c q k))) (λ q. rw (listed_wrong p y q) (up_to_has (t p y v h) p.n p.limit s f a.0 a.1 (omega arith) k.within))
          (true_or_false (is_clean p.b p.r y))

-- ---- the buffer

module _ (p : Profile) (y out : List ℕ) (v : InRange p) (h : LentList p y out) where
  done : (list_answer p y out ≡ Ok (length (candidates p y))) × (list_leaves p y out ≡ laid_behind 0 (candidates p y) out)
  done = let d = list_done p y out ((in_range_lem p).1 v) (list_fits_lem p y out h.cells.count h.pairs) in (sym d.0, sym d.1)

  pub counts : list_count p y out ≡ length (candidates p y)
  counts = ap listed_count done.0

  at : (i : ℕ) → i < length (candidates p y) → (get_or (list_leaves p y out) (2 * i) 0 ≡ (get_or (candidates p y) i none).start) × (get_or (list_leaves p y out) (2 * i + 1) 0 ≡ (get_or (candidates p y) i none).size)
  unfolding laid_behind
  at i l =
      let b = pair_at (candidates p y) _ i none l in
      (ap (λ (u : List ℕ). get_or u (2 * i) 0) done.1 ∙ b.0, ap (λ (u : List ℕ). get_or u (2 * i + 1) 0) done.1 ∙ b.1)

  pub entry_of : (i s f : ℕ) → i < length (candidates p y) → get_or (candidates p y) i none ≡ record { start = s; size = f } → Entry p y out i s f
  entry_of i s f l q = record {
    below = omega (arith, counts);
    first = (at i l).0 ∙ ap (λ (x : Run). x.start) q;
    second = (at i l).1 ∙ ap (λ (x : Run). x.size) q;
  }

  pub of_entry : (i s f : ℕ) → Entry p y out i s f → (i < length (candidates p y)) × (get_or (candidates p y) i none ≡ record { start = s; size = f })
  of_entry i s f k =
      let l : i < length (candidates p y) = omega (arith, counts, k.below) in
      (l, ap₂ (λ (a b : ℕ). record { start = a; size = b }) (sym (at i l).0 ∙ k.first) (sym (at i l).1 ∙ k.second))
