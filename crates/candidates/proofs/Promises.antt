-- The promises on the tester's list. What stands in it are the tight runs, in order; the rest follows over runs and codewords, and no search is named.
use mathlib.Core.Path.{◌≡◌, refl, sym, ap, ◌∙◌, subst}
use mathlib.Core.Logic.{◌↔◌, ◌≢◌, ◌⊎◌, ⊎_elim}
use mathlib.Core.List.{List}
use Prim.Native.Nat.{ℕ, ◌+◌, ◌*◌, ◌≤◌, ◌<◌}
use native.Mathlib.Omega.{arith}
use lib.ListN.{get_or}
use Rattle.lists.proofs.Test.{lt-or_ge, zero_or}
use Rattle.profile.specs.Profile.{InRange}
use Rattle.block.specs.Block.{look_answer}
use Rattle.block.specs.Numbers.{verdict_start, verdict_length}
use Rattle.block.specs.Runs.{Reached, Least, NoneReached, TwoReached, OneReached}
use Rattle.profile.specs.declared.Profile.{Profile}
use Rattle.block.proofs.Verdicts.{exactly_one}
use Rattle.block.proofs.LookAndFill.{look_iff, filled_iff}
use Rattle.candidates.specs.Candidates.{Run, candidates, list_leaves}
use Rattle.candidates.specs.Promises.{TightRun, LentList, Entry, list_count, FirstTwice, ListedOnce, ListedIff, EveryListed, ListOrder, StartsDiffer, FillsListed, ReadOff, ListReadOff, BesideLook, ListBesideLook}
use Rattle.candidates.proofs.Lists.{none, Before}
use Rattle.candidates.proofs.Tight.{Within, every_tight, one_tight, same-codeword, same-length-from}
use Rattle.candidates.proofs.Listing.{listed-ordered, listed_tight, tight_listed, entry_of, of_entry}

module _ (p : Profile) (y out : List ℕ) (v : InRange p) (h : LentList p y out) where
  -- ---- entries

  tight_of : (i s f : ℕ) → Entry p y out i s f → (c : List ℕ) × TightRun p y s f c
  tight_of i s f k = let q = of_entry p y out v h i s f k in listed_tight p y v h.cells i s f q.0 q.1

  entry_at : (s f : ℕ) (c : List ℕ) → TightRun p y s f c → (i : ℕ) × Entry p y out i s f
  entry_at s f c k = let (i, l, q) = tight_listed p y v h.cells s f c k in (i, entry_of p y out v h i s f l q)

  pub listed_iff_at : (s f : ℕ) → ((i : ℕ) × Entry p y out i s f) ↔ ((c : List ℕ) × TightRun p y s f c)
  listed_iff_at s f = (λ k. tight_of k.0 s f k.1, λ k. entry_at s f k.0 k.1)

  pub in_order : (i j s f s' f' : ℕ) → Entry p y out i s f → Entry p y out j s' f' → i < j → (f < f') ⊎ ((f ≡ f') × (s < s'))
  in_order i j s f s' f' a b l =
      let u = of_entry p y out v h i s f a in
      let w = of_entry p y out v h j s' f' b in
      let k : Before (get_or (candidates p y) i none) (get_or (candidates p y) j none) = listed-ordered p y v h.cells i j l w.0 in
      let k₁ : Before (record { start = s; size = f }) (get_or (candidates p y) j none) = subst (λ (x : Run). Before x (get_or (candidates p y) j none)) u.1 k in
      subst (λ (x : Run). Before (record { start = s; size = f }) x) w.1 k₁

  -- an earlier entry is no longer
  no_longer : (i j s f s' f' : ℕ) → Entry p y out i s f → Entry p y out j s' f' → i ≤ j → f ≤ f'
  no_longer i j s f s' f' a b l =
      ⊎_elim (λ m. ⊎_elim (λ q. omega arith) (λ q. omega (arith, q.0)) (in_order i j s f s' f' a b m))
      (λ m. let e : i ≡ j = omega arith in let q : f ≡ f' = sym a.second ∙ ap (λ (k : ℕ). get_or (list_leaves p y out) (2 * k + 1) 0) e ∙ b.second in omega arith)
      (lt-or_ge i j)

  -- one pair stands at one place
  one_place : (i j s f : ℕ) → Entry p y out i s f → Entry p y out j s f → i ≡ j
  one_place i j s f a b =
      ⊎_elim (λ l. absurd (⊎_elim (λ q. omega arith) (λ q. omega (arith, q.1)) (in_order i j s f s f a b l)))
      (λ l. ⊎_elim (λ m. absurd (⊎_elim (λ q. omega arith) (λ q. omega (arith, q.1)) (in_order j i s f s f b a m))) (λ m. omega arith) (lt-or_ge j i))
      (lt-or_ge i j)

  -- a codeword lies within the runs of no two entries
  one_entry : (i j s f s' f' : ℕ) (c : List ℕ) → Entry p y out i s f → TightRun p y s f c → Entry p y out j s' f' → Reached p y s' f' c → j ≡ i
  one_entry i j s f s' f' c a k b r =
      let (d, m) = tight_of j s' f' b in
      let same : d ≡ c = same-codeword p y v h.cells s' f' d c m.within m.reached r in
      let q = one_tight p y v h.cells s f s' f' c k (subst (TightRun p y s' f') same m) in
      one_place j i s f (subst (λ (x : ℕ). Entry p y out j s x) (sym q.1) (subst (λ (x : ℕ). Entry p y out j x f') (sym q.0) b)) a

  -- the entry of a codeword within a run, which is no longer than that run
  record Found (f : ℕ) (c : List ℕ) : Type 0 where
    pub place : ℕ
    pub start : ℕ
    pub size : ℕ
    pub entry : Entry p y out place start size
    pub tight : TightRun p y start size c
    pub shorter : size ≤ f

  found : (s f : ℕ) (c : List ℕ) → f ≤ p.limit → Reached p y s f c → Found f c
  found s f c l r =
      let w : Within p y v h.cells f c = every_tight p y v h.cells s f c l r in
      let (i, k) = entry_at w.start w.size c w.tight in
      record { place = i; start = w.start; size = w.size; entry = k; tight = w.tight; shorter = w.shorter }

  pub every-at : (s f : ℕ) (c : List ℕ) → f ≤ p.limit → Reached p y s f c → ListedOnce p y out c
  every-at s f c l r =
      let w = found s f c l r in
      record {
        place = w.place;
        start = w.start;
        size = w.size;
        entry = w.entry;
        tight = w.tight;
        only = λ i s' f' k q. one_entry w.place i w.start w.size s' f' c w.entry w.tight k q;
      }

  -- ---- torn

  first_of : 0 < list_count p y out → (s f : ℕ) × Entry p y out 0 s f
  first_of l = (get_or (list_leaves p y out) (2 * 0) 0, get_or (list_leaves p y out) (2 * 0 + 1) 0, record { below = l; first = refl; second = refl })

  none_iff : (list_count p y out ≡ 0) ↔ NoneReached p y
  none_iff = (
    λ z s f c l r. let w = found s f c l r in omega (arith, w.entry.below),
    λ n. ⊎_elim (λ z. z) (λ z. let (s, f, k) = first_of (omega arith) in let (c, m) = tight_of 0 s f k in absurd (n s f c m.within m.reached)) (zero_or (list_count p y out)),
  )

  -- ---- tied

  -- the first length is the least
  first-least : (s f : ℕ) → Entry p y out 0 s f → Least p y f
  first-least s f k s' f' c r =
      ⊎_elim (λ l. let m = (tight_of 0 s f k).1 in omega (arith, m.within))
      (λ l. let w = found s' f' c l r in omega (arith, no_longer 0 w.place s f w.start w.size k w.entry (omega arith), w.shorter))
      (lt-or_ge p.limit f')

  twice_two : FirstTwice p y out → TwoReached p y
  twice_two (f, s, i, s', a, l, b) =
      let (c, k) = tight_of 0 s f a in
      let (d, m) = tight_of i s' f b in
      record {
        size = f;
        within = k.within;
        least = first-least s f a;
        start₁ = s;
        start₂ = s';
        first = c;
        second = d;
        reached₁ = k.reached;
        reached₂ = m.reached;
        differ = λ q. let e : i ≡ 0 = one_entry 0 i s f s' f c a k b (subst (Reached p y s' f) (sym q) m.reached) in omega arith;
      }

  two_twice : TwoReached p y → FirstTwice p y out
  two_twice z =
      let a = found z.start₁ z.size z.first z.within z.reached₁ in
      let b = found z.start₂ z.size z.second z.within z.reached₂ in
      let (s, f, k) = first_of (omega (arith, a.entry.below)) in
      let m = (tight_of 0 s f k).1 in
      let least : z.size ≤ f = z.least s f (tight_of 0 s f k).0 m.reached in
      let la : z.size ≤ a.size = z.least a.start a.size z.first a.tight.reached in
      let lb : z.size ≤ b.size = z.least b.start b.size z.second b.tight.reached in
      let most : f ≤ a.size = no_longer 0 a.place s f a.start a.size k a.entry (omega arith) in
      ⊎_elim
      (λ q. ⊎_elim
      (λ u. absurd (z.differ (both_first a b q u)))
      (λ u. (f, s, b.place, b.start, k, omega arith, subst (λ (x : ℕ). Entry p y out b.place b.start x) (let e : b.size ≡ f = omega (arith, a.shorter, b.shorter) in e) b.entry))
      (zero_or b.place))
      (λ q. (f, s, a.place, a.start, k, omega arith, subst (λ (x : ℕ). Entry p y out a.place a.start x) (let e : a.size ≡ f = omega (arith, a.shorter) in e) a.entry))
      (zero_or a.place)
    where
      -- two codewords are not listed by one entry
      both_first : (a : Found z.size z.first) (b : Found z.size z.second) → a.place ≡ 0 → b.place ≡ 0 → z.first ≡ z.second
      both_first a b q u =
          let e : a.place ≡ b.place = q ∙ sym u in
          let starts : b.start ≡ a.start = sym b.entry.first ∙ ap (λ (k : ℕ). get_or (list_leaves p y out) (2 * k) 0) (sym e) ∙ a.entry.first in
          let sizes : b.size ≡ a.size = sym b.entry.second ∙ ap (λ (k : ℕ). get_or (list_leaves p y out) (2 * k + 1) 0) (sym e) ∙ a.entry.second in
          let r : Reached p y a.start a.size z.second =
          subst (λ (x : ℕ). Reached p y a.start x z.second) sizes (subst (λ (x : ℕ). Reached p y x b.size z.second) starts b.tight.reached) in
          same-codeword p y v h.cells a.start a.size z.first z.second a.tight.within a.tight.reached r

  -- ---- mended

  -- the run by which document 01 mends is tight
  one_tight_run : (s f : ℕ) (c : List ℕ) → OneReached p y s f c → TightRun p y s f c
  one_tight_run s f c z = record { within = z.within; reached = z.reached; tight = λ s' f' l m n r. let q = z.least s' f' c r in omega arith; clean = z.clean }

  one_iff : (s f : ℕ) → (Entry p y out 0 s f × (FirstTwice p y out → ⊥)) ↔ ((c : List ℕ) × OneReached p y s f c)
  one_iff s f = (to, from)
    where
      to : Entry p y out 0 s f × (FirstTwice p y out → ⊥) → (c : List ℕ) × OneReached p y s f c
      to (k, n) =
          let (c, m) = tight_of 0 s f k in
          let least : Least p y f = first-least s f k in (
            c,
            record {
              within = m.within;
              reached = m.reached;
              least = least;
              others = λ s' f' c' r d.
                  ⊎_elim (λ l. l)
                  (λ l.
                  let e : f' ≡ f = omega (arith, least s' f' c' r) in
                  let r₁ : Reached p y s' f c' = subst (λ (x : ℕ). Reached p y s' x c') e r in
                  absurd (n (two_twice (record { size = f; within = m.within; least = least; start₁ = s; start₂ = s'; first = c; second = c'; reached₁ = m.reached; reached₂ = r₁; differ = λ q. d (sym q) }))))
                  (lt-or_ge f f');
              clean = m.clean;
            },
          )

      from : (c : List ℕ) × OneReached p y s f c → Entry p y out 0 s f × (FirstTwice p y out → ⊥)
      from (c, z) =
          let (i, k) = entry_at s f c (one_tight_run s f c z) in
          let (s₀, f₀, k₀) = first_of (omega (arith, k.below)) in
          let (c₀, m₀) = tight_of 0 s₀ f₀ k₀ in
          let le : f₀ ≤ f = no_longer 0 i s₀ f₀ s f k₀ k (omega arith) in
          let here : i ≡ 0 =
          ⊎_elim (λ e. e)
          (λ e. let other : c₀ ≢ c = (λ q. e (sym (one_entry i 0 s f s₀ f₀ c k (one_tight_run s f c z) k₀ (subst (Reached p y s₀ f₀) q m₀.reached)))) in
          absurd (let l = z.others s₀ f₀ c₀ m₀.reached other in omega arith)) (zero_or i) in
          (subst (λ (j : ℕ). Entry p y out j s f) here k, λ w. (exactly_one p y v h.cells).two_one s f c (twice_two w) z)

  pub read_off_at : ReadOff p y out
  read_off_at = record { none = none_iff; two = (twice_two, two_twice); one = one_iff }

  -- ---- beside a look

  pub beside_at : BesideLook p y out
  beside_at =
      let l = look_iff p y v h.cells in
      record {
        none = (λ q. l.none.1 (none_iff.0 q), λ q. none_iff.1 (l.none.0 q));
        two = (λ q. l.two.1 (twice_two q), λ q. two_twice (l.two.0 q));
        one = λ q. let (c, z) = (l.one (verdict_start (look_answer p y)) (verdict_length (look_answer p y))).0 (q, refl, refl) in ((one_iff (verdict_start (look_answer p y)) (verdict_length (look_answer p y))).1 (c, z.0)).0;
        sparse = λ q. let (s, f, c, z, k) = l.sparse.0 q in (s, f, c, ((one_iff s f).1 (c, z)).0, z, k);
      }

-- ---- the promises

pub listed_iff : ListedIff
listed_iff p y out s f v h = listed_iff_at p y out v h s f

pub every-listed : EveryListed
every-listed p y out s f c v h l r = every-at p y out v h s f c l r

pub list_order : ListOrder
list_order p y out i j s f s' f' v h a b l = in_order p y out v h i j s f s' f' a b l

pub starts_differ : StartsDiffer
starts_differ p y out i j s f f' v h a b =
    let (c, k) = tight_of p y out v h i s f a in
    let (d, m) = tight_of p y out v h j s f' b in
    let q : f ≡ f' = same-length-from p y v h.cells s f f' c d k m in
    one_place p y out v h i j s f a (subst (λ (x : ℕ). Entry p y out j s x) (sym q) b)

pub fills-listed : FillsListed
fills-listed p y out second i s f v h e k =
    let (c, m) = tight_of p y out v h i s f k in
    (c, m, (filled_iff p y s f second c v (record { cells = h.cells; second = e })).1 (omega (arith, m.within, v.limit_below), m.reached))

pub list_read_off : ListReadOff
list_read_off p y out v h = read_off_at p y out v h

pub list_beside_look : ListBesideLook
list_beside_look p y out v h = beside_at p y out v h
