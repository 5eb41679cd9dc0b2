-- What the verdict on n cells says: it is read off the locations to which the syndromes point, and the locator crate's theorems say that these are the
-- cells in which the one near codeword differs, or that no codeword is near.
use mathlib.Core.Path.{◌≡◌, refl, sym, ap, ap₂, subst, ◌∙◌}
use mathlib.Core.Logic.{◌↔◌, ◌≢◌, ◌⊎◌, inl, inr, ⊎_elim}
use mathlib.Core.Bool.{Bool, true, false}
use mathlib.Core.List.{List, [], ◌∷◌}
use Rattle.std.specs.Prelude.{Ok, Err}
use Prim.Native.Nat.{ℕ, ◌+◌, ◌≤◌, ◌<◌, zero-le}
use native.Mathlib.Nat.{pos_of_ne-zero}
use native.Mathlib.Omega.{arith}
use lib.ListN.{length, get_or}
use Rattle.lists.proofs.Test.{true_or_false}
use Rattle.code.specs.Code.{distance}
use Rattle.code.proofs.Distance.{distance_self, distance-same}
use Rattle.erasure.specs.Erasure.{among, DistinctPlaces, syndromes}
use Rattle.erasure.proofs.Theorems.{fill_remainder}
use Rattle.erasure.proofs.Roots.{among-here}
use Rattle.locator.specs.Locator.{locations, is_located, AllLocated}
use Rattle.locator.specs.Theorems.{Changed}
use Rattle.locator.proofs.Theorems.{near_exact, nearest_only, changed-cells, located_test}
use Rattle.locator.proofs.Roots.{locations-places}
use Rattle.profile.specs.Profile.{InRange, half}
use Rattle.block.specs.Runs.{Cells, Word}
use Rattle.profile.specs.declared.Profile.{Profile}
use Rattle.block.specs.Numbers.{Verdict, verdict_count, verdict_lowest}
use Rattle.block.specs.declared.numbers.Correction.TheVariants as corrections
use Rattle.block.specs.declared.numbers.Refusal.TheVariants.{TooManyErrors}
use Rattle.spots.specs.Spots.{spot_decided, read_syndromes, spot_verdict, spot_word}
use Rattle.spots.specs.Nearest.{Near, NoneNear, LowestChanged, NearestWord}
use Rattle.spots.proofs.Words.{same_or_not, lowest_one}

-- the verdict on a block that goes to a codeword
abbrev corrected : ℕ → ℕ → Verdict
corrected t j = Ok (corrections.Cells t j)

-- two verdicts that differ
too_many_corrected : {t j : ℕ} → ◌≡◌ {A = Verdict} (Err TooManyErrors) (corrected t j) → ⊥
too_many_corrected q = cc

module _ (p : Profile) (y : List ℕ) (v : InRange p) (h : Cells p y) where
  abbrev s : List ℕ
  s = syndromes p.b p.r y

  abbrev E : List ℕ
  E = locations 64 p.n s

  twice_half : half p + half p ≤ p.r
  twice_half = omega arith

  half_below : half p < 64
  half_below = omega (arith, v.r_most)

  -- the verdict, by the block's own syndromes
  by_syndromes : spot_verdict p y ≡ spot_decided p s
  unfolding spot_verdict read_syndromes
  by_syndromes = ap (spot_decided p) (fill_remainder p.r p.b y h.bytes)

  -- the locations are distinct cells of the block
  places : DistinctPlaces p.n E
  places = locations-places 64 p.n p.n s (omega arith)

  abbrev fine : Bool
  fine = is_located 64 (half p) p.n s

  verdict-fine : fine ≡ true → spot_verdict p y ≡ corrected (length E) (get_or E 0 0)
  verdict-fine t = by_syndromes ∙ (unfold spot_decided in rw t)

  verdict_bad : fine ≡ false → spot_verdict p y ≡ Err TooManyErrors
  verdict_bad t = by_syndromes ∙ (unfold spot_decided in rw t)

  exact : (c : List ℕ) → Near p y c ↔ (AllLocated 64 (half p) p.n s × (c ≡ spot_word p y))
  unfolding spot_word
  exact c =
      near_exact p.n p.r p.b (half p) 64 y c v.r_below v.n_most h.count h.bytes twice_half half_below

  fine-near : fine ≡ true → Near p y (spot_word p y)
  fine-near t = (exact (spot_word p y)).1 ((located_test 64 (half p) p.n s).0 t, refl)

  near-fine : (c : List ℕ) → Near p y c → (fine ≡ true) × (spot_word p y ≡ c)
  near-fine c k = let z = (exact c).0 k in ((located_test 64 (half p) p.n s).1 z.0, sym z.1)

  -- the near codeword: its cells
  module _ (c : List ℕ) (k : Near p y c) where
    changed : Changed p.n (half p) E y c
    changed = changed-cells p.n p.r p.b (half p) 64 y c v.r_below v.n_most h.count h.bytes twice_half half_below k

    same_length : length c ≡ length y
    same_length = k.word.cells ∙ sym h.count

    no_location : (F : List ℕ) → length F ≡ 0 → ◌≡◌ {A = ℕ} (get_or F 0 0) 0
    no_location [] q = refl
    no_location (x ∷ F) q = absurd (omega arith)

    some_location : (F : List ℕ) → DistinctPlaces p.n F → length F ≢ 0 → (get_or F 0 0 < p.n) × (among (get_or F 0 0) F ≡ true)
    some_location [] P n = absurd (n refl)
    some_location (x ∷ F) P n = (P.0, among-here x F)

    location : c ≢ y → (get_or E 0 0 < p.n) × (among (get_or E 0 0) E ≡ true)
    location n = some_location E places (λ q. n (sym (distance-same y c (sym same_length) (changed.count ∙ q))))

    below_same : (i : ℕ) → i < p.n → i < get_or E 0 0 → get_or y i 0 ≡ get_or c i 0
    below_same i l m =
        ⊎_elim (λ q. q)
        (λ n. absurd (let z : get_or E 0 0 ≤ i = (changed.lowest i ((changed.differ i l).1 n)).1 in omega arith))
        (same_or_not (get_or y i 0) (get_or c i 0))

    lowest : LowestChanged p y (get_or E 0 0) c
    lowest = record {
      differs = λ n. let z = location n in (z.0, (changed.differ (get_or E 0 0) z.0).0 z.1);
      below = λ i l. below_same i (below_end i l) l;
      clean = λ q. no_location E (sym changed.count ∙ ap (distance y) q ∙ distance_self y);
    }
      where
        -- where there is no location nothing lies below the first
        below_end : (i : ℕ) → i < get_or E 0 0 → i < p.n
        below_end i l =
            ⊎_elim (λ q. absurd (let z : get_or E 0 0 ≡ 0 = no_location E q in omega arith))
            (λ n. let z : get_or E 0 0 < p.n = (some_location E places n).0 in omega arith)
            (same_or_not (length E) 0)

    nearest : NearestWord p y (length E) (get_or E 0 0) c
    nearest = record {
      word = k.word;
      within = changed.few;
      count = changed.count;
      lowest = lowest;
      others = λ d w n.
          subst (λ (t : ℕ). t < distance y d) changed.count
          (nearest_only p.n p.r p.b (half p) y c d v.n_most h.count twice_half k w n);
    }

  -- a codeword that is the nearest is near
  is_near : (t j : ℕ) (c : List ℕ) → NearestWord p y t j c → Near p y c
  is_near t j c o = record { word = o.word; within = subst (λ (x : ℕ). x ≤ half p) (sym o.count) o.within }

  pub spot_near : (c : List ℕ) → Near p y c → (t j : ℕ) × NearestWord p y t j c
  spot_near c k = (length E, get_or E 0 0, nearest c k)

  pub spot_none : (spot_verdict p y ≡ Err TooManyErrors) ↔ NoneNear p y
  spot_none = (
    λ q c k. too_many_corrected (sym q ∙ verdict-fine (near-fine c k).0),
    λ n. verdict_bad (⊎_elim (λ t. absurd (n (spot_word p y) (fine-near t))) (λ t. t) (true_or_false fine)),
  )

  pub spot_one : (t j : ℕ) (c : List ℕ) → ((spot_verdict p y ≡ corrected t j) × (spot_word p y ≡ c)) ↔ NearestWord p y t j c
  spot_one t j c = (there, back)
    where
      there : (spot_verdict p y ≡ corrected t j) × (spot_word p y ≡ c) → NearestWord p y t j c
      there z =
          ⊎_elim
          (λ f. let e : corrected (length E) (get_or E 0 0) ≡ corrected t j = sym (verdict-fine f) ∙ z.0 in
          let a : length E ≡ t = ap verdict_count e in
          let b : get_or E 0 0 ≡ j = ap verdict_lowest e in
          subst (NearestWord p y t j) z.1 (subst (λ (x : ℕ). NearestWord p y x j (spot_word p y)) a (subst (λ (x : ℕ). NearestWord p y (length E) x (spot_word p y)) b (nearest (spot_word p y) (fine-near f)))))
          (λ f. absurd (too_many_corrected (sym (verdict_bad f) ∙ z.0))) (true_or_false fine)

      back : NearestWord p y t j c → (spot_verdict p y ≡ corrected t j) × (spot_word p y ≡ c)
      back o =
          let k : Near p y c = is_near t j c o in
          let f = near-fine c k in
          let m = nearest c k in
          (verdict-fine f.0 ∙ ap₂ corrected (sym m.count ∙ o.count) (lowest_one p y c (get_or E 0 0) j (same_length c k) m.lowest o.lowest), f.1)

  pub spot_some : NoneNear p y ⊎ ((t j : ℕ) × (c : List ℕ) × NearestWord p y t j c)
  spot_some =
      ⊎_elim (λ f. inr (length E, get_or E 0 0, spot_word p y, nearest (spot_word p y) (fine-near f))) (λ f. inl (spot_none.0 (verdict_bad f))) (true_or_false fine)

  -- a clean block goes to itself
  pub spot_clean : Word p y → (spot_verdict p y ≡ corrected 0 0) × (spot_word p y ≡ y)
  spot_clean w =
      (spot_one 0 0 y).1
      (record {
        word = w;
        within = zero-le;
        count = distance_self y;
        lowest = record { differs = λ n. absurd (n refl); below = λ i l. refl; clean = λ q. refl };
        others = λ d k n. pos_of_ne-zero (λ q. n (sym (distance-same y d (h.count ∙ sym k.cells) q)));
      })
