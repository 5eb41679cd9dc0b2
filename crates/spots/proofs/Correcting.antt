-- The cases of the corrector, over plain values: what `locate` and `fill_places` give is the verdict and the codeword. The syndromes of the remainder are
-- those of the block, and the cells at the places located, filled, are the only candidate.
use mathlib.Core.Path.{◌≡◌, refl, sym, ap, ap₂, ◌∙◌}
use mathlib.Core.Bool.{Bool, true}
use mathlib.Core.List.{List, map}
use Prim.Native.Nat.{ℕ, ◌≤◌, min}
use native.Mathlib.Nat.{min-eq_left}
use native.Mathlib.Omega.{arith}
use lib.Dec.{eqb}
use lib.ListN.{length, get_or, take, length-map}
use Rattle.lists.specs.Choice.{pick}
use Rattle.lists.specs.Bytes.{Bytes}
use Rattle.field.specs.Field.{alpha}
use Rattle.code.specs.Code.{generator, remainder}
use Rattle.code.specs.Search.{extent}
use Rattle.code.proofs.Division.{remainder-length}
use Rattle.words.specs.Cells.{pad_to}
use Rattle.words.proofs.Pad.{pad_length, pad_at, pad_off}
use Rattle.erasure.specs.Erasure.{DistinctPlaces, syndromes, filled_word}
use Rattle.erasure.specs.Filling.{filled_at}
use Rattle.erasure.proofs.Theorems.{fill_remainder}
use Rattle.erasure.proofs.Fill.{syndromes-length}
use Rattle.erasure.proofs.Filling.{filled_by_points}
use Rattle.locator.specs.Locator.{locations, is_located}
use Rattle.locator.specs.Answer.{error_locations}
use Rattle.locator.specs.declared.Errors.{Errors}
use Rattle.std.specs.Prelude.{Some, None, Ok, Err}
use Rattle.locator.proofs.Theorems.{located_test, candidate-filled}
use Rattle.locator.proofs.Roots.{locations-places}
use Rattle.locator.proofs.Answer.{Fields, located-none, located-some}
use Rattle.profile.specs.Profile.{InRange, half}
use Rattle.block.specs.Block.{read_remainder}
use Rattle.block.proofs.Answers.{block-remainder}
use Rattle.block.specs.Runs.{Cells, Word}
use Rattle.block.proofs.Entries.{zero_clean}
use Rattle.block.proofs.Shortest.{clean_word}
use Rattle.profile.specs.declared.Profile.{Profile}
use Rattle.block.specs.declared.numbers.Correction.TheVariants as corrections
use Rattle.block.specs.declared.numbers.Refusal.TheVariants.{TooManyErrors}
use Rattle.spots.specs.Spots.{spot_decided, read_syndromes, spot_verdict, spot_word}
use Rattle.spots.specs.Steps.{SpotsInto}
use Rattle.spots.proofs.Verdicts.{spot_clean}

module _ (p : Profile) (v : InRange p) (y : List ℕ) (l : length y ≡ p.n) (h : Bytes y) where
  abbrev s : List ℕ
  s = read_syndromes p y

  abbrev E : List ℕ
  E = locations 64 p.n s

  abbrev fine : Bool
  fine = is_located 64 (half p) p.n s

  -- ---- the syndromes

  short : length s ≤ 64
  unfolding read_syndromes
  short = omega (arith, syndromes-length p.b p.r (remainder p.r (generator p.b p.r) y), v.r_most)

  same-syndromes : s ≡ syndromes p.b p.r y
  unfolding read_syndromes
  same-syndromes = fill_remainder p.r p.b y h

  -- from the cells of a register
  pub syndromes_of : (R low S : List ℕ) → R ≡ read_remainder p y → low ≡ take p.r R → S ≡ pad_to 64 (syndromes p.b (min (length low) 64) low) → take p.r S ≡ s
  unfolding read_syndromes
  syndromes_of R low S eR eL eS =
      let Q : List ℕ = remainder p.r (generator p.b p.r) y in
      let lQ : length Q ≡ p.r = remainder-length p.r p.b y in
      let q : low ≡ Q =
      eL ∙ ap (take p.r) (eR ∙ block-remainder p v y l) ∙ pad_off p.r 64 Q lQ v.r_most in
      let m : min (length low) 64 ≡ p.r = ap (λ (u : List ℕ). min (length u) 64) q ∙ ap (λ (k : ℕ). min k 64) lQ ∙ min-eq_left v.r_most in
      let T : List ℕ = syndromes p.b p.r Q in
      let lT : length T ≡ p.r = syndromes-length p.b p.r Q in
      let w : S ≡ pad_to 64 T = eS ∙ ap₂ (λ (k : ℕ) (u : List ℕ). pad_to 64 (syndromes p.b k u)) m q in
      ap (take p.r) w ∙ pad_off p.r 64 T lT v.r_most

  -- ---- what was located

  fewest : fine ≡ true → length E ≤ half p
  fewest t = let z = (located_test 64 (half p) p.n s).0 t in omega (arith, z.0, z.1)

  half-most : half p ≤ 32
  half-most = omega (arith, v.r_most)

  module _ (k : ℕ) (S : List ℕ) (ek : k ≡ half p) (eS : S ≡ s) where
    located : error_locations S p.n k ≡ error_locations s p.n (half p)
    located = ap₂ (λ (u : List ℕ) (j : ℕ). error_locations u p.n j) eS ek

    pub none-into : None ≡ error_locations S p.n k → (out : List ℕ) → SpotsInto p y out (Err TooManyErrors) out
    none-into e out = record {
      answer =
          sym (unfold spot_verdict spot_decided in ap (λ (u : Bool). pick u (Ok (corrections.Cells (length E) (get_or E 0 0))) (Err TooManyErrors))
          (located-none s p.n (half p) short v.n_most half-most (e ∙ located)));
      word = λ q. absurd (omega arith);
      kept = λ n. refl;
    }

    module _ (L : Errors) (eL : Some L ≡ error_locations S p.n k) where
      fields : Fields s p.n (half p) L
      fields = located-some s p.n (half p) short v.n_most half-most L (eL ∙ located)

      small : length E ≤ 32
      small = omega (arith, fewest fields.fine, half-most)

      counted : L.count ≡ length E
      counted = fields.count

      pub located_fits : (L.count ≤ 32) × (length L.places ≡ 32) × (length L.points ≡ 32)
      located_fits = (omega (arith, counted, small), ap length fields.places ∙ pad_length 32 E, ap length fields.points ∙ pad_length 32 (map alpha E))

      placed : take L.count L.places ≡ E
      placed = ap (take L.count) fields.places ∙ pad_off L.count 32 E (sym counted) (omega (arith, counted, small))

      pointed : take L.count L.points ≡ map alpha E
      pointed =
          ap (take L.count) fields.points
          ∙ pad_off L.count 32 (map alpha E) (length-map E alpha ∙ sym counted) (omega (arith, counted, small))

      places : DistinctPlaces (length y) E
      places = locations-places 64 (length y) p.n s (omega arith)

      -- the filled cells are the candidate
      is_word : filled_at p.b s E (map alpha E) y ≡ spot_word p y
      unfolding spot_word
      is_word =
          ap (λ (u : List ℕ). filled_at p.b u E (map alpha E) y) same-syndromes ∙ filled_by_points p.b p.r E y (omega (arith, small)) places
          ∙ ap₂ (λ (m : ℕ) (u : List ℕ). filled_word p.b p.r (locations 64 m u) y) (sym l) same-syndromes
          ∙ sym (candidate-filled p.b p.r 64 y)

      pub some-into : (out copied o : List ℕ) (j : ℕ) → copied ≡ y → o ≡ filled_at p.b S (take L.count L.places) (take L.count L.points) copied → j ≡ get_or L.places 0 0
          → SpotsInto p y out (Ok (corrections.Cells L.count j)) o
      some-into out copied o j ec eo ej =
          let first : j ≡ get_or E 0 0 = ej ∙ ap (λ (u : List ℕ). get_or u 0 0) fields.places ∙ pad_at 32 E 0 (omega arith) in
          record {
            answer =
                ap₂ (λ (t j : ℕ). Ok (corrections.Cells t j)) counted first
                ∙ sym (unfold spot_verdict spot_decided in ap (λ (u : Bool). pick u (Ok (corrections.Cells (length E) (get_or E 0 0))) (Err TooManyErrors)) fields.fine);
            word = λ _. eo ∙ rw (eS, placed, pointed, ec) is_word;
            kept = λ m. absurd (m refl);
          }

  -- ---- a clean block

  pub clean_into : (out Z copied : List ℕ) → Z ≡ read_remainder p y → true ≡ eqb (extent Z) 0 → copied ≡ y
      → SpotsInto p y out (Ok (corrections.Cells 0 0)) copied
  clean_into out Z copied eZ t ec =
      let c : Cells p y = record { count = l; bytes = h } in
      let w : Word p y = clean_word p y v c (sym (zero_clean p v y Z true (eZ ∙ block-remainder p v y l) t)) in
      let z = spot_clean p y v c w in
      record {
        answer = sym z.0;
        word = λ _. ec ∙ sym z.1;
        kept = λ m. absurd (m refl);
      }
