-- The theorems of specs/Theorems.antt on the nearest codeword. If a codeword is near, the recursion is sound at its error word, so all its wrong
-- cells are roots and the numbers agree; if the numbers agree, the filled word has all r syndromes zero.
use mathlib.Core.Path.{◌≡◌, refl, sym, ap, ◌∙◌, subst}
use mathlib.Core.Logic.{⊎_elim}
use mathlib.Core.Bool.{true}
use mathlib.Core.List.{List, []}
use Prim.Native.Nat.{ℕ, suc, ◌+◌, ◌-◌, ◌≤◌, ◌<◌, zero-le}
use native.Mathlib.Omega.{arith}
use lib.Dec.{eqb, leb}
use borrow.Author.Tests.{eqb-true, eq-eqb, leb-true, le-leb}
use lib.ListN.{length, get_or}
use Rattle.lists.proofs.Test.{both_true, true_or_false, true_false, lt-or_ge, zero_or}
use Rattle.field.specs.Field.{add, mul, alpha}
use Rattle.field.proofs.Sum.{add_self, add-eq}
use Rattle.field.proofs.Product.{mul-zero, zero-mul}
use Rattle.lists.specs.Bytes.{Bytes}
use Rattle.code.specs.Poly.{eval, padd}
use Rattle.code.specs.Code.{Codeword, syndrome, distance, IsNear, weight}
use Rattle.code.proofs.Poly.{get_or_padd, padd-length, padd-bytes}
use Rattle.code.proofs.Distance.{Zero, distance-weight}
use Rattle.code.proofs.Shifted.{distance_triangle}
use Rattle.code.proofs.Theorems.{minimum_distance}
use Rattle.erasure.specs.Erasure.{among, DistinctPlaces, Fills, syndromes, error_word, filled_word}
use Rattle.erasure.proofs.Weigh.{weigh, weigh-at, cells-zero}
use Rattle.erasure.proofs.Fill.{Within, syn_of, syndromes-length, syndromes-at, syndromes-bytes, error-bytes, error-within, error-first}
use Rattle.erasure.proofs.Weights.{weight-distance, within-weight, within_full}
use Rattle.erasure.proofs.Theorems.{difference_syndrome, difference_within, fills_is, fills_back, passed, filled-length}
use Rattle.locator.specs.Locator.{Recursion, massey, mirrored, locator, roots_from, locations, is_located, AllLocated, candidate}
use Rattle.locator.specs.Theorems.{NearExact, NearestOnly, Changed, ChangedCells, LocatedTest}
use Rattle.locator.proofs.Recursion.{Reads, Sound, reads_at}
use Rattle.locator.proofs.Run.{read_by, kept-all, read_length, read_at, read-bytes, read-syn, locates, reads_back}
use Rattle.locator.proofs.Roots.{roots_places, roots_all, roots_are, roots_lowest, roots_few}

module _ (n r b h M : ℕ) (y : List ℕ) (hr : r < n) (hn : n ≤ 255) (ly : length y ≡ n) (hy : Bytes y) (hh : h + h ≤ r) (hM : h < M) where
  abbrev s : List ℕ
  s = syndromes b r y

  abbrev k : Recursion
  k = massey M s

  abbrev T : List ℕ
  T = read_by s []

  abbrev E : List ℕ
  E = roots_from (locator k) n 0

  lT : length T ≡ r
  lT = read_length s [] ∙ omega (arith, syndromes-length b r y)

  places : DistinctPlaces n E
  places = roots_places (locator k) n n 0 (omega arith)

  candidate_is : candidate b r M y ≡ filled_word b r E y
  unfolding candidate locations
  candidate_is = ap (λ (m : ℕ). filled_word b r (roots_from (locator k) m 0) y) ly

  -- a codeword that is near
  module _ (c : List ℕ) (N : IsNear n r b h y c) where
    abbrev e : List ℕ
    e = padd y c

    lc : length c ≡ n
    lc = N.word.cells

    le : length e ≡ n
    le = padd-length y c (omega arith) ∙ ly

    he : Bytes e
    he = padd-bytes y c hy N.word.bytes

    light : weight e ≤ h
    light = omega (arith, distance-weight y c (ly ∙ sym lc), N.within)

    reads : Reads b T e
    reads = read-syn b s [] e (syn_of b r y e (difference_syndrome n r b y c N.word)) tt

    sound : Sound h b T k
    sound = ⊎_elim (λ g. g) (λ d. absurd (let z : suc h ≤ weight e = d.none e he (omega (arith, le)) reads in omega (arith, light))) (kept-all M h b s hM)

    fills : Fills n r b E y c
    fills = record {
      codeword = N.word;
      agree = λ j l t. add-eq (get_or y j 0) (get_or c j 0) (sym (get_or_padd y c j) ∙ ⊎_elim (λ z. z)
          (λ z. absurd (true_false (roots_all (locator k) n 0 j zero-le (omega arith)
          (locates h b T k e sound he (omega (arith, le)) reads light (omega (arith, lT)) j z)) t)) (zero_or (get_or e j 0)));
    }

    within : Within E e
    within = difference_within n E y c ly lc fills.agree

    least : k.size ≤ weight e
    least = sound.least e he (omega (arith, le)) reads

    pub all_roots : length E ≡ k.size
    all_roots = omega (arith, least, within-weight E e within, roots_few h b n T k hn sound)

    full : length E ≤ weight e
    full = omega (arith, all_roots, least)

    pub near-located : AllLocated M h n s
    unfolding locations
    near-located = (sound.small, all_roots)

    pub near_is : c ≡ candidate b r M y
    near_is = fills_is n r b E y hr hn ly hy places (omega (arith, all_roots, sound.small)) c fills ∙ sym candidate_is

    pub near-changed : Changed n h (locations M n s) y c
    unfolding locations
    near-changed = record {
      count = omega (arith, full, weight-distance y c (ly ∙ sym lc), within-weight E e within, distance-weight y c (ly ∙ sym lc));
      few = omega (arith, all_roots, sound.small);
      differ = λ j l. (
        λ t q. within_full E e within full j t (get_or_padd y c j ∙ ap (λ (v : ℕ). add v (get_or c j 0)) q ∙ add_self (get_or c j 0)),
        λ ne. ⊎_elim (λ t. t) (λ t. absurd (ne (fills.agree j l t))) (true_or_false (among j E)),
      );
      lowest = roots_lowest (locator k) n 0;
    }

  -- the locator's size is at most h, and it has as many roots
  module _ (small : k.size ≤ h) (roots : length E ≡ k.size) where
    abbrev f : List ℕ
    f = error_word n b E s

    kept : Sound h b T k
    kept = ⊎_elim (λ g. g) (λ d. absurd (omega (arith, d.large))) (kept-all M h b s hM)

    nothing : Zero (weigh 1 (mirrored k.size k.connection) f)
    unfolding locator
    nothing =
        let P : List ℕ = mirrored k.size k.connection in
        cells-zero (weigh 1 P f)
        (λ j. weigh-at P f j ∙ ⊎_elim (λ t. ap (mul (get_or f j 0)) (roots_are P n 0 j t) ∙ mul-zero (get_or f j 0))
        (λ t. ap (λ (v : ℕ). mul v (eval P (alpha j))) (error-within n b E s j t) ∙ zero-mul (eval P (alpha j))) (true_or_false (among j E)))

    ls : length s ≡ r
    ls = syndromes-length b r y

    sb : Bytes s
    sb = syndromes-bytes b r y hy

    reads-f : Reads b T f
    reads-f =
        reads_back b k.size k.connection f T kept.cb kept.head kept.short (error-bytes n b E s) nothing (read-bytes s [] sb tt) kept.made
        (λ j i q l. read_at s [] j i (omega (arith, lT, ls)) ∙ sym (error-first n b E s hn places sb (omega (arith, ls, kept.small)) i (omega arith)))

    right : (i : ℕ) → i < r → syndrome b i f ≡ syndrome b i y
    right i l =
        let j : ℕ = r - suc i in
        sym (reads_at b T f j i (omega (arith, lT)) reads-f) ∙ read_at s [] j i (omega (arith, ls)) ∙ syndromes-at b r y i l

    codeword : Codeword n r b (filled_word b r E y)
    codeword = passed n r b E y hr hn ly hy places (omega arith) (λ i a l. right i l)

    located-fills : Fills n r b E y (filled_word b r E y)
    located-fills = fills_back n r b E y hr hn ly hy places (omega arith) (filled_word b r E y) (refl, codeword)

    located-near : IsNear n r b h y (filled_word b r E y)
    located-near =
        let lf : length (filled_word b r E y) ≡ n = filled-length n r b E y hr hn ly hy places (omega arith) in
        record {
          word = codeword;
          within = omega (arith, weight-distance y (filled_word b r E y) (ly ∙ sym lf), within-weight E (padd y (filled_word b r E y)) (difference_within n E y (filled_word b r E y) ly lf located-fills.agree));
        }

  pub located_is_near : AllLocated M h n s → IsNear n r b h y (candidate b r M y)
  unfolding locations
  located_is_near g = subst (IsNear n r b h y) (sym candidate_is) (located-near g.0 g.1)

pub near_exact : NearExact
near_exact n r b h M y c hr hn ly hy hh hM = (
  λ N. (near-located n r b h M y hr hn ly hy hh hM c N, near_is n r b h M y hr hn ly hy hh hM c N),
  λ g. subst (IsNear n r b h y) (sym g.1) (located_is_near n r b h M y hr hn ly hy hh hM g.0),
)

pub nearest_only : NearestOnly
nearest_only n r b h y c d hn ly hh N k ne =
    ⊎_elim (λ l. l)
    (λ l. absurd (ne (sym (minimum_distance n r b c d hn N.word k
    (omega (arith, N.within, distance_triangle y c d (N.word.cells ∙ sym ly) (k.cells ∙ sym ly)))))))
    (lt-or_ge (distance y c) (distance y d))

pub changed-cells : ChangedCells
changed-cells n r b h M y c hr hn ly hy hh hM N = near-changed n r b h M y hr hn ly hy hh hM c N

pub located_test : LocatedTest
unfolding is_located
located_test M h n s = (
  λ t. let q : (leb (massey M s).size h ≡ true) × (eqb (length (locations M n s)) (massey M s).size ≡ true) =
      both_true (leb (massey M s).size h) (eqb (length (locations M n s)) (massey M s).size) t in
      (leb-true (massey M s).size h q.0, eqb-true (length (locations M n s)) (massey M s).size q.1),
  λ g. rw (le-leb (massey M s).size h g.0, eq-eqb (length (locations M n s)) (massey M s).size g.1) refl,
)

pub candidate-filled : (b r M : ℕ) (y : List ℕ) → candidate b r M y ≡ filled_word b r (locations M (length y) (syndromes b r y)) y
unfolding candidate
candidate-filled b r M y = refl
