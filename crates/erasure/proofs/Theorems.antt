-- The theorems on the filled word. The word read and a codeword that fills it differ at the places only, so Forney's formula gives their difference
-- from its syndromes.
use mathlib.Core.Path.{◌≡◌, refl, sym, ap, ap₂, ◌∙◌, subst}
use mathlib.Core.Logic.{⊎_elim}
use mathlib.Core.Bool.{false}
use mathlib.Core.List.{List, [], ◌∷◌}
use Prim.Native.Nat.{ℕ, ◌+◌, ◌≤◌, ◌<◌}
use native.Mathlib.Nat.{suc_inj}
use native.Mathlib.Omega.{arith}
use lib.ListN.{length, get_or, get_or-eq_default}
use Rattle.lists.proofs.Test.{lt-or_ge}
use Rattle.field.specs.Field.{add, alpha}
use Rattle.field.proofs.Sum.{add_self, add_zero_r, add_cancel}
use Rattle.lists.specs.Bytes.{Bytes}
use Rattle.code.specs.Poly.{padd}
use Rattle.code.specs.Code.{Codeword, generator, remainder, syndrome}
use Rattle.code.proofs.Poly.{eval-padd, get_or_padd, padd-length, padd-bytes}
use Rattle.code.proofs.Division.{codeword-syndromes, syndromes-codeword, remainder-syndrome}
use Rattle.erasure.specs.Erasure.{among, DistinctPlaces, Fills, syndromes, error_word, filled_word}
use Rattle.erasure.specs.Theorems.{FillExact, FillRemainder}
use Rattle.erasure.proofs.Fill.{Within, syn_of, syndromes-length, syndromes-at, syndromes-bytes, listed_same, error-length, error-bytes, error-within, error_right, error-first}

padd_twice : (y c : List ℕ) → length c ≡ length y → padd y (padd y c) ≡ c
unfolding padd
padd_twice [] [] l = refl
padd_twice [] (z ∷ c) l = refl
padd_twice (x ∷ y) [] l = absurd (omega arith)
padd_twice (x ∷ y) (z ∷ c) l = ap₂ (λ (u : ℕ) (v : List ℕ). u ∷ v) (add_cancel x z) (padd_twice y c (suc_inj l))

-- the difference from a codeword has the word's syndromes
pub difference_syndrome : (n r b : ℕ) (y c : List ℕ) → Codeword n r b c → (i : ℕ) → i < r → syndrome b i y ≡ syndrome b i (padd y c)
difference_syndrome n r b y c k i h =
    sym (eval-padd y c (alpha (b + i)) ∙ ap (add (syndrome b i y)) (codeword-syndromes n r b c k i h) ∙ add_zero_r (syndrome b i y))

-- two words of one length that agree but for the places
pub difference_within : (n : ℕ) (E y c : List ℕ) → length y ≡ n → length c ≡ n → ((k : ℕ) → k < n → among k E ≡ false → get_or y k 0 ≡ get_or c k 0) → Within E (padd y c)
difference_within n E y c ly lc h k t =
    get_or_padd y c k
    ∙ ⊎_elim (λ l. ap (λ (v : ℕ). add v (get_or c k 0)) (h k l t) ∙ add_self (get_or c k 0))
    (λ l. ap₂ add (get_or-eq_default y 0 (omega arith)) (get_or-eq_default c 0 (omega arith)) ∙ add_self 0) (lt-or_ge k n)

module _ (n r b : ℕ) (E y : List ℕ) (hr : r < n) (hn : n ≤ 255) (ly : length y ≡ n) (hy : Bytes y) (p : DistinctPlaces n E) (l : length E ≤ r) where
  abbrev s : List ℕ
  s = syndromes b r y

  filled_is : filled_word b r E y ≡ padd y (error_word n b E s)
  unfolding filled_word
  filled_is = ap (λ (k : ℕ). padd y (error_word k b E s)) ly

  pub filled-length : length (filled_word b r E y) ≡ n
  filled-length = ap length filled_is ∙ padd-length y (error_word n b E s) (omega (arith, error-length n b E s)) ∙ ly

  pub filled-bytes : Bytes (filled_word b r E y)
  filled-bytes = subst Bytes (sym filled_is) (padd-bytes y (error_word n b E s) hy (error-bytes n b E s))

  filled-agree : (k : ℕ) → among k E ≡ false → get_or y k 0 ≡ get_or (filled_word b r E y) k 0
  filled-agree k t =
      sym (ap (λ (c : List ℕ). get_or c k 0) filled_is ∙ get_or_padd y (error_word n b E s) k
      ∙ ap (add (get_or y k 0)) (error-within n b E s k t) ∙ add_zero_r (get_or y k 0))

  filled-syndrome : (i : ℕ) → syndrome b i (filled_word b r E y) ≡ add (syndrome b i y) (syndrome b i (error_word n b E s))
  filled-syndrome i = ap (λ (c : List ℕ). syndrome b i c) filled_is ∙ eval-padd y (error_word n b E s) (alpha (b + i))

  -- the only candidate
  pub fills_is : (c : List ℕ) → Fills n r b E y c → c ≡ filled_word b r E y
  fills_is c F =
      let lc : length c ≡ n = F.codeword.cells in
      let e : List ℕ = padd y c in
      let q : e ≡ error_word n b E s = error_right n b E s e hn p (padd-length y c (omega arith) ∙ ly) (padd-bytes y c hy F.codeword.bytes)
      (difference_within n E y c ly lc F.agree) (syn_of b r y e (difference_syndrome n r b y c F.codeword)) (omega (arith, syndromes-length b r y)) in
      sym (padd_twice y c (lc ∙ sym ly)) ∙ ap (padd y) q ∙ sym filled_is

  pub fills_there : (c : List ℕ) → Fills n r b E y c → (c ≡ filled_word b r E y) × Codeword n r b (filled_word b r E y)
  fills_there c F = (fills_is c F, subst (Codeword n r b) (fills_is c F) F.codeword)

  pub fills_back : (c : List ℕ) → (c ≡ filled_word b r E y) × Codeword n r b (filled_word b r E y) → Fills n r b E y c
  fills_back c h = subst (Fills n r b E y) (sym h.0) (record { codeword = h.1; agree = λ k m t. filled-agree k t })

  -- the added cells have the syndromes of y; as many of them as there are places hold always, so the others decide
  pub passed : ((i : ℕ) → length E ≤ i → i < r → syndrome b i (error_word n b E s) ≡ syndrome b i y) → Codeword n r b (filled_word b r E y)
  passed t =
      syndromes-codeword n r b (filled_word b r E y) hr (omega arith) filled-length filled-bytes
      (λ i h. filled-syndrome i ∙ ap (add (syndrome b i y))
      (⊎_elim
      (λ g. error-first n b E s hn p (syndromes-bytes b r y hy) (omega (arith, syndromes-length b r y)) i g ∙ syndromes-at b r y i h)
      (λ g. t i g h) (lt-or_ge i (length E))) ∙ add_self (syndrome b i y))

pub fill_exact : FillExact
fill_exact n r b E y c hr hn ly hy p l = (fills_there n r b E y hr hn ly hy p l c, fills_back n r b E y hr hn ly hy p l c)

pub fill_remainder : FillRemainder
unfolding syndromes
fill_remainder r b y hy =
    listed_same (λ i. syndrome b i (remainder r (generator b r) y)) (λ i. syndrome b i y) r 0 (λ i a h. remainder-syndrome r b i y (omega arith) hy)
