-- The value at a place by Forney's formula, why a word that is wrong at the places only is what the formula gives, and why the word that
-- the formula gives has as many right syndromes as there are places.
use mathlib.Core.Path.{◌≡◌, refl, sym, ap, ap₂, ◌∙◌}
use mathlib.Core.Logic.{◌≢◌, ⊎_elim}
use mathlib.Core.Bool.{true, false}
use mathlib.Core.List.{List, [], ◌∷◌, map}
use Prim.Native.Nat.{ℕ, zero, suc, ◌+◌, ◌≤◌, ◌<◌, suc-le-suc}
use native.Mathlib.Nat.{not-suc-le-zero, suc_inj, le_of_suc-le-suc, add-zero, eq-or-lt_of_le}
use native.Mathlib.Omega.{arith}
use lib.ListN.{length, get_or, length-map, get_or-eq_default}
use Rattle.lists.proofs.Test.{true_or_false, lt-or_ge}
use Rattle.field.specs.Field.{add, mul, power, alpha, inverse}
use Rattle.field.proofs.Sum.{add_self, add-eq, add_zero_l, add_zero_r}
use Rattle.field.proofs.Product.{mul-lt, mul_assoc, mul-zero, zero-mul, one-mul}
use Rattle.field.proofs.Power.{power-lt, alpha-ne-zero, power-ne-zero, mul-inverse, inverse_cancel, mul-eq-zero, mul-ne-zero}
use Rattle.lists.specs.Bytes.{Bytes}
use Rattle.code.specs.Poly.{eval, padd, pscale}
use Rattle.code.specs.Code.{syndrome}
use Rattle.code.specs.Run.{tail}
use Rattle.lists.proofs.Bytes.{get_or_byte}
use Rattle.code.proofs.Poly.{eval-lt, get_or_padd, get_or_pscale, padd-bytes, tail-bytes}
use Rattle.code.proofs.Distance.{Zero}
use Rattle.products.specs.Products.{listed, dot}
use Rattle.products.proofs.Values.{listed-length, listed_at}
use Rattle.erasure.specs.Filling.{rooted_at, windows, evaluator, derivative, quotient_at, value_at}
use Rattle.erasure.specs.Erasure.{among, DistinctPlaces, syndromes, rooted, error_cell, error_word}
use Rattle.erasure.proofs.Roots.{among_below, ends, ends-length, ends_root, ends-derivative, root_bound, rooted-bytes, rooted-length, rest-length, rooted_root, derivative-lt, simple}
use Rattle.erasure.proofs.Dot.{dot-lt, dot-padd}
use Rattle.erasure.proofs.Weigh.{Syn, picked, eval-windows}

-- all that is wrong stands at the places
abbrev pub Within : List ℕ → List ℕ → Type 0
Within E e = (k : ℕ) → among k E ≡ false → get_or e k 0 ≡ 0

-- ---- lists of values

pub listed_cell : (f : ℕ → ℕ) (n i : ℕ) → i < n → get_or (listed f n 0) i 0 ≡ f i
listed_cell f n i h = let e : 0 + i ≡ i = omega arith in listed_at f n 0 i h ∙ ap f e

listed_ext : (f : ℕ → ℕ) (e : List ℕ) (k : ℕ) → ((i : ℕ) → i < length e → get_or e i 0 ≡ f (k + i)) → e ≡ listed f (length e) k
unfolding listed
listed_ext f [] k h = refl
listed_ext f (x ∷ e) k h =
    ap₂ (λ (u : ℕ) (v : List ℕ). u ∷ v) (h 0 (omega arith) ∙ ap f (add-zero k))
    (listed_ext f e (suc k) (λ i hi. let q : k + suc i ≡ suc k + i = omega arith in h (suc i) (suc-le-suc hi) ∙ ap f q))

pub listed-bytes : (f : ℕ → ℕ) (n k : ℕ) → ((i : ℕ) → f i < 256) → Bytes (listed f n k)
unfolding listed
listed-bytes f zero k h = tt
listed-bytes f (suc n) k h = (h k, listed-bytes f n (suc k) h)

pub listed_same : (f g : ℕ → ℕ) (n k : ℕ) → ((i : ℕ) → k ≤ i → i < k + n → f i ≡ g i) → listed f n k ≡ listed g n k
unfolding listed
listed_same f g zero k h = refl
listed_same f g (suc n) k h =
    ap₂ (λ (u : ℕ) (v : List ℕ). u ∷ v) (h k (omega arith) (omega arith)) (listed_same f g n (suc k) (λ i a m. h i (omega arith) (omega arith)))

syn-from : (b n k : ℕ) (y e : List ℕ) → ((i : ℕ) → k ≤ i → i < k + n → syndrome b i y ≡ syndrome b i e) → Syn b k (listed (λ i. syndrome b i y) n k) e
unfolding listed
syn-from b zero k y e h = tt
syn-from b (suc n) k y e h = (h k (omega arith) (omega arith), syn-from b n (suc k) y e (λ i a m. h i (omega arith) (omega arith)))

pub syn_of : (b r : ℕ) (y e : List ℕ) → ((i : ℕ) → i < r → syndrome b i y ≡ syndrome b i e) → Syn b 0 (syndromes b r y) e
unfolding syndromes
syn_of b r y e h = syn-from b r 0 y e (λ i a m. h i (omega arith))

pub syndromes-length : (b r : ℕ) (y : List ℕ) → length (syndromes b r y) ≡ r
unfolding syndromes
syndromes-length b r y = listed-length (λ i. syndrome b i y) r 0

pub syndromes-at : (b r : ℕ) (y : List ℕ) (i : ℕ) → i < r → get_or (syndromes b r y) i 0 ≡ syndrome b i y
unfolding syndromes
syndromes-at b r y i h = listed_cell (λ i. syndrome b i y) r i h

pub syndromes-bytes : (b r : ℕ) (y : List ℕ) → Bytes y → Bytes (syndromes b r y)
unfolding syndromes
syndromes-bytes b r y h = listed-bytes (λ i. syndrome b i y) r 0 (λ i. eval-lt y (alpha (b + i)) h)

-- ---- Forney's formula

-- what the value is divided by
divisor : ℕ → List ℕ → ℕ → ℕ
divisor b P m = mul (power (alpha m) b) (eval (derivative P) (alpha m))

divisor_ne-zero : (n b : ℕ) (E : List ℕ) (m : ℕ) → n ≤ 255 → DistinctPlaces n E → among m E ≡ true → divisor b (rooted E) m ≢ 0
unfolding divisor
divisor_ne-zero n b E m hn p t =
    mul-ne-zero (power (alpha m) b) (eval (derivative (rooted E)) (alpha m)) (power-lt (alpha m) b) (power-ne-zero (alpha m) b (power-lt 2 m) (alpha-ne-zero m))
    (derivative-lt (rooted E) (alpha m) (rooted-bytes E)) (simple n E m hn p t)

forney : (n b : ℕ) (E s e : List ℕ) (m : ℕ) → n ≤ 255 → DistinctPlaces n E → Bytes e → Within E e → Syn b 0 s e → length E ≤ length s → among m E ≡ true
    → eval (evaluator (rooted E) s) (alpha m) ≡ mul (divisor b (rooted E) m) (get_or e m 0)
unfolding evaluator divisor
forney n b E s e m hn p he w h l t =
    let P : List ℕ = rooted E in
    let a : ℕ = alpha m in
    let L : List ℕ = ends a (tail P) in
    let m255 : m < 255 = let q : m < n = among_below n E m p t in omega arith in
    eval-windows (tail P) s a
    ∙ picked b m L s e he (omega (arith, ends-length a (tail P), rest-length E)) h
    (λ k ne. ⊎_elim
    (λ q. let k255 : k < 255 = let g : k < n = among_below n E k p q in omega arith in
    ap (mul (get_or e k 0)) (ends_root P k m k255 m255 ne (tail-bytes P (rooted-bytes E)) (rooted_root E k q) (rooted_root E m t)) ∙ mul-zero (get_or e k 0))
    (λ q. ap (λ (v : ℕ). mul v (eval L (alpha k))) (w k q) ∙ zero-mul (eval L (alpha k)))
    (true_or_false (among k E)))
    ∙ ap (λ (v : ℕ). mul (mul (power a b) v) (get_or e m 0)) (ends-derivative P a)

pub value_right : (n b : ℕ) (E s e : List ℕ) (m : ℕ) → n ≤ 255 → DistinctPlaces n E → Bytes e → Within E e → Syn b 0 s e → length E ≤ length s → among m E ≡ true
    → value_at b (rooted E) s (alpha m) ≡ get_or e m 0
unfolding value_at quotient_at divisor
value_right n b E s e m hn p he w h l t =
    let d : ℕ = divisor b (rooted E) m in
    ap (mul (inverse d)) (forney n b E s e m hn p he w h l t)
    ∙ inverse_cancel d (get_or e m 0) (mul-lt (power (alpha m) b) (eval (derivative (rooted E)) (alpha m))) (divisor_ne-zero n b E m hn p t) (get_or_byte e m he)

-- ---- the added cells

value-lt : (b : ℕ) (P s : List ℕ) (X : ℕ) → value_at b P s X < 256
unfolding value_at quotient_at
value-lt b P s X = mul-lt (inverse (mul (power X b) (eval (derivative P) X))) (eval (evaluator P s) X)

cell_lt : (b : ℕ) (E s : List ℕ) (k : ℕ) → error_cell b E s k < 256
unfolding error_cell
cell_lt b E s k = ⊎_elim (λ t. rw t (value-lt b (rooted E) s (alpha k))) (λ t. let z : 0 < 256 = omega arith in rw t z) (true_or_false (among k E))

cell_off : (b : ℕ) (E s : List ℕ) (k : ℕ) → among k E ≡ false → error_cell b E s k ≡ 0
unfolding error_cell
cell_off b E s k t = rw t refl

cell_on : (b : ℕ) (E s : List ℕ) (k : ℕ) → among k E ≡ true → error_cell b E s k ≡ value_at b (rooted E) s (alpha k)
unfolding error_cell
cell_on b E s k t = rw t refl

pub error-length : (n b : ℕ) (E s : List ℕ) → length (error_word n b E s) ≡ n
unfolding error_word
error-length n b E s = listed-length (error_cell b E s) n 0

pub error-bytes : (n b : ℕ) (E s : List ℕ) → Bytes (error_word n b E s)
unfolding error_word
error-bytes n b E s = listed-bytes (error_cell b E s) n 0 (cell_lt b E s)

pub error-at : (n b : ℕ) (E s : List ℕ) (k : ℕ) → k < n → get_or (error_word n b E s) k 0 ≡ error_cell b E s k
unfolding error_word
error-at n b E s k h = listed_cell (error_cell b E s) n k h

pub error-within : (n b : ℕ) (E s : List ℕ) → Within E (error_word n b E s)
error-within n b E s k t =
    ⊎_elim (λ h. error-at n b E s k h ∙ cell_off b E s k t) (λ h. get_or-eq_default (error_word n b E s) 0 (omega (arith, error-length n b E s))) (lt-or_ge k n)

-- a word that is wrong at the places only is what its syndromes say
pub error_right : (n b : ℕ) (E s e : List ℕ) → n ≤ 255 → DistinctPlaces n E → length e ≡ n → Bytes e → Within E e → Syn b 0 s e → length E ≤ length s → e ≡ error_word n b E s
unfolding error_word
error_right n b E s e hn p le he w h l =
    listed_ext (error_cell b E s) e 0
    (λ i hi. let q : i ≡ 0 + i = omega arith in
    ⊎_elim (λ t. sym (cell_on b E s i t ∙ value_right n b E s e i hn p he w h l t)) (λ t. w i t ∙ sym (cell_off b E s i t)) (true_or_false (among i E)) ∙ ap (error_cell b E s) q)
    ∙ ap (λ (k : ℕ). listed (error_cell b E s) k 0) le

-- ---- as many syndromes as there are places are right

windows-bytes : (l s : List ℕ) → Bytes (windows l s)
unfolding windows
windows-bytes [] s = tt
windows-bytes (y ∷ l) s = (dot-lt (y ∷ l) s, windows-bytes l s)

evaluator-lt : (P s : List ℕ) (z : ℕ) → eval (evaluator P s) z < 256
unfolding evaluator
evaluator-lt P s z = eval-lt (windows (tail P) s) z (windows-bytes (tail P) s)

pub windows-length : (l s : List ℕ) → length (windows l s) ≡ length l
unfolding windows
windows-length [] s = refl
windows-length (y ∷ l) s = ap suc (windows-length l s)

dot-last : (m : ℕ) (l s : List ℕ) → length l ≡ suc m → ((i : ℕ) → i < m → get_or s i 0 ≡ 0) → dot l s ≡ mul (get_or l m 0) (get_or s m 0)
unfolding dot
dot-last m [] s e h = absurd (omega arith)
dot-last m (x ∷ l) [] e h = sym (mul-zero (get_or (x ∷ l) m 0))
dot-last zero (x ∷ []) (y ∷ s) e h = add_zero_r (mul x y)
dot-last zero (x ∷ z ∷ l) (y ∷ s) e h = absurd (omega arith)
dot-last (suc m) (x ∷ l) (y ∷ s) e h =
    ap₂ (λ (u v : ℕ). add (mul x u) v) (h 0 (omega arith)) (dot-last m l s (suc_inj e) (λ i hi. h (suc i) (suc-le-suc hi)))
    ∙ ap (λ (v : ℕ). add v (mul (get_or l m 0) (get_or s m 0))) (mul-zero x) ∙ add_zero_l (mul (get_or l m 0) (get_or s m 0))

-- no window is other than zero: then the syndromes are zero one after the other
windows-zero : (l s : List ℕ) → Bytes l → Bytes s → ((k : ℕ) → suc k ≡ length l → get_or l k 0 ≢ 0) → Zero (windows l s) → (i : ℕ) → i < length l → get_or s i 0 ≡ 0
unfolding windows
windows-zero [] s hl hs top z i h = absurd (not-suc-le-zero h)
windows-zero (y ∷ l) s hl hs top z i h =
    let rest : (k : ℕ) → k < length l → get_or s k 0 ≡ 0 = windows-zero l s hl.1 hs (λ k e. top (suc k) (ap suc e)) z.1 in
    let m : ℕ = length l in
    ⊎_elim
    (λ e. ap (λ (k : ℕ). get_or s k 0) e
    ∙ mul-eq-zero (get_or (y ∷ l) m 0) (get_or s m 0) (get_or_byte (y ∷ l) m hl) (top m refl) (get_or_byte s m hs) (sym (dot-last m (y ∷ l) s refl rest) ∙ z.0))
    (λ g. rest i g) (eq-or-lt_of_le (le_of_suc-le-suc h))

rooted_top : (Xs : List ℕ) → get_or (rooted_at Xs) (length Xs) 0 ≡ 1
unfolding rooted_at
rooted_top [] = refl
rooted_top (X ∷ Xs) =
    get_or_padd (pscale X (rooted_at Xs)) (0 ∷ rooted_at Xs) (suc (length Xs))
    ∙ ap₂ add (get_or_pscale X (rooted_at Xs) (suc (length Xs)) ∙ ap (mul X) (get_or-eq_default (rooted_at Xs) 0 (omega (arith, rooted-length Xs))) ∙ mul-zero X) (rooted_top Xs)
    ∙ add_zero_l 1

tail_at : (s : List ℕ) (i : ℕ) → get_or (tail s) i 0 ≡ get_or s (suc i) 0
tail_at [] i = refl
tail_at (x ∷ s) i = refl

module _ (n b : ℕ) (E s : List ℕ) (hn : n ≤ 255) (p : DistinctPlaces n E) (hs : Bytes s) (l : length E ≤ length s) where
  abbrev e : List ℕ
  e = error_word n b E s

  -- its own syndromes
  abbrev t : List ℕ
  t = syndromes b (length s) e

  same-value : (m : ℕ) → among m E ≡ true → eval (evaluator (rooted E) t) (alpha m) ≡ eval (evaluator (rooted E) s) (alpha m)
  unfolding value_at quotient_at divisor
  same-value m a =
      let d : ℕ = divisor b (rooted E) m in
      let w : ℕ = eval (evaluator (rooted E) s) (alpha m) in
      let hd : d < 256 = mul-lt (power (alpha m) b) (eval (derivative (rooted E)) (alpha m)) in
      forney n b E t e m hn p (error-bytes n b E s) (error-within n b E s) (syn_of b (length s) e e (λ i hi. refl)) (omega (arith, syndromes-length b (length s) e)) a
      ∙ ap (mul d) (error-at n b E s m (among_below n E m p a) ∙ cell_on b E s m a)
      ∙ sym (mul_assoc d (inverse d) w) ∙ ap (λ (v : ℕ). mul v w) (mul-inverse d hd (divisor_ne-zero n b E m hn p a)) ∙ one-mul w (evaluator-lt (rooted E) s (alpha m))

  pub error-first : (i : ℕ) → i < length E → syndrome b i e ≡ get_or s i 0
  unfolding evaluator
  error-first i hi =
      let P : List ℕ = tail (rooted E) in
      let d : List ℕ = padd s t in
      let lt : length t ≡ length s = syndromes-length b (length s) e in
      let lP : length P ≡ length E = rest-length E in
      let ht : Bytes t = syndromes-bytes b (length s) e (error-bytes n b E s) in
      let z : Zero (windows P d) = root_bound n E (windows P d) hn p (windows-bytes P d)
      (λ m a. eval-windows P d (alpha m) ∙ dot-padd (ends (alpha m) P) s t
      ∙ ap₂ add (sym (eval-windows P s (alpha m))) (sym (eval-windows P t (alpha m)) ∙ same-value m a) ∙ add_self (eval (windows P s) (alpha m)))
      (omega (arith, windows-length P d)) in
      let zi : get_or d i 0 ≡ 0 = windows-zero P d (tail-bytes (rooted E) (rooted-bytes E)) (padd-bytes s t hs ht)
      (λ k q o. let one : ◌≡◌ {A = ℕ} 1 0 = sym (tail_at (rooted E) k ∙ ap (λ (v : ℕ). get_or (rooted E) v 0) (q ∙ lP ∙ sym (length-map E alpha)) ∙ rooted_top (map alpha E)) ∙ o in omega arith) z i (omega arith) in
      sym (add-eq (get_or s i 0) (get_or t i 0) (sym (get_or_padd s t i) ∙ zi) ∙ syndromes-at b (length s) e i (omega arith))
