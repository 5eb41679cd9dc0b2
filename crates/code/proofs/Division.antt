-- Division by a monic polynomial, with exact lengths, and what it says of codewords: n byte cells are a multiple of the generator by
-- n − r cells exactly if their syndromes are zero. The remainder has the word's syndromes; if those are zero, it is zero by distance.
use mathlib.Core.Path.{◌≡◌, refl, sym, ap, ap₂, ◌∙◌}
use mathlib.Core.Logic.{⊎_elim}
use mathlib.Core.List.{List, [], ◌∷◌}
use Prim.Native.Nat.{ℕ, zero, suc, ◌+◌, ◌-◌, ◌≤◌, ◌<◌}
use native.Mathlib.Nat.{le_of_suc-le-suc, eq-or-lt_of_le}
use native.Mathlib.Omega.{arith}
use lib.ListN.{length, get_or, take, replicate, length-replicate, get_or-eq_default}
use lib.Seq.{length-take-le, get_or-take, ext_get_or}
use Rattle.lists.proofs.Test.{lt-or_ge}
use Rattle.field.specs.Field.{add, mul, alpha}
use Rattle.field.proofs.Sum.{add_self, add_zero_l, add_zero_r}
use Rattle.field.proofs.Product.{mul-zero, zero-mul, mul-one, ring}
use Rattle.lists.specs.Bytes.{Bytes}
use Rattle.code.specs.Poly.{eval, padd, pscale, pmul}
use Rattle.code.specs.Code.{generator, syndrome, Codeword, rem_step, remainder}
use Rattle.code.specs.Theorems.{Syndromes-zero}
use Rattle.lists.proofs.Bytes.{get_or_byte, take-bytes, zeros-bytes}
use Rattle.code.proofs.Poly.{get_or_padd, get_or_pscale, get_or_zeros, padd-length, padd-bytes, pscale-length, pscale-bytes, pmul-length, eval-padd, eval-pscale, eval-pmul, eval-same}
use Rattle.code.proofs.Generator.{generator-length, generator_monic, generator_root}
use Rattle.code.proofs.Distance.{Zero, zero-at, few_cells, weight-le}

-- the feedback cells of the first k steps: the quotient of k + r cells
unfoldable pub quotient : ℕ → List ℕ → ℕ → List ℕ → List ℕ
quotient r g zero c = []
quotient r g (suc k) [] = []
quotient r g (suc k) (x ∷ c) = get_or (x ∷ remainder r g c) r 0 ∷ quotient r g k c

pub quotient-length : (r : ℕ) (g : List ℕ) (k : ℕ) (c : List ℕ) → k ≤ length c → length (quotient r g k c) ≡ k
unfolding quotient
quotient-length r g zero c h = refl
quotient-length r g (suc k) [] h = absurd (omega arith)
quotient-length r g (suc k) (x ∷ c) h = ap suc (quotient-length r g k c (le_of_suc-le-suc h))

module _ (r : ℕ) (g : List ℕ) (len : length g ≡ suc r) (monic : get_or g r 0 ≡ 1) where
  -- by whatever multiple of g
  cut_length : (f x : ℕ) (R : List ℕ) → length R ≡ r → length (take r (padd (x ∷ R) (pscale f g))) ≡ r
  cut_length f x R h = length-take-le r (padd (x ∷ R) (pscale f g)) (omega (arith, padd-length (x ∷ R) (pscale f g) (omega (arith, pscale-length f g))))

  cut_bytes : (f x : ℕ) (R : List ℕ) → x < 256 → Bytes R → Bytes (take r (padd (x ∷ R) (pscale f g)))
  cut_bytes f x R hx hR = take-bytes r (padd (x ∷ R) (pscale f g)) (padd-bytes (x ∷ R) (pscale f g) (hx, hR) (pscale-bytes f g))

  pub step-length : (x : ℕ) (R : List ℕ) → length R ≡ r → length (rem_step r g x R) ≡ r
  unfolding rem_step
  step-length x R h = cut_length _ x R h

  pub step-bytes : (x : ℕ) (R : List ℕ) → x < 256 → Bytes R → Bytes (rem_step r g x R)
  unfolding rem_step
  step-bytes x R hx hR = cut_bytes _ x R hx hR

  pub rem_length : (c : List ℕ) → length (remainder r g c) ≡ r
  unfolding remainder
  rem_length [] = length-replicate r 0
  rem_length (x ∷ c) = step-length x (remainder r g c) (rem_length c)

  pub rem_bytes : (c : List ℕ) → Bytes c → Bytes (remainder r g c)
  unfolding remainder
  rem_bytes [] h = zeros-bytes r
  rem_bytes (x ∷ c) h = step-bytes x (remainder r g c) h.0 (rem_bytes c h.1)

  -- a step adds f g, and the cell at r is then zero
  pub step_cell : (x : ℕ) (R : List ℕ) → length R ≡ r → x < 256 → Bytes R → (k : ℕ)
      → get_or (rem_step r g x R) k 0 ≡ add (get_or (x ∷ R) k 0) (mul (get_or (x ∷ R) r 0) (get_or g k 0))
  unfolding rem_step
  step_cell x R hl hx hR k =
      let f : ℕ = get_or (x ∷ R) r 0 in
      let p : List ℕ = padd (x ∷ R) (pscale f g) in
      let lp : length p ≡ suc r = padd-length (x ∷ R) (pscale f g) (omega (arith, pscale-length f g)) ∙ ap suc hl in
      let at : get_or p k 0 ≡ add (get_or (x ∷ R) k 0) (mul f (get_or g k 0)) = get_or_padd (x ∷ R) (pscale f g) k ∙ ap (add (get_or (x ∷ R) k 0)) (get_or_pscale f g k) in
      ⊎_elim (λ l. get_or-take r p k 0 l ∙ at)
      (λ l.
      get_or-eq_default (take r p) 0 (omega (arith, length-take-le r p (omega arith)))
      ∙ ⊎_elim
      (λ e. sym (ap (λ (j : ℕ). add (get_or (x ∷ R) j 0) (mul f (get_or g j 0))) (sym e)
      ∙ ap (λ (v : ℕ). add f (mul f v)) monic ∙ ap (add f) (mul-one f (get_or_byte (x ∷ R) r (hx, hR))) ∙ add_self f))
      (λ m. sym (sym at ∙ get_or-eq_default p 0 (omega arith)))
      (eq-or-lt_of_le l))
      (lt-or_ge k r)

  -- at a root of g a step is x + z R
  pub eval-rem_step : (x : ℕ) (R : List ℕ) (z : ℕ) → length R ≡ r → x < 256 → Bytes R → eval g z ≡ 0 → eval (rem_step r g x R) z ≡ eval (x ∷ R) z
  eval-rem_step x R z l hx hR e =
      let f : ℕ = get_or (x ∷ R) r 0 in
      eval-same (rem_step r g x R) (padd (x ∷ R) (pscale f g)) z
      (λ k. step_cell x R l hx hR k ∙ sym (get_or_padd (x ∷ R) (pscale f g) k ∙ ap (add (get_or (x ∷ R) k 0)) (get_or_pscale f g k)))
      ∙ eval-padd (x ∷ R) (pscale f g) z
      ∙ ap (add (eval (x ∷ R) z)) (eval-pscale f g z ∙ ap (mul f) e ∙ mul-zero f)
      ∙ add_zero_r (eval (x ∷ R) z)

  -- so the remainder has the word's value there
  pub eval_rem : (c : List ℕ) (z : ℕ) → Bytes c → eval g z ≡ 0 → eval (remainder r g c) z ≡ eval c z
  unfolding remainder eval
  eval_rem [] z h e = eval-same (replicate r 0) [] z (λ k. get_or_zeros r k)
  eval_rem (x ∷ c) z h e =
      eval-rem_step x (remainder r g c) z (rem_length c) h.0 (rem_bytes c h.1) e
      ∙ ap (λ (v : ℕ). add x (mul z v)) (eval_rem c z h.1 e)

  -- at most r cells are their own remainder
  rem_short : (c : List ℕ) → length c ≤ r → Bytes c → (k : ℕ) → get_or (remainder r g c) k 0 ≡ get_or c k 0
  unfolding remainder
  rem_short [] l h k = get_or_zeros r k
  rem_short (x ∷ c) l h k =
      let R : List ℕ = remainder r g c in
      let ih : (j : ℕ) → get_or R j 0 ≡ get_or c j 0 = rem_short c (omega arith) h.1 in
      step_cell x R (rem_length c) h.0 (rem_bytes c h.1) k
      ∙ ap (λ (v : ℕ). add (get_or (x ∷ R) k 0) (mul v (get_or g k 0))) (above r (omega arith) R ih)
      ∙ ap (add (get_or (x ∷ R) k 0)) (zero-mul (get_or g k 0))
      ∙ add_zero_r (get_or (x ∷ R) k 0)
      ∙ same k R ih
    where
      above : (n : ℕ) → length c < n → (R : List ℕ) → ((j : ℕ) → get_or R j 0 ≡ get_or c j 0) → get_or (x ∷ R) n 0 ≡ 0
      above zero m R e = absurd (omega arith)
      above (suc n) m R e = e n ∙ get_or-eq_default c 0 (omega arith)

      same : (j : ℕ) (R : List ℕ) → ((i : ℕ) → get_or R i 0 ≡ get_or c i 0) → get_or (x ∷ R) j 0 ≡ get_or (x ∷ c) j 0
      same zero R e = refl
      same (suc j) R e = e j

  -- every word is its quotient times g, plus its remainder, cell by cell
  divided-cells : (k : ℕ) (c : List ℕ) → length c ≡ k + r → Bytes c → (j : ℕ)
      → get_or c j 0 ≡ add (get_or (pmul g (quotient r g k c)) j 0) (get_or (remainder r g c) j 0)
  unfolding quotient pmul remainder
  divided-cells zero c l h j = sym (rem_short c (omega arith) h j) ∙ sym (add_zero_l (get_or (remainder r g c) j 0))
  divided-cells (suc k) [] l h j = absurd (omega arith)
  divided-cells (suc k) (x ∷ c) l h j =
      let R : List ℕ = remainder r g c in
      let f : ℕ = get_or (x ∷ R) r 0 in
      let P : List ℕ = pmul g (quotient r g k c) in
      front j (divided-cells k c (omega arith) h.1)
      ∙ sym (ap₂ add (get_or_padd (pscale f g) (0 ∷ P) j ∙ ap (λ (v : ℕ). add v (get_or (0 ∷ P) j 0)) (get_or_pscale f g j))
      (step_cell x R (rem_length c) h.0 (rem_bytes c h.1) j)
      ∙ simp ring)
    where
      front : (i : ℕ) → ((m : ℕ) → get_or c m 0 ≡ add (get_or (pmul g (quotient r g k c)) m 0) (get_or (remainder r g c) m 0))
          → get_or (x ∷ c) i 0 ≡ add (get_or (0 ∷ pmul g (quotient r g k c)) i 0) (get_or (x ∷ remainder r g c) i 0)
      front zero e = sym (add_zero_l x)
      front (suc i) e = e i

  -- and as a list, where the quotient has a cell
  pub divided : (k : ℕ) (c : List ℕ) → 0 < k → length c ≡ k + r → Bytes c → c ≡ padd (pmul g (quotient r g k c)) (remainder r g c)
  divided k c pos l h =
      let q : List ℕ = quotient r g k c in
      let lq : length q ≡ k = quotient-length r g k c (omega arith) in
      let lp : length (pmul g q) ≡ r + length q = pmul-length g q r len (omega arith) in
      ext_get_or 0 c (padd (pmul g q) (remainder r g c))
      (sym (padd-length (pmul g q) (remainder r g c) (omega (arith, rem_length c)) ∙ lp ∙ omega arith))
      (λ j m. divided-cells k c l h j ∙ sym (get_or_padd (pmul g q) (remainder r g c) j))

-- ---- by the generator

module _ (r b : ℕ) where
  pub remainder-length : (c : List ℕ) → length (remainder r (generator b r) c) ≡ r
  remainder-length c = rem_length r (generator b r) (generator-length b r) (generator_monic b r) c

  pub remainder-bytes : (c : List ℕ) → Bytes c → Bytes (remainder r (generator b r) c)
  remainder-bytes c h = rem_bytes r (generator b r) (generator-length b r) (generator_monic b r) c h

  pub remainder-syndrome : (i : ℕ) (c : List ℕ) → i < r → Bytes c → syndrome b i (remainder r (generator b r) c) ≡ syndrome b i c
  remainder-syndrome i c hi h = eval_rem r (generator b r) (generator-length b r) (generator_monic b r) c (alpha (b + i)) h (generator_root b r i hi)

  -- the remainder is zero where the syndromes are
  pub remainder-zero : (c : List ℕ) → r ≤ 255 → Bytes c → Syndromes-zero b r c → Zero (remainder r (generator b r) c)
  remainder-zero c hr h hs =
      let R : List ℕ = remainder r (generator b r) c in
      few_cells r b R (remainder-bytes c h) (omega (arith, remainder-length c)) (omega (arith, weight-le R, remainder-length c))
      (λ i hi. remainder-syndrome i c hi h ∙ hs i hi)

  pub generator_divides : (n : ℕ) (c : List ℕ) → r < n → length c ≡ n → Bytes c
      → c ≡ padd (pmul (generator b r) (quotient r (generator b r) (n - r) c)) (remainder r (generator b r) c)
  generator_divides n c l e h = divided r (generator b r) (generator-length b r) (generator_monic b r) (n - r) c (omega arith) (omega arith) h

pub codeword-syndromes : (n r b : ℕ) (c : List ℕ) → Codeword n r b c → Syndromes-zero b r c
codeword-syndromes n r b c w i hi =
    let z : ℕ = alpha (b + i) in
    ap (λ (p : List ℕ). eval p z) w.divided
    ∙ eval-pmul (generator b r) w.quotient z
    ∙ ap (λ (v : ℕ). mul v (eval w.quotient z)) (generator_root b r i hi)
    ∙ zero-mul (eval w.quotient z)

pub syndromes-codeword : (n r b : ℕ) (c : List ℕ) → r < n → r ≤ 255 → length c ≡ n → Bytes c → Syndromes-zero b r c → Codeword n r b c
syndromes-codeword n r b c l hr e h hs =
    let g : List ℕ = generator b r in
    let q : List ℕ = quotient r g (n - r) c in
    let lq : length q ≡ n - r = quotient-length r g (n - r) c (omega arith) in
    let lp : length (pmul g q) ≡ r + length q = pmul-length g q r (generator-length b r) (omega arith) in
    record {
      cells = e;
      bytes = h;
      quotient = q;
      places = lq;
      divided =
          ext_get_or 0 c (pmul g q) (omega arith)
          (λ j m.
          ap (λ (p : List ℕ). get_or p j 0) (generator_divides r b n c l e h)
          ∙ get_or_padd (pmul g q) (remainder r g c) j
          ∙ ap (add (get_or (pmul g q) j 0)) (zero-at (remainder r g c) j (remainder-zero r b c hr h hs))
          ∙ add_zero_r (get_or (pmul g q) j 0));
    }
