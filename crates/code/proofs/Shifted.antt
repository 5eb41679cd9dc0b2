-- What a run reaches. The shifted remainder R by s has y's syndromes, each divided by its power of α; an error within a run of at most
-- r cells from s, moved down to cell 0, has the same syndromes as R and at most r cells, so by distance it is R.
use mathlib.Core.Path.{◌≡◌, refl, sym, ap, ap₂, ◌∙◌, subst}
use mathlib.Core.Logic.{◌≢◌, inl, inr, ⊎_elim}
use mathlib.Core.Bool.{Bool, true, false}
use mathlib.Core.List.{List, [], ◌∷◌, ◌++◌}
use Prim.Native.Nat.{ℕ, zero, suc, ◌+◌, ◌-◌, ◌≤◌, ◌<◌, zero-le}
use native.Mathlib.Nat.{suc_inj}
use native.Mathlib.Omega.{arith}
use lib.Dec.{eqb}
use lib.ListN.{length, get_or, take, drop, replicate, length-append, length-replicate, length-drop, get_or-eq_default, get_or-append}
use lib.Seq.{length-take-le, get_or-take, get_or-drop, get_or-append-add, ext_get_or}
use borrow.Author.Tests.{eqb-true, eq-eqb}
use Rattle.lists.specs.Choice.{pick}
use Rattle.lists.proofs.Test.{lt-or_ge, true_or_false}
use Rattle.field.specs.Field.{add, mul, power, alpha, inverse}
use Rattle.field.proofs.Sum.{add_self, add_zero_l, add_zero_r, add_cancel}
use Rattle.field.proofs.Product.{mul_assoc, mul_comm, mul_left_comm, mul-zero, one-mul, mul-one}
use Rattle.field.proofs.Power.{power-lt, power-ne-zero, alpha-ne-zero, mul-inverse, mul_cancel}
use Rattle.lists.specs.Bytes.{Bytes}
use Rattle.code.specs.Poly.{eval, padd, pscale}
use Rattle.code.specs.Code.{generator, syndrome, remainder, distance}
use Rattle.code.specs.Run.{Outside, Reaches, tail, back_step, back_steps, shifted_remainder, ZeroFrom, added_at}
use Rattle.lists.proofs.Bytes.{get_or_byte, take-bytes, drop-bytes, zeros-bytes, append-bytes}
use Rattle.code.proofs.Poly.{get_or_padd, get_or_pscale, get_or_zeros, padd-length, padd-length-r, padd-bytes, pscale-length, pscale-bytes, tail-length, tail-bytes, eval-lt, eval-padd, eval-pscale, eval-zeros, eval-same, eval_head}
use Rattle.code.proofs.Generator.{generator-bytes, generator-length, generator_low, generator_root}
use Rattle.code.proofs.Distance.{determined, distance-le}
use Rattle.code.proofs.Division.{remainder-length, remainder-bytes, remainder-syndrome, codeword-syndromes, syndromes-codeword}

-- ---- one step back, and s of them

pub eval-back_step : (g R : List ℕ) (z : ℕ) → Bytes g → get_or g 0 0 ≢ 0 → Bytes R → eval g z ≡ 0 → eval R z ≡ mul z (eval (back_step g R) z)
unfolding back_step
eval-back_step g R z hg n hR e =
    let a : ℕ = get_or R 0 0 in
    let h : ℕ = get_or g 0 0 in
    let t : ℕ = mul a (inverse h) in
    let p : List ℕ = padd R (pscale t g) in
    let low : get_or p 0 0 ≡ 0 =
    get_or_padd R (pscale t g) 0
    ∙ ap (add a) (get_or_pscale t g 0 ∙ mul_assoc a (inverse h) h
    ∙ ap (mul a) (mul_comm (inverse h) h ∙ mul-inverse h (get_or_byte g 0 hg) n)
    ∙ mul-one a (get_or_byte R 0 hR))
    ∙ add_self a in
    sym (eval-padd R (pscale t g) z ∙ ap (add (eval R z)) (eval-pscale t g z ∙ ap (mul t) e ∙ mul-zero t) ∙ add_zero_r (eval R z))
    ∙ eval_head p z ∙ ap (λ (v : ℕ). add v (mul z (eval (tail p) z))) low ∙ add_zero_l (mul z (eval (tail p) z))

-- by whatever multiple of g
sum-tail-length : (t r : ℕ) (g R : List ℕ) → length g ≡ suc r → length R ≡ r → length (tail (padd R (pscale t g))) ≡ r
sum-tail-length t r g R hg hR = tail-length (padd R (pscale t g)) r (padd-length-r R (pscale t g) (omega (arith, pscale-length t g)) ∙ pscale-length t g ∙ hg)

sum-tail-bytes : (t : ℕ) (g R : List ℕ) → Bytes R → Bytes (tail (padd R (pscale t g)))
sum-tail-bytes t g R h = tail-bytes (padd R (pscale t g)) (padd-bytes R (pscale t g) h (pscale-bytes t g))

pub back_step-length : (r : ℕ) (g R : List ℕ) → length g ≡ suc r → length R ≡ r → length (back_step g R) ≡ r
unfolding back_step
back_step-length r g R hg hR = sum-tail-length _ r g R hg hR

pub back_step-bytes : (g R : List ℕ) → Bytes R → Bytes (back_step g R)
unfolding back_step
back_step-bytes g R h = sum-tail-bytes _ g R h

pub back_steps-length : (s r : ℕ) (g R : List ℕ) → length g ≡ suc r → length R ≡ r → length (back_steps s g R) ≡ r
unfolding back_steps
back_steps-length zero r g R hg hR = hR
back_steps-length (suc s) r g R hg hR = back_step-length r g (back_steps s g R) hg (back_steps-length s r g R hg hR)

pub back_steps-bytes : (s : ℕ) (g R : List ℕ) → Bytes R → Bytes (back_steps s g R)
unfolding back_steps
back_steps-bytes zero g R h = h
back_steps-bytes (suc s) g R h = back_step-bytes g (back_steps s g R) (back_steps-bytes s g R h)

eval-back_steps : (s : ℕ) (g R : List ℕ) (z : ℕ) → Bytes g → get_or g 0 0 ≢ 0 → Bytes R → eval g z ≡ 0 → eval R z ≡ mul (power z s) (eval (back_steps s g R) z)
unfolding back_steps power
eval-back_steps zero g R z hg n hR e = sym (one-mul (eval R z) (eval-lt R z hR))
eval-back_steps (suc s) g R z hg n hR e =
    let S : List ℕ = back_steps s g R in
    let v : ℕ = eval (back_step g S) z in
    eval-back_steps s g R z hg n hR e
    ∙ ap (mul (power z s)) (eval-back_step g S z hg n (back_steps-bytes s g R hR) e)
    ∙ mul_left_comm (power z s) z v
    ∙ sym (mul_assoc z (power z s) v)

module _ (b r s : ℕ) (y : List ℕ) (hy : Bytes y) where
  pub shifted_length : length (shifted_remainder b r s y) ≡ r
  unfolding shifted_remainder
  shifted_length = back_steps-length s r (generator b r) (remainder r (generator b r) y) (generator-length b r) (remainder-length r b y)

  pub shifted_bytes : Bytes (shifted_remainder b r s y)
  unfolding shifted_remainder
  shifted_bytes = back_steps-bytes s (generator b r) (remainder r (generator b r) y) (remainder-bytes r b y hy)

  pub shifted_syndrome : (i : ℕ) → i < r → syndrome b i y ≡ mul (power (alpha (b + i)) s) (syndrome b i (shifted_remainder b r s y))
  unfolding shifted_remainder
  shifted_syndrome i hi =
      sym (remainder-syndrome r b i y hi hy)
      ∙ eval-back_steps s (generator b r) (remainder r (generator b r) y) (alpha (b + i)) (generator-bytes b r) (generator_low b r) (remainder-bytes r b y hy) (generator_root b r i hi)

-- ---- cells laid from s on

below_laid : (s : ℕ) (q : List ℕ) (j : ℕ) → j < s → get_or (replicate s 0 ++ q) j 0 ≡ 0
below_laid s q j l = get_or-append (replicate s 0) q 0 j (omega (arith, length-replicate {A = ℕ} s 0)) ∙ get_or_zeros s j

at-laid : (s : ℕ) (q : List ℕ) (k : ℕ) → get_or (replicate s 0 ++ q) (s + k) 0 ≡ get_or q k 0
at-laid s q k = ap (λ (m : ℕ). get_or (replicate s 0 ++ q) (m + k) 0) (sym (length-replicate {A = ℕ} s 0)) ∙ get_or-append-add (replicate s 0) q k 0

-- a fact of every cell, from those below s and those from s on
from-run : (s : ℕ) (P : ℕ → Type 0) → ((j : ℕ) → j < s → P j) → ((k : ℕ) → P (s + k)) → (j : ℕ) → P j
from-run s P lo hi j = ⊎_elim (lo j) (λ l. let e : s + (j - s) ≡ j = omega arith in subst P e (hi (j - s))) (lt-or_ge j s)

pub added_cell : (s : ℕ) (e y : List ℕ) (j : ℕ) → get_or (added_at s e y) j 0 ≡ add (get_or y j 0) (get_or (replicate s 0 ++ e) j 0)
unfolding added_at
added_cell s e y j = get_or_padd y (replicate s 0 ++ e) j

laid-length : (s : ℕ) (e : List ℕ) → length (replicate s 0 ++ e) ≡ s + length e
laid-length s e = length-append (replicate s 0) e ∙ ap (λ (m : ℕ). m + length e) (length-replicate {A = ℕ} s 0)

pub added-length : (s : ℕ) (e y : List ℕ) → s + length e ≤ length y → length (added_at s e y) ≡ length y
unfolding added_at
added-length s e y h = padd-length y (replicate s 0 ++ e) (omega (arith, laid-length s e))

pub added-bytes : (s : ℕ) (e y : List ℕ) → Bytes e → Bytes y → Bytes (added_at s e y)
unfolding added_at
added-bytes s e y he hy = padd-bytes y (replicate s 0 ++ e) hy (append-bytes (replicate s 0) e (zeros-bytes s) he)

-- ---- what a run reaches

module _ (n r b : ℕ) (y : List ℕ) (s f : ℕ) (c : List ℕ) (hr : r < n) (hn : n ≤ 255) (ly : length y ≡ n) (hy : Bytes y) (hf : f ≤ r) (run : s + f ≤ n) where
  abbrev R : List ℕ
  R = shifted_remainder b r s y

  lR : length R ≡ r
  lR = shifted_length b r s y hy

  -- the error of a reached codeword, moved down and filled up with zeros
  abbrev error : List ℕ
  error = take f (drop s (padd y c)) ++ replicate (r - f) 0

  module _ (h : Reaches n r b y s f c) where
    lc : length c ≡ n
    lc = h.codeword.cells

    le : length (padd y c) ≡ n
    le = padd-length y c (omega arith) ∙ ly

    lp : length (take f (drop s (padd y c))) ≡ f
    lp = length-take-le f (drop s (padd y c)) (omega (arith, length-drop s (padd y c), le))

    error-length : length error ≡ r
    error-length = length-append (take f (drop s (padd y c))) (replicate (r - f) 0) ∙ omega (arith, lp, length-replicate {A = ℕ} (r - f) 0)

    error-bytes : Bytes error
    error-bytes =
        append-bytes (take f (drop s (padd y c))) (replicate (r - f) 0)
        (take-bytes f (drop s (padd y c)) (drop-bytes s (padd y c) (padd-bytes y c hy h.codeword.bytes))) (zeros-bytes (r - f))

    error_in_lem : (k : ℕ) → k < f → get_or error k 0 ≡ add (get_or y (s + k) 0) (get_or c (s + k) 0)
    error_in_lem k l =
        get_or-append (take f (drop s (padd y c))) (replicate (r - f) 0) 0 k (omega (arith, lp))
        ∙ get_or-take f (drop s (padd y c)) k 0 l ∙ get_or-drop s (padd y c) k 0 ∙ get_or_padd y c (s + k)

    error_out : ZeroFrom f error
    error_out k l =
        let e : k ≡ length (take f (drop s (padd y c))) + (k - f) = omega (arith, lp) in
        ap (λ (m : ℕ). get_or error m 0) e
        ∙ get_or-append-add (take f (drop s (padd y c))) (replicate (r - f) 0) (k - f) 0 ∙ get_or_zeros (r - f) (k - f)

    -- outside the run nothing is wrong
    differ_out : (j : ℕ) → Outside s f j → add (get_or y j 0) (get_or c j 0) ≡ 0
    differ_out j o =
        ⊎_elim (λ l. ap (λ (v : ℕ). add v (get_or c j 0)) (h.agree j l o) ∙ add_self (get_or c j 0))
        (λ l. ap₂ add (get_or-eq_default y 0 (omega arith)) (get_or-eq_default c 0 (omega (arith, lc))) ∙ add_self 0)
        (lt-or_ge j n)

    error-laid : (j : ℕ) → get_or (padd y c) j 0 ≡ get_or (replicate s 0 ++ error) j 0
    error-laid =
        from-run s (λ (j : ℕ). get_or (padd y c) j 0 ≡ get_or (replicate s 0 ++ error) j 0)
        (λ j l. get_or_padd y c j ∙ differ_out j (inl l) ∙ sym (below_laid s error j l))
        (λ k. get_or_padd y c (s + k)
        ∙ ⊎_elim (λ l. sym (error_in_lem k l)) (λ l. differ_out (s + k) (inr (omega arith)) ∙ sym (error_out k l)) (lt-or_ge k f)
        ∙ sym (at-laid s error k))

    error_is : error ≡ R
    error_is =
        determined r b error R error-bytes (shifted_bytes b r s y hy) (error-length ∙ sym lR) (omega (arith, error-length))
        (λ i hi.
        let z : ℕ = alpha (b + i) in
        mul_cancel (power z s) (eval error z) (eval R z) (power-lt z s) (power-ne-zero z s (power-lt 2 (b + i)) (alpha-ne-zero (b + i)))
        (eval-lt error z error-bytes) (eval-lt R z (shifted_bytes b r s y hy))
        (sym (eval-zeros s error z error-bytes)
        ∙ sym (eval-same (padd y c) (replicate s 0 ++ error) z error-laid)
        ∙ eval-padd y c z ∙ ap (add (eval y z)) (codeword-syndromes n r b c h.codeword i hi) ∙ add_zero_r (eval y z)
        ∙ shifted_syndrome b r s y hy i hi))
        (omega (arith, distance-le error R, error-length))

    pub reached-zero : ZeroFrom f R
    reached-zero k l = ap (λ (p : List ℕ). get_or p k 0) (sym error_is) ∙ error_out k l

    pub reached-word : c ≡ added_at s (take f R) y
    reached-word =
        let lt : length (take f R) ≡ f = length-take-le f R (omega (arith, lR)) in
        ext_get_or 0 c (added_at s (take f R) y) (lc ∙ sym (added-length s (take f R) y (omega arith) ∙ ly))
        (λ j m. sym (added_cell s (take f R) y j ∙
        from-run s (λ (i : ℕ). add (get_or y i 0) (get_or (replicate s 0 ++ take f R) i 0) ≡ get_or c i 0)
        (λ i l. ap (add (get_or y i 0)) (below_laid s (take f R) i l ∙ sym (differ_out i (inl l))) ∙ add_cancel (get_or y i 0) (get_or c i 0))
        (λ k. ap (add (get_or y (s + k) 0)) (at-laid s (take f R) k
        ∙ ⊎_elim
        (λ l. get_or-take f R k 0 l ∙ ap (λ (p : List ℕ). get_or p k 0) (sym error_is) ∙ error_in_lem k l)
        (λ l. get_or-eq_default (take f R) 0 (omega arith) ∙ sym (differ_out (s + k) (inr (omega arith))))
        (lt-or_ge k f))
        ∙ add_cancel (get_or y (s + k) 0) (get_or c (s + k) 0)) j))

  module _ (z : ZeroFrom f R) (e : c ≡ added_at s (take f R) y) where
    lt : length (take f R) ≡ f
    lt = length-take-le f R (omega (arith, lR))

    word-length : length c ≡ n
    word-length = ap length e ∙ added-length s (take f R) y (omega (arith, lt)) ∙ ly

    word_bytes : Bytes c
    word_bytes = subst Bytes (sym e) (added-bytes s (take f R) y (take-bytes f R (shifted_bytes b r s y hy)) hy)

    low_cells : (k : ℕ) → get_or (take f R) k 0 ≡ get_or R k 0
    low_cells k = ⊎_elim (λ l. get_or-take f R k 0 l) (λ l. get_or-eq_default (take f R) 0 (omega (arith, lt)) ∙ sym (z k l)) (lt-or_ge k f)

    word-syndrome : (i : ℕ) → i < r → syndrome b i c ≡ 0
    unfolding added_at
    word-syndrome i hi =
        let x : ℕ = alpha (b + i) in
        ap (λ (p : List ℕ). eval p x) e
        ∙ eval-padd y (replicate s 0 ++ take f R) x
        ∙ ap₂ add (shifted_syndrome b r s y hy i hi)
        (eval-zeros s (take f R) x (take-bytes f R (shifted_bytes b r s y hy)) ∙ ap (mul (power x s)) (eval-same (take f R) R x low_cells))
        ∙ add_self (mul (power x s) (eval R x))

    outside-laid : (j : ℕ) → Outside s f j → get_or (replicate s 0 ++ take f R) j 0 ≡ 0
    outside-laid j o =
        ⊎_elim (λ l. below_laid s (take f R) j l)
        (λ l. get_or-eq_default (replicate s 0 ++ take f R) 0 (omega (arith, laid-length s (take f R), lt))) o

    pub word-reached : Reaches n r b y s f c
    word-reached = record {
      run = run;
      codeword = syndromes-codeword n r b c hr (omega arith) word-length word_bytes word-syndrome;
      agree = λ j m o.
          sym (ap (λ (p : List ℕ). get_or p j 0) e ∙ added_cell s (take f R) y j ∙ ap (add (get_or y j 0)) (outside-laid j o) ∙ add_zero_r (get_or y j 0));
    }

-- ---- long runs

-- a longer run from the same start reaches what the shorter one reaches
pub longer_run : (n r b : ℕ) (y : List ℕ) (s f g : ℕ) (c : List ℕ) → f ≤ g → s + g ≤ n → Reaches n r b y s f c → Reaches n r b y s g c
longer_run n r b y s f g c l run h = record {
  run = run;
  codeword = h.codeword;
  agree = λ i m o. h.agree i m (⊎_elim (λ k. inl k) (λ k. inr (omega arith)) o);
}

-- the shifted remainder has r cells, so the run of r cells reaches the read block plus all of it
pub long_reached : (n r b : ℕ) (y : List ℕ) (s f : ℕ) → r < n → n ≤ 255 → length y ≡ n → Bytes y → r ≤ f → s + f ≤ n → (c : List ℕ) × Reaches n r b y s f c
long_reached n r b y s f hr hn ly hy l run =
    let R : List ℕ = shifted_remainder b r s y in
    let c : List ℕ = added_at s (take r R) y in
    let z : ZeroFrom r R = λ k m. get_or-eq_default R 0 (omega (arith, shifted_length b r s y hy)) in
    (c, longer_run n r b y s r f c l run (word-reached n r b y s r c hr hn ly hy (omega arith) (omega arith) z refl))

-- ---- two runs

-- a word that agrees with y outside a run differs from it in no more cells than the run has
pub distance-run : (s f : ℕ) (y c : List ℕ) → length c ≡ length y → ((i : ℕ) → i < length y → Outside s f i → get_or y i 0 ≡ get_or c i 0) → distance y c ≤ f
unfolding distance
distance-run s f [] c e h = zero-le
distance-run s f (x ∷ y) [] e h = absurd (omega arith)
distance-run (suc s) f (x ∷ y) (z ∷ c) e h =
    let q : eqb x z ≡ true = eq-eqb x z (h 0 (omega arith) (inl (omega arith))) in
    rw q (omega (arith, distance-run s f y c (suc_inj e) (λ i l o. h (suc i) (omega arith) (⊎_elim (λ m. inl (omega arith)) (λ m. inr (omega arith)) o))))
distance-run zero zero (x ∷ y) (z ∷ c) e h =
    let q : eqb x z ≡ true = eq-eqb x z (h 0 (omega arith) (inr (omega arith))) in
    rw q (omega (arith, distance-run 0 0 y c (suc_inj e) (λ i l o. h (suc i) (omega arith) (inr (omega arith)))))
distance-run zero (suc f) (x ∷ y) (z ∷ c) e h =
    let ih : distance y c ≤ f = distance-run 0 f y c (suc_inj e) (λ i l o. h (suc i) (omega arith) (⊎_elim (λ m. inl (omega arith)) (λ m. inr (omega arith)) o)) in
    ⊎_elim (λ t. rw t (omega arith)) (λ t. rw t (omega arith)) (true_or_false (eqb x z))

one_of_three : (t u v : Bool) → (t ≡ true → u ≡ true → v ≡ true) → pick v 0 1 ≤ pick t 0 1 + pick u 0 1
one_of_three true true v h = rw (h refl refl) zero-le
one_of_three true false true h = zero-le
one_of_three true false false h = omega arith
one_of_three false u true h = zero-le
one_of_three false u false h = omega arith

pub distance_triangle : (w c d : List ℕ) → length c ≡ length w → length d ≡ length w → distance c d ≤ distance w c + distance w d
unfolding distance
distance_triangle [] [] d e f = zero-le
distance_triangle [] (x ∷ c) d e f = absurd (omega arith)
distance_triangle (u ∷ w) [] d e f = zero-le
distance_triangle (u ∷ w) (x ∷ c) [] e f = zero-le
distance_triangle (u ∷ w) (x ∷ c) (y ∷ d) e f = omega (arith, one_of_three (eqb u x) (eqb u y) (eqb x y) (λ p q. eq-eqb x y (sym (eqb-true u x p) ∙ eqb-true u y q)), distance_triangle w c d (suc_inj e) (suc_inj f))
