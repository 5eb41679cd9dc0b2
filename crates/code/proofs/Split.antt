-- The shifted remainder in two parts: the cells from s on divided as ever, and the cells below s from the lowest on, each added before a step back. Both
-- have the right value at each root, and r cells with the same syndromes are one.
use mathlib.Core.Path.{◌≡◌, refl, sym, ap, ap₂, ◌∙◌}
use mathlib.Core.List.{List, [], ◌∷◌, ◌++◌}
use mathlib.Core.Logic.{◌≢◌}
use Prim.Native.Nat.{ℕ, zero, suc, ◌+◌, ◌-◌, ◌≤◌, ◌<◌}
use native.Mathlib.Omega.{arith}
use lib.ListN.{length, get_or, take, drop, replicate, take-append-drop, length-append, length-replicate}
use lib.Seq.{length-take-le}
use Rattle.field.specs.Field.{add, mul, power, alpha}
use Rattle.field.proofs.Sum.{add_comm, add_zero_l, add_zero_r}
use Rattle.field.proofs.Product.{ring, mul-add, mul_assoc, mul_left_comm, mul-zero, one-mul}
use Rattle.field.proofs.Power.{power-lt, power-ne-zero, alpha-ne-zero, mul_cancel}
use Rattle.lists.specs.Bytes.{Bytes}
use Rattle.lists.proofs.Bytes.{take-bytes, drop-bytes, zeros-bytes, append-bytes}
use Rattle.code.specs.Poly.{eval, padd}
use Rattle.code.specs.Code.{generator, syndrome, remainder}
use Rattle.code.specs.Run.{back_step, shifted_remainder}
use Rattle.code.proofs.Poly.{padd-length, padd-bytes, eval-lt, eval-padd, eval-append}
use Rattle.code.proofs.Generator.{generator-bytes, generator-length, generator_low, generator_root}
use Rattle.code.proofs.Distance.{Zero, determined, distance-le, eval-zero}
use Rattle.code.proofs.Division.{remainder-length, remainder-bytes, remainder-syndrome}
use Rattle.code.proofs.Shifted.{eval-back_step, back_step-length, back_step-bytes, shifted_length, shifted_bytes, shifted_syndrome}

-- a register R fed with cells from the lowest on: each is added to the lowest cell, and then comes a step back
unfoldable pub back_fed : List ℕ → List ℕ → List ℕ → List ℕ
back_fed g R [] = R
back_fed g R (c ∷ m) = back_fed g (back_step g (padd R (c ∷ []))) m

-- ---- what it is at a root

one_cell : (c z : ℕ) → eval (c ∷ []) z ≡ c
unfolding eval
one_cell c z = ap (add c) (mul-zero z) ∙ add_zero_r c

all-zero : (k : ℕ) → Zero (replicate k 0)
all-zero zero = tt
all-zero (suc k) = (refl, all-zero k)

-- a power taken out of a sum
powers : (w z v c e : ℕ) → add (add v (mul w c)) (mul (mul z w) e) ≡ add v (mul w (add c (mul z e)))
powers w z v c e = simp ring

module _ (r : ℕ) (g : List ℕ) (pos : 0 < r) (l : length g ≡ suc r) where
  pub fed_length : (R m : List ℕ) → length R ≡ r → length (back_fed g R m) ≡ r
  unfolding back_fed
  fed_length R [] h = h
  fed_length R (c ∷ m) h =
      fed_length (back_step g (padd R (c ∷ []))) m (back_step-length r g (padd R (c ∷ [])) l (padd-length R (c ∷ []) (omega arith) ∙ h))

pub fed_bytes : (g R m : List ℕ) → Bytes R → Bytes m → Bytes (back_fed g R m)
unfolding back_fed
fed_bytes g R [] h b = h
fed_bytes g R (c ∷ m) h b = fed_bytes g (back_step g (padd R (c ∷ []))) m (back_step-bytes g (padd R (c ∷ [])) (padd-bytes R (c ∷ []) h (b.0, tt))) b.1

module _ (g : List ℕ) (z : ℕ) (hg : Bytes g) (n : get_or g 0 0 ≢ 0) (root : eval g z ≡ 0) where
  eval_fed : (i v : ℕ) (R m : List ℕ) → Bytes R → Bytes m → mul (power z i) (eval R z) ≡ v
      → mul (power z (i + length m)) (eval (back_fed g R m) z) ≡ add v (mul (power z i) (eval m z))
  unfolding back_fed eval power
  eval_fed i v R [] h b e =
      ap (λ (k : ℕ). mul (power z k) (eval R z)) (let q : i + 0 ≡ i = omega arith in q) ∙ e ∙ sym (ap (add v) (mul-zero (power z i)) ∙ add_zero_r v)
  eval_fed i v R (c ∷ m) h b e =
      let w : ℕ = power z i in
      let R₁ : List ℕ = padd R (c ∷ []) in
      let R₂ : List ℕ = back_step g R₁ in
      let b₁ : Bytes R₁ = padd-bytes R (c ∷ []) h (b.0, tt) in
      let sum : eval R₁ z ≡ add (eval R z) c = eval-padd R (c ∷ []) z ∙ ap (add (eval R z)) (one_cell c z) in
      let next : mul (power z (suc i)) (eval R₂ z) ≡ add v (mul w c) =
      mul_assoc z w (eval R₂ z) ∙ mul_left_comm z w (eval R₂ z) ∙ ap (mul w) (sym (eval-back_step g R₁ z hg n b₁ root) ∙ sum) ∙ mul-add w (eval R z) c ∙ ap (λ (x : ℕ). add x (mul w c)) e in
      ap (λ (k : ℕ). mul (power z k) (eval (back_fed g R₂ m) z)) (let q : i + suc (length m) ≡ suc i + length m = omega arith in q)
      ∙ eval_fed (suc i) (add v (mul w c)) R₂ m (back_step-bytes g R₁ b₁) b.1 next
      ∙ powers w z v c (eval m z)

  -- from zeros on
  fed_low : (r : ℕ) (m : List ℕ) → Bytes m → mul (power z (length m)) (eval (back_fed g (replicate r 0) m) z) ≡ eval m z
  unfolding power
  fed_low r m b =
      ap (λ (k : ℕ). mul (power z k) (eval (back_fed g (replicate r 0) m) z)) (let q : length m ≡ 0 + length m = omega arith in q)
      ∙ eval_fed 0 0 (replicate r 0) m (zeros-bytes r) b (ap (mul 1) (eval-zero (replicate r 0) z (all-zero r)) ∙ mul-zero 1) ∙ add_zero_l (mul 1 (eval m z)) ∙ one-mul (eval m z) (eval-lt m z b)

-- ---- r cells with the right syndromes

pub shifted_only : (b r s : ℕ) (y R : List ℕ) → r ≤ 255 → Bytes y → Bytes R → length R ≡ r
    → ((i : ℕ) → i < r → syndrome b i y ≡ mul (power (alpha (b + i)) s) (syndrome b i R)) → R ≡ shifted_remainder b r s y
shifted_only b r s y R small hy hR l k =
    let S : List ℕ = shifted_remainder b r s y in
    let lS : length S ≡ r = shifted_length b r s y hy in
    determined r b R S hR (shifted_bytes b r s y hy) (l ∙ sym lS) (omega arith)
    (λ i hi.
    let z : ℕ = alpha (b + i) in
    mul_cancel (power z s) (syndrome b i R) (syndrome b i S) (power-lt z s) (power-ne-zero z s (power-lt _ _) (alpha-ne-zero (b + i))) (eval-lt R z hR) (eval-lt S z (shifted_bytes b r s y hy))
    (sym (k i hi) ∙ shifted_syndrome b r s y hy i hi))
    (omega (arith, distance-le R S))

-- the two parts
pub shifted_parts : (b r s : ℕ) (y : List ℕ) → 0 < r → r ≤ 255 → Bytes y → s ≤ length y
    → padd (remainder r (generator b r) (drop s y)) (back_fed (generator b r) (replicate r 0) (take s y)) ≡ shifted_remainder b r s y
shifted_parts b r s y pos small hy ls =
    shifted_only b r s y (padd H L) small hy (padd-bytes H L hH hL) (padd-length H L (omega (arith, lH, lL)) ∙ lH) at
  where
    g : List ℕ
    g = generator b r

    H : List ℕ
    H = remainder r g (drop s y)

    L : List ℕ
    L = back_fed g (replicate r 0) (take s y)

    lH : length H ≡ r
    lH = remainder-length r b (drop s y)

    lL : length L ≡ r
    lL = fed_length r g pos (generator-length b r) (replicate r 0) (take s y) (length-replicate r 0)

    hH : Bytes H
    hH = remainder-bytes r b (drop s y) (drop-bytes s y hy)

    hL : Bytes L
    hL = fed_bytes g (replicate r 0) (take s y) (zeros-bytes r) (take-bytes s y hy)

    at : (i : ℕ) → i < r → syndrome b i y ≡ mul (power (alpha (b + i)) s) (syndrome b i (padd H L))
    at i hi =
        let z : ℕ = alpha (b + i) in
        let T : List ℕ = take s y in
        let lT : length T ≡ s = length-take-le s y ls in
        let low : mul (power z s) (eval L z) ≡ eval T z =
        ap (λ (k : ℕ). mul (power z k) (eval L z)) (sym lT) ∙ fed_low g z (generator-bytes b r) (generator_low b r) (generator_root b r i hi) r T (take-bytes s y hy) in
        let high : eval H z ≡ eval (drop s y) z = remainder-syndrome r b i (drop s y) hi (drop-bytes s y hy) in
        ap (λ (u : List ℕ). eval u z) (sym (take-append-drop s y))
        ∙ eval-append T (drop s y) z (drop-bytes s y hy)
        ∙ ap₂ add (sym low) (ap₂ (λ (k e : ℕ). mul (power z k) e) lT (sym high))
        ∙ add_comm (mul (power z s) (eval L z)) (mul (power z s) (eval H z))
        ∙ sym (ap (mul (power z s)) (eval-padd H L z) ∙ mul-add (power z s) (eval H z) (eval L z))

-- a word of at most r cells is its own remainder, with zeros above
pub remainder-short : (b r : ℕ) (y : List ℕ) → r ≤ 255 → Bytes y → length y ≤ r → remainder r (generator b r) y ≡ y ++ replicate (r - length y) 0
remainder-short b r y small hy l =
    let R : List ℕ = remainder r (generator b r) y in
    let Y : List ℕ = y ++ replicate (r - length y) 0 in
    let lR : length R ≡ r = remainder-length r b y in
    let lY : length Y ≡ r = length-append y (replicate (r - length y) 0) ∙ ap (λ (k : ℕ). length y + k) (length-replicate {A = ℕ} (r - length y) 0) ∙ (let q : length y + (r - length y) ≡ r = omega arith in q) in
    determined r b R Y (remainder-bytes r b y hy) (append-bytes y _ hy (zeros-bytes (r - length y))) (lR ∙ sym lY) (omega arith)
    (λ i hi.
    let z : ℕ = alpha (b + i) in
    remainder-syndrome r b i y hi hy
    ∙ sym (eval-append y (replicate (r - length y) 0) z (zeros-bytes (r - length y))
    ∙ ap (λ (e : ℕ). add (eval y z) (mul (power z (length y)) e)) (eval-zero _ z (all-zero (r - length y)))
    ∙ ap (add (eval y z)) (mul-zero (power z (length y))) ∙ add_zero_r (eval y z)))
    (omega (arith, distance-le R Y))
