-- The step back over 64 cells: with R as the lowest cells, shift down and add f times the generator of the step back, f the lowest cell. That is
-- code's back_step, since the multiple of g that clears the lowest cell has the factor f / g_0 and its lowest cell is dropped. Fed with cells it is code's back_fed.
use mathlib.Core.Path.{◌≡◌, refl, sym, ap, ap₂, ◌∙◌}
use mathlib.Core.List.{List, [], ◌∷◌}
use Prim.Native.Nat.{ℕ, ◌+◌, ◌*◌, ◌/◌, ◌%◌, ◌≤◌, ◌<◌}
use native.Mathlib.Numerals.{add-one}
use native.Mathlib.Omega.{arith}
use lib.ListN.{length, get_or, drop, replicate, length-replicate}
use lib.Seq.{drop-cons, drop-length}
use Rattle.field.specs.Field.{add, mul, inverse}
use Rattle.code.specs.Poly.{padd, pscale}
use Rattle.code.specs.Code.{generator}
use Rattle.code.specs.Run.{tail, back_step}
use Rattle.code.proofs.Poly.{pscale-mul, padd-length, get_or_padd}
use Rattle.code.proofs.Generator.{generator-length}
use Rattle.code.proofs.Shifted.{back_step-length}
use Rattle.code.proofs.Split.{back_fed}
use Rattle.words.specs.Cells.{shift_down, pad_to}
use Rattle.words.proofs.Pad.{pad_at, pad_zeros, pad_sum, pad_scale, pad_down}
use Rattle.register.specs.Register.{back_generator, feed_back, feeds_back}

tail-padd : (R q : List ℕ) → tail (padd R q) ≡ padd (drop 1 R) (tail q)
unfolding padd
tail-padd [] q = refl
tail-padd (x ∷ R) [] = none R
  where
    none : (l : List ℕ) → l ≡ padd l []
    none [] = refl
    none (y ∷ l) = refl
tail-padd (x ∷ R) (y ∷ q) = refl

tail-pscale : (a : ℕ) (g : List ℕ) → tail (pscale a g) ≡ pscale a (tail g)
unfolding pscale
tail-pscale a [] = refl
tail-pscale a (x ∷ g) = refl

step_is : (b r : ℕ) (R : List ℕ) → back_step (generator b r) R ≡ padd (drop 1 R) (pscale (get_or R 0 0) (back_generator (generator b r)))
unfolding back_step back_generator
step_is b r R =
    let g : List ℕ = generator b r in
    let v : ℕ = inverse (get_or g 0 0) in
    let t : ℕ = mul (get_or R 0 0) v in
    tail-padd R (pscale t g) ∙ ap (padd (drop 1 R)) (tail-pscale t g ∙ sym (pscale-mul (get_or R 0 0) v (tail g)))

-- the step in one sum
pub back_step_lem : (b r : ℕ) (R : List ℕ) → length R ≤ 64
    → padd (shift_down (pad_to 64 R) 0) (pscale (get_or (pad_to 64 R) 0 0) (pad_to 64 (back_generator (generator b r)))) ≡ pad_to 64 (back_step (generator b r) R)
back_step_lem b r R h =
    let H : List ℕ = back_generator (generator b r) in
    ap₂ padd (pad_down 64 R h) (ap (λ (f : ℕ). pscale f (pad_to 64 H)) (pad_at 64 R 0 (omega arith)) ∙ pad_scale 64 (get_or R 0 0) H)
    ∙ pad_sum 64 (drop 1 R) (pscale (get_or R 0 0) H)
    ∙ ap (pad_to 64) (sym (step_is b r R))

-- the step as a loop makes it: X the register, S it shifted down, f the lowest cell, P the generator of the step back, N the sum with f times P
pub step_back_law : (b r : ℕ) (R X P S N : List ℕ) (f : ℕ) → length R ≤ 64 → X ≡ pad_to 64 R → P ≡ pad_to 64 (back_generator (generator b r)) → f ≡ get_or X 0 0 → S ≡ shift_down X 0
    → N ≡ padd S (pscale f P) → N ≡ pad_to 64 (back_step (generator b r) R)
step_back_law b r R X P S N f h eX eP ef eS eN =
    eN
    ∙ ap₂ padd (eS ∙ ap (λ (u : List ℕ). shift_down u 0) eX) (ap₂ pscale (ef ∙ ap (λ (u : List ℕ). get_or u 0 0) eX) eP)
    ∙ back_step_lem b r R h

-- ---- fed with cells

-- a turn of the loop: the feedback is the lowest cell and the cell that comes in, S the register moved down, N the sum with f times P
pub feed_back_law : (P R S N : List ℕ) (x f : ℕ) → f ≡ add (get_or R 0 0) x → S ≡ shift_down R 0 → N ≡ padd S (pscale f P) → N ≡ feed_back P x R
unfolding feed_back
feed_back_law P R S N x f ef eS eN = eN ∙ ap₂ (λ (u : List ℕ) (k : ℕ). padd u (pscale k P)) eS ef

pub feeds_back_on : (G R s : List ℕ) (i : ℕ) → i < length s → feeds_back G R (drop i s) ≡ feeds_back G (feed_back G (get_or s i 0) R) (drop (i + 1) s)
unfolding feeds_back
feeds_back_on G R s i l = rw (drop-cons s i 0 l, add-one i)

pub feeds_back_end : (G R s : List ℕ) (i : ℕ) → i ≡ length s → feeds_back G R (drop i s) ≡ R
unfolding feeds_back
feeds_back_end G R s i e = rw (e, drop-length)

-- the same of the r lowest of 64 cells
rest-kept : (x : ℕ) (R : List ℕ) → 0 < length R → drop 1 (padd R (x ∷ [])) ≡ drop 1 R
unfolding padd
rest-kept x [] l = absurd (omega arith)
rest-kept x (a ∷ []) l = refl
rest-kept x (a ∷ c ∷ R) l = refl

module _ (b r : ℕ) (pos : 0 < r) (small : r ≤ 64) where
  abbrev g : List ℕ
  g = generator b r

  feed_back_low : (x : ℕ) (R : List ℕ) → length R ≡ r → feed_back (pad_to 64 (back_generator g)) x (pad_to 64 R) ≡ pad_to 64 (back_step g (padd R (x ∷ [])))
  unfolding feed_back
  feed_back_low x R l =
      let R₁ : List ℕ = padd R (x ∷ []) in
      let l₁ : length R₁ ≡ r = padd-length R (x ∷ []) (omega arith) ∙ l in
      let P : List ℕ = pad_to 64 (back_generator g) in
      ap₂ (λ (u : List ℕ) (k : ℕ). padd u (pscale k P))
      (pad_down 64 R (omega arith) ∙ ap (pad_to 64) (sym (rest-kept x R (omega arith))) ∙ sym (pad_down 64 R₁ (omega arith)))
      (ap (λ (k : ℕ). add k x) (pad_at 64 R 0 (omega arith)) ∙ sym (pad_at 64 R₁ 0 (omega arith) ∙ get_or_padd R (x ∷ []) 0))
      ∙ back_step_lem b r R₁ (omega arith)

  feeds_back_low : (m R : List ℕ) → length R ≡ r → feeds_back (pad_to 64 (back_generator g)) (pad_to 64 R) m ≡ pad_to 64 (back_fed g R m)
  unfolding feeds_back back_fed
  feeds_back_low [] R l = refl
  feeds_back_low (x ∷ m) R l =
      ap (λ (u : List ℕ). feeds_back (pad_to 64 (back_generator g)) u m) (feed_back_low x R l)
      ∙ feeds_back_low m (back_step g (padd R (x ∷ []))) (back_step-length r g (padd R (x ∷ [])) (generator-length b r) (padd-length R (x ∷ []) (omega arith) ∙ l))

  -- cells divided backwards, from a blank register
  pub divided_back : (G Z m : List ℕ) → G ≡ pad_to 64 (back_generator g) → Z ≡ feeds_back G (replicate 64 0) m → Z ≡ pad_to 64 (back_fed g (replicate r 0) m)
  divided_back G Z m eG eZ =
      let l : length {A = ℕ} (replicate r 0) ≡ r = length-replicate r 0 in
      eZ ∙ ap₂ (λ (u v : List ℕ). feeds_back u v m) eG (sym (pad_zeros 64 r)) ∙ feeds_back_low m (replicate r 0) l
