-- What the forward register leaves is the remainder: message cells fed at the top leave what division leaves of them above r zeros. Both have the
-- same syndromes and r cells, so by the distance of the code they are equal.
use mathlib.Core.Path.{◌≡◌, refl, sym, ap, ap₂, ◌∙◌, subst}
use mathlib.Core.List.{List, [], ◌∷◌, ◌++◌}
use Prim.Native.Nat.{ℕ, zero, suc, ◌+◌, ◌-◌, ◌≤◌, ◌<◌}
use native.Mathlib.Nat.{suc_inj}
use native.Mathlib.Omega.{arith}
use lib.ListN.{length, get_or, take, replicate, length-replicate}
use lib.Seq.{length-take-le}
use Rattle.field.specs.Field.{add, mul, power, alpha}
use Rattle.field.proofs.Sum.{add-eq, add_zero_l, add_zero_r}
use Rattle.field.proofs.Product.{mul_left_comm, mul-zero, one-mul, mul-one, ring}
use Rattle.lists.specs.Bytes.{Bytes}
use Rattle.code.specs.Poly.{eval, padd, pscale}
use Rattle.code.specs.Code.{generator, rem_step, remainder}
use Rattle.lists.proofs.Bytes.{zeros-bytes, append-bytes}
use Rattle.code.proofs.Poly.{padd_assoc, padd_comm, padd-length, padd-bytes, padd-zeros, pscale-add, pscale-length, pscale-bytes, eval-padd, eval-pscale, eval-cons-zero, eval-append}
use Rattle.code.proofs.Generator.{generator-bytes, generator-length, generator_monic, generator_root}
use Rattle.code.proofs.Distance.{determined, distance-le}
use Rattle.code.proofs.Division.{step-length, step-bytes, eval-rem_step, remainder-length, remainder-bytes, remainder-syndrome}
use Rattle.words.specs.Cells.{shift_up}
use Rattle.register.specs.Register.{feed, feeds}

-- the sum of x ∷ R and a list one longer than R, without its last cell
take-sum : (x : ℕ) (R q : List ℕ) → length q ≡ suc (length R) → take (length R) (padd (x ∷ R) q) ≡ padd (shift_up x R) (take (length R) q)
unfolding padd shift_up
take-sum x [] q l = refl
take-sum x (y ∷ R) [] l = absurd (omega arith)
take-sum x (y ∷ R) (z ∷ q) l = ap (λ (t : List ℕ). add x z ∷ t) (take-sum y R q (suc_inj l))

take-pscale : (n f : ℕ) (g : List ℕ) → take n (pscale f g) ≡ pscale f (take n g)
unfolding pscale
take-pscale zero f g = refl
take-pscale (suc n) f [] = refl
take-pscale (suc n) f (x ∷ g) = ap (λ (t : List ℕ). mul f x ∷ t) (take-pscale n f g)

-- the remainder's step is a shift and a multiple of the low cells of g
rem_step_is : (r : ℕ) (g : List ℕ) (x : ℕ) (R : List ℕ) → length R ≡ r → length g ≡ suc r
    → rem_step r g x R ≡ padd (shift_up x R) (pscale (get_or (x ∷ R) r 0) (take r g))
unfolding rem_step
rem_step_is r g x R l m =
    let f : ℕ = get_or (x ∷ R) r 0 in
    let n : length (pscale f g) ≡ suc (length R) = pscale-length f g ∙ m ∙ ap suc (sym l) in
    ap (λ (k : ℕ). take k (padd (x ∷ R) (pscale f g))) (sym l)
    ∙ take-sum x R (pscale f g) n
    ∙ ap (padd (shift_up x R)) (ap (λ (k : ℕ). take k (pscale f g)) l ∙ take-pscale r f g)

top_cell : (r : ℕ) (p : List ℕ) (z : ℕ) → length p ≡ suc r → Bytes p → eval p z ≡ add (eval (take r p) z) (mul (power z r) (get_or p r 0))
unfolding eval power
top_cell r [] z l h = absurd (omega arith)
top_cell zero (x ∷ []) z l h = ap (add x) (mul-zero z) ∙ add_zero_r x ∙ sym (add_zero_l (mul 1 x) ∙ one-mul x h.0)
top_cell zero (x ∷ y ∷ p) z l h = absurd (omega arith)
top_cell (suc r) (x ∷ p) z l h =
    ap (λ (v : ℕ). add x (mul z v)) (top_cell r p z (suc_inj l) h.1) ∙ step x z (eval (take r p) z) (power z r) (get_or p r 0)
  where
    step : (x z u v w : ℕ) → add x (mul z (add u (mul v w))) ≡ add (add x (mul z u)) (mul (mul z v) w)
    step x z u v w = simp ring

below : (r x : ℕ) (R : List ℕ) → 0 < r → get_or (x ∷ R) r 0 ≡ get_or R (r - 1) 0
below zero x R h = absurd (omega arith)
below (suc r) x R h =
    let e : suc r - 1 ≡ r = omega arith in
    rw e

module _ (r : ℕ) (g : List ℕ) (pos : 0 < r) (len : length g ≡ suc r) (monic : get_or g r 0 ≡ 1) (gb : Bytes g) where
  -- a turn is a step of the remainder with nothing fed below, and x times the low cells of g
  feed_is : (x : ℕ) (R : List ℕ) → length R ≡ r → feed r g x R ≡ padd (rem_step r g 0 R) (pscale x (take r g))
  unfolding feed
  feed_is x R l =
      ap (padd (shift_up 0 R)) (sym (pscale-add (get_or R (r - 1) 0) x (take r g)))
      ∙ sym (padd_assoc (shift_up 0 R) (pscale (get_or R (r - 1) 0) (take r g)) (pscale x (take r g)))
      ∙ ap (λ (u : List ℕ). padd u (pscale x (take r g)))
      (ap (λ (k : ℕ). padd (shift_up 0 R) (pscale k (take r g))) (sym (below r 0 R pos)) ∙ sym (rem_step_is r g 0 R l len))

  low_length : length (take r g) ≡ r
  low_length = length-take-le r g (omega arith)

  feed-length : (x : ℕ) (R : List ℕ) → length R ≡ r → length (feed r g x R) ≡ r
  feed-length x R l =
      let s : length (rem_step r g 0 R) ≡ r = step-length r g len monic 0 R l in
      ap length (feed_is x R l) ∙ padd-length (rem_step r g 0 R) (pscale x (take r g)) (omega (arith, pscale-length x (take r g), low_length)) ∙ s

  feed-bytes : (x : ℕ) (R : List ℕ) → length R ≡ r → Bytes R → Bytes (feed r g x R)
  feed-bytes x R l h =
      subst Bytes (sym (feed_is x R l))
      (padd-bytes (rem_step r g 0 R) (pscale x (take r g)) (step-bytes r g len monic 0 R (omega arith) h) (pscale-bytes x (take r g)))

  pub feeds-length : (m : List ℕ) → length (feeds r g m) ≡ r
  unfolding feeds
  feeds-length [] = length-replicate r 0
  feeds-length (x ∷ m) = feed-length x (feeds r g m) (feeds-length m)

  pub feeds-bytes : (m : List ℕ) → Bytes (feeds r g m)
  unfolding feeds
  feeds-bytes [] = zeros-bytes r
  feeds-bytes (x ∷ m) = feed-bytes x (feeds r g m) (feeds-length m) (feeds-bytes m)

  module _ (z : ℕ) (root : eval g z ≡ 0) where
    low_eval : eval (take r g) z ≡ mul (power z r) 1
    low_eval =
        add-eq (eval (take r g) z) (mul (power z r) 1)
        (ap (λ (v : ℕ). add (eval (take r g) z) (mul (power z r) v)) (sym monic) ∙ sym (top_cell r g z len gb) ∙ root)

    eval-feed : (x : ℕ) (R : List ℕ) → x < 256 → length R ≡ r → Bytes R → eval (feed r g x R) z ≡ add (mul z (eval R z)) (mul (power z r) x)
    eval-feed x R hx l h =
        ap (λ (p : List ℕ). eval p z) (feed_is x R l)
        ∙ eval-padd (rem_step r g 0 R) (pscale x (take r g)) z
        ∙ ap₂ add (eval-rem_step r g len monic 0 R z l (omega arith) h root ∙ eval-cons-zero R z)
        (eval-pscale x (take r g) z ∙ ap (mul x) low_eval ∙ turned x (power z r) ∙ ap (mul (power z r)) (mul-one x hx))
      where
        turned : (x w : ℕ) → mul x (mul w 1) ≡ mul w (mul x 1)
        turned x w = mul_left_comm x w 1

    pub eval-feeds : (m : List ℕ) → Bytes m → eval (feeds r g m) z ≡ mul (power z r) (eval m z)
    unfolding feeds eval
    eval-feeds [] h = nil r z ∙ sym (mul-zero (power z r))
      where
        nil : (n z : ℕ) → eval (replicate n 0) z ≡ 0
        nil zero z = refl
        nil (suc n) z = ap (λ (v : ℕ). add 0 (mul z v)) (nil n z) ∙ simp ring
    eval-feeds (x ∷ m) h =
        eval-feed x (feeds r g m) h.0 (feeds-length m) (feeds-bytes m)
        ∙ ap (λ (v : ℕ). add (mul z v) (mul (power z r) x)) (eval-feeds m h.1)
        ∙ step x z (power z r) (eval m z)
      where
        step : (x z w v : ℕ) → add (mul z (mul w v)) (mul w x) ≡ mul w (add x (mul z v))
        step x z w v = simp ring

module _ (b r : ℕ) (pos : 0 < r) (m : List ℕ) where
  pub left-length : length (feeds r (generator b r) m) ≡ r
  left-length = feeds-length r (generator b r) pos (generator-length b r) (generator_monic b r) (generator-bytes b r) m

  pub left-bytes : Bytes (feeds r (generator b r) m)
  left-bytes = feeds-bytes r (generator b r) pos (generator-length b r) (generator_monic b r) (generator-bytes b r) m

  -- the remainder of r cells and the message cells above them
  pub remainder-feeds : (lo : List ℕ) → r ≤ 255 → length lo ≡ r → Bytes lo → Bytes m → remainder r (generator b r) (lo ++ m) ≡ padd lo (feeds r (generator b r) m)
  remainder-feeds lo small l hl hm =
      let F : List ℕ = feeds r (generator b r) m in
      let R : List ℕ = remainder r (generator b r) (lo ++ m) in
      let hc : Bytes (lo ++ m) = append-bytes lo m hl hm in
      let rl : length R ≡ r = remainder-length r b (lo ++ m) in
      let sl : length (padd lo F) ≡ r = padd-length lo F (omega (arith, left-length)) ∙ l in
      determined r b R (padd lo F) (remainder-bytes r b (lo ++ m) hc) (padd-bytes lo F hl left-bytes) (rl ∙ sym sl) (omega arith)
      (λ i hi.
      let z : ℕ = alpha (b + i) in
      remainder-syndrome r b i (lo ++ m) hi hc
      ∙ eval-append lo m z hm
      ∙ ap (λ (k : ℕ). add (eval lo z) (mul (power z k) (eval m z))) l
      ∙ sym (eval-padd lo F z ∙ ap (add (eval lo z)) (eval-feeds r (generator b r) pos (generator-length b r) (generator_monic b r) (generator-bytes b r) z (generator_root b r i hi) m hm)))
      (omega (arith, distance-le R (padd lo F)))

  -- the check cells of a message: what division leaves of it above r zeros
  pub check-cells : r ≤ 255 → Bytes m → remainder r (generator b r) (replicate r 0 ++ m) ≡ feeds r (generator b r) m
  check-cells small hm =
      remainder-feeds (replicate r 0) small (length-replicate r 0) (zeros-bytes r) hm
      ∙ padd_comm (replicate r 0) (feeds r (generator b r) m)
      ∙ padd-zeros (feeds r (generator b r) m) r (omega (arith, left-length))
