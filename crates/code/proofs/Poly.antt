-- Laws of polynomials as lists of cells: length, bytes and single cells of sums, multiples and products, and the value of each.
-- Every algebra step is a ring identity over plain numbers; the rest is induction along the list.
use mathlib.Core.Path.{◌≡◌, refl, sym, ap, ap₂, ◌∙◌}
use mathlib.Core.List.{List, [], ◌∷◌, ◌++◌}
use Prim.Native.Nat.{ℕ, zero, suc, ◌+◌, ◌≤◌, ◌<◌}
use native.Mathlib.Nat.{le_of_suc-le-suc, suc_inj}
use native.Mathlib.Omega.{arith}
use lib.ListN.{length, get_or, replicate}
use lib.Seq.{ext_get_or}
use Rattle.field.specs.Field.{add, mul, power}
use Rattle.field.proofs.Sum.{add_assoc, add_comm, add-eq, add_zero_l, add_zero_r, add-lt}
use Rattle.field.proofs.Product.{mul-lt, add-mul, mul_assoc, mul-zero, zero-mul, one-mul, ring}
use Rattle.lists.specs.Bytes.{Bytes}
use Rattle.code.specs.Poly.{eval, padd, pscale, pmul}
use Rattle.code.specs.Run.{tail}

-- ---- cells

pub get_or_padd : (p q : List ℕ) (k : ℕ) → get_or (padd p q) k 0 ≡ add (get_or p k 0) (get_or q k 0)
unfolding padd
get_or_padd [] q k = sym (add_zero_l (get_or q k 0))
get_or_padd (x ∷ p) [] k = sym (add_zero_r (get_or (x ∷ p) k 0))
get_or_padd (x ∷ p) (y ∷ q) zero = refl
get_or_padd (x ∷ p) (y ∷ q) (suc k) = get_or_padd p q k

pub get_or_pscale : (a : ℕ) (p : List ℕ) (k : ℕ) → get_or (pscale a p) k 0 ≡ mul a (get_or p k 0)
unfolding pscale
get_or_pscale a [] k = sym (mul-zero a)
get_or_pscale a (x ∷ p) zero = refl
get_or_pscale a (x ∷ p) (suc k) = get_or_pscale a p k

pub get_or_zeros : (n k : ℕ) → ◌≡◌ {A = ℕ} (get_or (replicate n 0) k 0) 0
get_or_zeros zero k = refl
get_or_zeros (suc n) zero = refl
get_or_zeros (suc n) (suc k) = get_or_zeros n k

-- ---- lengths

pub padd-length : (p q : List ℕ) → length q ≤ length p → length (padd p q) ≡ length p
unfolding padd
padd-length [] [] h = refl
padd-length [] (y ∷ q) h = absurd (omega arith)
padd-length (x ∷ p) [] h = refl
padd-length (x ∷ p) (y ∷ q) h = ap suc (padd-length p q (le_of_suc-le-suc h))

pub pscale-length : (a : ℕ) (p : List ℕ) → length (pscale a p) ≡ length p
unfolding pscale
pscale-length a [] = refl
pscale-length a (x ∷ p) = ap suc (pscale-length a p)

pub tail-length : (p : List ℕ) (n : ℕ) → length p ≡ suc n → length (tail p) ≡ n
tail-length [] n h = absurd (omega arith)
tail-length (x ∷ p) n h = suc_inj h

-- ---- bytes

pub padd-bytes : (p q : List ℕ) → Bytes p → Bytes q → Bytes (padd p q)
unfolding padd
padd-bytes [] q hp hq = hq
padd-bytes (x ∷ p) [] hp hq = hp
padd-bytes (x ∷ p) (y ∷ q) hp hq = (add-lt x y hp.0 hq.0, padd-bytes p q hp.1 hq.1)

pub pscale-bytes : (a : ℕ) (p : List ℕ) → Bytes (pscale a p)
unfolding pscale
pscale-bytes a [] = tt
pscale-bytes a (x ∷ p) = (mul-lt a x, pscale-bytes a p)

pub tail-bytes : (p : List ℕ) → Bytes p → Bytes (tail p)
tail-bytes [] h = tt
tail-bytes (x ∷ p) h = h.1

pub pmul-bytes : (p q : List ℕ) → Bytes (pmul p q)
unfolding pmul
pmul-bytes p [] = tt
pmul-bytes p (k ∷ q) = padd-bytes (pscale k p) (0 ∷ pmul p q) (pscale-bytes k p) (omega arith, pmul-bytes p q)

-- ---- sums

pub padd_comm : (p q : List ℕ) → padd p q ≡ padd q p
unfolding padd
padd_comm [] [] = refl
padd_comm [] (y ∷ q) = refl
padd_comm (x ∷ p) [] = refl
padd_comm (x ∷ p) (y ∷ q) = ap₂ ◌∷◌ (add_comm x y) (padd_comm p q)

pub padd_assoc : (p q r : List ℕ) → padd (padd p q) r ≡ padd p (padd q r)
unfolding padd
padd_assoc [] q r = refl
padd_assoc (x ∷ p) [] r = refl
padd_assoc (x ∷ p) (y ∷ q) [] = refl
padd_assoc (x ∷ p) (y ∷ q) (z ∷ r) = ap₂ ◌∷◌ (add_assoc x y z) (padd_assoc p q r)

-- as long as the longer: a sum with a list that is not shorter
pub padd-length-r : (p q : List ℕ) → length p ≤ length q → length (padd p q) ≡ length q
padd-length-r p q h = ap length (padd_comm p q) ∙ padd-length q p h

pub padd-zeros : (p : List ℕ) (n : ℕ) → n ≤ length p → padd p (replicate n 0) ≡ p
padd-zeros p n h =
    ext_get_or 0 (padd p (replicate n 0)) p (padd-length p (replicate n 0) (omega (arith, lib.ListN.length-replicate {A = ℕ} n 0)))
    (λ i l. get_or_padd p (replicate n 0) i ∙ ap (add (get_or p i 0)) (get_or_zeros n i) ∙ add_zero_r (get_or p i 0))

-- two lists of one length whose sum is zero in every cell are one
pub equal_of_zero : (c d : List ℕ) → length c ≡ length d → ((k : ℕ) → get_or (padd c d) k 0 ≡ 0) → c ≡ d
equal_of_zero c d e h = ext_get_or 0 c d e (λ i l. add-eq (get_or c i 0) (get_or d i 0) (sym (get_or_padd c d i) ∙ h i))

-- ---- multiples

pub pscale-add : (a b : ℕ) (p : List ℕ) → padd (pscale a p) (pscale b p) ≡ pscale (add a b) p
unfolding padd pscale
pscale-add a b [] = refl
pscale-add a b (x ∷ p) = ap₂ ◌∷◌ (sym (add-mul a b x)) (pscale-add a b p)

pub pscale-mul : (a b : ℕ) (p : List ℕ) → pscale a (pscale b p) ≡ pscale (mul a b) p
unfolding pscale
pscale-mul a b [] = refl
pscale-mul a b (x ∷ p) = ap₂ ◌∷◌ (sym (mul_assoc a b x)) (pscale-mul a b p)

pub pscale-one : (p : List ℕ) → Bytes p → pscale 1 p ≡ p
unfolding pscale
pscale-one [] h = refl
pscale-one (x ∷ p) h = ap₂ ◌∷◌ (one-mul x h.0) (pscale-one p h.1)

pub pscale-zero : (p : List ℕ) → pscale 0 p ≡ replicate (length p) 0
unfolding pscale
pscale-zero [] = refl
pscale-zero (x ∷ p) = ap₂ ◌∷◌ (zero-mul x) (pscale-zero p)

-- ---- products

-- r + k cells of r + 1 and k
pub pmul-length : (p q : List ℕ) (r : ℕ) → length p ≡ suc r → 0 < length q → length (pmul p q) ≡ r + length q
unfolding pmul
pmul-length p [] r h pos = absurd (omega arith)
pmul-length p (k ∷ []) r h pos = padd-length (pscale k p) (0 ∷ []) (omega (arith, pscale-length k p)) ∙ pscale-length k p ∙ h ∙ omega arith
pmul-length p (k ∷ j ∷ q) r h pos =
    let ih : length (pmul p (j ∷ q)) ≡ r + length (j ∷ q) = pmul-length p (j ∷ q) r h (omega arith) in
    padd-length-r (pscale k p) (0 ∷ pmul p (j ∷ q)) (omega (arith, pscale-length k p)) ∙ ap suc ih ∙ omega arith

-- ---- values

pub eval-lt : (p : List ℕ) (z : ℕ) → Bytes p → eval p z < 256
unfolding eval
eval-lt [] z h = omega arith
eval-lt (x ∷ p) z h = add-lt x (mul z (eval p z)) h.0 (mul-lt z (eval p z))

pub eval-padd : (p q : List ℕ) (z : ℕ) → eval (padd p q) z ≡ add (eval p z) (eval q z)
unfolding eval padd
eval-padd [] q z = sym (add_zero_l (eval q z))
eval-padd (x ∷ p) [] z = sym (add_zero_r (add x (mul z (eval p z))))
eval-padd (x ∷ p) (y ∷ q) z = ap (λ (v : ℕ). add (add x y) (mul z v)) (eval-padd p q z) ∙ step x y z (eval p z) (eval q z)
  where
    step : (x y z u v : ℕ) → add (add x y) (mul z (add u v)) ≡ add (add x (mul z u)) (add y (mul z v))
    step x y z u v = simp ring

pub eval-pscale : (k : ℕ) (p : List ℕ) (z : ℕ) → eval (pscale k p) z ≡ mul k (eval p z)
unfolding eval pscale
eval-pscale k [] z = sym (mul-zero k)
eval-pscale k (x ∷ p) z = ap (λ (v : ℕ). add (mul k x) (mul z v)) (eval-pscale k p z) ∙ step k x z (eval p z)
  where
    step : (k x z v : ℕ) → add (mul k x) (mul z (mul k v)) ≡ mul k (add x (mul z v))
    step k x z v = simp ring

pub eval-cons-zero : (p : List ℕ) (z : ℕ) → eval (0 ∷ p) z ≡ mul z (eval p z)
unfolding eval
eval-cons-zero p z = add_zero_l (mul z (eval p z))

pub eval-pmul : (p q : List ℕ) (z : ℕ) → eval (pmul p q) z ≡ mul (eval p z) (eval q z)
unfolding pmul eval
eval-pmul p [] z = sym (mul-zero (eval p z))
eval-pmul p (k ∷ q) z =
    eval-padd (pscale k p) (0 ∷ pmul p q) z
    ∙ ap₂ add (eval-pscale k p z) (eval-cons-zero (pmul p q) z ∙ ap (mul z) (eval-pmul p q z))
    ∙ step k (eval p z) z (eval q z)
  where
    step : (k g z v : ℕ) → add (mul k g) (mul z (mul g v)) ≡ mul g (add k (mul z v))
    step k g z v = simp ring

-- m zeros below: x^m times
pub eval-zeros : (m : ℕ) (p : List ℕ) (z : ℕ) → Bytes p → eval (replicate m 0 ++ p) z ≡ mul (power z m) (eval p z)
unfolding eval power
eval-zeros zero p z h = sym (one-mul (eval p z) (eval-lt p z h))
eval-zeros (suc m) p z h = add_zero_l (mul z (eval (replicate m 0 ++ p) z)) ∙ ap (mul z) (eval-zeros m p z h) ∙ sym (mul_assoc z (power z m) (eval p z))

-- lists with the same cells, as far as they go, have the same values
eval-nil : (q : List ℕ) (z : ℕ) → ((k : ℕ) → get_or q k 0 ≡ 0) → eval q z ≡ 0
unfolding eval
eval-nil [] z h = refl
eval-nil (y ∷ q) z h = ap₂ (λ (u v : ℕ). add u (mul z v)) (h 0) (eval-nil q z (λ k. h (suc k))) ∙ simp ring

-- cells above those of p
pub eval-append : (p m : List ℕ) (z : ℕ) → Bytes m → eval (p ++ m) z ≡ add (eval p z) (mul (power z (length p)) (eval m z))
unfolding eval power
eval-append [] m z h = sym (add_zero_l (mul 1 (eval m z)) ∙ one-mul (eval m z) (eval-lt m z h))
eval-append (x ∷ p) m z h = ap (λ (v : ℕ). add x (mul z v)) (eval-append p m z h) ∙ step x z (eval p z) (power z (length p)) (eval m z)
  where
    step : (x z u w v : ℕ) → add x (mul z (add u (mul w v))) ≡ add (add x (mul z u)) (mul (mul z w) v)
    step x z u w v = simp ring

pub eval-same : (p q : List ℕ) (z : ℕ) → ((k : ℕ) → get_or p k 0 ≡ get_or q k 0) → eval p z ≡ eval q z
unfolding eval
eval-same [] q z h = sym (eval-nil q z (λ k. sym (h k)))
eval-same (x ∷ p) [] z h = eval-nil (x ∷ p) z h
eval-same (x ∷ p) (y ∷ q) z h = ap₂ (λ (u v : ℕ). add u (mul z v)) (h 0) (eval-same p q z (λ k. h (suc k)))

pub eval_head : (p : List ℕ) (z : ℕ) → eval p z ≡ add (get_or p 0 0) (mul z (eval (tail p) z))
unfolding eval
eval_head [] z = simp ring
eval_head (x ∷ p) z = refl
