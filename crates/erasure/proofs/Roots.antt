-- Roots of a polynomial among the powers of α: no more than its degree; the polynomial with given roots; and why its roots are simple.
-- The quotient by z + a is a list of values: of each end part of the polynomial at a.
use mathlib.Core.Path.{◌≡◌, refl, sym, ap, ap₂, ◌∙◌, subst}
use mathlib.Core.Logic.{◌≢◌, ⊎_elim}
use mathlib.Core.Bool.{true, false}
use mathlib.Core.List.{List, [], ◌∷◌, map}
use Prim.Native.Nat.{ℕ, suc, ◌≤◌, ◌<◌}
use native.Mathlib.Nat.{not-suc-le-zero}
use native.Mathlib.Omega.{arith}
use lib.Dec.{eqb}
use lib.ListN.{length, get_or, length-map}
use borrow.Author.Tests.{eqb-true, eqb-false, eq-eqb}
use Rattle.lists.proofs.Test.{true_or_false, true_false}
use Rattle.field.specs.Field.{add, mul, alpha}
use Rattle.field.proofs.Sum.{add_self, add-eq, add-lt, add_zero_l, add_zero_r}
use Rattle.field.proofs.Product.{mul-zero, zero-mul, ring}
use Rattle.field.proofs.Power.{power-lt, alpha_inj, mul-eq-zero, mul-ne-zero}
use Rattle.lists.specs.Bytes.{Bytes}
use Rattle.code.specs.Poly.{eval, padd, pscale}
use Rattle.code.specs.Run.{tail}
use Rattle.code.proofs.Poly.{eval-lt, eval-padd, eval-pscale, eval-cons-zero, eval_head, padd-bytes, pscale-bytes, pscale-length, padd-length-r, tail-length, tail-bytes}
use Rattle.code.proofs.Distance.{eval-zero, Zero}
use Rattle.erasure.specs.Filling.{rooted_at, even_cells, derivative}
use Rattle.erasure.specs.Erasure.{among, DistinctPlaces, rooted}

-- ---- places

pub among_below : (n : ℕ) (E : List ℕ) (k : ℕ) → DistinctPlaces n E → among k E ≡ true → k < n
unfolding among
among_below n [] k p t = absurd (true_false t refl)
among_below n (j ∷ E) k p t =
    ⊎_elim (λ q. let e : j ≡ k = eqb-true j k q in let l : j < n = p.0 in omega arith)
    (λ q. let u : among k E ≡ true = rw q at t in among_below n E k p.2 u) (true_or_false (eqb j k))

pub among-cons : (j k : ℕ) (E : List ℕ) → among k E ≡ true → among k (j ∷ E) ≡ true
unfolding among
among-cons j k E t = ⊎_elim (λ q. rw q refl) (λ q. rw q t) (true_or_false (eqb j k))

pub among-here : (j : ℕ) (E : List ℕ) → among j (j ∷ E) ≡ true
unfolding among
among-here j E = rw (eq-eqb j j refl) refl

-- two places that differ have different powers
pub apart : (i j : ℕ) → i < 255 → j < 255 → i ≢ j → add (alpha i) (alpha j) ≢ 0
apart i j hi hj n e = n (alpha_inj i j hi hj (add-eq (alpha i) (alpha j) e))

alpha-sum-lt : (i j : ℕ) → add (alpha i) (alpha j) < 256
alpha-sum-lt i j = add-lt (alpha i) (alpha j) (power-lt 2 i) (power-lt 2 j)

-- ---- the quotient by z + a

unfoldable pub ends : ℕ → List ℕ → List ℕ
ends a [] = []
ends a (y ∷ l) = eval (y ∷ l) a ∷ ends a l

pub ends-length : (a : ℕ) (l : List ℕ) → length (ends a l) ≡ length l
unfolding ends
ends-length a [] = refl
ends-length a (y ∷ l) = ap suc (ends-length a l)

pub ends-bytes : (a : ℕ) (l : List ℕ) → Bytes l → Bytes (ends a l)
unfolding ends
ends-bytes a [] h = tt
ends-bytes a (y ∷ l) h = (eval-lt (y ∷ l) a h, ends-bytes a l h.1)

ends-step : (z a y u v w : ℕ) → mul (add z a) w ≡ add (mul z u) (mul a v) → mul (add z a) (add (add y (mul a v)) (mul z w)) ≡ add (mul z (add y (mul z u))) (mul a (add y (mul a v)))
ends-step z a y u v w e = split z a y v w ∙ ap (λ (k : ℕ). add (mul (add z a) (add y (mul a v))) (mul z k)) e ∙ simp ring
  where
    split : (z a y v w : ℕ) → mul (add z a) (add (add y (mul a v)) (mul z w)) ≡ add (mul (add z a) (add y (mul a v))) (mul z (mul (add z a) w))
    split z a y v w = simp ring

eval-ends : (a : ℕ) (l : List ℕ) (z : ℕ) → mul (add z a) (eval (ends a l) z) ≡ add (mul z (eval l z)) (mul a (eval l a))
unfolding ends eval
eval-ends a [] z = simp ring
eval-ends a (y ∷ l) z = ends-step z a y (eval l z) (eval l a) (eval (ends a l) z) (eval-ends a l z)

-- another root is a root of the quotient
pub ends_root : (P : List ℕ) (i j : ℕ) → i < 255 → j < 255 → i ≢ j → Bytes (tail P) → eval P (alpha i) ≡ 0 → eval P (alpha j) ≡ 0 → eval (ends (alpha j) (tail P)) (alpha i) ≡ 0
ends_root P i j hi hj n hb ei ej =
    let a : ℕ = alpha j in
    let z : ℕ = alpha i in
    let l : List ℕ = tail P in
    mul-eq-zero (add z a) (eval (ends a l) z) (alpha-sum-lt i j) (apart i j hi hj n) (eval-lt (ends a l) z (ends-bytes a l hb))
    (eval-ends a l z ∙ cancel (get_or P 0 0) (mul z (eval l z)) (mul a (eval l a)) (sym (eval_head P z) ∙ ei) (sym (eval_head P a) ∙ ej))
  where
    cancel : (x u v : ℕ) → add x u ≡ 0 → add x v ≡ 0 → add u v ≡ 0
    cancel x u v p q = ap₂ add (sym (add-eq x u p)) (sym (add-eq x v q)) ∙ add_self x

ends-zero : (a : ℕ) (l : List ℕ) → Zero (ends a l) → Zero l
unfolding ends eval
ends-zero a [] h = tt
ends-zero a (y ∷ l) h =
    let z : Zero l = ends-zero a l h.1 in
    (sym (ap (λ (v : ℕ). add y (mul a v)) (eval-zero l a z) ∙ simp ring) ∙ h.0, z)

-- a polynomial with as many roots as it has cells is zero
pub root_bound : (n : ℕ) (E l : List ℕ) → n ≤ 255 → DistinctPlaces n E → Bytes l → ((k : ℕ) → among k E ≡ true → eval l (alpha k) ≡ 0) → length l ≤ length E → Zero l
unfolding eval
root_bound n [] [] hn p hb h g = tt
root_bound n [] (x ∷ l) hn p hb h g = absurd (not-suc-le-zero g)
root_bound n (j ∷ E) [] hn p hb h g = tt
root_bound n (j ∷ E) (x ∷ l) hn p hb h g =
    let a : ℕ = alpha j in
    let j255 : j < 255 = let u : j < n = p.0 in omega arith in
    let zq : Zero (ends a l) = root_bound n E (ends a l) hn p.2 (ends-bytes a l hb.1)
    (λ k t. let k255 : k < 255 = let u : k < n = among_below n E k p.2 t in omega arith in
    ends_root (x ∷ l) k j k255 j255 (λ e. true_false (subst (λ (i : ℕ). among i E ≡ true) e t) p.1) hb.1 (h k (among-cons j k E t)) (h j (among-here j E)))
    (omega (arith, ends-length a l)) in
    let zl : Zero l = ends-zero a l zq in
    (sym (ap (λ (v : ℕ). add x (mul a v)) (eval-zero l a zl) ∙ simp ring) ∙ h j (among-here j E), zl)

-- ---- the polynomial with given roots

pub rooted-bytes : (E : List ℕ) → Bytes (rooted E)
unfolding rooted_at
rooted-bytes [] = (omega arith, tt)
rooted-bytes (j ∷ E) = padd-bytes (pscale (alpha j) (rooted E)) (0 ∷ rooted E) (pscale-bytes (alpha j) (rooted E)) (omega arith, rooted-bytes E)

pub rooted-length : (Xs : List ℕ) → length (rooted_at Xs) ≡ suc (length Xs)
unfolding rooted_at
rooted-length [] = refl
rooted-length (X ∷ Xs) =
    padd-length-r (pscale X (rooted_at Xs)) (0 ∷ rooted_at Xs) (omega (arith, pscale-length X (rooted_at Xs))) ∙ ap suc (rooted-length Xs)

pub rest-length : (E : List ℕ) → length (tail (rooted E)) ≡ length E
rest-length E = tail-length (rooted E) (length E) (rooted-length (map alpha E) ∙ ap suc (length-map E alpha))

eval-rooted : (j : ℕ) (E : List ℕ) (z : ℕ) → eval (rooted (j ∷ E)) z ≡ mul (add z (alpha j)) (eval (rooted E) z)
unfolding rooted_at
eval-rooted j E z =
    eval-padd (pscale (alpha j) (rooted E)) (0 ∷ rooted E) z
    ∙ ap₂ add (eval-pscale (alpha j) (rooted E) z) (eval-cons-zero (rooted E) z)
    ∙ together (alpha j) z (eval (rooted E) z)
  where
    together : (a z v : ℕ) → add (mul a v) (mul z v) ≡ mul (add z a) v
    together a z v = simp ring

pub rooted_root : (E : List ℕ) (k : ℕ) → among k E ≡ true → eval (rooted E) (alpha k) ≡ 0
unfolding among
rooted_root [] k t = absurd (true_false t refl)
rooted_root (j ∷ E) k t =
    eval-rooted j E (alpha k)
    ∙ ⊎_elim
    (λ q. let e : j ≡ k = eqb-true j k q in
    ap (λ (i : ℕ). mul (add (alpha k) (alpha i)) (eval (rooted E) (alpha k))) e ∙ ap (λ (v : ℕ). mul v (eval (rooted E) (alpha k))) (add_self (alpha k)) ∙ zero-mul (eval (rooted E) (alpha k)))
    (λ q. let u : among k E ≡ true = rw q at t in ap (mul (add (alpha k) (alpha j))) (rooted_root E k u) ∙ mul-zero (add (alpha k) (alpha j)))
    (true_or_false (eqb j k))

rooted_none : (z : ℕ) → eval (rooted []) z ≢ 0
unfolding rooted_at eval
rooted_none z e = let q : ◌≡◌ {A = ℕ} 1 0 = sym (ap (add 1) (mul-zero z) ∙ add_zero_r 1) ∙ e in omega arith

rooted_other : (n : ℕ) (E : List ℕ) (m : ℕ) → n ≤ 255 → m < 255 → DistinctPlaces n E → among m E ≡ false → eval (rooted E) (alpha m) ≢ 0
unfolding among
rooted_other n [] m hn hm p f = λ e. rooted_none (alpha m) e
rooted_other n (j ∷ E) m hn hm p f = λ e.
    let jn : j < n = p.0 in
    ⊎_elim (λ q. let u : true ≡ false = rw q at f in true_false refl u)
    (λ q. let u : among m E ≡ false = rw q at f in
    mul-ne-zero (add (alpha m) (alpha j)) (eval (rooted E) (alpha m)) (alpha-sum-lt m j) (apart m j hm (omega arith) (λ i. eqb-false j m q (sym i)))
    (eval-lt (rooted E) (alpha m) (rooted-bytes E)) (rooted_other n E m hn hm p.2 u) (sym (eval-rooted j E (alpha m)) ∙ e))
    (true_or_false (eqb j m))

-- ---- the derivative

even_cons : (y : ℕ) (l : List ℕ) (z : ℕ) → eval (even_cells (y ∷ l)) z ≡ add (eval (y ∷ l) z) (mul z (eval (even_cells l) z))
unfolding even_cells eval
even_cons y [] z = simp ring
even_cons y (w ∷ l) z = step y z (eval (w ∷ l) z) (eval (even_cells l) z) ∙ ap (λ (v : ℕ). add (add y (mul z (eval (w ∷ l) z))) (mul z v)) (sym (even_cons w l z))
  where
    step : (y z v d : ℕ) → add y (mul z (add 0 (mul z d))) ≡ add (add y (mul z v)) (mul z (add v (mul z d)))
    step y z v d = simp ring

ends-cons : (y : ℕ) (l : List ℕ) (a : ℕ) → eval (ends a (y ∷ l)) a ≡ add (eval (y ∷ l) a) (mul a (eval (ends a l) a))
unfolding ends eval
ends-cons y l a = refl

ends_even : (l : List ℕ) (a : ℕ) → eval (ends a l) a ≡ eval (even_cells l) a
unfolding ends even_cells
ends_even [] a = refl
ends_even (y ∷ l) a = ends-cons y l a ∙ ap (λ (v : ℕ). add (eval (y ∷ l) a) (mul a v)) (ends_even l a) ∙ sym (even_cons y l a)

-- the quotient by z + a has at a the derivative's value
pub ends-derivative : (P : List ℕ) (a : ℕ) → eval (ends a (tail P)) a ≡ eval (derivative P) a
unfolding derivative
ends-derivative P a = ends_even (tail P) a

derivative-none : (z : ℕ) → eval (derivative []) z ≡ 0
unfolding derivative even_cells eval
derivative-none z = refl

derivative-cons : (x : ℕ) (l : List ℕ) (z : ℕ) → eval (derivative (x ∷ l)) z ≡ add (eval l z) (mul z (eval (derivative l) z))
unfolding derivative even_cells eval
derivative-cons x [] z = simp ring
derivative-cons x (y ∷ l) z = even_cons y l z

derivative-padd : (p q : List ℕ) (z : ℕ) → eval (derivative (padd p q)) z ≡ add (eval (derivative p) z) (eval (derivative q) z)
unfolding padd
derivative-padd [] q z = sym (ap (λ (v : ℕ). add v (eval (derivative q) z)) (derivative-none z) ∙ add_zero_l (eval (derivative q) z))
derivative-padd (x ∷ p) [] z = sym (ap (add (eval (derivative (x ∷ p)) z)) (derivative-none z) ∙ add_zero_r (eval (derivative (x ∷ p)) z))
derivative-padd (x ∷ p) (y ∷ q) z =
    derivative-cons (add x y) (padd p q) z
    ∙ ap₂ (λ (u v : ℕ). add u (mul z v)) (eval-padd p q z) (derivative-padd p q z)
    ∙ step z (eval p z) (eval q z) (eval (derivative p) z) (eval (derivative q) z)
    ∙ sym (ap₂ add (derivative-cons x p z) (derivative-cons y q z))
  where
    step : (z u v d e : ℕ) → add (add u v) (mul z (add d e)) ≡ add (add u (mul z d)) (add v (mul z e))
    step z u v d e = simp ring

derivative-pscale : (k : ℕ) (p : List ℕ) (z : ℕ) → eval (derivative (pscale k p)) z ≡ mul k (eval (derivative p) z)
unfolding pscale
derivative-pscale k [] z = derivative-none z ∙ sym (ap (mul k) (derivative-none z) ∙ mul-zero k)
derivative-pscale k (x ∷ p) z =
    derivative-cons (mul k x) (pscale k p) z
    ∙ ap₂ (λ (u v : ℕ). add u (mul z v)) (eval-pscale k p z) (derivative-pscale k p z)
    ∙ step k z (eval p z) (eval (derivative p) z)
    ∙ ap (mul k) (sym (derivative-cons x p z))
  where
    step : (k z u d : ℕ) → add (mul k u) (mul z (mul k d)) ≡ mul k (add u (mul z d))
    step k z u d = simp ring

derivative-rooted : (j : ℕ) (E : List ℕ) (z : ℕ) → eval (derivative (rooted (j ∷ E))) z ≡ add (eval (rooted E) z) (mul (add z (alpha j)) (eval (derivative (rooted E)) z))
unfolding rooted_at
derivative-rooted j E z =
    derivative-padd (pscale (alpha j) (rooted E)) (0 ∷ rooted E) z
    ∙ ap₂ add (derivative-pscale (alpha j) (rooted E) z) (derivative-cons 0 (rooted E) z)
    ∙ step (alpha j) z (eval (rooted E) z) (eval (derivative (rooted E)) z)
  where
    step : (a z v d : ℕ) → add (mul a d) (add v (mul z d)) ≡ add v (mul (add z a) d)
    step a z v d = simp ring

even_bytes : (l : List ℕ) → Bytes l → Bytes (even_cells l)
unfolding even_cells
even_bytes [] h = tt
even_bytes (x ∷ []) h = h
even_bytes (x ∷ y ∷ l) h = (h.0, (omega arith, even_bytes l h.1.1))

pub derivative-lt : (P : List ℕ) (z : ℕ) → Bytes P → eval (derivative P) z < 256
unfolding derivative
derivative-lt P z h = eval-lt (even_cells (tail P)) z (even_bytes (tail P) (tail-bytes P h))

-- distinct roots are simple
pub simple : (n : ℕ) (E : List ℕ) (m : ℕ) → n ≤ 255 → DistinctPlaces n E → among m E ≡ true → eval (derivative (rooted E)) (alpha m) ≢ 0
unfolding among
simple n [] m hn p t = λ e. true_false t refl
simple n (j ∷ E) m hn p t = λ e.
    let jn : j < n = p.0 in
    let z : ℕ = alpha m in
    let v : ℕ = eval (rooted E) z in
    let d : ℕ = eval (derivative (rooted E)) z in
    let g : add v (mul (add z (alpha j)) d) ≡ 0 = sym (derivative-rooted j E z) ∙ e in
    ⊎_elim
    (λ q. let i : j ≡ m = eqb-true j m q in
    rooted_other n E m hn (omega arith) p.2 (subst (λ (k : ℕ). among k E ≡ false) i p.1)
    (sym (ap (λ (k : ℕ). add v (mul (add z (alpha k)) d)) i ∙ here z v d) ∙ g))
    (λ q. let u : among m E ≡ true = rw q at t in
    let mn : m < n = among_below n E m p.2 u in
    mul-ne-zero (add z (alpha j)) d (alpha-sum-lt m j) (apart m j (omega arith) (omega arith) (λ i. eqb-false j m q (sym i)))
    (derivative-lt (rooted E) z (rooted-bytes E)) (simple n E m hn p.2 u)
    (sym (ap (λ (w : ℕ). add w (mul (add z (alpha j)) d)) (rooted_root E m u) ∙ add_zero_l (mul (add z (alpha j)) d)) ∙ g))
    (true_or_false (eqb j m))
  where
    here : (z v d : ℕ) → add v (mul (add z z) d) ≡ v
    here z v d = ap (λ (w : ℕ). add v (mul w d)) (add_self z) ∙ ap (add v) (zero-mul d) ∙ add_zero_r v
