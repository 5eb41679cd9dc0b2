-- A word weighed by a polynomial l: cell j times l(α^j). Its syndromes are sums of products of l with consecutive syndromes of the word,
-- so a polynomial that vanishes at all wrong cells but one leaves that cell alone.
use mathlib.Core.Path.{◌≡◌, refl, sym, ap, ap₂, ◌∙◌}
use mathlib.Core.Logic.{◌≢◌}
use mathlib.Core.List.{List, [], ◌∷◌}
use Prim.Native.Nat.{ℕ, zero, suc, ◌+◌, ◌≤◌, ◌<◌, zero-le}
use native.Mathlib.Nat.{not-suc-le-zero, suc_inj, le_of_suc-le-suc, add-suc, add-zero, mul_comm}
use native.Mathlib.Omega.{arith}
use lib.ListN.{length, get_or}
use Rattle.field.specs.Field.{add, mul, power, alpha}
use Rattle.field.proofs.Sum.{add_zero_l, add_zero_r}
use Rattle.field.proofs.Product.{mul-lt, mul_assoc, mul_left_comm, mul-zero, zero-mul, one-mul, mul-one, ring}
use Rattle.field.proofs.Power.{power-lt, power-mul}
use Rattle.lists.specs.Bytes.{Bytes}
use Rattle.code.specs.Poly.{eval}
use Rattle.code.specs.Code.{syndrome, weight}
use Rattle.code.proofs.Poly.{eval-lt}
use Rattle.code.proofs.Distance.{eval-zero, Zero}
use Rattle.products.specs.Products.{dot}
use Rattle.erasure.specs.Filling.{windows}
use Rattle.erasure.proofs.Dot.{dot-nil}
use Rattle.erasure.proofs.Roots.{ends}

-- s holds consecutive syndromes of e, from number i on
abbrev pub Syn : ℕ → ℕ → List ℕ → List ℕ → Type 0
Syn b i [] e = Unit {0}
Syn b i (x ∷ s) e = (x ≡ syndrome b i e) × Syn b (suc i) s e

-- ---- the weighed word, with p for α^j at the first cell

unfoldable pub weigh : ℕ → List ℕ → List ℕ → List ℕ
weigh p l [] = []
weigh p l (x ∷ c) = mul x (eval l p) ∷ weigh (mul 2 p) l c

pub weigh-bytes : (p : ℕ) (l c : List ℕ) → Bytes (weigh p l c)
unfolding weigh
weigh-bytes p l [] = tt
weigh-bytes p l (x ∷ c) = (mul-lt x (eval l p), weigh-bytes (mul 2 p) l c)

pub weigh-length : (p : ℕ) (l c : List ℕ) → length (weigh p l c) ≡ length c
unfolding weigh
weigh-length p l [] = refl
weigh-length p l (x ∷ c) = ap suc (weigh-length (mul 2 p) l c)

pub weight-cons : (x : ℕ) (c : List ℕ) → weight (x ∷ c) ≤ suc (weight c)
unfolding weight
weight-cons zero c = omega arith
weight-cons (suc x) c = omega arith

pub weigh-weight : (p : ℕ) (l c : List ℕ) → weight (weigh p l c) ≤ weight c
unfolding weigh weight
weigh-weight p l [] = zero-le
weigh-weight p l (zero ∷ c) = rw zero-mul (omega (arith, weigh-weight (mul 2 p) l c))
weigh-weight p l (suc x ∷ c) = omega (arith, weight-cons (mul (suc x) (eval l p)) (weigh (mul 2 p) l c), weigh-weight (mul 2 p) l c)

eval-weigh-nil : (p : ℕ) (c : List ℕ) (z : ℕ) → eval (weigh p [] c) z ≡ 0
unfolding weigh eval
eval-weigh-nil p [] z = refl
eval-weigh-nil p (y ∷ c) z = ap (λ (v : ℕ). add (mul y 0) (mul z v)) (eval-weigh-nil (mul 2 p) c z) ∙ simp ring

cons-step : (y x p v z u w : ℕ)
    → add (mul y (add x (mul p v))) (mul z (add (mul x u) (mul (mul 2 p) w))) ≡ add (mul x (add y (mul z u))) (mul p (add (mul y v) (mul (mul 2 z) w)))
cons-step y x p v z u w = simp ring

eval-weigh-cons : (p x : ℕ) (l c : List ℕ) (z : ℕ) → eval (weigh p (x ∷ l) c) z ≡ add (mul x (eval c z)) (mul p (eval (weigh p l c) (mul 2 z)))
unfolding weigh eval
eval-weigh-cons p x l [] z = simp ring
eval-weigh-cons p x l (y ∷ c) z =
    ap (λ (v : ℕ). add (mul y (add x (mul p (eval l p)))) (mul z v)) (eval-weigh-cons (mul 2 p) x l c z)
    ∙ cons-step y x p (eval l p) z (eval c z) (eval (weigh (mul 2 p) l c) (mul 2 z))

alpha-next : (b i : ℕ) → mul 2 (alpha (b + i)) ≡ alpha (b + suc i)
unfolding power
alpha-next b i = ap alpha (sym (add-suc b i))

-- a syndrome of the weighed word
pub syndrome-weigh : (b i : ℕ) (l s e : List ℕ) → length l ≤ length s → Syn b i s e → syndrome b i (weigh 1 l e) ≡ dot l s
unfolding dot
syndrome-weigh b i [] s e g h = eval-weigh-nil 1 e (alpha (b + i))
syndrome-weigh b i (x ∷ l) [] e g h = absurd (not-suc-le-zero g)
syndrome-weigh b i (x ∷ l) (y ∷ s) e g h =
    let w : List ℕ = weigh 1 l e in
    eval-weigh-cons 1 x l e (alpha (b + i))
    ∙ ap₂ add (ap (mul x) (sym h.0))
    (one-mul (eval w (mul 2 (alpha (b + i)))) (eval-lt w (mul 2 (alpha (b + i))) (weigh-bytes 1 l e))
    ∙ ap (eval w) (alpha-next b i) ∙ syndrome-weigh b (suc i) l s e (le_of_suc-le-suc g) h.1)

weigh-at-from : (p : ℕ) (l c : List ℕ) (j : ℕ) → p < 256 → get_or (weigh p l c) j 0 ≡ mul (get_or c j 0) (eval l (mul (alpha j) p))
unfolding weigh power
weigh-at-from p l [] j hp = sym (zero-mul (eval l (mul (alpha j) p)))
weigh-at-from p l (x ∷ c) zero hp = ap (λ (v : ℕ). mul x (eval l v)) (sym (one-mul p hp))
weigh-at-from p l (x ∷ c) (suc j) hp =
    weigh-at-from (mul 2 p) l c j (mul-lt 2 p) ∙ ap (λ (v : ℕ). mul (get_or c j 0) (eval l v)) (mul_left_comm (alpha j) 2 p ∙ sym (mul_assoc 2 (alpha j) p))

pub weigh-at : (l c : List ℕ) (j : ℕ) → get_or (weigh 1 l c) j 0 ≡ mul (get_or c j 0) (eval l (alpha j))
weigh-at l c j = weigh-at-from 1 l c j (omega arith) ∙ ap (λ (v : ℕ). mul (get_or c j 0) (eval l v)) (mul-one (alpha j) (power-lt 2 j))

-- ---- one cell alone

pub cells-zero : (c : List ℕ) → ((k : ℕ) → get_or c k 0 ≡ 0) → Zero c
cells-zero [] h = tt
cells-zero (x ∷ c) h = (h 0, cells-zero c (λ k. h (suc k)))

eval_single : (c : List ℕ) (m z : ℕ) → Bytes c → ((k : ℕ) → k ≢ m → get_or c k 0 ≡ 0) → eval c z ≡ mul (get_or c m 0) (power z m)
unfolding eval power
eval_single [] m z hb h = sym (zero-mul (power z m))
eval_single (x ∷ c) zero z hb h =
    ap (λ (v : ℕ). add x (mul z v)) (eval-zero c z (cells-zero c (λ k. h (suc k) (omega arith)))) ∙ ap (add x) (mul-zero z) ∙ add_zero_r x ∙ sym (mul-one x hb.0)
eval_single (x ∷ c) (suc m) z hb h =
    ap₂ (λ (u v : ℕ). add u (mul z v)) (h 0 (omega arith)) (eval_single c m z hb.1 (λ k n. h (suc k) (λ e. n (suc_inj e))))
    ∙ add_zero_l (mul z (mul (get_or c m 0) (power z m))) ∙ mul_left_comm z (get_or c m 0) (power z m)

powers_exchanged : (b m : ℕ) → power (alpha b) m ≡ power (alpha m) b
powers_exchanged b m = sym (power-mul 2 b m) ∙ ap alpha (mul_comm b m) ∙ power-mul 2 m b

-- a polynomial that vanishes at all wrong cells but m picks that cell
pub picked : (b m : ℕ) (l s e : List ℕ) → Bytes e → length l ≤ length s → Syn b 0 s e → ((k : ℕ) → k ≢ m → mul (get_or e k 0) (eval l (alpha k)) ≡ 0)
    → dot l s ≡ mul (mul (power (alpha m) b) (eval l (alpha m))) (get_or e m 0)
picked b m l s e he g h z =
    sym (syndrome-weigh b 0 l s e g h)
    ∙ eval_single (weigh 1 l e) m (alpha (b + 0)) (weigh-bytes 1 l e) (λ k n. weigh-at l e k ∙ z k n)
    ∙ ap₂ mul (weigh-at l e m) (ap (λ (k : ℕ). power (alpha k) m) (add-zero b) ∙ powers_exchanged b m)
    ∙ shuffle (get_or e m 0) (eval l (alpha m)) (power (alpha m) b)
  where
    shuffle : (x a p : ℕ) → mul (mul x a) p ≡ mul (mul p a) x
    shuffle x a p = simp ring

-- ---- the evaluator

-- the quotient against s, and against s moved down by one cell
ends_move : (a : ℕ) (l : List ℕ) (x : ℕ) (s : List ℕ) → add (dot (ends a l) s) (mul a (dot (ends a l) (x ∷ s))) ≡ add (dot l s) (mul a (mul x (eval l a)))
unfolding dot ends eval
ends_move a [] x s = simp ring
ends_move a (y ∷ l) x [] = ap (λ (v : ℕ). add 0 (mul a (add (mul (add y (mul a (eval l a))) x) v))) (dot-nil (ends a l)) ∙ step a x (add y (mul a (eval l a)))
  where
    step : (a x v : ℕ) → add 0 (mul a (add (mul v x) 0)) ≡ add 0 (mul a (mul x v))
    step a x v = simp ring
ends_move a (y ∷ l) x (w ∷ s) =
    step a y x w (eval l a) (dot (ends a l) s) (dot (ends a l) (w ∷ s))
    ∙ ap (λ (v : ℕ). add (add (mul y w) (mul a (mul w (eval l a)))) (add v (mul a (mul x (add y (mul a (eval l a))))))) (ends_move a l w s)
    ∙ gather a y w (eval l a) (dot l s) (mul a (mul x (add y (mul a (eval l a)))))
  where
    step : (a y x w v p q : ℕ)
        → add (add (mul (add y (mul a v)) w) p) (mul a (add (mul (add y (mul a v)) x) q))
        ≡ add (add (mul y w) (mul a (mul w v))) (add (add p (mul a q)) (mul a (mul x (add y (mul a v)))))
    step a y x w v p q = simp ring

    gather : (a y w v d t : ℕ) → add (add (mul y w) (mul a (mul w v))) (add (add d (mul a (mul w v))) t) ≡ add (add (mul y w) d) t
    gather a y w v d t = simp ring

-- the evaluator at a is the quotient by z + a, against s
pub eval-windows : (l s : List ℕ) (a : ℕ) → eval (windows l s) a ≡ dot (ends a l) s
unfolding windows ends eval dot
eval-windows [] s a = refl
eval-windows (y ∷ l) [] a = ap (λ (v : ℕ). add 0 (mul a v)) (eval-windows l [] a ∙ dot-nil (ends a l)) ∙ simp ring
eval-windows (y ∷ l) (x ∷ s) a =
    ap (λ (v : ℕ). add (add (mul y x) (dot l s)) (mul a v)) (eval-windows l (x ∷ s) a)
    ∙ split y x a (eval l a) (dot l s) (mul a (dot (ends a l) (x ∷ s)))
    ∙ ap (λ (v : ℕ). add (mul (add y (mul a (eval l a))) x) (add v (mul a (dot (ends a l) (x ∷ s))))) (sym (ends_move a l x s))
    ∙ gather (mul (add y (mul a (eval l a))) x) (dot (ends a l) s) (mul a (dot (ends a l) (x ∷ s)))
  where
    split : (y x a v d m : ℕ) → add (add (mul y x) d) m ≡ add (mul (add y (mul a v)) x) (add (add d (mul a (mul x v))) m)
    split y x a v d m = simp ring

    gather : (k p m : ℕ) → add k (add (add p m) m) ≡ add k p
    gather k p m = simp ring
