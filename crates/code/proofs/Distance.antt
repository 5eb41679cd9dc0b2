-- The minimum distance: at most 255 bytes, of which at most r are not zero, with r syndromes that are all zero, are all zero.
-- By induction on r, and then along the word. A zero in front is taken off. Of a word x ∷ c with x ≢ 0 take c(2 z) + c(z): that clears
-- the cell in front, multiplies the cell at j by α^j + 1, which is not zero, and costs one syndrome.
use mathlib.Core.Path.{◌≡◌, refl, sym, ap, ap₂, ◌∙◌}
use mathlib.Core.Logic.{⊎_elim}
use mathlib.Core.List.{List, [], ◌∷◌}
use Prim.Native.Nat.{ℕ, zero, suc, ◌+◌, ◌≤◌, ◌<◌, zero-le, suc-le-suc}
use native.Mathlib.Nat.{add-suc, suc_inj}
use native.Mathlib.Omega.{arith}
use lib.Dec.{eqb}
use lib.ListN.{length, get_or}
use borrow.Author.Tests.{eq-eqb, eqb-true}
use Rattle.lists.specs.Choice.{pick}
use Rattle.lists.proofs.Test.{true_or_false}
use Rattle.field.specs.Field.{add, mul, power, alpha}
use Rattle.field.proofs.Sum.{add_self, add-eq, add-lt}
use Rattle.field.proofs.Product.{mul-lt, mul_comm, zero-mul, one-mul, mul-one, ring}
use Rattle.field.proofs.Power.{power-lt, alpha-ne-zero, alpha-ne-one, mul-eq-zero}
use Rattle.lists.specs.Bytes.{Bytes}
use Rattle.code.specs.Poly.{eval, padd}
use Rattle.code.specs.Code.{syndrome, distance, nonzero, weight}
use Rattle.code.proofs.Poly.{eval-lt, eval-cons-zero, eval-padd, padd-length, padd-bytes, equal_of_zero}

-- every cell is zero
abbrev pub Zero : List ℕ → Type 0
Zero [] = Unit {0}
Zero (x ∷ c) = (x ≡ 0) × Zero c

pub zero-at : (c : List ℕ) (k : ℕ) → Zero c → get_or c k 0 ≡ 0
zero-at [] k h = refl
zero-at (x ∷ c) zero h = h.0
zero-at (x ∷ c) (suc k) h = zero-at c k h.1

pub nonzero-le : (n : ℕ) → nonzero n ≤ 1
nonzero-le zero = zero-le
nonzero-le (suc n) = omega arith

pub weight-le : (c : List ℕ) → weight c ≤ length c
unfolding weight
weight-le [] = zero-le
weight-le (x ∷ c) = omega (arith, nonzero-le x, weight-le c)

weight-zero : (c : List ℕ) → weight c ≤ 0 → Zero c
unfolding weight
weight-zero [] h = tt
weight-zero (zero ∷ c) h = (refl, weight-zero c (omega arith))
weight-zero (suc x ∷ c) h = absurd (omega arith)

pub eval-zero : (c : List ℕ) (z : ℕ) → Zero c → eval c z ≡ 0
unfolding eval
eval-zero [] z h = refl
eval-zero (x ∷ c) z h = ap₂ (λ (u v : ℕ). add u (mul z v)) h.0 (eval-zero c z h.1) ∙ simp ring

-- ---- the twisted word: cell j times (p α^j + 1)

unfoldable twist : ℕ → List ℕ → List ℕ
twist p [] = []
twist p (x ∷ c) = mul x (add p 1) ∷ twist (mul 2 p) c

eval-twist : (p : ℕ) (c : List ℕ) (z : ℕ) → eval (twist p c) z ≡ add (mul p (eval c (mul 2 z))) (mul 1 (eval c z))
unfolding eval twist
eval-twist p [] z = simp ring
eval-twist p (x ∷ c) z =
    ap (λ (v : ℕ). add (mul x (add p 1)) (mul z v)) (eval-twist (mul 2 p) c z) ∙ step x p 1 z (eval c (mul 2 z)) (eval c z)
  where
    step : (x p t z u v : ℕ) → add (mul x (add p t)) (mul z (add (mul (mul 2 p) u) (mul t v))) ≡ add (mul p (add x (mul (mul 2 z) u))) (mul t (add x (mul z v)))
    step x p t z u v = simp ring

twist-length : (p : ℕ) (c : List ℕ) → length (twist p c) ≡ length c
unfolding twist
twist-length p [] = refl
twist-length p (x ∷ c) = ap suc (twist-length (mul 2 p) c)

twist-bytes : (p : ℕ) (c : List ℕ) → Bytes (twist p c)
unfolding twist
twist-bytes p [] = tt
twist-bytes p (x ∷ c) = (mul-lt x (add p 1), twist-bytes (mul 2 p) c)

nonzero-mul : (x y : ℕ) → nonzero (mul x y) ≤ nonzero x
nonzero-mul zero y = rw zero-mul zero-le
nonzero-mul (suc x) y = nonzero-le (mul (suc x) y)

twist-weight : (p : ℕ) (c : List ℕ) → weight (twist p c) ≤ weight c
unfolding twist weight
twist-weight p [] = zero-le
twist-weight p (x ∷ c) = omega (arith, nonzero-mul x (add p 1), twist-weight (mul 2 p) c)

-- its factors are not zero
untwist : (k : ℕ) (c : List ℕ) → 0 < k → k + length c ≤ 255 → Bytes c → Zero (twist (alpha k) c) → Zero c
unfolding twist power
untwist k [] p h b z = tt
untwist k (x ∷ c) p h b z = (
  mul-eq-zero (add (alpha k) 1) x (add-lt (alpha k) 1 (power-lt 2 k) (omega arith)) (λ e. alpha-ne-one k p (omega arith) (add-eq (alpha k) 1 e)) b.0
      (mul_comm (add (alpha k) 1) x ∙ z.0),
  untwist (suc k) c (omega arith) (omega arith) b.1 z.1,
)

alpha-one : alpha 1 ≡ 2
unfolding power
alpha-one = mul-one 2 (omega arith)

-- the twisted word has one zero syndrome less
peel_step : (x z u v : ℕ) → add x (mul (mul 2 z) u) ≡ 0 → add x (mul z v) ≡ 0 → mul z (add (mul 2 u) v) ≡ 0
peel_step x z u v e f =
    let g : add (add x (mul (mul 2 z) u)) (add x (mul z v)) ≡ 0 = ap₂ add e f ∙ add_self 0 in
    (simp ring) ∙ g

peel : (b r x : ℕ) (c : List ℕ) → Bytes c → ((i : ℕ) → i < suc r → syndrome b i (x ∷ c) ≡ 0) → (i : ℕ) → i < r → syndrome b i (twist (alpha 1) c) ≡ 0
unfolding eval power
peel b r x c hb hs i hi =
    let z : ℕ = alpha (b + i) in
    let u : ℕ = eval c (mul 2 z) in
    let v : ℕ = eval c z in
    mul-eq-zero z (eval (twist (alpha 1) c) z) (power-lt 2 (b + i)) (alpha-ne-zero (b + i)) (eval-lt (twist (alpha 1) c) z (twist-bytes (alpha 1) c))
    (ap (mul z) (eval-twist (alpha 1) c z ∙ ap₂ (λ (p w : ℕ). add (mul p u) w) alpha-one (one-mul v (eval-lt c z hb)))
    ∙ peel_step x z u v (ap (λ (k : ℕ). eval (x ∷ c) (alpha k)) (sym (add-suc b i)) ∙ hs (suc i) (suc-le-suc hi)) (hs i (omega arith)))

front : (y : ℕ) (d : List ℕ) (z : ℕ) → eval d z ≡ 0 → y ≡ eval (y ∷ d) z
unfolding eval
front y d z e = sym (ap (λ (v : ℕ). add y (mul z v)) e ∙ simp ring)

module _ (r b : ℕ)
    (ih : (c : List ℕ) → Bytes c → length c ≤ 255 → weight c ≤ r → ((i : ℕ) → i < r → syndrome b i c ≡ 0) → Zero c) where
  along : (c : List ℕ) → Bytes c → length c ≤ 255 → weight c ≤ suc r → ((i : ℕ) → i < suc r → syndrome b i c ≡ 0) → Zero c
  unfolding weight
  along [] hb hl hw hs = tt
  along (zero ∷ c) hb hl hw hs = (
    refl,
    along c hb.1 (omega arith) (omega arith)
        (λ i hi. mul-eq-zero (alpha (b + i)) (eval c (alpha (b + i))) (power-lt 2 (b + i)) (alpha-ne-zero (b + i)) (eval-lt c (alpha (b + i)) hb.1)
        (sym (eval-cons-zero c (alpha (b + i))) ∙ hs i hi)),
  )
  along (suc x ∷ c) hb hl hw hs =
      let w : List ℕ = twist (alpha 1) c in
      let zw : Zero w = ih w (twist-bytes (alpha 1) c) (omega (arith, twist-length (alpha 1) c)) (omega (arith, twist-weight (alpha 1) c)) (peel b r (suc x) c hb.1 hs) in
      let zc : Zero c = untwist 1 c (omega arith) (omega arith) hb.1 zw in
      let e : suc x ≡ 0 = front (suc x) c (alpha (b + 0)) (eval-zero c (alpha (b + 0)) zc) ∙ hs 0 (omega arith) in
      absurd (omega arith)

pub few_cells : (r b : ℕ) (c : List ℕ) → Bytes c → length c ≤ 255 → weight c ≤ r → ((i : ℕ) → i < r → syndrome b i c ≡ 0) → Zero c
few_cells zero b c hb hl hw hs = weight-zero c hw
few_cells (suc r) b c hb hl hw hs = along r b (few_cells r b) c hb hl hw hs

-- ---- two words

nonzero-add : (x y : ℕ) → nonzero (add x y) ≤ pick (eqb x y) 0 1
nonzero-add x y = ⊎_elim (λ t. rw (t, eqb-true x y t, add_self) zero-le) (λ t. rw t (nonzero-le (add x y))) (true_or_false (eqb x y))

pub distance-weight : (c d : List ℕ) → length c ≡ length d → weight (padd c d) ≤ distance c d
unfolding weight padd distance
distance-weight [] [] e = zero-le
distance-weight [] (y ∷ d) e = absurd (omega arith)
distance-weight (x ∷ c) [] e = absurd (omega arith)
distance-weight (x ∷ c) (y ∷ d) e = omega (arith, nonzero-add x y, distance-weight c d (suc_inj e))

pub distance-le : (c d : List ℕ) → distance c d ≤ length c
unfolding distance
distance-le [] d = zero-le
distance-le (x ∷ c) [] = zero-le
distance-le (x ∷ c) (y ∷ d) = ⊎_elim (λ t. rw t (omega (arith, distance-le c d))) (λ t. rw t (omega (arith, distance-le c d))) (true_or_false (eqb x y))

-- a word differs from itself in no cell, and from every other word of its length in one at least
pub distance_self : (c : List ℕ) → distance c c ≡ 0
unfolding distance
distance_self [] = refl
distance_self (x ∷ c) = rw (eq-eqb x x refl) (omega (arith, distance_self c))

pub distance-same : (c d : List ℕ) → length c ≡ length d → distance c d ≡ 0 → c ≡ d
unfolding distance
distance-same [] [] e q = refl
distance-same [] (y ∷ d) e q = absurd (omega arith)
distance-same (x ∷ c) [] e q = absurd (omega arith)
distance-same (x ∷ c) (y ∷ d) e q =
    ⊎_elim
    (λ t. ap₂ (λ (z : ℕ) (l : List ℕ). z ∷ l) (eqb-true x y t) (distance-same c d (suc_inj e) (let z : ◌≡◌ {A = ℕ} (0 + distance c d) 0 = rw t at q in omega arith)))
    (λ t. absurd (let z : ◌≡◌ {A = ℕ} (1 + distance c d) 0 = rw t at q in omega arith)) (true_or_false (eqb x y))

-- two words with the same syndromes that differ in at most r cells are one
pub determined : (r b : ℕ) (c d : List ℕ) → Bytes c → Bytes d → length c ≡ length d → length c ≤ 255
    → ((i : ℕ) → i < r → syndrome b i c ≡ syndrome b i d) → distance c d ≤ r → c ≡ d
determined r b c d hc hd e l k w =
    equal_of_zero c d e
    (λ j. zero-at (padd c d) j
    (few_cells r b (padd c d) (padd-bytes c d hc hd) (omega (arith, padd-length c d (omega arith))) (omega (arith, distance-weight c d e))
    (λ i hi. eval-padd c d (alpha (b + i)) ∙ ap (λ (v : ℕ). add v (syndrome b i d)) (k i hi) ∙ add_self (syndrome b i d))))
