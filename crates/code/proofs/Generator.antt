-- The generator: r + 1 byte cells, the highest 1 and the lowest not zero, with the value 0 at each of its roots. Each follows from
-- one law, that a further root a makes of g the sum of a g and x g.
use mathlib.Core.Path.{◌≡◌, refl, sym, ap, ap₂, ◌∙◌}
use mathlib.Core.Logic.{◌≢◌, ⊎_elim}
use mathlib.Core.List.{List, [], ◌∷◌}
use Prim.Native.Nat.{ℕ, zero, suc, ◌+◌, ◌<◌}
use native.Mathlib.Nat.{le_of_suc-le-suc, not-suc-le-zero, eq-or-lt_of_le}
use native.Mathlib.Omega.{arith}
use lib.ListN.{length, get_or, get_or-eq_default}
use Rattle.field.specs.Field.{add, mul, alpha}
use Rattle.field.proofs.Sum.{add_self, add_zero_l, add_zero_r}
use Rattle.field.proofs.Product.{mul-zero, zero-mul, add-mul}
use Rattle.field.proofs.Power.{power-lt, alpha-ne-zero, mul-ne-zero}
use Rattle.lists.specs.Bytes.{Bytes}
use Rattle.code.specs.Poly.{eval, padd, pscale, pmul}
use Rattle.code.specs.Code.{generator}
use Rattle.lists.proofs.Bytes.{get_or_byte}
use Rattle.code.proofs.Poly.{get_or_padd, get_or_pscale, padd-zeros, pscale-one, pmul-bytes, pmul-length, eval-padd, eval-pscale, eval-cons-zero}

pub generator-bytes : (b r : ℕ) → Bytes (generator b r)
unfolding generator
generator-bytes b zero = (omega arith, tt)
generator-bytes b (suc r) = pmul-bytes (generator b r) _

-- times (x + a), for a list that is not empty
times_linear : (g : List ℕ) (a : ℕ) → Bytes g → 0 < length g → pmul g (a ∷ 1 ∷ []) ≡ padd (pscale a g) (0 ∷ g)
unfolding pmul
times_linear g a h pos = ap (λ (p : List ℕ). padd (pscale a g) (0 ∷ p)) (ap (λ (p : List ℕ). padd p (0 ∷ [])) (pscale-one g h) ∙ padd-zeros g 1 pos)

pub generator-length : (b r : ℕ) → length (generator b r) ≡ suc r
unfolding generator
generator-length b zero = refl
generator-length b (suc r) = pmul-length (generator b r) _ r (generator-length b r) (omega arith) ∙ omega arith

-- one more root
pub generator-suc : (b r : ℕ) → generator b (suc r) ≡ padd (pscale (alpha (b + r)) (generator b r)) (0 ∷ generator b r)
unfolding generator
generator-suc b r = times_linear (generator b r) (alpha (b + r)) (generator-bytes b r) (omega (arith, generator-length b r))

cell_suc : (b r k : ℕ) → get_or (generator b (suc r)) k 0 ≡ add (mul (alpha (b + r)) (get_or (generator b r) k 0)) (get_or (0 ∷ generator b r) k 0)
cell_suc b r k =
    ap (λ (g : List ℕ). get_or g k 0) (generator-suc b r)
    ∙ get_or_padd (pscale (alpha (b + r)) (generator b r)) (0 ∷ generator b r) k
    ∙ ap (λ (v : ℕ). add v (get_or (0 ∷ generator b r) k 0)) (get_or_pscale (alpha (b + r)) (generator b r) k)

pub generator_monic : (b r : ℕ) → get_or (generator b r) r 0 ≡ 1
generator_monic b zero = unfold generator in refl
generator_monic b (suc r) =
    cell_suc b r (suc r)
    ∙ ap₂ (λ (u v : ℕ). add (mul (alpha (b + r)) u) v) (get_or-eq_default (generator b r) 0 (omega (arith, generator-length b r))) (generator_monic b r)
    ∙ ap (λ (v : ℕ). add v 1) (mul-zero (alpha (b + r)))
    ∙ add_zero_l 1

pub generator_low : (b r : ℕ) → get_or (generator b r) 0 0 ≢ 0
generator_low b zero e = let z : ◌≡◌ {A = ℕ} 1 0 = (unfold generator in e) in omega arith
generator_low b (suc r) e =
    mul-ne-zero (alpha (b + r)) (get_or (generator b r) 0 0) (power-lt 2 (b + r)) (alpha-ne-zero (b + r)) (get_or_byte (generator b r) 0 (generator-bytes b r)) (generator_low b r)
    (sym (add_zero_r (mul (alpha (b + r)) (get_or (generator b r) 0 0))) ∙ sym (cell_suc b r 0) ∙ e)

eval-suc : (b r z : ℕ) → eval (generator b (suc r)) z ≡ mul (add (alpha (b + r)) z) (eval (generator b r) z)
eval-suc b r z =
    let a : ℕ = alpha (b + r) in
    let g : List ℕ = generator b r in
    ap (λ (p : List ℕ). eval p z) (generator-suc b r)
    ∙ eval-padd (pscale a g) (0 ∷ g) z
    ∙ ap₂ add (eval-pscale a g z) (eval-cons-zero g z)
    ∙ sym (add-mul a z (eval g z))

pub generator_root : (b r i : ℕ) → i < r → eval (generator b r) (alpha (b + i)) ≡ 0
generator_root b zero i h = absurd (not-suc-le-zero h)
generator_root b (suc r) i h =
    let z : ℕ = alpha (b + i) in
    let v : ℕ = eval (generator b r) z in
    eval-suc b r z
    ∙ ⊎_elim (λ e. ap (λ (k : ℕ). mul (add (alpha (b + k)) z) v) (sym e) ∙ ap (λ (u : ℕ). mul u v) (add_self z) ∙ zero-mul v)
    (λ l. ap (mul (add (alpha (b + r)) z)) (generator_root b r i l) ∙ mul-zero (add (alpha (b + r)) z))
    (eq-or-lt_of_le (le_of_suc-le-suc h))
