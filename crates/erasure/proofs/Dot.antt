-- The dot product of two lists: either may stand first, it keeps sums and multiples, and it reads no cell past the end of the other list, so that zeros
-- after a list do not count.
use mathlib.Core.Path.{◌≡◌, refl, sym, ap, ap₂, ◌∙◌}
use mathlib.Core.List.{List, [], ◌∷◌}
use Prim.Native.Nat.{ℕ, suc, ◌<◌, suc-le-suc}
use native.Mathlib.Omega.{arith}
use lib.ListN.{length, get_or}
use Rattle.field.specs.Field.{add, mul}
use Rattle.field.proofs.Sum.{add_self, add-lt, add_zero_l, add_zero_r}
use Rattle.field.proofs.Product.{mul-lt, mul_comm, mul-zero, ring}
use Rattle.code.specs.Poly.{padd, pscale}
use Rattle.products.specs.Products.{dot}

-- the same cells, whatever zeros follow
abbrev pub Same : List ℕ → List ℕ → Type 0
Same p q = (k : ℕ) → get_or p k 0 ≡ get_or q k 0

pub dot-lt : (l s : List ℕ) → dot l s < 256
unfolding dot
dot-lt [] s = omega arith
dot-lt (x ∷ l) [] = omega arith
dot-lt (x ∷ l) (y ∷ s) = add-lt (mul x y) (dot l s) (mul-lt x y) (dot-lt l s)

pub dot-nil : (l : List ℕ) → dot l [] ≡ 0
unfolding dot
dot-nil [] = refl
dot-nil (x ∷ l) = refl

dot_comm : (l s : List ℕ) → dot l s ≡ dot s l
unfolding dot
dot_comm [] s = sym (dot-nil s)
dot_comm (x ∷ l) [] = refl
dot_comm (x ∷ l) (y ∷ s) = ap₂ add (mul_comm x y) (dot_comm l s)

pub dot-sum : (p q s : List ℕ) → dot (padd p q) s ≡ add (dot p s) (dot q s)
unfolding dot padd
dot-sum [] q s = sym (add_zero_l (dot q s))
dot-sum (x ∷ p) [] s = sym (add_zero_r (dot (x ∷ p) s))
dot-sum (x ∷ p) (y ∷ q) [] = sym (add_self 0)
dot-sum (x ∷ p) (y ∷ q) (z ∷ s) = ap (add (mul (add x y) z)) (dot-sum p q s) ∙ step x y z (dot p s) (dot q s)
  where
    step : (x y z u v : ℕ) → add (mul (add x y) z) (add u v) ≡ add (add (mul x z) u) (add (mul y z) v)
    step x y z u v = simp ring

pub dot-padd : (l s t : List ℕ) → dot l (padd s t) ≡ add (dot l s) (dot l t)
dot-padd l s t = dot_comm l (padd s t) ∙ dot-sum s t l ∙ ap₂ add (dot_comm s l) (dot_comm t l)

pub dot_multiple : (k : ℕ) (p s : List ℕ) → dot (pscale k p) s ≡ mul k (dot p s)
unfolding dot pscale
dot_multiple k [] s = sym (mul-zero k)
dot_multiple k (x ∷ p) [] = sym (mul-zero k)
dot_multiple k (x ∷ p) (y ∷ s) = ap (add (mul (mul k x) y)) (dot_multiple k p s) ∙ step k x y (dot p s)
  where
    step : (k x y v : ℕ) → add (mul (mul k x) y) (mul k v) ≡ mul k (add (mul x y) v)
    step k x y v = simp ring

dot-rest : (c y : ℕ) (C R : List ℕ) → 0 ≡ y → dot C [] ≡ dot C R → 0 ≡ add (mul c y) (dot C R)
dot-rest c y C R z e = sym (ap₂ (λ (u v : ℕ). add (mul c u) v) (sym z) (sym e ∙ dot-nil C) ∙ simp ring)

-- only as many cells count as the other list has
pub dot-cells : (C T R : List ℕ) → ((j : ℕ) → j < length C → get_or T j 0 ≡ get_or R j 0) → dot C T ≡ dot C R
unfolding dot
dot-cells [] T R h = refl
dot-cells (c ∷ C) [] [] h = refl
dot-cells (c ∷ C) [] (y ∷ R) h = dot-rest c y C R (h 0 (omega arith)) (dot-cells C [] R (λ j l. h (suc j) (suc-le-suc l)))
dot-cells (c ∷ C) (x ∷ T) [] h = sym (dot-rest c x C T (sym (h 0 (omega arith))) (sym (dot-cells C T [] (λ j l. h (suc j) (suc-le-suc l)))))
dot-cells (c ∷ C) (x ∷ T) (y ∷ R) h = ap₂ (λ (u v : ℕ). add (mul c u) v) (h 0 (omega arith)) (dot-cells C T R (λ j l. h (suc j) (suc-le-suc l)))

pub dot-same : (p q s : List ℕ) → Same p q → dot p s ≡ dot q s
dot-same p q s h = dot_comm p s ∙ dot-cells s p q (λ j l. h j) ∙ dot_comm s q
