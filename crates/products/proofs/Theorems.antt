-- The theorems of specs/Theorems.antt, cell by cell.
use mathlib.Core.Path.{refl, ap}
use mathlib.Core.List.{List, [], ◌∷◌}
use Prim.Native.Nat.{ℕ}
use Rattle.field.specs.Field.{add, mul}
use Rattle.code.specs.Poly.{eval, padd}
use Rattle.products.specs.Products.{times, total, dot, evals}
use Rattle.products.specs.Theorems.{DotTimes, EvalsStep}

pub dot-times : DotTimes
unfolding dot times total
dot-times [] s = refl
dot-times (x ∷ l) [] = refl
dot-times (x ∷ l) (y ∷ s) = ap (add (mul x y)) (dot-times l s)

pub evals-step : EvalsStep
unfolding evals eval times padd
evals-step x P [] = refl
evals-step x P (z ∷ points) = ap (λ (l : List ℕ). add x (mul z (eval P z)) ∷ l) (evals-step x P points)
