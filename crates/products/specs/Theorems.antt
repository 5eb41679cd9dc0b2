-- How the operations on many cells follow from each other and from those on one: the dot product is a product and a sum, and Horner's step holds at
-- all points at once.
use Rattle.std.specs.Prelude.{◌≡◌, List, ◌∷◌, ℕ, length, replicate}
use Rattle.code.specs.Poly.{padd}
use Rattle.products.specs.Products.{times, total, dot, evals}

abbrev pub DotTimes : Type 0
DotTimes = (l s : List ℕ) → dot l s ≡ total (times l s)

-- Horner's step at all points
abbrev pub EvalsStep : Type 0
EvalsStep = (x : ℕ) (P points : List ℕ) → evals (x ∷ P) points ≡ padd (replicate (length points) x) (times points (evals P points))
