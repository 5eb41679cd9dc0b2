-- What a program does that works on many cells at once: the product cell by cell, the sum of all cells, the values of a polynomial at many
-- points, and powers. The shared statements of filling and of locating errors are written with these.
use Rattle.std.specs.Prelude.{List, [], ◌∷◌, ℕ, zero, suc}
use Rattle.field.specs.Field.{add, mul, power}
use Rattle.code.specs.Poly.{eval}

-- the product, cell by cell, as long as the shorter of the two
unfoldable pub times : List ℕ → List ℕ → List ℕ
times [] s = []
times (x ∷ l) [] = []
times (x ∷ l) (y ∷ s) = mul x y ∷ times l s

-- the sum of all cells
unfoldable pub total : List ℕ → ℕ
total [] = 0
total (x ∷ l) = add x (total l)

-- cell 0 of one times cell 0 of the other, plus cell 1 times cell 1, and so on
unfoldable pub dot : List ℕ → List ℕ → ℕ
dot [] s = 0
dot (x ∷ l) [] = 0
dot (x ∷ l) (y ∷ s) = add (mul x y) (dot l s)

-- the values of P at the points
unfoldable pub evals : List ℕ → List ℕ → List ℕ
evals P [] = []
evals P (z ∷ points) = eval P z ∷ evals P points

-- each cell to the power e
unfoldable pub powers : ℕ → List ℕ → List ℕ
powers e [] = []
powers e (x ∷ l) = power x e ∷ powers e l

-- f at k, k + 1 and so on: n cells
unfoldable pub listed : (ℕ → ℕ) → ℕ → ℕ → List ℕ
listed f zero k = []
listed f (suc n) k = f k ∷ listed f n (suc k)
