-- Polynomials over GF(256), as lists of cells with the lowest coefficient first: "Cell i of a block is the coefficient of x^i."
-- Sum, multiple, product and value are the usual ones; a list may end in zeros, so its length is part of what is said of it.
use Rattle.std.specs.Prelude.{List, [], ◌∷◌, ℕ}
use Rattle.field.specs.Field.{add, mul}

-- the value at z
unfoldable pub eval : List ℕ → ℕ → ℕ
eval [] z = 0
eval (x ∷ p) z = add x (mul z (eval p z))

-- the sum, cell by cell, as long as the longer of the two
unfoldable pub padd : List ℕ → List ℕ → List ℕ
padd [] q = q
padd (x ∷ p) [] = x ∷ p
padd (x ∷ p) (y ∷ q) = add x y ∷ padd p q

-- every cell times k
unfoldable pub pscale : ℕ → List ℕ → List ℕ
pscale k [] = []
pscale k (x ∷ p) = mul k x ∷ pscale k p

-- the product: p times the lowest cell of q, plus x times (p times the rest of q)
unfoldable pub pmul : List ℕ → List ℕ → List ℕ
pmul p [] = []
pmul p (k ∷ q) = padd (pscale k p) (0 ∷ pmul p q)
