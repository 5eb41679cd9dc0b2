-- Forney's formula over points: the value at a point X is the evaluator at X, divided by the derivative there and by X^b. The places m are handed in beside
-- their points X = α^m, so that a program works out no power of α anew, and each value is added to the cell at its place. The definitions are total: 63
-- places count, and a place past the cells changes nothing.
use Rattle.std.specs.Prelude.{List, [], ◌∷◌, map, ℕ, get_or, set, take}
use Rattle.field.specs.Field.{add, mul, power, inverse}
use Rattle.code.specs.Poly.{eval, padd, pscale}
use Rattle.code.specs.Run.{tail}
use Rattle.products.specs.Products.{dot}

-- ---- the polynomials

-- the product of (x + X) for the points X
unfoldable pub rooted_at : List ℕ → List ℕ
rooted_at [] = 1 ∷ []
rooted_at (X ∷ Xs) = padd (pscale X (rooted_at Xs)) (0 ∷ rooted_at Xs)

-- each end part of l against s from its first cell on
unfoldable pub windows : List ℕ → List ℕ → List ℕ
windows [] s = []
windows (y ∷ l) s = dot (y ∷ l) s ∷ windows l s

-- the evaluator: cell d is P_(d+1) s_0 + P_(d+2) s_1 + ..
unfoldable pub evaluator : List ℕ → List ℕ → List ℕ
evaluator P s = windows (tail P) s

-- cells 0, 2, 4, .. with zeros between them
unfoldable pub even_cells : List ℕ → List ℕ
even_cells [] = []
even_cells (x ∷ []) = x ∷ []
even_cells (x ∷ y ∷ l) = x ∷ 0 ∷ even_cells l

-- the formal derivative: i times x is x for odd i and 0 for even i
unfoldable pub derivative : List ℕ → List ℕ
derivative P = even_cells (tail P)

-- ---- the values

-- what is wrong at the place of the point X, from the derivative D and the evaluator W
unfoldable pub quotient_at : ℕ → List ℕ → List ℕ → ℕ → ℕ
quotient_at b D W X = mul (inverse (mul (power X b) (eval D X))) (eval W X)

-- the same, from the polynomial P of the points and the syndromes s
unfoldable pub value_at : ℕ → List ℕ → List ℕ → ℕ → ℕ
value_at b P s X = quotient_at b (derivative P) (evaluator P s) X

-- ---- the filled cells

-- each value v is added to the cell at its place
unfoldable pub laid_at : List ℕ → List ℕ → List ℕ → List ℕ
laid_at [] vs y = y
laid_at (m ∷ E) [] y = y
laid_at (m ∷ E) (v ∷ vs) y = laid_at E vs (set y m (add (get_or y m 0) v))

-- the cells y, filled at the first 63 places from the syndromes s
unfoldable pub filled_at : ℕ → List ℕ → List ℕ → List ℕ → List ℕ → List ℕ
filled_at b s E Xs y = laid_at (take 63 E) (map (value_at b (rooted_at (take 63 Xs)) s) (take 63 Xs)) y
