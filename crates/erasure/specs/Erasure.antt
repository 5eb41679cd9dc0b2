-- Erasures: cells of a read block whose places are known and whose values are not. The word that is filled in at those places is computed from the r
-- syndromes alone, by Forney's formula at the points α^m of the places m. Everything is for every b, and for lists of distinct places.
use Rattle.std.specs.Prelude.{◌≡◌, Bool, true, false, List, [], ◌∷◌, map, ℕ, ◌<◌, eqb, length, get_or}
use Rattle.lists.specs.Choice.{pick}
use Rattle.field.specs.Field.{alpha}
use Rattle.code.specs.Poly.{padd}
use Rattle.code.specs.Code.{Codeword, syndrome}
use Rattle.products.specs.Products.{listed}
use Rattle.erasure.specs.Filling.{rooted_at, value_at}

-- ---- places

-- is cell k one of the places
unfoldable pub among : ℕ → List ℕ → Bool
among k [] = false
among k (j ∷ E) = pick (eqb j k) true (among k E)

-- distinct places, each below n
abbrev pub DistinctPlaces : ℕ → List ℕ → Type 0
DistinctPlaces n [] = Unit {0}
DistinctPlaces n (j ∷ E) = (j < n) × (among j E ≡ false) × DistinctPlaces n E

-- c is a codeword that agrees with y in every cell but the places
pub record Fills (n r b : ℕ) (E y c : List ℕ) : Type 0 where
  pub codeword : Codeword n r b c
  pub agree : (k : ℕ) → k < n → among k E ≡ false → get_or y k 0 ≡ get_or c k 0

-- ---- the filled word

-- syndromes 0 to r − 1
unfoldable pub syndromes : ℕ → ℕ → List ℕ → List ℕ
syndromes b r y = listed (λ i. syndrome b i y) r 0

-- the product of (x + α^j) for the places j
abbrev pub rooted : List ℕ → List ℕ
rooted E = rooted_at (map alpha E)

-- what is added at cell k
unfoldable pub error_cell : ℕ → List ℕ → List ℕ → ℕ → ℕ
error_cell b E s k = pick (among k E) (value_at b (rooted E) s (alpha k)) 0

-- what is added: n cells
unfoldable pub error_word : ℕ → ℕ → List ℕ → List ℕ → List ℕ
error_word n b E s = listed (error_cell b E s) n 0

-- y, filled at the places
unfoldable pub filled_word : ℕ → ℕ → List ℕ → List ℕ → List ℕ
filled_word b r E y = padd y (error_word (length y) b E (syndromes b r y))
