-- Errors: wrong cells at unknown places, at most h of them, with 2 h ≤ r (document 02, Note 1). By the shift-register method of source document 002,
-- without division, Massey's recursion over the r syndromes gives a polynomial whose roots among the n cells are the locations, and the values are
-- filled in as at known places. M is how many cells a polynomial is given; any M above h serves, by the theorems.
use Rattle.std.specs.Prelude.{◌≡◌, Bool, not, List, [], ◌∷◌, ℕ, zero, suc, ◌+◌, ◌-◌, ◌≤◌, eqb, ltb, leb, length, get_or, take, replicate}
use Rattle.lists.specs.Choice.{pick, both}
use Rattle.field.specs.Field.{alpha}
use Rattle.code.specs.Poly.{eval, padd, pscale}
use Rattle.products.specs.Products.{dot}
use Rattle.erasure.specs.Erasure.{syndromes, filled_word}

-- ---- Massey's recursion

-- after N syndromes: the recursion C_0 s_i + C_1 s_(i−1) + .. = 0 holds from i = size on. In source document 002 `connection` is a multiple of
-- the feedback polynomial Λ^N, and `size` is the length L_N; `before` is a multiple of Λ^(μ−1), the polynomial as it was before the size last
-- grew, moved up by one cell for each syndrome since, and `unit` is Δ_μ, what it then gave instead of zero
pub record Recursion : Type 0 where
  pub connection : List ℕ
  pub before : List ℕ
  pub size : ℕ
  pub unit : ℕ

-- before any syndrome; both lists have M cells, then and always
unfoldable pub start : ℕ → Recursion
start M = record { connection = 1 ∷ replicate (M - 1) 0; before = 1 ∷ replicate (M - 1) 0; size = 0; unit = 1 }

-- the size grows if the discrepancy d (Δ_N: what the recursion gives at the last of N syndromes) is not zero and the size is below half of N
unfoldable pub grows : ℕ → ℕ → ℕ → Bool
grows d size N = both (not (eqb d 0)) (ltb (size + size) N)

-- the next recursion: the same polynomial where d is zero, else equation (3) times `unit`, so that nothing is divided; the new size is N − size
-- where it grows (Theorem 2)
unfoldable pub next : ℕ → ℕ → Recursion → ℕ → Bool → Recursion
next M N k d grown = record {
  connection = pick (eqb d 0) k.connection (padd (pscale k.unit k.connection) (pscale d (take M (0 ∷ k.before))));
  before = pick grown k.connection (take M (0 ∷ k.before));
  size = pick grown (N - k.size) k.size;
  unit = pick grown d k.unit;
}

-- one turn: T has the syndromes so far, the last one first
unfoldable pub turn : ℕ → List ℕ → Recursion → Recursion
turn M T k = next M (length T) k (dot k.connection T) (grows (dot k.connection T) k.size (length T))

-- the syndromes s in their order, after those in T
unfoldable pub massey_from : ℕ → List ℕ → List ℕ → Recursion → Recursion
massey_from M [] T k = k
massey_from M (x ∷ s) T k = massey_from M s (x ∷ T) (turn M (x ∷ T) k)

unfoldable pub massey : ℕ → List ℕ → Recursion
massey M s = massey_from M s [] (start M)

-- ---- the locator and its roots

-- cells p, p − 1, .., 0 of c
unfoldable pub mirrored : ℕ → List ℕ → List ℕ
mirrored zero c = get_or c 0 0 ∷ []
mirrored (suc p) c = get_or c (suc p) 0 ∷ mirrored p c

-- the locator: the recursion's cells in the other order, so that its roots are the powers α^j of the wrong cells j, where those of the
-- feedback polynomial are their inverses (step 3)
unfoldable pub locator : Recursion → List ℕ
locator k = mirrored k.size k.connection

-- of the n cells from k on, those whose power of α is a root
unfoldable pub roots_from : List ℕ → ℕ → ℕ → List ℕ
roots_from P zero k = []
roots_from P (suc n) k = pick (eqb (eval P (alpha k)) 0) (k ∷ roots_from P n (suc k)) (roots_from P n (suc k))

-- ---- the answer

-- the locations of the errors, as the syndromes s give them, in rising order
unfoldable pub locations : ℕ → ℕ → List ℕ → List ℕ
locations M n s = roots_from (locator (massey M s)) n 0

-- the size is at most h, and the locator has as many roots among the n cells (step 3); as a test, and as a statement
unfoldable pub is_located : ℕ → ℕ → ℕ → List ℕ → Bool
is_located M h n s = both (leb (massey M s).size h) (eqb (length (locations M n s)) (massey M s).size)

abbrev pub AllLocated : ℕ → ℕ → ℕ → List ℕ → Type 0
AllLocated M h n s = ((massey M s).size ≤ h) × (length (locations M n s) ≡ (massey M s).size)

-- the only candidate: y, filled at those cells
unfoldable pub candidate : ℕ → ℕ → ℕ → List ℕ → List ℕ
candidate b r M y = filled_word b r (locations M (length y) (syndromes b r y)) y
