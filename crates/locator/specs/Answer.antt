-- What the code of this crate answers: the definitions of Locator.antt with polynomials of 64 cells, for at most 64 syndromes, 32 errors and 255
-- cells, as what `locate` returns.
use Rattle.std.specs.Prelude.{◌≡◌, List, map, ℕ, ◌≤◌, ◌<◌, min, length, take, Option, Some, None, MatchOption}
use Rattle.lists.specs.Choice.{pick}
use Rattle.field.specs.Field.{alpha}
use Rattle.products.specs.Products.{dot}
use Rattle.words.specs.Cells.{pad_to}
use Rattle.register.specs.Words.{cells}
use Rattle.locator.specs.Locator.{Recursion, grows, next, locations, is_located}
use Rattle.locator.specs.declared.State.{State}
use Rattle.locator.specs.declared.Errors.{Errors}

-- ---- the recursion in registers

-- the recursion that a state stands for
abbrev pub recursion_of : State → Recursion
recursion_of k = record { connection = cells k.connection; before = cells k.before; size = k.size; unit = k.unit }

-- one turn at the last of N syndromes, with the last 64 in R, the last one first
unfoldable pub turn_at : ℕ → List ℕ → Recursion → Recursion
turn_at N R k = next 64 N k (dot k.connection R) (grows (dot k.connection R) k.size N)

-- r is the recursion K where its size is within the limit, and none where it is above
abbrev pub WithinLimit : ℕ → Recursion → Option State → Type 0
WithinLimit limit K r = MatchOption r (limit < K.size) (λ k. (k.size ≤ limit) × (recursion_of k ≡ K))

-- ---- the answer

-- errors at the places E, at most 32: their number, the places, and the powers α^j of the places j
unfoldable pub errors_at : List ℕ → Errors
errors_at E = record { count = length E; places = pad_to 32 E; points = pad_to 32 (map alpha E) }

-- the errors that the syndromes s locate among n cells, if they are at most h; none where no codeword is near
unfoldable pub error_locations : List ℕ → ℕ → ℕ → Option Errors
error_locations s n h =
    pick (is_located 64 (min h 32) (min n 255) (take 64 s)) (Some (errors_at (locations 64 (min n 255) (take 64 s)))) None

-- where nothing is cut, this is what the theorems of Theorems.antt speak of
abbrev pub LocationsWhole : Type 0
LocationsWhole = (s : List ℕ) (n h : ℕ) → length s ≤ 64 → n ≤ 255 → h ≤ 32
    → error_locations s n h ≡ pick (is_located 64 h n s) (Some (errors_at (locations 64 n s))) None
