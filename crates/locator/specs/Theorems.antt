-- The theorems of locating errors, as statements for every b, every n ≤ 255, every r below n, every h with 2 h ≤ r and every M
-- above h. They are proved in proofs/Theorems.antt. Document 02, Note 1 rests on NearExact (the codeword, or 11 where none is near), NearestOnly (no
-- tie) and ChangedCells (the number of cells changed and the lowest of them).
use Rattle.std.specs.Prelude.{◌≡◌, ◌↔◌, ◌≢◌, true, List, ℕ, ◌+◌, ◌≤◌, ◌<◌, length, get_or}
use Rattle.lists.specs.Bytes.{Bytes}
use Rattle.code.specs.Code.{Codeword, distance, IsNear}
use Rattle.erasure.specs.Erasure.{among, syndromes}
use Rattle.locator.specs.Locator.{locations, is_located, AllLocated, candidate}

-- a codeword within h cells of y is the candidate; there is one exactly if the locator's size is at most h and it has as many roots
-- among the n cells: no value and no syndrome of the candidate has to be worked out to know
abbrev pub NearExact : Type 0
NearExact = (n r b h M : ℕ) (y c : List ℕ) → r < n → n ≤ 255 → length y ≡ n → Bytes y → h + h ≤ r → h < M
    → IsNear n r b h y c ↔ (AllLocated M h n (syndromes b r y) × (c ≡ candidate b r M y))

-- no tie: every other codeword differs in more cells
abbrev pub NearestOnly : Type 0
NearestOnly = (n r b h : ℕ) (y c d : List ℕ) → n ≤ 255 → length y ≡ n → h + h ≤ r → IsNear n r b h y c → Codeword n r b d → d ≢ c → distance y c < distance y d

-- if there is one, the locations are the cells that differ; their number is the distance, at most h, and the first is the lowest
pub record Changed (n h : ℕ) (E y c : List ℕ) : Type 0 where
  pub count : distance y c ≡ length E
  pub few : length E ≤ h
  pub differ : (k : ℕ) → k < n → among k E ≡ true ↔ (get_or y k 0 ≢ get_or c k 0)
  pub lowest : (k : ℕ) → among k E ≡ true → (among (get_or E 0 0) E ≡ true) × (get_or E 0 0 ≤ k)

abbrev pub ChangedCells : Type 0
ChangedCells = (n r b h M : ℕ) (y c : List ℕ) → r < n → n ≤ 255 → length y ≡ n → Bytes y → h + h ≤ r → h < M
    → IsNear n r b h y c → Changed n h (locations M n (syndromes b r y)) y c

-- the test is true exactly if the statement holds
abbrev pub LocatedTest : Type 0
LocatedTest = (M h n : ℕ) (s : List ℕ) → (is_located M h n s ≡ true) ↔ AllLocated M h n s
