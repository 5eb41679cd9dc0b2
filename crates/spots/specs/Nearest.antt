-- Which codewords lie near n read cells, in the words of document 02, Note 1 (N1a to N1d): each as a relation between the cells and the codewords. What a
-- codeword is, and in how many cells two words differ, is defined in the code crate, specs/Code.antt. No entry and no locator is named here.
use Rattle.std.specs.Prelude.{◌≡◌, ◌≢◌, List, ℕ, ◌≤◌, ◌<◌, get_or}
use Rattle.code.specs.Code.{distance, IsNear}
use Rattle.profile.specs.Profile.{half}
use Rattle.block.specs.Runs.{Word}
use Rattle.profile.specs.declared.Profile.{Profile}

module _ (p : Profile) (y : List ℕ) where
  -- a codeword that differs from the read cells in "up to h cells anywhere"
  abbrev pub Near : List ℕ → Type 0
  Near c = IsNear p.n p.r p.b (half p) y c

  -- "no codeword is that near"
  abbrev pub NoneNear : Type 0
  NoneNear = (c : List ℕ) → Near c → ⊥

  -- cell j is "the lowest of them (0 if clean)": the lowest cell in which the read cells and c differ
  pub record LowestChanged (j : ℕ) (c : List ℕ) : Type 0 where
    pub differs : c ≢ y → (j < p.n) × (get_or y j 0 ≢ get_or c j 0)
    pub below : (i : ℕ) → i < j → get_or y i 0 ≡ get_or c i 0
    pub clean : c ≡ y → j ≡ 0

  -- "each block goes to the codeword that differs in the fewest cells, up to h cells anywhere": c differs in t cells, the lowest is j, and every other
  -- codeword differs in more
  pub record NearestWord (t j : ℕ) (c : List ℕ) : Type 0 where
    pub word : Word p c
    pub within : t ≤ half p
    pub count : distance y c ≡ t
    pub lowest : LowestChanged j c
    pub others : (d : List ℕ) → Word p d → d ≢ c → t < distance y d
