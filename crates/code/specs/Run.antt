-- Runs of a read block and the codewords that they reach, in the words of document 01, "Runs" (clauses B6 to B9), how many cells of a run are changed
-- (document 02, Note 7), and the shifted remainders, from which the theorems of Theorems.antt read off what a run reaches.
use Rattle.std.specs.Prelude.{◌≡◌, ◌⊎◌, List, [], ◌∷◌, ◌++◌, ℕ, zero, suc, ◌+◌, ◌≤◌, ◌<◌, get_or, take, drop, replicate}
use Rattle.field.specs.Field.{mul, inverse}
use Rattle.code.specs.Poly.{padd, pscale}
use Rattle.code.specs.Code.{Codeword, generator, remainder, distance}

-- cell i lies outside the run that starts at s and is f cells long
abbrev pub Outside : ℕ → ℕ → ℕ → Type 0
Outside s f i = (i < s) ⊎ (s + f ≤ i)

-- "A run is a start s and a length f with s+f ≤ n. A codeword lies within a run of a read block if the two agree in every cell
-- outside it; the run then reaches that codeword."
pub record Reaches (n r b : ℕ) (y : List ℕ) (s f : ℕ) (c : List ℕ) : Type 0 where
  pub run : s + f ≤ n
  pub codeword : Codeword n r b c
  pub agree : (i : ℕ) → i < n → Outside s f i → get_or y i 0 ≡ get_or c i 0

-- in how many cells of that run two words differ
abbrev pub changed_in : ℕ → ℕ → List ℕ → List ℕ → ℕ
changed_in s f y c = distance (take f (drop s y)) (take f (drop s c))

abbrev pub tail : List ℕ → List ℕ
tail [] = []
tail (x ∷ c) = c

-- a register R divided by x, modulo g: the multiple of g that clears the lowest cell is added, and that cell dropped
unfoldable pub back_step : List ℕ → List ℕ → List ℕ
back_step g R = tail (padd R (pscale (mul (get_or R 0 0) (inverse (get_or g 0 0))) g))

-- n such divisions
unfoldable pub back_steps : ℕ → List ℕ → List ℕ → List ℕ
back_steps zero g R = R
back_steps (suc n) g R = back_step g (back_steps n g R)

-- the remainder of y x^(−s): r cells
unfoldable pub shifted_remainder : ℕ → ℕ → ℕ → List ℕ → List ℕ
shifted_remainder b r s y = back_steps s (generator b r) (remainder r (generator b r) y)

-- cells f and above are zero
abbrev pub ZeroFrom : ℕ → List ℕ → Type 0
ZeroFrom f R = (k : ℕ) → f ≤ k → get_or R k 0 ≡ 0

-- y with the cells e added from cell s on
unfoldable pub added_at : ℕ → List ℕ → List ℕ → List ℕ
added_at s e y = padd y (replicate s 0 ++ e)
