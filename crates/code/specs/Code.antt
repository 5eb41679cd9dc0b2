-- The code of document 01, "The field and the block": generator, syndromes, codewords, remainder, in how many cells two
-- words differ and how many of one are not zero, and which codewords are near. Clauses B3, B5, B11. The definitions are for every b, r and n; ranges are set where a theorem needs them.
use Rattle.std.specs.Prelude.{◌≡◌, List, [], ◌∷◌, ℕ, zero, suc, ◌+◌, ◌-◌, ◌≤◌, eqb, length, get_or, take, replicate}
use Rattle.lists.specs.Choice.{pick}
use Rattle.field.specs.Field.{alpha}
use Rattle.lists.specs.Bytes.{Bytes}
use Rattle.code.specs.Poly.{eval, padd, pscale, pmul}

-- "The generator is the product of (x−α^(b+i)) for i from 0 to r−1"; minus is plus here
unfoldable pub generator : ℕ → ℕ → List ℕ
generator b zero = 1 ∷ []
generator b (suc r) = pmul (generator b r) (alpha (b + r) ∷ 1 ∷ [])

-- "Syndrome i is the block's value at α^(b+i)"
abbrev pub syndrome : ℕ → ℕ → List ℕ → ℕ
syndrome b i c = eval c (alpha (b + i))

-- "A codeword is any n cells whose polynomial the generator divides": one byte each, with a quotient of n − r cells
pub record Codeword (n r b : ℕ) (c : List ℕ) : Type 0 where
  pub cells : length c ≡ n
  pub bytes : Bytes c
  pub quotient : List ℕ
  pub places : length quotient ≡ n - r
  pub divided : c ≡ pmul (generator b r) quotient

-- one more cell x in front of a remainder R by g, of r + 1 cells and with 1 as the highest: the cell that is now at r is taken
-- away by a multiple of g
unfoldable pub rem_step : ℕ → List ℕ → ℕ → List ℕ → List ℕ
rem_step r g x R = take r (padd (x ∷ R) (pscale (get_or (x ∷ R) r 0) g))

-- the remainder of c by g, r cells
unfoldable pub remainder : ℕ → List ℕ → List ℕ → List ℕ
remainder r g [] = replicate r 0
remainder r g (x ∷ c) = rem_step r g x (remainder r g c)

-- in how many cells two words of one length differ (the Hamming distance)
unfoldable pub distance : List ℕ → List ℕ → ℕ
distance [] d = 0
distance (x ∷ c) [] = 0
distance (x ∷ c) (y ∷ d) = pick (eqb x y) 0 1 + distance c d

-- 1 for a cell that is not zero
abbrev pub nonzero : ℕ → ℕ
nonzero zero = 0
nonzero (suc x) = 1

-- how many cells are not zero (the Hamming weight)
unfoldable pub weight : List ℕ → ℕ
weight [] = 0
weight (x ∷ c) = nonzero x + weight c

-- c is a codeword and differs from y in at most h cells
pub record IsNear (n r b h : ℕ) (y c : List ℕ) : Type 0 where
  pub word : Codeword n r b c
  pub within : distance y c ≤ h
