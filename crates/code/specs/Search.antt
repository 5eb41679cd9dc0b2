-- The search for the shortest run, as a definition that computes: one pass over the starts s, by the extents of the shifted
-- remainders. It reads nothing of a block but its remainder. What it means is said without it, in the block crate's promises.
use Rattle.std.specs.Prelude.{Bool, true, false, List, [], ◌∷◌, ℕ, zero, suc, ◌+◌, eqb, ltb, leb}
use Rattle.lists.specs.Choice.{pick}
use Rattle.code.specs.Run.{back_steps}

-- one past the last cell that is not zero
unfoldable pub extent : List ℕ → ℕ
extent [] = 0
extent (x ∷ c) = pick (eqb (extent c) 0) (pick (eqb x 0) 0 1) (suc (extent c))

-- what has been found: the least length, the first start that has it, and whether a second start has it
pub record Best : Type 0 where
  pub size : ℕ
  pub start : ℕ
  pub again : Bool

-- start s, where the run needs e cells: it counts if the run ends by cell n − 1
unfoldable pub better : ℕ → ℕ → ℕ → Best → Best
better n s e k =
    pick (leb (s + e) n)
    (pick (ltb e k.size) (record { size = e; start = s; again = false })
    (pick (eqb e k.size) (record { size = k.size; start = k.start; again = true }) k))
    k

-- after the starts below s; at first the length is one more than the limit
unfoldable pub scanned : (ℕ → ℕ) → ℕ → ℕ → ℕ → Best
scanned e n limit zero = record { size = suc limit; start = 0; again = false }
scanned e n limit (suc s) = better n s (e s) (scanned e n limit s)

-- the extents of the shifted remainders of R by g
unfoldable pub extents : List ℕ → List ℕ → ℕ → ℕ
extents g R s = extent (back_steps s g R)
