-- What is done to a list of cells: it is moved up or down by a cell, or brought to a length. Nothing here says how many cells there are, so a
-- word of eight and a register of 64 share these definitions.
use Rattle.std.specs.Prelude.{List, [], ◌∷◌, ℕ, zero, suc}

-- every cell moves up by one; c comes in below, and the last is lost
unfoldable pub shift_up : ℕ → List ℕ → List ℕ
shift_up c [] = []
shift_up c (x ∷ l) = c ∷ shift_up x l

-- every cell moves down by one; c comes in on top, and the first is lost
unfoldable pub shift_down : List ℕ → ℕ → List ℕ
shift_down [] c = []
shift_down (x ∷ []) c = c ∷ []
shift_down (x ∷ y ∷ l) c = y ∷ shift_down (y ∷ l) c

-- the first n cells of a list, with zeros where it has fewer: a shorter list as the lowest of n cells
unfoldable pub pad_to : ℕ → List ℕ → List ℕ
pad_to zero l = []
pad_to (suc n) [] = 0 ∷ pad_to n []
pad_to (suc n) (x ∷ l) = x ∷ pad_to n l
