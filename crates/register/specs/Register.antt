-- What a shift register does to its list of cells: the feedback of division by a monic generator, and where shorter lists stand in it.
-- Shifts, and zeros above a list, are defined in the crate `words`.
-- The check cells of document 01 (B3) are what `feeds` leaves; the law that says so is proofs/Remainder.antt#check-cells.
use Rattle.std.specs.Prelude.{List, [], ◌∷◌, ◌++◌, ℕ, ◌-◌, get_or, take, drop, replicate}
use Rattle.field.specs.Field.{add, inverse}
use Rattle.code.specs.Poly.{padd, pscale}
use Rattle.code.specs.Run.{tail}
use Rattle.words.specs.Cells.{shift_up, shift_down}

-- one step of a register R of r cells by the low cells of a monic g of r + 1, fed with x at the top
unfoldable pub feed : ℕ → List ℕ → ℕ → List ℕ → List ℕ
feed r g x R = padd (shift_up 0 R) (pscale (add (get_or R (r - 1) 0) x) (take r g))

-- the register after all cells of a list, from the last to the first
unfoldable pub feeds : ℕ → List ℕ → List ℕ → List ℕ
feeds r g [] = replicate r 0
feeds r g (x ∷ m) = feed r g x (feeds r g m)

-- r cells as the highest of 64
abbrev pub on_top : ℕ → List ℕ → List ℕ
on_top r l = replicate (64 - r) 0 ++ l

-- the monic list of r + 1 cells whose low r are the highest of a register's
abbrev pub monic_of : ℕ → List ℕ → List ℕ
monic_of r G = drop (64 - r) (G ++ (1 ∷ []))

-- the generator of the step back: the cells above the lowest, each divided by the lowest
unfoldable pub back_generator : List ℕ → List ℕ
back_generator g = pscale (inverse (get_or g 0 0)) (tail g)

-- one step back of a register R by such a generator G, fed with x at the bottom
unfoldable pub feed_back : List ℕ → ℕ → List ℕ → List ℕ
feed_back G x R = padd (shift_down R 0) (pscale (add (get_or R 0 0) x) G)

-- the register after all cells of a list, from the first to the last
unfoldable pub feeds_back : List ℕ → List ℕ → List ℕ → List ℕ
feeds_back G R [] = R
feeds_back G R (x ∷ m) = feeds_back G (feed_back G x R) m
