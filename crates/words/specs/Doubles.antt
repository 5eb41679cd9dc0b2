-- What multiplying a word by a byte a is made of: the eight doubles of a, and the bits of each cell.
use Rattle.std.specs.Prelude.{◌≡◌, List, [], ◌∷◌, ℕ, ◌/◌, ◌%◌, ◌^◌}
use Rattle.code.specs.Poly.{pscale}

-- the cells of each are twice those of the one before
abbrev pub Doubled : {A : Type 0} → (A → List ℕ) → A → A → A → A → A → A → A → A → Type 0
Doubled cells c0 c1 c2 c3 c4 c5 c6 c7 =
    (cells c1 ≡ pscale 2 (cells c0))
    × (cells c2 ≡ pscale 2 (cells c1))
    × (cells c3 ≡ pscale 2 (cells c2))
    × (cells c4 ≡ pscale 2 (cells c3))
    × (cells c5 ≡ pscale 2 (cells c4))
    × (cells c6 ≡ pscale 2 (cells c5))
    × (cells c7 ≡ pscale 2 (cells c6))

-- bit k of each cell
unfoldable pub bits_at : ℕ → List ℕ → List ℕ
bits_at k [] = []
bits_at k (x ∷ l) = (x / 2 ^ k % 2) ∷ bits_at k l
