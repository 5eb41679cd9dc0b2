-- The cells of a word. A word of 64 bits has eight cells, a byte each, and the lowest byte is the lowest cell.
use Rattle.std.specs.Prelude.{List, [], ◌∷◌, ℕ, zero, suc, ◌*◌, ◌/◌, ◌%◌, ◌^◌}

-- cell k of a word
unfoldable pub byte : ℕ → ℕ → ℕ
byte w k = w / 2 ^ (8 * k) % 2 ^ 8

-- n cells of a word, from cell k on
abbrev pub bytes_from : ℕ → ℕ → ℕ → List ℕ
bytes_from zero k w = []
bytes_from (suc n) k w = byte w k ∷ bytes_from n (suc k) w
