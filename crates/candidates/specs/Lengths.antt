-- What the private functions say of the lengths that they keep, one for each start. No promise cites this.
use Rattle.std.specs.Prelude.{List, ℕ, get_or}

-- the length that is kept for start s
abbrev pub length_at : List ℕ → ℕ → ℕ
length_at lengths s = get_or lengths s 0
