-- The theorems of filling, as statements for every b. FillExact and FillRemainder are proved in proofs/Theorems.antt, FilledByPoints in
-- proofs/Filling.antt.
use Rattle.std.specs.Prelude.{◌≡◌, ◌↔◌, List, map, ℕ, ◌≤◌, ◌<◌, length}
use Rattle.lists.specs.Bytes.{Bytes}
use Rattle.field.specs.Field.{alpha}
use Rattle.code.specs.Code.{generator, Codeword, remainder}
use Rattle.erasure.specs.Filling.{filled_at}
use Rattle.erasure.specs.Erasure.{DistinctPlaces, Fills, syndromes, filled_word}

-- a codeword that agrees with y outside at most r places is the filled word, and there is one exactly if the filled word is one
abbrev pub FillExact : Type 0
FillExact = (n r b : ℕ) (E y c : List ℕ) → r < n → n ≤ 255 → length y ≡ n → Bytes y → DistinctPlaces n E → length E ≤ r
    → Fills n r b E y c ↔ ((c ≡ filled_word b r E y) × Codeword n r b (filled_word b r E y))

-- the syndromes of a word are those of its remainder: the added cells follow from the remainder
abbrev pub FillRemainder : Type 0
FillRemainder = (r b : ℕ) (y : List ℕ) → Bytes y → syndromes b r (remainder r (generator b r) y) ≡ syndromes b r y

-- filling by points, where these are the points of the places, gives the filled word
abbrev pub FilledByPoints : Type 0
FilledByPoints = (b r : ℕ) (E y : List ℕ) → length E ≤ 63 → DistinctPlaces (length y) E → filled_at b (syndromes b r y) E (map alpha E) y ≡ filled_word b r E y
