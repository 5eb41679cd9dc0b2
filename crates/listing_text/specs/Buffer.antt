-- A lent buffer that is filled from the front: text is written as far as the buffer goes.
use Rattle.std.specs.Prelude.{ℕ, ◌+◌, min, List, [], ◌∷◌, ◌++◌, length, take, drop, set, ltb}
use Rattle.lists.specs.Choice.{pick}

-- the buffer's bytes, and how many of them are written
pub record Buffer : Type 0 where
  pub bytes : List ℕ
  pub at : ℕ

abbrev pub buffer : List ℕ → ℕ → Buffer
buffer bytes at = record { bytes = bytes; at = at }

-- a byte at the end of what is written, where there is room
unfoldable pub put_byte : ℕ → Buffer → Buffer
put_byte x b = pick (ltb b.at (length b.bytes)) (buffer (set b.bytes b.at x) (b.at + 1)) b

unfoldable pub put_all : List ℕ → Buffer → Buffer
put_all [] b = b
put_all (x ∷ t) b = put_all t (put_byte x b)

-- a buffer with a text written from its first byte on: the text as far as the buffer goes, the other bytes as they were
abbrev pub text_in : List ℕ → List ℕ → List ℕ
text_in text out = take (length out) text ++ drop (length text) out

abbrev pub text_length : List ℕ → List ℕ → ℕ
text_length text out = min (length text) (length out)
