-- The lister's text is never cut (L2): whatever the bytes of standard input (L1), no answer is longer than 22,968 bytes, so that a buffer of that
-- length takes all of it. And the first 4,086 bytes of the input settle the answer. proofs/Theorems.antt and proofs/Input.antt prove it.
use Rattle.std.specs.Prelude.{◌≡◌, List, ℕ, ◌≤◌, length, take}
use Rattle.lists.specs.Bytes.{Bytes}
use Rattle.listing_text.specs.Buffer.{text_in, text_length}
pub use Rattle.listing_text.specs.Text.{longest_text}
use Rattle.listing.specs.Listing.{listed}

-- no answer is longer
abbrev pub TextFits : Type 0
TextFits = (input : List ℕ) → Bytes input → length (listed input) ≤ longest_text

-- in a buffer of at least that length `listing::list` leaves the whole answer, and answers its length
abbrev pub WholeText : Type 0
WholeText = (input out : List ℕ) → Bytes input → longest_text ≤ length out
    → (text_length (listed input) out ≡ length (listed input)) × (take (length (listed input)) (text_in (listed input) out) ≡ listed input)

-- L1: "the bytes n, r, b, L, D, then the sheet .. a sheet of other than D × n bytes 2": the longest input that is not refused for its length has
-- 5 + 16 × 255 = 4,085 bytes, and one byte more tells a longer one from it
abbrev pub enough_input : ℕ
enough_input = 4086

-- the answer to so many bytes of an input, or more, is the answer to the whole input
abbrev pub EnoughInput : Type 0
EnoughInput = (input : List ℕ) (m : ℕ) → enough_input ≤ m → listed (take m input) ≡ listed input

-- `count` bytes of a buffer were read. Where they are as much of an input as the buffer takes, `text` is the answer to all of that input, however long.
abbrev pub AnswersAll : List ℕ → ℕ → List ℕ → Type 0
AnswersAll buffer count text = (input : List ℕ) → take count buffer ≡ take (length buffer) input → text ≡ listed input
