-- What the plot lister prints where it refuses (L1, L2, demand 1): `refused,number,place` and nothing else, for each fault that its input can have, in
-- document 01's order. proofs/Refusals.antt proves it.
use Rattle.std.specs.Prelude.{◌≡◌, ◌≢◌, List, ℕ, ◌*◌, ◌≤◌, ◌<◌, length, drop}
use Rattle.profile.specs.Profile.{InRange, message_length}
use Rattle.sheet.specs.declared.Mode.TheVariants.{Burst}
use Rattle.sheet.specs.Sheet.{joined}
use Rattle.sheet.specs.Buffers.{Sheet}
use Rattle.sheet.specs.Theorems.{LowestRefused, AllWords}
use Rattle.plot.specs.Answers.{checked}
use Rattle.plot.specs.Numbers.{payload_number, payload_place}
use Rattle.listing_text.specs.Text.{refusal_text}
use Rattle.listing.specs.Listing.{input_profile, listed}

module _ (input : List ℕ) where
  -- a profile in range, and the D × n cells of its sheet after it
  pub record SheetInput : Type 0 where
    pub profile : 5 ≤ length input
    pub ranges : InRange (input_profile input)
    pub cells : Sheet (input_profile input) (drop 5 input)

  -- the message bytes of these codewords: the payload, if they are those of all blocks
  abbrev pub messages : (ℕ → List ℕ) → List ℕ
  messages words = joined (input_profile input).depth (message_length (input_profile input)) (λ (d : ℕ). drop (input_profile input).r (words d))

  pub record ListRefusals : Type 0 where
    -- "Fewer than five bytes is refusal 1"
    pub few : length input < 5 → listed input ≡ refusal_text 1 0
    -- 1: "a profile number is outside its range"
    pub profile : 5 ≤ length input → (InRange (input_profile input) → ⊥) → listed input ≡ refusal_text 1 0
    -- "a sheet of other than D × n bytes 2"
    pub frame : 5 ≤ length input → InRange (input_profile input) → length (drop 5 input) ≢ (input_profile input).depth * (input_profile input).n → listed input ≡ refusal_text 2 0
    -- 3, 4 and 16: the lowest block that is refused, with its number as the place
    pub blocks : SheetInput → (d number : ℕ) → LowestRefused Burst (input_profile input) (drop 5 input) d number → listed input ≡ refusal_text number d
    -- 5 to 8: all blocks have codewords, and the payload is refused as its check says
    pub records : SheetInput → (words : ℕ → List ℕ) → AllWords Burst (input_profile input) (drop 5 input) words → payload_number (checked (messages words)) ≢ 0
        → listed input ≡ refusal_text (payload_number (checked (messages words))) (payload_place (checked (messages words)))
