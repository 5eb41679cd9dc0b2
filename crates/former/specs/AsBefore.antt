-- Numbers, places and the lister's text are as before on every input (N2c), in one record: on every list of bytes as a payload, every plot number, every plot and every
-- input of the lister, today's answer is the former one. proofs/AsBefore.antt proves it.
use Rattle.std.specs.Prelude.{◌≡◌, List, ℕ}
use Rattle.plot.specs.Layout.{Plot}
use Rattle.plot.specs.Grammar.{reading}
use Rattle.listing_text.specs.Text.{listing_text}
use Rattle.listing.specs.Listing.{listed}
use Rattle.former.specs.Former.{former_reading}
use Rattle.former.specs.FormerText.{former_listing_text, former_listed}
use Rattle.former.specs.Unchanged.{LinesAsBefore, SteppingAsBefore, CheckingAsBefore, AskingAsBefore, AddingAsBefore}

pub record NumbersAndTextAsBefore : Type 0 where
  -- which lines hold, and what stands at a place
  pub lines : LinesAsBefore
  pub stepping : (at : ℕ) (s : List ℕ) → SteppingAsBefore at s
  -- the check of a payload, asking with its companion, and adding
  pub checking : (s : List ℕ) → CheckingAsBefore s
  pub asking : (n : ℕ) (s : List ℕ) → AskingAsBefore n s
  pub adding : (p : Plot) (s : List ℕ) → AddingAsBefore p s
  -- the text for a payload, of a sheet with `changed` blocks changed, and the lister's whole answer
  pub text : (changed : ℕ) (s : List ℕ) → listing_text changed (reading s) ≡ former_listing_text changed (former_reading s)
  pub listing : (input : List ℕ) → listed input ≡ former_listed input
