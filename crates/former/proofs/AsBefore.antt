-- The text is made from what was read, and the readings are equal, so the texts are; before a payload is read, both are one text. With the answers on a
-- payload (Unchanged.antt) that is all of specs/AsBefore.antt.
use mathlib.Core.Path.{◌≡◌, refl, ap, ◌∙◌}
use mathlib.Core.List.{List}
use Prim.Native.Nat.{ℕ}
use Rattle.std.specs.Prelude.{Ok, Err}
use lib.Dec.{ltb}
use lib.ListN.{length, drop}
use Rattle.lists.specs.Choice.{pick}
use Rattle.profile.specs.declared.Profile.{Profile}
use Rattle.sheet.specs.Numbers.{Reading}
use Rattle.plot.specs.Grammar.{Parsed, Plots, Stopped, reading}
use Rattle.listing_text.specs.Text.{refusal_text, listing_text}
use Rattle.listing.specs.Listing.{input_profile, sheet_answer_text, sheet_text, listed}
use Rattle.former.specs.Former.{former_reading}
use Rattle.former.specs.FormerText.{former_listing_text, former_sheet_answer_text, former_sheet_text, former_listed}
use Rattle.former.specs.AsBefore.{NumbersAndTextAsBefore}
use Rattle.former.proofs.Reading.{read, reading_as_before}
use Rattle.former.proofs.Unchanged.{lines-before, stepping_before, checking_before, asking_before, adding_before}

text_of : (changed : ℕ) (q : Parsed) → listing_text changed q ≡ former_listing_text changed (read q)
unfolding listing_text former_listing_text
text_of changed (Plots ps end) = refl
text_of changed (Stopped r) = refl

text_before : (changed : ℕ) (s : List ℕ) → listing_text changed (reading s) ≡ former_listing_text changed (former_reading s)
text_before changed s = text_of changed (reading s) ∙ ap (former_listing_text changed) (reading_as_before s)

answer-before : (answer : Reading) (payload : List ℕ) → sheet_answer_text answer payload ≡ former_sheet_answer_text answer payload
unfolding sheet_answer_text former_sheet_answer_text
answer-before (Err r) payload = refl
answer-before (Ok changed) payload = text_before changed payload

sheet-before : (p : Profile) (sheet : List ℕ) → sheet_text p sheet ≡ former_sheet_text p sheet
unfolding sheet_text former_sheet_text
sheet-before p sheet = answer-before _ _

listing_before : (input : List ℕ) → listed input ≡ former_listed input
unfolding listed former_listed
listing_before input = ap (pick (ltb (length input) 5) (refusal_text 1 0)) (sheet-before (input_profile input) (drop 5 input))

pub numbers-and_text_as_before : NumbersAndTextAsBefore
numbers-and_text_as_before = record {
  lines = lines-before;
  stepping = stepping_before;
  checking = checking_before;
  asking = asking_before;
  adding = adding_before;
  text = text_before;
  listing = listing_before;
}
