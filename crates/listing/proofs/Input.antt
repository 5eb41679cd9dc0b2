-- The first 4,086 bytes of an input settle the answer: they hold the profile, and a longer input has more than D × n bytes after it under every profile
-- in range, with all of them or with so many.
use mathlib.Core.Path.{◌≡◌, sym, ap, ap₂, ◌∙◌}
use mathlib.Core.Logic.{⊎_elim}
use mathlib.Core.List.{List}
use Prim.Native.Nat.{ℕ, ◌-◌, ◌≤◌, ◌<◌}
use native.Mathlib.Omega.{arith}
use lib.ListN.{length, get_or, take, drop, length-drop}
use lib.Seq.{take_all, length-take-le, get_or-take}
use Rattle.lists.proofs.Test.{lt-or_ge, true_or_false, true_false}
use Rattle.lists.proofs.Bytes.{bytes_of, take-bytes}
use Rattle.profile.specs.Profile.{InRange, in_range}
use Rattle.profile.proofs.Ranges.{in_range_lem}
use Rattle.listing_text.specs.Text.{refusal_text}
use Rattle.listing_text.specs.Buffer.{text_in, text_length}
use Rattle.listing.specs.Listing.{input_profile, listed}
use Rattle.listing.specs.Theorems.{enough_input, longest_text, EnoughInput, AnswersAll}
use Rattle.listing.proofs.Cases.{profile_is, cells_fit}
use Rattle.listing.proofs.Refusals.{list_refusals}
use Rattle.listing.proofs.Theorems.{whole_text}

-- an input that is too long for every profile
too_long : (input : List ℕ) → 4085 < length input → InRange (input_profile input) → listed input ≡ refusal_text 2 0
too_long input l v =
    let e : length (drop 5 input) ≡ length input - 5 = length-drop 5 input in
    (list_refusals input).frame (omega arith) v (λ z. omega (arith, cells_fit (input_profile input) v))

module _ (input : List ℕ) (m : ℕ) (h : enough_input ≤ m) (l : m < length input) where
  part_length : length (take m input) ≡ m
  part_length = length-take-le m input (omega arith)

  same_profile : input_profile (take m input) ≡ input_profile input
  same_profile =
      profile_is input _ _ _ _ _ (get_or-take m input 0 0 (omega arith)) (get_or-take m input 1 0 (omega arith)) (get_or-take m input 2 0 (omega arith))
      (get_or-take m input 3 0 (omega arith)) (get_or-take m input 4 0 (omega arith))

  same_in_range : InRange (input_profile input) → listed (take m input) ≡ listed input
  same_in_range v = too_long (take m input) (omega (arith, part_length)) (rw same_profile v) ∙ sym (too_long input (omega arith) v)

  same_out_of_range : (InRange (input_profile input) → ⊥) → listed (take m input) ≡ listed input
  same_out_of_range n =
      (list_refusals (take m input)).profile (omega (arith, part_length)) (λ v. n (rw same_profile at v)) ∙ sym ((list_refusals input).profile (omega arith) n)

  same_answer : listed (take m input) ≡ listed input
  same_answer =
      ⊎_elim (λ t. same_in_range ((in_range_lem (input_profile input)).0 t)) (λ f. same_out_of_range (λ v. true_false ((in_range_lem (input_profile input)).1 v) f))
      (true_or_false (in_range (input_profile input)))

pub enough_input_lem : EnoughInput
enough_input_lem input m h = ⊎_elim (λ l. same_answer input m h l) (λ l. ap listed (take_all m input l)) (lt-or_ge m (length input))

-- what `listing::list` answers and leaves for the first bytes of a buffer that is long enough, where there is room for every text
pub list_whole : (buffer out left : List ℕ) (count r : ℕ) → ((i : ℕ) → get_or buffer i 0 < 256) → enough_input ≤ length buffer → longest_text ≤ length out
    → (r ≡ text_length (listed (take count buffer)) out) × (left ≡ text_in (listed (take count buffer)) out) → (r ≤ length out) × AnswersAll buffer count (take r left)
list_whole buffer out left count r b h l e =
    let w = whole_text (take count buffer) out (take-bytes count buffer (bytes_of buffer b)) l in
    (omega (arith, e.0), λ input q. ap₂ take (e.0 ∙ w.0) e.1 ∙ w.1 ∙ ap listed q ∙ enough_input_lem input (length buffer) h)
