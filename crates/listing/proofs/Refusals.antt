-- The lister's refusals: what the sheet's theorems say of the reader's answer on the lister's own buffers, and the text for that answer.
use mathlib.Core.Path.{◌≡◌, refl, sym, ap, ap₂, ◌∙◌}
use mathlib.Core.Logic.{◌≢◌, inl, inr}
use mathlib.Core.List.{List}
use Prim.Native.Nat.{ℕ, ◌≤◌}
use native.Mathlib.Omega.{arith}
use Rattle.std.specs.Prelude.{Ok, Err}
use lib.ListN.{length, drop}
use borrow.Author.Tests.{le-ltb}
use Rattle.profile.specs.Profile.{InRange}
use Rattle.profile.specs.declared.Profile.{Profile}
use Rattle.sheet.specs.declared.Mode.TheVariants.{Burst}
use Rattle.sheet.specs.Sheet.{read_block, read_payload}
use Rattle.sheet.specs.Numbers.{Reading, reading_number, reading_place}
use Rattle.sheet.specs.Buffers.{Lent}
use Rattle.sheet.specs.Theorems.{LowestRefused, AllWords, differing}
use Rattle.sheet.proofs.Modes.{block_law}
use Rattle.sheet.proofs.Theorems.{block_cells, read-accepts}
use Rattle.plot.specs.Grammar.{reading}
use Rattle.plot.specs.Answers.{checked}
use Rattle.plot.specs.Numbers.{number_of, place_of, payload_number, payload_place}
use Rattle.plot_promises.proofs.Checking.{checks_stopped, stopped_of}
use Rattle.listing_text.specs.Text.{refusal_text, listing_text}
use Rattle.listing_text.proofs.Meaning.{refusal_text_lem, refused-payload}
use Rattle.listing.specs.Listing.{input_profile, sheet_answer_text, scratch_buffer, payload_buffer, sheet_text, listed}
use Rattle.listing.specs.Refusals.{SheetInput, messages, ListRefusals}
use Rattle.listing.proofs.OwnBuffers.{answer, refusals, results}
use Rattle.listing.proofs.Cases.{own_buffers, text_accepted, listed-short}

-- ---- the text for a refusal

answer_text : (a : Reading) (m : List ℕ) → reading_number a ≢ 0 → sheet_answer_text a m ≡ refusal_text (reading_number a) (reading_place a)
unfolding sheet_answer_text
answer_text (Err r) m n = refl
answer_text (Ok changed) m n = absurd (n refl)

module _ (p : Profile) (sheet : List ℕ) where
  refused_text : (number place : ℕ) → reading_number (answer p sheet) ≡ number → reading_place (answer p sheet) ≡ place → number ≢ 0 → sheet_text p sheet ≡ refusal_text number place
  unfolding sheet_text
  refused_text number place e f n = answer_text (answer p sheet) (read_payload Burst p sheet (scratch_buffer p) (payload_buffer p)) (λ z. n (sym e ∙ z)) ∙ ap₂ refusal_text e f

  module _ (v : InRange p) (h : Lent p sheet (scratch_buffer p) (payload_buffer p)) where
    lowest_text : (d number : ℕ) → LowestRefused Burst p sheet d number → sheet_text p sheet ≡ refusal_text number d
    lowest_text d number o =
        let n : number ≢ 0 = (((block_law Burst p (read_block p sheet d) v (block_cells p sheet d h.cells.bytes)).refused number).1 o.refused).1 in
        let q = ((results p sheet v h).refused d number n).1 o in
        refused_text number d q.0 q.1 n

-- ---- an input of five bytes and more

module _ (input : List ℕ) where
  abbrev p : Profile
  p = input_profile input

  abbrev sheet : List ℕ
  sheet = drop 5 input

  listed-rest : 5 ≤ length input → listed input ≡ sheet_text p sheet
  unfolding listed
  listed-rest l = rw (le-ltb (length input) 5 l)

  -- all blocks have codewords: the text is that of the payload
  pub listed-payload : SheetInput input → (words : ℕ → List ℕ) → AllWords Burst p sheet words
      → listed input ≡ listing_text (differing p.depth words (read_block p sheet)) (reading (messages input words))
  listed-payload h words a =
      let lent : Lent p sheet (scratch_buffer p) (payload_buffer p) = own_buffers p sheet h.cells in
      let t = read-accepts Burst p sheet (scratch_buffer p) (payload_buffer p) h.ranges lent words a in
      listed-rest h.profile ∙ sym (text_accepted p sheet (scratch_buffer p) (payload_buffer p) refl refl _ (messages input words) (sym t.0) (sym t.1.payload))

  payload-refused : SheetInput input → (words : ℕ → List ℕ) → AllWords Burst p sheet words → payload_number (checked (messages input words)) ≢ 0
      → listed input ≡ refusal_text (payload_number (checked (messages input words))) (payload_place (checked (messages input words)))
  payload-refused h words a n =
      let r = stopped_of (messages input words) n in
      let e = checks_stopped (messages input words) r.0 r.1 in
      listed-payload h words a ∙ ap₂ listing_text refl r.1 ∙ refused-payload _ r.0 ∙ sym (refusal_text_lem (number_of r.0) (place_of r.0)).text
      ∙ sym (ap₂ refusal_text (ap payload_number e) (ap payload_place e))

pub list_refusals : (input : List ℕ) → ListRefusals input
list_refusals input = record {
  few = λ l. sym (listed-short input l);
  profile = λ l n.
      let e = (refusals (p input) (sheet input)).early.one.1 n in
      listed-rest input l ∙ refused_text (p input) (sheet input) 1 0 e ((refusals (p input) (sheet input)).place (inl e)) (λ q. omega arith);
  frame = λ l v n.
      let e = (refusals (p input) (sheet input)).early.two.1 (v, λ z. n z.0) in
      listed-rest input l ∙ refused_text (p input) (sheet input) 2 0 e ((refusals (p input) (sheet input)).place (inr e)) (λ q. omega arith);
  blocks = λ h d number o. listed-rest input h.profile ∙ lowest_text (p input) (sheet input) h.ranges (own_buffers (p input) (sheet input) h.cells) d number o;
  records = payload-refused input;
}
