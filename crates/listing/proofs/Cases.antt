-- The cases of the lister's answer over plain values, and the lengths of its buffers.
use mathlib.Core.Path.{◌≡◌, refl, sym, ap, ap₂, subst, ◌∙◌}
use mathlib.Core.Bool.{Bool, true, false}
use mathlib.Core.List.{List}
use Prim.Native.Nat.{ℕ, ◌*◌, ◌-◌, ◌≤◌, ◌<◌}
use native.Mathlib.Nat.{mul-le-mul}
use native.Mathlib.Omega.{arith}
use Rattle.std.specs.Prelude.{Ok, Err}
use lib.ListN.{length, get_or, take, drop, replicate, length-drop, length-replicate}
use lib.Seq.{take_all, length-take-le}
use Rattle.std.proofs.lemmas.List.{take-replicate}
use lib.Dec.{ltb}
use borrow.Author.Tests.{lt-ltb, le-ltb, ltb-true, ltb-false}
use Rattle.lists.specs.Choice.{pick}
use Rattle.profile.specs.Profile.{InRange, in_range, message_length}
use Rattle.profile.specs.declared.Profile.{Profile}
use Rattle.profile.specs.declared.refusals.Refusal.{Refusal as EarlyRefusal}
use Rattle.profile.specs.declared.refusals.Refusal.TheVariants as early
use Rattle.profile.specs.Numbers.{refusal_number as early_number}
use Rattle.profile.proofs.Ranges.{in_range_lem}
use Rattle.block.proofs.NumberLaws.{number-most}
use Rattle.sheet.specs.declared.Mode.TheVariants.{Burst}
use Rattle.sheet.specs.Sheet.{read_answer, read_payload}
use Rattle.sheet.specs.Numbers.{Reading, refusal_number, refusal_place}
use Rattle.sheet.specs.Buffers.{Sheet, Lent}
use Rattle.sheet.specs.declared.Refusal.{Refusal}
use Rattle.sheet.specs.declared.Refusal.TheVariants.{BadProfile, WrongLength, Block}
use Rattle.sheet.proofs.Entry.{read_bad}
use Rattle.plot.specs.Grammar.{reading}
use Rattle.listing_text.specs.Text.{refusal_text, listing_text}
use Rattle.listing.specs.Listing.{input_profile, profile_in, sheet_answer_text, scratch_buffer, payload_buffer, sheet_text, listed}

pub profile_is : (input : List ℕ) (n r b limit depth : ℕ) → n ≡ get_or input 0 0 → r ≡ get_or input 1 0 → b ≡ get_or input 2 0 → limit ≡ get_or input 3 0 → depth ≡ get_or input 4 0
    → ◌≡◌ {A = Profile} (record { n = n; r = r; b = b; limit = limit; depth = depth }) (input_profile input)
profile_is input n r b limit depth en er eb el ed = rw (en, er, eb, el, ed)

pub number_small : (r : Refusal) → refusal_number r < 256
number_small BadProfile = omega arith
number_small WrongLength = omega arith
number_small (Block n w) = omega (arith, number-most w)

module _ (p : Profile) (sheet scratch payload : List ℕ) (es : scratch ≡ scratch_buffer p) (ep : payload ≡ payload_buffer p) where
  pub text_refused : (r : Refusal) → Err r ≡ read_answer Burst p sheet scratch payload → refusal_text (refusal_number r) (refusal_place r) ≡ sheet_text p sheet
  unfolding sheet_text sheet_answer_text
  text_refused r e =
      ap (λ (a : Reading). sheet_answer_text a (read_payload Burst p sheet (scratch_buffer p) (payload_buffer p)))
      (e ∙ ap₂ (λ (s q : List ℕ). read_answer Burst p sheet s q) es ep)

  pub text_accepted : (changed : ℕ) (back : List ℕ) → Ok changed ≡ read_answer Burst p sheet scratch payload → back ≡ read_payload Burst p sheet scratch payload
      → listing_text changed (reading back) ≡ sheet_text p sheet
  unfolding sheet_text sheet_answer_text
  text_accepted changed back e b =
      ap₂ sheet_answer_text (e ∙ ap₂ (λ (s q : List ℕ). read_answer Burst p sheet s q) es ep) (b ∙ ap₂ (λ (s q : List ℕ). read_payload Burst p sheet s q) es ep)

pub listed_bad : (input : List ℕ) → 5 ≤ length input → in_range (input_profile input) ≡ false → refusal_text 1 0 ≡ listed input
unfolding listed
listed_bad input l e =
    rw (le-ltb (length input) 5 l)
    (text_refused (input_profile input) (drop 5 input) (scratch_buffer (input_profile input)) (payload_buffer (input_profile input)) refl refl BadProfile (read_bad Burst (input_profile input) (drop 5 input) _ _ e).0)

pub listed-short : (input : List ℕ) → length input < 5 → refusal_text 1 0 ≡ listed input
unfolding listed
listed-short input l = rw (lt-ltb (length input) 5 l)

pub listed-sheet : (input : List ℕ) → 5 ≤ length input → sheet_text (input_profile input) (take (length input - 5) (drop 5 input)) ≡ listed input
unfolding listed
listed-sheet input l =
    rw (le-ltb (length input) 5 l) (ap (sheet_text (input_profile input)) (take_all (length input - 5) (drop 5 input) (omega (arith, length-drop 5 input))))

-- a profile in range is that of the input's first bytes ..
pub profile_accepted : (input : List ℕ) (p : Profile) → profile_in input ≡ Ok p → (5 ≤ length input) × InRange p × (input_profile input ≡ p)
profile_accepted input p e = by_test (ltb (length input) 5) (in_range (input_profile input)) refl refl e
  where
    by_test : (t u : Bool) → ltb (length input) 5 ≡ t → in_range (input_profile input) ≡ u → pick t (Err early.BadProfile) (pick u (Ok (input_profile input)) (Err early.BadProfile)) ≡ Ok p
        → (5 ≤ length input) × InRange p × (input_profile input ≡ p)
    by_test true u a b q = absurd (cc)
    by_test false true a b q =
        let same : input_profile input ≡ p = cc in
        (ltb-false _ _ a, subst InRange same ((in_range_lem (input_profile input)).0 b), same)
    by_test false false a b q = absurd (cc)

-- .. and where there is none, the answer is that refusal's text
pub profile_refused : (input : List ℕ) (r : EarlyRefusal) → profile_in input ≡ Err r → refusal_text (early_number r) 0 ≡ listed input
profile_refused input r e = by_test (ltb (length input) 5) (in_range (input_profile input)) refl refl e
  where
    by_test : (t u : Bool) → ltb (length input) 5 ≡ t → in_range (input_profile input) ≡ u → pick t (Err early.BadProfile) (pick u (Ok (input_profile input)) (Err early.BadProfile)) ≡ Err r
        → refusal_text (early_number r) 0 ≡ listed input
    by_test true u a b q =
        let same : early.BadProfile ≡ r = cc in
        rw (← same) (listed-short input (ltb-true _ _ a))
    by_test false true a b q = absurd (cc)
    by_test false false a b q =
        let same : early.BadProfile ≡ r = cc in
        rw (← same) (listed_bad input (ltb-false _ _ a) b)

-- the buffers: the parts that the profile takes of the lister's zeros
module _ (p : Profile) (v : InRange p) where
  -- 16 blocks of 255 cells, of 253 message bytes
  pub cells_fit : p.depth * p.n ≤ 4080
  cells_fit = omega (arith, mul-le-mul v.depth_most v.n_most)

  pub bytes_fit : (k : ℕ) → k ≡ message_length p → p.depth * k ≤ 4048
  bytes_fit k e =
      let l : k ≤ 253 = omega (arith, e, v.n_most, v.r_least) in
      omega (arith, mul-le-mul v.depth_most l)

  pub scratch_part : take {A = ℕ} p.n (replicate 255 0) ≡ scratch_buffer p
  scratch_part = take-replicate p.n 255 0 v.n_most

  pub payload_part : (k : ℕ) → k ≡ message_length p → take {A = ℕ} (p.depth * k) (replicate 4048 0) ≡ payload_buffer p
  payload_part k e = take-replicate (p.depth * k) 4048 0 (bytes_fit k e) ∙ ap (λ (n : ℕ). replicate (p.depth * n) 0) e

-- a sheet with them is what the reader is lent
pub own_buffers : (p : Profile) (sheet : List ℕ) → Sheet p sheet → Lent p sheet (scratch_buffer p) (payload_buffer p)
own_buffers p sheet h = record { cells = h; scratch_count = length-replicate p.n 0; out_count = length-replicate (p.depth * message_length p) 0 }
