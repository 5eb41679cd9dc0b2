-- The theorems of specs/Theorems.antt. A sheet's refusal has a place of at most D; an accepted sheet gives a payload of bytes and at most D
-- changed blocks; and the listing_text crate bounds the texts of these.
use mathlib.Core.Path.{◌≡◌, refl, sym, ap}
use mathlib.Core.Logic.{◌⊎◌, inl, inr, ⊎_elim}
use mathlib.Core.List.{List}
use Prim.Native.Nat.{ℕ, ◌*◌, ◌≤◌}
use native.Mathlib.Omega.{arith}
use Rattle.std.specs.Prelude.{Ok, Err}
use lib.Dec.{ltb, eqb}
use lib.ListN.{length, drop}
use borrow.Author.Tests.{eqb-true, eqb-false}
use Rattle.lists.proofs.Test.{zero_or, true_or_false, true_false, pick_of}
use Rattle.lists.specs.Bytes.{Bytes}
use Rattle.lists.proofs.Bytes.{drop-bytes}
use Rattle.profile.specs.Profile.{InRange, in_range}
use Rattle.profile.specs.declared.Profile.{Profile}
use Rattle.profile.proofs.Ranges.{in_range_lem}
use Rattle.sheet.specs.declared.Mode.TheVariants.{Burst}
use Rattle.sheet.specs.Sheet.{read_payload}
use Rattle.sheet.specs.Numbers.{refusal_number, refusal_place, Reading, reading_number, reading_place}
use Rattle.sheet.specs.Buffers.{Lent}
use Rattle.sheet.specs.declared.Refusal.{Refusal}
use Rattle.sheet.proofs.Accepted.{payload_back, changed-most}
use Rattle.listing_text.proofs.Fill.{fill_whole}
use Rattle.listing_text.proofs.Lengths.{refusal_length, listing_length}
use Rattle.listing.specs.Listing.{input_profile, scratch_buffer, payload_buffer, sheet_text, listed}
use Rattle.listing.specs.Theorems.{longest_text, TextFits, WholeText}
use Rattle.listing.proofs.OwnBuffers.{answer, refusals, results}
use Rattle.listing.proofs.Cases.{number_small, text_refused, text_accepted, own_buffers}

module _ (p : Profile) (sheet : List ℕ) where
  refused-fits : (r : Refusal) → (answer p sheet) ≡ Err r → refusal_place r ≤ 16 → length (sheet_text p sheet) ≤ longest_text
  refused-fits r q h =
      rw (sym (text_refused p sheet (scratch_buffer p) (payload_buffer p) refl refl r (sym q)))
      (refusal_length (refusal_number r) (refusal_place r) (omega (arith, number_small r)) (omega arith))

  -- a sheet of D × n bytes under a profile in range
  module _ (v : InRange p) (h : Lent p sheet (scratch_buffer p) (payload_buffer p)) where
    place_most : reading_place (answer p sheet) ≤ 16
    place_most =
        ⊎_elim
        (λ z. let w = (results p sheet v h).accepted.0 z in let e : reading_place (answer p sheet) ≡ 0 = ((results p sheet v h).accepts w.0 w.1).place in omega arith)
        (λ n. omega (arith, (((results p sheet v h).refused (reading_place (answer p sheet)) (reading_number (answer p sheet)) n).0 (refl, refl)).below, v.depth_most)) (zero_or (reading_number (answer p sheet)))

    answer-fits : (a : Reading) → (answer p sheet) ≡ a → length (sheet_text p sheet) ≤ longest_text
    answer-fits (Err r) q = refused-fits r q (let e : reading_place (answer p sheet) ≡ refusal_place r = ap reading_place q in omega (arith, place_most))
    answer-fits (Ok changed) q =
        let back = read_payload Burst p sheet (scratch_buffer p) (payload_buffer p) in
        let bytes = (payload_back Burst p sheet (scratch_buffer p) (payload_buffer p) v h changed q).bytes in
        let most : changed ≤ p.depth = changed-most Burst p sheet (scratch_buffer p) (payload_buffer p) v h changed q in
        rw (sym (text_accepted p sheet (scratch_buffer p) (payload_buffer p) refl refl changed back (sym q) refl))
        (listing_length changed back (omega (arith, v.depth_most)) bytes)

  -- refusals 1 and 2
  early_fits : (a : Reading) → (answer p sheet) ≡ a → (reading_number (answer p sheet) ≡ 1) ⊎ (reading_number (answer p sheet) ≡ 2) → length (sheet_text p sheet) ≤ longest_text
  early_fits (Err r) q e = refused-fits r q (let z : reading_place (answer p sheet) ≡ 0 = (refusals p sheet).place e in let k : reading_place (answer p sheet) ≡ refusal_place r = ap reading_place q in omega arith)
  early_fits (Ok changed) q e = let z : reading_number (answer p sheet) ≡ 0 = ap reading_number q in absurd (⊎_elim (λ o. omega arith) (λ o. omega arith) e)

  -- any sheet of bytes under any profile
  sheet-fits : Bytes sheet → length (sheet_text p sheet) ≤ longest_text
  sheet-fits b =
      ⊎_elim (λ t. by_length ((in_range_lem p).0 t)) (λ f. early_fits (answer p sheet) refl (inl ((refusals p sheet).early.one.1 (λ v. true_false ((in_range_lem p).1 v) f)))) (true_or_false (in_range p))
    where
      by_length : InRange p → length (sheet_text p sheet) ≤ longest_text
      by_length v =
          ⊎_elim (λ t. answer-fits v (own_buffers p sheet (record { count = eqb-true _ _ t; bytes = b })) (answer p sheet) refl)
          (λ f. early_fits (answer p sheet) refl (inr ((refusals p sheet).early.two.1 (v, λ e. eqb-false _ _ f e.0))))
          (true_or_false (eqb (length sheet) (p.depth * p.n)))

pub text_fits : TextFits
unfolding listed
text_fits input b =
    pick_of (λ (t : List ℕ). length t ≤ longest_text) (ltb (length input) 5) _ _ (refusal_length 1 0 (omega arith) (omega arith))
    (sheet-fits (input_profile input) (drop 5 input) (drop-bytes 5 input b))

pub whole_text : WholeText
whole_text input out b h = fill_whole (listed input) out (omega (arith, text_fits input b))
