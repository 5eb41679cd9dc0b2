-- What the entries answer and leave where profile and lengths are right: the verdict, the codeword, the written block. Who calls them cites these laws
-- and opens no definition.
use mathlib.Core.Path.{◌≡◌, refl, sym, ◌∙◌}
use mathlib.Core.Logic.{◌≢◌}
use mathlib.Core.Bool.{Bool}
use Rattle.std.specs.Prelude.{Ok}
use mathlib.Core.List.{List}
use Prim.Native.Nat.{ℕ}
use lib.ListN.{length}
use Rattle.code.specs.Code.{generator, remainder}
use Rattle.words.specs.Cells.{pad_to}
use Rattle.profile.specs.Profile.{InRange, message_length}
use Rattle.block.specs.Block.{encode, read_remainder, is_clean, write_answer, write_leaves, check_answer, verdict, filled, corrected, correct_answer, correct_leaves}
use Rattle.block.specs.Numbers.{verdict_number}
use Rattle.profile.specs.declared.Profile.{Profile}
use Rattle.profile.proofs.Ranges.{in_range_lem}
use Rattle.block.proofs.NumberLaws.{filled_alike, filled-kept}
use Rattle.block.proofs.Entries.{remainder-rest, check-rest, write_fits_lem, write_done, correct_fits_lem, correct_rest}

module _ (p : Profile) (v : InRange p) where
  module _ (m out : List ℕ) (k : length m ≡ message_length p) (e : length out ≡ p.n) where
    pub write-accepted : write_answer p m out ≡ (Ok tt)
    write-accepted = sym (write_done p m out ((in_range_lem p).1 v) (write_fits_lem p m out k e)).0

    pub block_written : write_leaves p m out ≡ encode p.b p.r m
    block_written = sym (write_done p m out ((in_range_lem p).1 v) (write_fits_lem p m out k e)).1

  module _ (y : List ℕ) (h : length y ≡ p.n) where
    pub block-checked : (a : Bool) → is_clean p.b p.r y ≡ a → check_answer p y ≡ Ok a
    block-checked a q = sym (check-rest p y ((in_range_lem p).1 v) h a q)

    pub block-remainder : read_remainder p y ≡ pad_to 64 (remainder p.r (generator p.b p.r) y)
    block-remainder = sym (remainder-rest p y ((in_range_lem p).1 v) h _ refl)

    module _ (out : List ℕ) (e : length out ≡ p.n) where
      whole : (verdict p y ≡ correct_answer p y out) × (filled p y out (verdict p y) ≡ correct_leaves p y out)
      whole = correct_rest p y out ((in_range_lem p).1 v) (correct_fits_lem p y out h e) (verdict p y) (filled p y out (verdict p y)) refl refl

      pub block-answer : correct_answer p y out ≡ verdict p y
      block-answer = sym whole.0

      pub block-leaves : verdict_number (verdict p y) ≡ 0 → correct_leaves p y out ≡ corrected p y
      unfolding corrected
      block-leaves t = sym whole.1 ∙ filled_alike p y out t

-- after every refusal the second buffer is as it was
pub block-kept : (p : Profile) (y out : List ℕ) → verdict_number (correct_answer p y out) ≢ 0 → correct_leaves p y out ≡ out
unfolding correct_leaves
block-kept p y out n = filled-kept p y out (correct_answer p y out) n
