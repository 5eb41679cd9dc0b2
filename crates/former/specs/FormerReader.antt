-- The reader of a sheet (S3 to S6) as it was before document 02's Note 6, with a scratch of D × n bytes, kept so that today's reader can be compared with it
-- (LessScratch.antt). Each definition has the former text. What the note left as it was, which is what the blocks answer together and the payload of their
-- codewords, is not repeated: it comes from crates/sheet/specs. So both readers are over today's verdict on a block, with the rule of Note 7.
use Rattle.std.specs.Prelude.{Bool, Err, is_ok, List, ℕ, ◌*◌, eqb, length, replicate}
use Rattle.lists.specs.Choice.{pick, both}
use Rattle.profile.specs.Profile.{message_length}
use Rattle.profile.specs.Refusals.{refusing}
use Rattle.profile.specs.declared.Profile.{Profile}
use Rattle.sheet.specs.declared.Mode.{Mode}
use Rattle.sheet.specs.declared.Refusal.TheVariants.{BadProfile, WrongLength}
use Rattle.sheet.specs.Numbers.{Reading}
use Rattle.sheet.specs.Sheet.{sheet_answer, sheet_payload}

-- sheet and scratch of D × n bytes, payload buffer of D × k
unfoldable pub former_read_fits : Profile → ℕ → ℕ → ℕ → Bool
former_read_fits p sheet scratch payload =
    both (eqb sheet (p.depth * p.n)) (both (eqb scratch (p.depth * p.n)) (eqb payload (p.depth * message_length p)))

module _ (mode : Mode) (p : Profile) (sheet scratch payload : List ℕ) where
  abbrev fits : Bool
  fits = former_read_fits p (length sheet) (length scratch) (length payload)

  unfoldable pub former_read_answer : Reading
  former_read_answer = refusing p fits (Err BadProfile) (Err WrongLength) (sheet_answer mode p sheet)

  -- "After every result but refusals 1 and 2 the scratch is all zero"
  unfoldable pub former_read_scratch : List ℕ
  former_read_scratch = refusing p fits scratch scratch (replicate (length scratch) 0)

  -- no payload byte changes unless the sheet is accepted
  unfoldable pub former_read_payload : List ℕ
  former_read_payload = refusing p fits payload payload (pick (is_ok (sheet_answer mode p sheet)) (sheet_payload mode p sheet) payload)
