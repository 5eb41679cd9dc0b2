-- "The scratch's length aside, verdicts, payload, refusals and their places are those of the old reader on every input, and a refused sheet still leaves the
-- payload buffer untouched. Afterwards the n bytes are zero, by the same rule as before." (document 02, Note 6; N6a, N6b), of every mode. Both
-- readers are over today's verdict on a block, with the rule of Note 7. proofs/LessScratch.antt proves each.
use Rattle.std.specs.Prelude.{◌≡◌, ◌↔◌, ◌≢◌, ◌⊎◌, List, ℕ, ◌*◌, ◌<◌, length, replicate}
use Rattle.profile.specs.Profile.{InRange}
use Rattle.profile.specs.declared.Profile.{Profile}
use Rattle.sheet.specs.declared.Mode.{Mode}
use Rattle.sheet.specs.declared.Mode.TheVariants.{Burst}
use Rattle.sheet.specs.Sheet.{read_answer, read_scratch, read_payload}
use Rattle.sheet.specs.Numbers.{reading_number, reading_place}
use Rattle.listing.specs.Listing.{sheet_answer_text, payload_buffer, sheet_text}
use Rattle.former.specs.FormerReader.{former_read_answer, former_read_scratch, former_read_payload}

-- today's reader and the former one on the same sheet and payload buffer, of any bytes and any lengths
pub record SameReading (mode : Mode) (p : Profile) (sheet out small large : List ℕ) : Type 0 where
  -- the whole answer, and so its number, its place and the number of blocks changed
  pub answer : read_answer mode p sheet small out ≡ former_read_answer mode p sheet large out
  pub payload : read_payload mode p sheet small out ≡ former_read_payload mode p sheet large out

-- for every scratch of n bytes lent to today's reader and every one of D × n lent to the former; and where neither scratch has its length
abbrev pub AsFormerReader : Type 0
AsFormerReader = (mode : Mode) (p : Profile) (sheet out small large : List ℕ) → (length small ≡ p.n) ↔ (length large ≡ p.depth * p.n) → SameReading mode p sheet out small large

-- "by the same rule as before": after refusals 1 and 2 the scratch is as it was, and after every other result it is zero, today its n bytes and formerly its D × n
pub record SameRule (mode : Mode) (p : Profile) (sheet out scratch : List ℕ) : Type 0 where
  pub kept : (reading_number (read_answer mode p sheet scratch out) ≡ 1) ⊎ (reading_number (read_answer mode p sheet scratch out) ≡ 2) → read_scratch mode p sheet scratch out ≡ scratch
  pub cleared : reading_number (read_answer mode p sheet scratch out) ≢ 1 → reading_number (read_answer mode p sheet scratch out) ≢ 2
      → read_scratch mode p sheet scratch out ≡ replicate p.n 0
  pub former_kept : (reading_number (former_read_answer mode p sheet scratch out) ≡ 1) ⊎ (reading_number (former_read_answer mode p sheet scratch out) ≡ 2)
      → former_read_scratch mode p sheet scratch out ≡ scratch
  pub former_cleared : reading_number (former_read_answer mode p sheet scratch out) ≢ 1 → reading_number (former_read_answer mode p sheet scratch out) ≢ 2
      → former_read_scratch mode p sheet scratch out ≡ replicate (p.depth * p.n) 0

-- the lister lends the reader buffers of its own, which are zero: what it prints for a sheet is the text of what the former reader answers and hands back
abbrev pub TextAsFormer : Type 0
TextAsFormer = (p : Profile) (sheet : List ℕ) → sheet_text p sheet
    ≡ sheet_answer_text (former_read_answer Burst p sheet (replicate (p.depth * p.n) 0) (payload_buffer p)) (former_read_payload Burst p sheet (replicate (p.depth * p.n) 0) (payload_buffer p))

-- a scratch of D × n bytes with D above 1 is refused by 2, place 0, whatever the other buffers are
abbrev pub FormerScratchRefused : Type 0
FormerScratchRefused = (mode : Mode) (p : Profile) (sheet scratch out : List ℕ) → InRange p → 1 < p.depth → length scratch ≡ p.depth * p.n
    → (reading_number (read_answer mode p sheet scratch out) ≡ 2) × (reading_place (read_answer mode p sheet scratch out) ≡ 0)
