-- The promise on which the plot layer rests (S7, S8, S9; document 02, Note 1): a written sheet reads back as its payload in every mode. In burst mode,
-- where L ≥ h, it does so whatever bytes stand in one run of at most D × h of its cells, and in spot mode whatever stands in at most h cells of each
-- block. Written and read mean what the entries leave and answer; nothing here says how a block is corrected.
use Rattle.std.specs.Prelude.{◌≡◌, List, ℕ, ◌+◌, ◌*◌, ◌≤◌, ◌<◌, length, get_or}
use Rattle.code.specs.Code.{distance}
use Rattle.code.specs.Run.{Outside}
use Rattle.sheet.specs.declared.Mode as declared
use Rattle.sheet.specs.declared.Mode.TheVariants as modes
pub use Rattle.profile.specs.Profile.{InRange, message_length, half}
pub use Rattle.profile.specs.declared.Profile.{Profile}
pub use Rattle.sheet.specs.Sheet.{write_sheet_leaves, read_block, read_answer, read_payload}
pub use Rattle.sheet.specs.Numbers.{reading_number, reading_changed}
pub use Rattle.sheet.specs.Buffers.{Payload, Sheet, Lent, differing}

-- the reader's modes under names of this file, since `pub use` hands no enum of the crate itself to another crate
abbrev pub Mode : Type 0
Mode = declared.Mode

abbrev pub Burst : Mode
Burst = modes.Burst

abbrev pub Spots : Mode
Spots = modes.Spots

-- the reader gives the payload m back byte for byte, with that many blocks changed, whatever stood in its buffers
pub record ReadsBack (mode : Mode) (p : Profile) (m sheet : List ℕ) (changed : ℕ) (scratch out : List ℕ) : Type 0 where
  pub number : reading_number (read_answer mode p sheet scratch out) ≡ 0
  pub count : reading_changed (read_answer mode p sheet scratch out) ≡ changed
  pub payload : read_payload mode p sheet scratch out ≡ m

-- "A run of a sheet is a start and a length whose sum is at most D × n": a sheet that is as written outside one run of at most D × h cells
pub record Damaged (p : Profile) (written sheet : List ℕ) : Type 0 where
  pub cells : Sheet p sheet
  pub start : ℕ
  pub size : ℕ
  pub run : start + size ≤ p.depth * p.n
  pub short : size ≤ p.depth * half p
  pub agree : (i : ℕ) → i < p.depth * p.n → Outside start size i → get_or sheet i 0 ≡ get_or written i 0

-- "any h spots a block" (document 02, Note 1): a sheet each block of which differs from the written one in at most h cells
pub record FewErrors (p : Profile) (written sheet : List ℕ) : Type 0 where
  pub cells : Sheet p sheet
  pub few : (d : ℕ) → d < p.depth → distance (read_block p sheet d) (read_block p written d) ≤ half p

-- of the sheet that the writer leaves in the buffer `cells`, whatever that held
module _ (p : Profile) (m cells : List ℕ) where
  abbrev written : List ℕ
  written = write_sheet_leaves p m cells

  pub record Promised : Type 0 where
    pub sheet : Sheet p written
    pub back : (mode : Mode) (scratch out : List ℕ) → Lent p written scratch out → ReadsBack mode p m written 0 scratch out
    -- a block counts as changed exactly where its read cells are not those that were written
    pub damaged : (sheet scratch out : List ℕ) → half p ≤ p.limit → Damaged p written sheet → Lent p sheet scratch out
        → ReadsBack Burst p m sheet (differing p.depth (read_block p written) (read_block p sheet)) scratch out
    -- whatever L is
    pub few_errors : (sheet scratch out : List ℕ) → FewErrors p written sheet → Lent p sheet scratch out
        → ReadsBack Spots p m sheet (differing p.depth (read_block p written) (read_block p sheet)) scratch out

abbrev pub SheetPromise : Type 0
SheetPromise = (p : Profile) (m cells : List ℕ) → InRange p → Payload p m → length cells ≡ p.depth * p.n → Promised p m cells
