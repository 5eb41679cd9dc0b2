-- What the entries on a sheet answer and leave, in the words of document 01, through its numbers, and with no word of how a block is searched (S1 to
-- S6, E3 to E5; document 02, Note 1), in every mode. To which codeword a block goes in a mode is in Modes.antt. proofs/Theorems.antt proves each.
use Rattle.std.specs.Prelude.{◌≡◌, ◌↔◌, ◌≢◌, ◌⊎◌, true, false, List, ℕ, ◌+◌, ◌*◌, ◌/◌, ◌%◌, ◌<◌, length, get_or, drop, replicate}
use Rattle.profile.specs.Profile.{InRange, message_length}
use Rattle.profile.specs.Numbers.{early_number, early_place}
use Rattle.block.specs.Runs.{Word}
use Rattle.profile.specs.Refusals.{EarlyRefusals}
use Rattle.profile.specs.declared.Profile.{Profile}
use Rattle.sheet.specs.declared.Mode.{Mode}
use Rattle.sheet.specs.declared.Mode.TheVariants.{Spots}
use Rattle.sheet.specs.Modes.{GoesTo, BlockRefusedBy}
use Rattle.sheet.specs.Sheet.{interleave, block_of, joined, message_of, write_sheet_answer, write_sheet_leaves, read_block, differ, read_answer, read_scratch, read_payload}
use Rattle.sheet.specs.Numbers.{reading_number, reading_place, reading_changed}
pub use Rattle.sheet.specs.Buffers.{Payload, Lent, differing}

-- ---- 1. S1: where cells and bytes stand

-- sheet cell q is cell q/D of block q mod D, and payload byte q is message byte q mod k of block q/k
pub record Places (D : ℕ) : Type 0 where
  pub cell : (n q : ℕ) (sheet : List ℕ) → q < D * n → get_or (block_of D n sheet (q % D)) (q / D) 0 ≡ get_or sheet q 0
  pub byte : (k q : ℕ) (payload : List ℕ) → q < D * k → get_or (message_of k payload (q / k)) (q % k) 0 ≡ get_or payload q 0

-- interleaved blocks, taken apart, are those blocks; joined messages, taken apart, are those messages
pub record TakenApart (D : ℕ) : Type 0 where
  pub blocks : (n d : ℕ) (block : ℕ → List ℕ) → d < D → length (block d) ≡ n → block_of D n (interleave D n block) d ≡ block d
  pub messages : (k d : ℕ) (message : ℕ → List ℕ) → d < D → length (message d) ≡ k → message_of k (joined D k message) d ≡ message d

-- ---- 2. S2: "Every payload of the profile's size is written to a sheet as document 01 lays it out."

-- "Sheet cell p is cell p/D (rounded down) of block p mod D." "Payload byte q is message byte q mod k of block q/k (rounded down)." The message bytes of a
-- block stand from cell r on, and they fix the codeword (the block crate's `WritesCodeword`): so these facts fix every cell of the sheet
pub record LaidOut (p : Profile) (payload sheet : List ℕ) (blocks : ℕ → List ℕ) : Type 0 where
  pub words : (d : ℕ) → d < p.depth → Word p (blocks d)
  pub cells : (q : ℕ) → q < p.depth * p.n → get_or sheet q 0 ≡ get_or (blocks (q % p.depth)) (q / p.depth) 0
  pub bytes : (q : ℕ) → q < p.depth * message_length p → get_or payload q 0 ≡ get_or (blocks (q / message_length p)) (p.r + q % message_length p) 0

-- "A sheet has D × n cells."
pub record WrittenSheet (p : Profile) (m cells : List ℕ) : Type 0 where
  pub accepted : early_number (write_sheet_answer p m cells) ≡ 0
  pub count : length (write_sheet_leaves p m cells) ≡ p.depth * p.n
  pub blocks : ℕ → List ℕ
  pub laid : LaidOut p m (write_sheet_leaves p m cells) blocks

abbrev pub WritesSheet : Type 0
WritesSheet = (p : Profile) (m cells : List ℕ) → InRange p → Payload p m → length cells ≡ p.depth * p.n → WrittenSheet p m cells

-- ---- 3. S3 to S6: a sheet that is read

module _ (mode : Mode) (p : Profile) (sheet : List ℕ) where
  -- c is the codeword to which block d goes
  abbrev pub HasWord : ℕ → List ℕ → Type 0
  HasWord d c = GoesTo mode p (read_block p sheet d) c

  -- the number by which block d is refused
  abbrev pub RefusedBy : ℕ → ℕ → Type 0
  RefusedBy d number = BlockRefusedBy mode p (read_block p sheet d) number

  -- block d is the lowest that is refused, and that is its number
  pub record LowestRefused (d number : ℕ) : Type 0 where
    pub below : d < p.depth
    pub refused : RefusedBy d number
    pub before : (e : ℕ) → e < d → (c : List ℕ) × HasWord e c

  -- each block has a codeword: block d has words d
  abbrev pub AllWords : (ℕ → List ℕ) → Type 0
  AllWords words = (d : ℕ) → d < p.depth → HasWord d (words d)

-- `differ` is what it says
abbrev pub DifferIff : Type 0
DifferIff = (c d : List ℕ) → ((differ c d ≡ true) ↔ (c ≢ d)) × ((differ c d ≡ false) ↔ (c ≡ d))

-- the reader's answer, scratch and payload buffer
module _ (mode : Mode) (p : Profile) (sheet scratch out : List ℕ) where
  -- "With an accepted sheet come the payload, which is the message bytes of the codewords of all its blocks, and the number of blocks changed, which are
  -- those whose codeword isn't the read block."
  pub record Accepts (words : ℕ → List ℕ) : Type 0 where
    pub number : reading_number (read_answer mode p sheet scratch out) ≡ 0
    pub place : reading_place (read_answer mode p sheet scratch out) ≡ 0
    pub changed : reading_changed (read_answer mode p sheet scratch out) ≡ differing p.depth words (read_block p sheet)
    pub payload : read_payload mode p sheet scratch out ≡ joined p.depth (message_length p) (λ (d : ℕ). drop p.r (words d))

  -- every result on buffers of the right lengths
  pub record Results : Type 0 where
    -- a block is refused, or each has a codeword
    pub some : ((d number : ℕ) × LowestRefused mode p sheet d number) ⊎ ((words : ℕ → List ℕ) × AllWords mode p sheet words)
    -- S3: "A sheet is refused exactly when a block of it is, with the lowest such block's number and reason"
    pub refused : (d number : ℕ) → number ≢ 0
        → ((reading_number (read_answer mode p sheet scratch out) ≡ number) × (reading_place (read_answer mode p sheet scratch out) ≡ d)) ↔ LowestRefused mode p sheet d number
    -- S4
    pub accepted : (reading_number (read_answer mode p sheet scratch out) ≡ 0) ↔ ((words : ℕ → List ℕ) × AllWords mode p sheet words)
    pub accepts : (words : ℕ → List ℕ) → AllWords mode p sheet words → Accepts words
    -- S6: "After every result but refusals 1 and 2 the scratch is all zero."
    pub cleared : read_scratch mode p sheet scratch out ≡ replicate (length scratch) 0

abbrev pub ReadResults : Type 0
ReadResults = (mode : Mode) (p : Profile) (sheet scratch out : List ℕ) → InRange p → Lent p sheet scratch out → Results mode p sheet scratch out

-- ---- 4. E3, E4, S5, S6: every refusal

-- the writer: the place is 0, and the lent sheet is unchanged
pub record WriteSheetRefusals (p : Profile) (m cells : List ℕ) : Type 0 where
  pub early : EarlyRefusals p ((length m ≡ p.depth * message_length p) × (length cells ≡ p.depth * p.n)) (early_number (write_sheet_answer p m cells))
  pub place : early_place (write_sheet_answer p m cells) ≡ 0
  pub kept : early_number (write_sheet_answer p m cells) ≢ 0 → write_sheet_leaves p m cells ≡ cells

-- the reader: refusals 1 and 2 have place 0 and leave the scratch; after every refusal the payload buffer is unchanged
pub record ReadRefusals (mode : Mode) (p : Profile) (sheet scratch out : List ℕ) : Type 0 where
  pub early : EarlyRefusals p ((length sheet ≡ p.depth * p.n) × (length scratch ≡ p.n) × (length out ≡ p.depth * message_length p)) (reading_number (read_answer mode p sheet scratch out))
  pub place : (reading_number (read_answer mode p sheet scratch out) ≡ 1) ⊎ (reading_number (read_answer mode p sheet scratch out) ≡ 2) → reading_place (read_answer mode p sheet scratch out) ≡ 0
  pub scratch_kept : (reading_number (read_answer mode p sheet scratch out) ≡ 1) ⊎ (reading_number (read_answer mode p sheet scratch out) ≡ 2) → read_scratch mode p sheet scratch out ≡ scratch
  pub out_kept : reading_number (read_answer mode p sheet scratch out) ≢ 0 → read_payload mode p sheet scratch out ≡ out
  pub changed : reading_number (read_answer mode p sheet scratch out) ≢ 0 → reading_changed (read_answer mode p sheet scratch out) ≡ 0

pub record SheetRefusals (p : Profile) : Type 0 where
  pub writes : (m cells : List ℕ) → WriteSheetRefusals p m cells
  pub reads : (mode : Mode) (sheet scratch out : List ℕ) → ReadRefusals mode p sheet scratch out

-- ---- 5. document 02, Note 1, as decided: in spot mode L has to be in its range and has no other effect

abbrev pub SheetLimitFree : Type 0
SheetLimitFree = (p q : Profile) (sheet scratch out : List ℕ) → InRange p → InRange q → p.n ≡ q.n → p.r ≡ q.r → p.b ≡ q.b → p.depth ≡ q.depth
    → (read_answer Spots p sheet scratch out ≡ read_answer Spots q sheet scratch out) × (read_scratch Spots p sheet scratch out ≡ read_scratch Spots q sheet scratch out)
    × (read_payload Spots p sheet scratch out ≡ read_payload Spots q sheet scratch out)
