-- The promises on a look and on a fill (document 02, Note 3; N3a to N3d), of what the entries answer and leave, through the documents' numbers. They name no
-- search: what a run reaches is Runs.antt, and the contracts in src/lib.rt say that the functions answer and leave `look_answer`, `fill_answer` and `fill_leaves`.
-- proofs/LookAndFill.antt proves each.
use Rattle.std.specs.Prelude.{Ok, Err, ◌≡◌, ◌↔◌, ◌≢◌, ◌⊎◌, List, ℕ, ◌+◌, ◌-◌, ◌≤◌, ◌<◌, length}
use Rattle.lists.specs.Bytes.{Bytes}
use Rattle.profile.specs.Profile.{InRange}
use Rattle.profile.specs.Refusals.{EarlyRefusals}
use Rattle.block.specs.Block.{correct_answer, correct_leaves, look_answer, look_error, fill_answer, fill_leaves, fill_by_answer, fill_by_leaves}
use Rattle.block.specs.Numbers.{verdict_number, verdict_place, verdict_start, verdict_length, filled_number, filled_place}
use Rattle.block.specs.Runs.{Cells, Word, Reached, NoneReached, TwoReached, OneAccepted, OneSparse}
use Rattle.block.specs.Promises.{LentBlock}
use Rattle.profile.specs.declared.Profile.{Profile}
use Rattle.block.specs.declared.numbers.Correction.TheVariants.{Cells as ChangedCells}
use Rattle.block.specs.declared.numbers.Refusal.TheVariants.{TooManyErrors}

-- ---- 1. N3a: "a look, which writes nothing and gives the verdict"

-- of n cells: 3 torn, 4 tied, 16 thin, or mended or clean, with the result s and f. The one buffer that a look is lent it cannot write, by its type
pub record Looked (p : Profile) (y : List ℕ) : Type 0 where
  pub none : (verdict_number (look_answer p y) ≡ 3) ↔ NoneReached p y
  pub two : (verdict_number (look_answer p y) ≡ 4) ↔ TwoReached p y
  pub one : (s f : ℕ) → ((verdict_number (look_answer p y) ≡ 0) × (verdict_start (look_answer p y) ≡ s) × (verdict_length (look_answer p y) ≡ f)) ↔ ((c : List ℕ) × OneAccepted p y s f c)
  pub sparse : (verdict_number (look_answer p y) ≡ 16) ↔ OneSparse p y

abbrev pub LookIff : Type 0
LookIff = (p : Profile) (y : List ℕ) → InRange p → Cells p y → Looked p y

-- refusal 2 speaks of the block alone
pub record LookRefusals (p : Profile) (y : List ℕ) : Type 0 where
  pub early : EarlyRefusals p (length y ≡ p.n) (verdict_number (look_answer p y))
  pub place : verdict_place (look_answer p y) ≡ 0
  pub run : verdict_number (look_answer p y) ≢ 0 → (verdict_start (look_answer p y) ≡ 0) × (verdict_length (look_answer p y) ≡ 0)
  -- never spot mode's cases
  pub no_cells : (look_answer p y ≢ Err TooManyErrors) × ((t j : ℕ) → look_answer p y ≢ Ok (ChangedCells t j))

-- ---- 2. N3b: "a fill, which takes a start and length and writes the codeword within that run, or says torn if none is"

-- accepted, with c in the second buffer
pub record Fills (p : Profile) (y : List ℕ) (s f : ℕ) (out c : List ℕ) : Type 0 where
  pub accepted : filled_number (fill_answer p y s f out) ≡ 0
  pub leaves : fill_leaves p y s f out ≡ c

-- the codeword that agrees with the read cells outside the run; the run has fewer than r cells, and is as long as it is named, whether L is less or more
abbrev pub FilledIff : Type 0
FilledIff = (p : Profile) (y : List ℕ) (s f : ℕ) (out c : List ℕ) → InRange p → LentBlock p y out → Fills p y s f out c ↔ ((f < p.r) × Reached p y s f c)

-- there is at most one
abbrev pub OneWithin : Type 0
OneWithin = (p : Profile) (y : List ℕ) (s f : ℕ) (c d : List ℕ) → InRange p → Cells p y → f < p.r → Reached p y s f c → Reached p y s f d → c ≡ d

-- "from a fill, torn speaks of that one run only"
abbrev pub NoCodewordIff : Type 0
NoCodewordIff = (p : Profile) (y : List ℕ) (s f : ℕ) (out : List ℕ) → InRange p → LentBlock p y out
    → (filled_number (fill_answer p y s f out) ≡ 3) ↔ ((s + f ≤ p.n) × (f < p.r) × ((c : List ℕ) → Reached p y s f c → ⊥))

-- "whatever L is": once L and the depth are in range, they have no effect
abbrev pub FillLimitFree : Type 0
FillLimitFree = (p q : Profile) (y : List ℕ) (s f : ℕ) (out : List ℕ) → InRange p → InRange q → p.n ≡ q.n → p.r ≡ q.r → p.b ≡ q.b
    → (fill_answer p y s f out ≡ fill_answer q y s f out) × (fill_leaves p y s f out ≡ fill_leaves q y s f out)

-- a run of no cells, from 0 to n, is filled exactly where the read cells are a codeword, with these
abbrev pub EmptyRun : Type 0
EmptyRun = (p : Profile) (y : List ℕ) (s : ℕ) (out c : List ℕ) → InRange p → LentBlock p y out → s ≤ p.n → Fills p y s 0 out c ↔ (Word p y × (c ≡ y))

-- ---- 3. N3c: "12 bad span, after 2 and before 3, when start plus length exceeds n or length exceeds r−1"

-- of every profile, block, start, length and second buffer: so 1, 2, 12 and 3 go in this order; the sum is the numbers' own, and no word's
pub record FillRefusals (p : Profile) (y : List ℕ) (s f : ℕ) (out : List ℕ) : Type 0 where
  pub early : EarlyRefusals p ((length y ≡ p.n) × (length out ≡ p.n)) (filled_number (fill_answer p y s f out))
  pub span : (filled_number (fill_answer p y s f out) ≡ 12) ↔ (InRange p × ((length y ≡ p.n) × (length out ≡ p.n)) × ((p.n < s + f) ⊎ (p.r - 1 < f)))
  -- on an ambiguous block the named run decides
  pub not_ambiguous : filled_number (fill_answer p y s f out) ≢ 4
  pub place : filled_place (fill_answer p y s f out) ≡ 0
  pub kept : filled_number (fill_answer p y s f out) ≢ 0 → fill_leaves p y s f out ≡ out

-- ---- 4. N3d: "With a second buffer of n bytes, a look followed, where it accepts, by its fill must be what mending was."

-- answer and every byte; where the look refuses, nothing is filled and correcting leaves the second buffer as it was
pub record LookThenFill (p : Profile) (y out : List ℕ) : Type 0 where
  pub answer : look_answer p y ≡ correct_answer p y out
  pub accepted : verdict_number (look_answer p y) ≡ 0 → Fills p y (verdict_start (look_answer p y)) (verdict_length (look_answer p y)) out (correct_leaves p y out)
  pub refused : verdict_number (look_answer p y) ≢ 0 → correct_leaves p y out ≡ out

abbrev pub LooksThenFills : Type 0
LooksThenFills = (p : Profile) (y out : List ℕ) → Bytes y → length out ≡ p.n → LookThenFill p y out

-- ---- 5. a look and its fill at once, as the corrector and the reader of a sheet do it

-- by the register that `judge` hands out beside the verdict (`look_error`), `fill_by` answers and leaves what the fill of the look's run does
abbrev pub FillsAtOnce : Type 0
FillsAtOnce = (p : Profile) (y out : List ℕ) → verdict_number (look_answer p y) ≡ 0
    → (fill_by_answer p y (verdict_start (look_answer p y)) (verdict_length (look_answer p y)) (look_error p y) out ≡ fill_answer p y (verdict_start (look_answer p y)) (verdict_length (look_answer p y)) out)
    × (fill_by_leaves p y (verdict_start (look_answer p y)) (verdict_length (look_answer p y)) (look_error p y) out ≡ fill_leaves p y (verdict_start (look_answer p y)) (verdict_length (look_answer p y)) out)
