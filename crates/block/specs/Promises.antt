-- The promises on one block, of what the entries answer and leave in their buffers, through document 01's numbers (B4 to B10, E3 to E5; document 02, N7a). They name
-- no search: what a run reaches is Runs.antt, the numbers are Numbers.antt, and the contracts in src/lib.rt say that the functions answer and
-- leave `write_answer`, `write_leaves`, `check_answer`, `correct_answer` and `correct_leaves`. proofs/Promises.antt proves each.
use Rattle.std.specs.Prelude.{Ok, Err, ◌≡◌, ◌↔◌, ◌≢◌, List, ℕ, ◌≤◌, ◌<◌, length, drop}
use Rattle.lists.specs.Bytes.{Bytes}
use Rattle.code.specs.Code.{syndrome, distance}
use Rattle.code.specs.Run.{changed_in}
use Rattle.profile.specs.Profile.{InRange, message_length, half}
use Rattle.profile.specs.Refusals.{EarlyRefusals}
use Rattle.profile.specs.Numbers.{early_number, early_place}
use Rattle.block.specs.Block.{write_answer, write_leaves, check_answer, correct_answer, correct_leaves}
use Rattle.block.specs.Numbers.{verdict_number, verdict_place, verdict_start, verdict_length, checked_clean}
use Rattle.block.specs.Runs.{Cells, Word, Reached, NoneReached, TwoReached, OneReached, SparseRepair, OneAccepted, OneSparse, OneOfThree}
use Rattle.profile.specs.declared.Profile.{Profile}
use Rattle.block.specs.declared.numbers.Correction.TheVariants.{Cells as ChangedCells}
use Rattle.block.specs.declared.numbers.Refusal.TheVariants.{TooManyErrors}

-- ---- 1. B4: the writer

-- a written block holds its message from cell r on, is a codeword, and no other codeword holds that message
pub record WrittenBlock (p : Profile) (m out : List ℕ) : Type 0 where
  pub accepted : early_number (write_answer p m out) ≡ 0
  pub word : Word p (write_leaves p m out)
  pub message : drop p.r (write_leaves p m out) ≡ m
  pub only : (c : List ℕ) → Word p c → drop p.r c ≡ m → c ≡ write_leaves p m out

abbrev pub WritesCodeword : Type 0
WritesCodeword = (p : Profile) (m out : List ℕ) → InRange p → length m ≡ message_length p → Bytes m → length out ≡ p.n → WrittenBlock p m out

-- ---- 2. B5: the checker

-- "called clean exactly if all its syndromes are zero", which is exactly when it is a codeword; the flag is 1, and else 0
pub record CalledClean (p : Profile) (y : List ℕ) : Type 0 where
  pub accepted : early_number (check_answer p y) ≡ 0
  pub syndromes : (checked_clean (check_answer p y) ≡ 1) ↔ ((i : ℕ) → i < p.r → syndrome p.b i y ≡ 0)
  pub codeword : (checked_clean (check_answer p y) ≡ 1) ↔ Word p y
  pub otherwise : checked_clean (check_answer p y) ≢ 1 → checked_clean (check_answer p y) ≡ 0

abbrev pub CleanIff : Type 0
CleanIff = (p : Profile) (y : List ℕ) → InRange p → Cells p y → CalledClean p y

-- ---- 3 to 5. B6 to B9: the corrector

-- n read cells, and "a second lent buffer of n bytes", whatever it held
pub record LentBlock (p : Profile) (y out : List ℕ) : Type 0 where
  pub cells : Cells p y
  pub second : length out ≡ p.n

-- 3 torn
abbrev pub UncorrectableIff : Type 0
UncorrectableIff = (p : Profile) (y out : List ℕ) → InRange p → LentBlock p y out → (verdict_number (correct_answer p y out) ≡ 3) ↔ NoneReached p y

-- 4 tied
abbrev pub AmbiguousIff : Type 0
AmbiguousIff = (p : Profile) (y out : List ℕ) → InRange p → LentBlock p y out → (verdict_number (correct_answer p y out) ≡ 4) ↔ TwoReached p y

-- accepted, with the result s and f and the codeword c in the second buffer
pub record Corrects (p : Profile) (y out : List ℕ) (s f : ℕ) (c : List ℕ) : Type 0 where
  pub accepted : verdict_number (correct_answer p y out) ≡ 0
  pub start : verdict_start (correct_answer p y out) ≡ s
  pub size : verdict_length (correct_answer p y out) ≡ f
  pub leaves : correct_leaves p y out ≡ c

-- mended or clean: the start, the length and the codeword that the corrector gives are the only ones of which these facts hold
abbrev pub CorrectedIff : Type 0
CorrectedIff = (p : Profile) (y out : List ℕ) (s f : ℕ) (c : List ℕ) → InRange p → LentBlock p y out → Corrects p y out s f c ↔ OneAccepted p y s f c

-- 16 thin
abbrev pub SparseIff : Type 0
SparseIff = (p : Profile) (y out : List ℕ) → InRange p → LentBlock p y out → (verdict_number (correct_answer p y out) ≡ 16) ↔ OneSparse p y

-- a run of at most h cells is exempt from the rule, and so is a clean block, whose run has no cells
abbrev pub ShortExempt : Type 0
ShortExempt = (p : Profile) (y : List ℕ) (s f : ℕ) (c : List ℕ) → f ≤ half p → SparseRepair p y s f c → ⊥

-- so is a run of at most three cells by which document 01 corrects, since its first and its last cell are changed; so with r below 5 the rule has no effect
abbrev pub ThreeExempt : Type 0
ThreeExempt = (p : Profile) (y : List ℕ) (s f : ℕ) (c : List ℕ) → InRange p → Cells p y → OneReached p y s f c → f ≤ 3 → SparseRepair p y s f c → ⊥

-- the rule counts every cell in which the codeword is not the read block: none lies outside the run
abbrev pub CountsAll : Type 0
CountsAll = (p : Profile) (y : List ℕ) (s f : ℕ) (c : List ℕ) → Cells p y → Reached p y s f c → changed_in s f y c ≡ distance y c

-- ---- 6. by document 01 a block is torn, tied or mended, and one of these only

abbrev pub ExactlyOne : Type 0
ExactlyOne = (p : Profile) (y : List ℕ) → InRange p → Cells p y → OneOfThree p y

-- ---- 7. where L ≥ h, a codeword within a run of at most h cells is the one to which the block is corrected

abbrev pub HalfPromise : Type 0
HalfPromise = (p : Profile) (y out : List ℕ) (s f : ℕ) (c : List ℕ) → InRange p → LentBlock p y out → half p ≤ p.limit → f ≤ half p → Reached p y s f c
    → (verdict_number (correct_answer p y out) ≡ 0) × (correct_leaves p y out ≡ c)

-- ---- 8. B10: "depend on its own cells and on n, r, b, L only", and so not on the depth, once it is in range

abbrev pub DepthFree : Type 0
DepthFree = (p q : Profile) (y out : List ℕ) → InRange p → InRange q → p.n ≡ q.n → p.r ≡ q.r → p.b ≡ q.b → p.limit ≡ q.limit
    → (correct_answer p y out ≡ correct_answer q y out) × (correct_leaves p y out ≡ correct_leaves q y out)

-- ---- 9. E3, E4: every refusal

-- after a refusal the place is 0, "Every lent buffer is unchanged", and the other numbers are 0
pub record WriteRefusals (p : Profile) (m out : List ℕ) : Type 0 where
  pub early : EarlyRefusals p ((length m ≡ message_length p) × (length out ≡ p.n)) (early_number (write_answer p m out))
  pub place : early_place (write_answer p m out) ≡ 0
  pub kept : early_number (write_answer p m out) ≢ 0 → write_leaves p m out ≡ out

pub record CheckRefusals (p : Profile) (y : List ℕ) : Type 0 where
  pub early : EarlyRefusals p (length y ≡ p.n) (early_number (check_answer p y))
  pub place : early_place (check_answer p y) ≡ 0
  pub flag : early_number (check_answer p y) ≢ 0 → checked_clean (check_answer p y) ≡ 0

-- the corrector's 3, 4 and 16 included
pub record CorrectRefusals (p : Profile) (y out : List ℕ) : Type 0 where
  pub early : EarlyRefusals p ((length y ≡ p.n) × (length out ≡ p.n)) (verdict_number (correct_answer p y out))
  pub place : verdict_place (correct_answer p y out) ≡ 0
  pub kept : verdict_number (correct_answer p y out) ≢ 0 → correct_leaves p y out ≡ out
  pub run : verdict_number (correct_answer p y out) ≢ 0 → (verdict_start (correct_answer p y out) ≡ 0) × (verdict_length (correct_answer p y out) ≡ 0)
  -- never spot mode's cases
  pub no_cells : (correct_answer p y out ≢ Err TooManyErrors) × ((t j : ℕ) → correct_answer p y out ≢ Ok (ChangedCells t j))

pub record BlockRefusals (p : Profile) : Type 0 where
  pub writes : (m out : List ℕ) → WriteRefusals p m out
  pub checks : (y : List ℕ) → CheckRefusals p y
  pub corrects : (y out : List ℕ) → CorrectRefusals p y out
