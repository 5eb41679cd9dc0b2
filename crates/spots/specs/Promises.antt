-- The promises on one block in spot mode, of what the entry answers and leaves in its second buffer, through the numbers of documents 01 and 02 (N1a to N1d).
-- They name no locator and no syndrome: which codewords are near is Nearest.antt, the numbers are the block crate's, and the contract of `correct` says
-- that it answers and leaves `spot_answer` and `spot_leaves`. proofs/Promises.antt proves each.
use Rattle.std.specs.Prelude.{◌≡◌, ◌↔◌, ◌≢◌, ◌⊎◌, Ok, List, ℕ, length}
use Rattle.profile.specs.Profile.{InRange}
use Rattle.profile.specs.Refusals.{EarlyRefusals}
use Rattle.block.specs.Numbers.{verdict_number, verdict_place, verdict_count, verdict_lowest}
use Rattle.block.specs.Promises.{LentBlock}
use Rattle.profile.specs.declared.Profile.{Profile}
use Rattle.block.specs.declared.numbers.Correction.TheVariants.{Run}
use Rattle.spots.specs.Spots.{spot_answer, spot_leaves}
use Rattle.spots.specs.Nearest.{Near, NoneNear, NearestWord}

-- accepted, with t cells changed, the lowest of them j, and the codeword c in the second buffer
pub record CorrectsCells (p : Profile) (y out : List ℕ) (t j : ℕ) (c : List ℕ) : Type 0 where
  pub accepted : verdict_number (spot_answer p y out) ≡ 0
  pub count : verdict_count (spot_answer p y out) ≡ t
  pub lowest : verdict_lowest (spot_answer p y out) ≡ j
  pub leaves : spot_leaves p y out ≡ c

-- "each block goes to the codeword that differs in the fewest cells, up to h cells anywhere": the count, the lowest cell and the codeword are the only ones of
-- which these facts hold
abbrev pub CorrectedCellsIff : Type 0
CorrectedCellsIff = (p : Profile) (y out : List ℕ) (t j : ℕ) (c : List ℕ) → InRange p → LentBlock p y out → CorrectsCells p y out t j c ↔ NearestWord p y t j c

-- "Answers: 11 spotted, .. exactly when no codeword is that near."
abbrev pub TooManyErrorsIff : Type 0
TooManyErrorsIff = (p : Profile) (y out : List ℕ) → InRange p → LentBlock p y out → (verdict_number (spot_answer p y out) ≡ 11) ↔ NoneNear p y

-- "A tie can't occur here, and that should be shown."
abbrev pub NoTie : Type 0
NoTie = (p : Profile) (y c d : List ℕ) → InRange p → length y ≡ p.n → Near p y c → Near p y d → c ≡ d

-- a codeword within h cells is the one to which the block goes, whatever L is
abbrev pub NearComesBack : Type 0
NearComesBack = (p : Profile) (y out c : List ℕ) → InRange p → LentBlock p y out → Near p y c → (verdict_number (spot_answer p y out) ≡ 0) × (spot_leaves p y out ≡ c)

-- answer and codeword depend on the cells and on n, r and b only: not on L and not on the depth, once they are in range
abbrev pub LimitFree : Type 0
LimitFree = (p q : Profile) (y out : List ℕ) → InRange p → InRange q → p.n ≡ q.n → p.r ≡ q.r → p.b ≡ q.b
    → (spot_answer p y out ≡ spot_answer q y out) × (spot_leaves p y out ≡ spot_leaves q y out)

-- 1 and 2 as everywhere; 11 is the only other refusal ("in this mode instead of 3"), so 3, 4 and 16 never come; the place is 0, the second buffer is unchanged,
-- and the other numbers are 0
pub record SpotRefusals (p : Profile) (y out : List ℕ) : Type 0 where
  pub early : EarlyRefusals p ((length y ≡ p.n) × (length out ≡ p.n)) (verdict_number (spot_answer p y out))
  pub numbers : verdict_number (spot_answer p y out) ≢ 0
      → (verdict_number (spot_answer p y out) ≡ 1) ⊎ ((verdict_number (spot_answer p y out) ≡ 2) ⊎ (verdict_number (spot_answer p y out) ≡ 11))
  pub place : verdict_place (spot_answer p y out) ≡ 0
  pub kept : verdict_number (spot_answer p y out) ≢ 0 → spot_leaves p y out ≡ out
  pub cells : verdict_number (spot_answer p y out) ≢ 0 → (verdict_count (spot_answer p y out) ≡ 0) × (verdict_lowest (spot_answer p y out) ≡ 0)
  -- never burst mode's case
  pub no_run : (s f : ℕ) → spot_answer p y out ≢ Ok (Run s f)
