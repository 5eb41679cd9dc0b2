-- The eleven starred examples of document 01, "Bench sheet of examples", in one table (T1). Each row is a profile with what goes in and
-- what comes out; that all hold is one theorem, and it is computed from the definitions.
use Rattle.std.specs.Prelude.{◌≡◌, List, [], ◌∷◌, ℕ, ◌*◌, length}
use Rattle.block.specs.Block.{write_answer, write_leaves, correct_answer}
use Rattle.profile.specs.Numbers.{early_number}
use Rattle.block.specs.Numbers.{verdict_number}
use Rattle.block.specs.Runs.{Reached}
use Rattle.block.specs.Promises.{Corrects}
use Rattle.profile.specs.declared.Profile.{Profile}
use Rattle.sheet.specs.Sheet.{write_sheet_answer, write_sheet_leaves}

pub data Example : Type 0 where
  -- read block; codeword, start and length
  correcting : Profile → List ℕ → List ℕ → ℕ → ℕ → Example
  -- read block: torn
  uncorrectable : Profile → List ℕ → Example
  -- read block: tied, and two codewords with the starts and the length of the runs that reach them
  ambiguous : Profile → List ℕ → ℕ → ℕ → List ℕ → ℕ → List ℕ → Example
  -- message; written block
  writing_block : Profile → List ℕ → List ℕ → Example
  -- payload; written sheet
  writing_sheet : Profile → List ℕ → List ℕ → Example

-- what the entries answer and leave, whatever the lent buffer of the right length held
abbrev pub ExampleHolds : Example → Type 0
ExampleHolds (correcting p y c s f) = (out : List ℕ) → length out ≡ p.n → Corrects p y out s f c
ExampleHolds (uncorrectable p y) = (out : List ℕ) → length out ≡ p.n → verdict_number (correct_answer p y out) ≡ 3
ExampleHolds (ambiguous p y f s c t d) = ((out : List ℕ) → length out ≡ p.n → verdict_number (correct_answer p y out) ≡ 4) × Reached p y s f c × Reached p y t f d
ExampleHolds (writing_block p m c) = (out : List ℕ) → length out ≡ p.n → (early_number (write_answer p m out) ≡ 0) × (write_leaves p m out ≡ c)
ExampleHolds (writing_sheet p m s) = (out : List ℕ) → length out ≡ p.depth * p.n → (early_number (write_sheet_answer p m out) ≡ 0) × (write_sheet_leaves p m out ≡ s)

-- n=4, r=3, b=0 with a limit and a depth
abbrev pub small : ℕ → ℕ → Profile
small limit depth = record { n = 4; r = 3; b = 0; limit = limit; depth = depth }

-- n=5, r=2, b=1
abbrev pub wide : Profile
wide = record { n = 5; r = 2; b = 1; limit = 0; depth = 1 }

abbrev pub table : List Example
table =
    correcting (small 0 1) (8 ∷ 14 ∷ 7 ∷ 1 ∷ []) (8 ∷ 14 ∷ 7 ∷ 1 ∷ []) 0 0
    ∷ correcting (small 1 1) (9 ∷ 14 ∷ 7 ∷ 1 ∷ []) (8 ∷ 14 ∷ 7 ∷ 1 ∷ []) 0 1
    ∷ uncorrectable (small 0 1) (9 ∷ 14 ∷ 7 ∷ 1 ∷ [])
    ∷ correcting (small 2 1) (9 ∷ 15 ∷ 7 ∷ 1 ∷ []) (8 ∷ 14 ∷ 7 ∷ 1 ∷ []) 0 2
    ∷ correcting (small 2 1) (8 ∷ 15 ∷ 6 ∷ 1 ∷ []) (8 ∷ 14 ∷ 7 ∷ 1 ∷ []) 1 2
    ∷ uncorrectable (small 1 1) (8 ∷ 14 ∷ 0 ∷ 0 ∷ [])
    ∷ ambiguous (small 2 1) (8 ∷ 14 ∷ 0 ∷ 0 ∷ []) 2 2 (8 ∷ 14 ∷ 7 ∷ 1 ∷ []) 0 (0 ∷ 0 ∷ 0 ∷ 0 ∷ [])
    ∷ uncorrectable (small 2 1) (9 ∷ 14 ∷ 7 ∷ 0 ∷ [])
    ∷ writing_block wide (1 ∷ 0 ∷ 0 ∷ []) (8 ∷ 6 ∷ 1 ∷ 0 ∷ 0 ∷ [])
    ∷ writing_block wide (0 ∷ 1 ∷ 0 ∷ []) (48 ∷ 28 ∷ 0 ∷ 1 ∷ 0 ∷ [])
    ∷ writing_sheet (small 0 2) (1 ∷ 0 ∷ []) (8 ∷ 0 ∷ 14 ∷ 0 ∷ 7 ∷ 0 ∷ 1 ∷ 0 ∷ [])
    ∷ []

abbrev pub AllHold : List Example → Type 0
AllHold [] = Unit {0}
AllHold (e ∷ l) = ExampleHolds e × AllHold l

-- the theorem
abbrev pub StarredExamples : Type 0
StarredExamples = AllHold table
