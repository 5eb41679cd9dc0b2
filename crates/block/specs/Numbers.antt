-- The documents' number, place and values of each answer of an entry on a block (E5; document 02, Notes 1, 3 and 7). The promises are stated through these, and the
-- functions that hand them out have them as contracts. A lone block's refusal has place 0 ("else 0"), and a value that an answer does not have is 0. Of what writing
-- and checking answer, the number and the place are those of the profile crate's specs/Numbers.antt.
use Rattle.std.specs.Prelude.{ℕ, Bool, Result, ⊤}
use Rattle.lists.specs.Choice.{pick}
use Rattle.answers.specs.Numbers.{or_zero, value_or_zero}
use Rattle.profile.specs.declared.refusals.Refusal.{Refusal as EarlyRefusal}
use Rattle.profile.specs.declared.refusals.Refusal.TheVariants as early
use Rattle.block.specs.declared.numbers.Correction.{Correction}
use Rattle.block.specs.declared.numbers.Correction.TheVariants.{Run, Cells}
use Rattle.block.specs.declared.numbers.Refusal.{Refusal}
use Rattle.block.specs.declared.numbers.Refusal.TheVariants as refusals
use Rattle.block.specs.declared.numbers.FillRefusal.{FillRefusal}
use Rattle.block.specs.declared.numbers.FillRefusal.TheVariants as fills

-- ---- correcting: 1 misprint, 2 wrong frame, 3 torn, 4 tied, 11 spotted, 16 thin, or 0 for a block that is mended or clean

abbrev pub Verdict : Type 0
Verdict = Result Correction Refusal

-- refusals 1 and 2, as every entry has them
abbrev pub correct_early : EarlyRefusal → Refusal
correct_early early.BadProfile = refusals.BadProfile
correct_early early.WrongLength = refusals.WrongLength

abbrev pub correct_refusal_number : Refusal → ℕ
correct_refusal_number refusals.BadProfile = 1
correct_refusal_number refusals.WrongLength = 2
correct_refusal_number refusals.Uncorrectable = 3
correct_refusal_number refusals.Ambiguous = 4
correct_refusal_number refusals.TooManyErrors = 11
correct_refusal_number refusals.Sparse = 16

abbrev pub verdict_number : Verdict → ℕ
verdict_number answer = or_zero correct_refusal_number answer

abbrev pub verdict_place : Verdict → ℕ
verdict_place answer = or_zero (λ _. 0) answer

-- "the result is s and f"
abbrev pub correction_start : Correction → ℕ
correction_start (Run s f) = s
correction_start (Cells count lowest) = 0

abbrev pub correction_length : Correction → ℕ
correction_length (Run s f) = f
correction_length (Cells count lowest) = 0

-- "the number of cells changed and the lowest of them"
abbrev pub correction_count : Correction → ℕ
correction_count (Run s f) = 0
correction_count (Cells count lowest) = count

abbrev pub correction_lowest : Correction → ℕ
correction_lowest (Run s f) = 0
correction_lowest (Cells count lowest) = lowest

-- of a verdict: 0 beside a refusal
abbrev pub verdict_start : Verdict → ℕ
verdict_start answer = value_or_zero correction_start answer

abbrev pub verdict_length : Verdict → ℕ
verdict_length answer = value_or_zero correction_length answer

abbrev pub verdict_count : Verdict → ℕ
verdict_count answer = value_or_zero correction_count answer

abbrev pub verdict_lowest : Verdict → ℕ
verdict_lowest answer = value_or_zero correction_lowest answer

-- ---- checking: a block that is not clean is no refusal

-- "called clean": 1, and else 0
abbrev pub checked_clean : Result Bool EarlyRefusal → ℕ
checked_clean answer = value_or_zero (λ clean. pick clean 1 0) answer

-- ---- filling: 1 misprint, 2 wrong frame, 12 bad span, 3 torn, which "speaks of that one run only", or 0

abbrev pub Filled : Type 0
Filled = Result ⊤ FillRefusal

abbrev pub fill_early : EarlyRefusal → FillRefusal
fill_early early.BadProfile = fills.BadProfile
fill_early early.WrongLength = fills.WrongLength

abbrev pub fill_refusal_number : FillRefusal → ℕ
fill_refusal_number fills.BadProfile = 1
fill_refusal_number fills.WrongLength = 2
fill_refusal_number fills.BadSpan = 12
fill_refusal_number fills.NoCodeword = 3

abbrev pub filled_number : Filled → ℕ
filled_number answer = or_zero fill_refusal_number answer

abbrev pub filled_place : Filled → ℕ
filled_place answer = or_zero (λ _. 0) answer
