-- What the private steps of the writer and the reader leave in their buffers, and what the reader keeps of the blocks that it has judged. No promise rests
-- on these words: they join the loops.
use Rattle.std.specs.Prelude.{◌≡◌, ◌≢◌, true, not, Result, Ok, Err, Option, Some, List, ℕ, ◌+◌, ◌*◌, ◌<◌, eqb, length, get_or, replicate, slice_get, slice_set}
use Rattle.std.specs.Result.{is_ok}
use Rattle.std.specs.Int.{from_bool}
use Rattle.lists.specs.Choice.{pick}
use Rattle.register.specs.Words.{cells}
use Rattle.block.specs.Block.{look_error}
use Rattle.block.specs.Numbers.{Verdict, correction_start, correction_length, correction_count}
use Rattle.profile.specs.declared.Profile.{Profile}
use Rattle.register.specs.declared.Register.{Register}
use Rattle.block.specs.declared.Judgement.{Judgement}
use Rattle.block.specs.declared.numbers.Correction.{Correction}
use Rattle.sheet.specs.declared.Mode.{Mode}
use Rattle.sheet.specs.declared.Mode.TheVariants.{Burst, Spots}
use Rattle.sheet.specs.declared.Refusal.{Refusal}
use Rattle.sheet.specs.declared.Refusal.TheVariants.{Block}
use Rattle.sheet.specs.declared.found.Run.{Run}
use Rattle.sheet.specs.declared.found.Findings.{Findings}
use Rattle.sheet.specs.Modes.{verdict_in}
use Rattle.sheet.specs.Numbers.{Reading}
use Rattle.sheet.specs.Sheet.{read_block, sheet_answer}

-- t is s with the n cells w laid at d, D + d, 2 D + d, ..
pub record Laid (D n d : ℕ) (w s t : List ℕ) : Type 0 where
  pub cells : (i : ℕ) → i < n → get_or t (i * D + d) 0 ≡ get_or w i 0
  pub others : (i e : ℕ) → e < D → e ≢ d → get_or t (i * D + e) 0 ≡ get_or s (i * D + e) 0

-- room for the n cells of one block, and for its codeword
pub record Room (p : Profile) (block word : List ℕ) : Type 0 where
  pub block_count : length block ≡ p.n
  pub word_count : length word ≡ p.n

-- how many cells a correction names: those of its run, or those that it counts
abbrev pub size_of : Correction → ℕ
size_of c = correction_length c + correction_count c

-- both numbers of its run fit a byte
pub record Small (c : Correction) : Type 0 where
  pub start : correction_start c < 256
  pub size : size_of c < 256

abbrev pub run_of : Correction → Run
run_of c = record { start = correction_start c; size = size_of c }

-- 1 where a run is not empty, and else 0
abbrev pub changed_by : ℕ → ℕ
changed_by size = from_bool (not (eqb size 0))

-- the 64 cells that a look at the cells y hands on to the fill; zeros in spot mode, which has no use for them
abbrev pub error_in : Mode → Profile → List ℕ → List ℕ
error_in Burst p y = look_error p y
error_in Spots p y = replicate 64 0

-- what is judged of the cells y
pub record JudgedAs (mode : Mode) (p : Profile) (y : List ℕ) (z : Judgement) : Type 0 where
  pub verdict : z.verdict ≡ verdict_in mode p y
  pub error : cells z.error ≡ error_in mode p y

-- the verdict on a block, as the sheet's answer has it
abbrev pub refused_at : ℕ → Verdict → Result Correction Refusal
refused_at number (Ok correction) = Ok correction
refused_at number (Err refusal) = Err (Block number (Err refusal))

-- the error of block d is written down where its run is not empty and it is one of the first seven
unfoldable pub with_error : List Register → ℕ → Run → Register → List Register
with_error errors d run error = pick (eqb run.size 0) errors (slice_set errors d error)

-- what was found of the cells y, which are accepted: their run, and their error where it is kept
pub record Found (mode : Mode) (p : Profile) (y : List ℕ) (run : Run) (error : Option Register) : Type 0 where
  pub correction : Correction
  pub verdict : verdict_in mode p y ≡ Ok correction
  pub run_is : run ≡ run_of correction
  pub error_is : (e : Register) → error ≡ Some e → run.size ≢ 0 → cells e ≡ error_in mode p y

-- of block d, as it stands among what was found of all blocks
pub record FoundAt (mode : Mode) (p : Profile) (y : List ℕ) (d : ℕ) (findings : Findings) : Type 0 where
  pub run : Run
  pub kept : slice_get findings.runs d ≡ Some run
  pub found : Found mode p y run (slice_get findings.errors d)

-- the blocks answer r together, and where each has a codeword, this was found of them
pub record JudgedAll (mode : Mode) (p : Profile) (sheet : List ℕ) (r : Reading) (findings : Findings) : Type 0 where
  pub answer : r ≡ sheet_answer mode p sheet
  pub found : is_ok r ≡ true → (d : ℕ) → d < p.depth → FoundAt mode p (read_block p sheet d) d findings
