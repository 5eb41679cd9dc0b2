-- The grammar of a payload (R1, R2), once: what stands at a place, and the reading of all records from a place on.
-- Checking, asking and adding are equations with `reading`. A list s of bytes is the payload from the place `at` on.
use Rattle.std.specs.Prelude.{ℕ, zero, suc, ◌+◌, ◌*◌, ◌≡◌, Bool, true, false, not, Option, Some, None, Result, Ok, Err, List, [], ◌∷◌, length, get_or, take, drop, ltb, leb, eqb}
use Rattle.lists.specs.Choice.{pick}
use Rattle.plot.specs.Layout.{Plot, mark, header_length, plot_of, count_of, record_length, no_line, lines_check}
use Rattle.plot.specs.declared.BadLine.{BadLine}
use Rattle.plot.specs.declared.Refusal.{Refusal}
use Rattle.plot.specs.declared.Refusal.TheVariants.{WrongLength, BadMark, CutShort, BadTally, PlotOrder}
use Rattle.plot.specs.declared.Record.{Record}

-- every byte of the list is zero
unfoldable pub all_zero : List ℕ → Bool
all_zero [] = true
all_zero (x ∷ s) = pick (eqb x 0) (all_zero s) false

-- "as much of the mark as the payload holds": the two lists agree as far as both go
unfoldable pub agree : List ℕ → List ℕ → Bool
agree [] s = true
agree (m ∷ ms) [] = true
agree (m ∷ ms) (x ∷ s) = pick (eqb x m) (agree ms s) false

-- a bad tally in a line: "beside number 7, with the line's index from 0"
abbrev pub bad_line : ℕ → BadLine → Refusal
bad_line place found = BadTally place (Some found)

-- and "For faults outside a line both are 0."
abbrev pub outside_line : ℕ → Refusal
outside_line place = BadTally place None

-- what stands at a place in the payload: a record whose checks before the lines hold, with the place and number of its lines and the place after it;
-- zero bytes to the end; or the refusal of the first failing check
abbrev pub Step : Type 0
Step = Result (Option Record) Refusal

-- "the checks are, in order: as much of the mark as the payload holds; the five header bytes are there; at most 40 lines; all lines are there; plot
-- number not 0": the checks of a record before its lines
unfoldable pub head_at : ℕ → List ℕ → Step
head_at at s =
    pick (not (agree mark s)) (Err (BadMark at))
    (pick (ltb (length s) header_length) (Err (CutShort at))
    (pick (ltb 40 (count_of s)) (Err (outside_line at))
    (pick (ltb (length s) (record_length (count_of s))) (Err (CutShort at))
    (pick (eqb (plot_of s) 0) (Err (outside_line at))
    (Ok (Some (record {
      lines = at + header_length;
      count = count_of s;
      next = record { at = at + record_length (count_of s); last = plot_of s };
    })))))))

-- what stands at "a place in the payload": "If the byte there is zero, all later bytes must be zero. Otherwise the checks are ..": at the payload's end stands no byte, which counts as zero
unfoldable pub step_at : ℕ → List ℕ → Step
step_at at s = pick (eqb (get_or s 0 0) 0) (pick (all_zero s) (Ok None) (Err (BadMark at))) (head_at at s)

-- ".. the lines in turn ..", then the checks after them: the bad tally of a record at `at`, or those checks
abbrev pub after_lines : {A : Type 0} → ℕ → Result Unit BadLine → Result A Refusal → Result A Refusal
after_lines at (Ok u) rest = rest
after_lines at (Err found) rest = Err (bad_line at found)

-- ".. rise of plot numbers. The first failing check of the first failing record ends the reading.": the last checks of a record, where `last` is the
-- number of the plot before it
unfoldable pub late_checked : ℕ → ℕ → List ℕ → Step → Step
late_checked at last s (Err r) = Err r
late_checked at last s (Ok None) = Ok None
late_checked at last s (Ok (Some rec)) =
    after_lines at (lines_check no_line 0 rec.count (drop header_length s))
    (pick (leb rec.next.last last) (Err (PlotOrder at))
    (Ok (Some rec)))

-- what stands at a place, with every check of its record made
abbrev pub record_at : ℕ → ℕ → List ℕ → Step
record_at at last s = late_checked at last s (step_at at s)

-- what a reading gives: all plots with the place after the last record, or the refusal that "ends the reading"
pub data Parsed : Type 0 where
  Plots : List Plot → ℕ → Parsed
  Stopped : Refusal → Parsed

-- a plot before the plots of a reading
abbrev pub onto : Plot → Parsed → Parsed
onto p (Plots ps end) = Plots (p ∷ ps) end
onto p (Stopped r) = Stopped r

-- what stands at the place, every check of its record made, then `rest` for the records after it
unfoldable pub read_step : (ℕ → ℕ → List ℕ → Parsed) → ℕ → List ℕ → Step → Parsed
read_step rest at s (Err r) = Stopped r
read_step rest at s (Ok None) = Plots [] at
read_step rest at s (Ok (Some rec)) =
    onto (record { number = rec.next.last; lines = take (rec.count * 3) (drop header_length s) }) (rest rec.next.at rec.next.last (drop (record_length rec.count) s))

-- "A place in the payload moves on one record at a time." A record takes five bytes or more: as many steps as bytes are enough.
unfoldable pub read_from : ℕ → ℕ → ℕ → List ℕ → Parsed
read_from zero at last s = Plots [] at
read_from (suc steps) at last s = read_step (read_from steps) at s (record_at at last s)

-- "A payload of 0 to 4,048 bytes": a longer one is refusal 2, before all others (E3)
abbrev pub longest : ℕ
longest = 4048

unfoldable pub reading : List ℕ → Parsed
reading s = pick (ltb longest (length s)) (Stopped WrongLength) (read_from (length s) 0 0 s)

-- the reading gave plots, and no refusal
abbrev pub Readable : Parsed → Type 0
Readable q = (ps : List Plot) × (end : ℕ) × (q ≡ Plots ps end)
