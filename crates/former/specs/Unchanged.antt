-- The answers on a payload are as before document 02's Note 2 (N2c), on every list of bytes, every plot number and every plot: every number, place and value handed out
-- is that of the former definition (Former.antt). proofs/Unchanged.antt proves it.
use Rattle.std.specs.Prelude.{◌≡◌, Option, Some, None, Result, Ok, Err, List, ℕ}
use Rattle.plot.specs.declared.Cursor.{Cursor}
use Rattle.plot.specs.declared.Line.{Line}
use Rattle.plot.specs.declared.Refusal.{Refusal}
use Rattle.plot.specs.declared.Record.{Record as PlotRecord}
use Rattle.plot.specs.Layout.{Plot, line_holds, lines_hold}
use Rattle.plot.specs.Grammar.{Step, step_at}
use Rattle.plot.specs.Answers.{Checked, Located, Added, checked, located, asked, added, payload_with}
use Rattle.plot.specs.Numbers.{number_of, place_of}
use Rattle.former.specs.Former.{Former, accepted, refused, former_line_holds, former_lines_hold}
use Rattle.former.specs.Former.{Standing, Record, End, former_step_at, former_checked, Part, former_located, former_asked, former_added, former_payload_with}

-- lines hold where they did: one line after another, and `count` lines in turn
pub record LinesAsBefore : Type 0 where
  pub one : (before line : Line) → line_holds before line ≡ former_line_holds before line
  pub all : (before : Line) (count : ℕ) (s : List ℕ) → lines_hold before count s ≡ former_lines_hold before count s

-- what is answered today, a refusal as its number and place
abbrev pub former_of : {A B : Type 0} → (A → B) → Result A Refusal → Former B
former_of value (Ok a) = accepted (value a)
former_of value (Err r) = refused (number_of r) (place_of r)

-- what stands at a place
abbrev pub stands : Option PlotRecord → Standing
stands None = End
stands (Some rec) = Record rec.lines rec.count rec.next

abbrev pub standing : Step → Former Standing
standing answer = former_of stands answer

-- the step from one record to the next
abbrev pub SteppingAsBefore : ℕ → List ℕ → Type 0
SteppingAsBefore at s = standing (step_at at s) ≡ former_step_at at s

-- and so what each entry answers today
abbrev pub checked_as : Checked → Former Cursor
checked_as answer = former_of (λ c. c) answer

abbrev pub located_as : Located → Former Part
located_as answer = former_of (λ place. record { start = place.start; size = place.length }) answer

abbrev pub added_as : Added → Former ℕ
added_as answer = former_of (λ start. start) answer

-- the check of a payload
abbrev pub CheckingAsBefore : List ℕ → Type 0
CheckingAsBefore s = checked_as (checked s) ≡ former_checked s

-- asking for plot n: what the companion tells, and the part of the payload
pub record AskingAsBefore (n : ℕ) (s : List ℕ) : Type 0 where
  pub answer : located_as (located n s) ≡ former_located n s
  pub part : asked n s ≡ former_asked n s

-- adding plot p: what is answered, and the payload afterwards
pub record AddingAsBefore (p : Plot) (s : List ℕ) : Type 0 where
  pub answer : added_as (added p s) ≡ former_added p s
  pub payload : payload_with p s ≡ former_payload_with p s
