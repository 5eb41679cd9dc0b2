-- The statements of specs/Unchanged.antt: checking, asking and adding take from the reading what they took before, so with equal readings the answers are equal. An
-- answer is compared case by case, and each case holds by computing.
use Prim.Native.Nat.{ℕ, ◌+◌, ◌-◌}
use mathlib.Core.Path.{◌≡◌, refl, ap, ◌∙◌}
use mathlib.Core.Bool.{not}
use mathlib.Core.List.{List, [], ◌∷◌}
use Rattle.std.specs.Prelude.{Ok, Err}
use lib.ListN.{length}
use lib.Dec.{ltb, leb, eqb}
use Rattle.plot.specs.Layout.{Plot, no_line, lines_check, lines_hold, lines_of, record_of}
use Rattle.plot.specs.Grammar.{Parsed, Plots, Stopped, reading}
use Rattle.plot.specs.Answers.{Located, Added, checked_of, seek, located_of, located, part_of, lines_fit, room_for, added_of, added, payload_after}
use Rattle.former.specs.Former.{Former, former_checked_of}
use Rattle.former.specs.Former.{Part, former_seek, former_located_of, former_located, former_part_of, former_room_for, former_added_of, former_added, former_payload_after}
use Rattle.former.specs.Unchanged.{LinesAsBefore, SteppingAsBefore, checked_as, CheckingAsBefore, located_as, AskingAsBefore, added_as, AddingAsBefore}
use Rattle.former.proofs.Reading.{through, through_lines, line_as_before, lines_as_before, step_as_before, read, reading_as_before}

pub lines-before : LinesAsBefore
lines-before = record { one = line_as_before; all = λ before count s. lines_as_before count before s }

pub stepping_before : (at : ℕ) (s : List ℕ) → SteppingAsBefore at s
stepping_before at s = step_as_before at s

-- ---- checking

check_of : (last : ℕ) (q : Parsed) → checked_as (checked_of last q) ≡ former_checked_of last (read q)
unfolding checked_of former_checked_of
check_of last (Plots ps end) = refl
check_of last (Stopped r) = refl

pub checking_before : (s : List ℕ) → CheckingAsBefore s
checking_before s = check_of 0 (reading s) ∙ ap (former_checked_of 0) (reading_as_before s)

-- ---- asking

seek-same : (n at : ℕ) (ps : List Plot) → located_as (seek n at ps) ≡ former_seek n at ps
unfolding seek former_seek
seek-same n at [] = refl
seek-same n at (p ∷ ps) = through located_as (eqb p.number n) refl (seek-same n (at + length (record_of p)) ps)

place_of : (n : ℕ) (q : Parsed) → located_as (located_of n q) ≡ former_located_of n (read q)
unfolding located_of former_located_of
place_of n (Plots ps end) = seek-same n 0 ps
place_of n (Stopped r) = refl

place_same : (n : ℕ) (s : List ℕ) → located_as (located n s) ≡ former_located n s
place_same n s = place_of n (reading s) ∙ ap (former_located_of n) (reading_as_before s)

place_part : (l : Located) (s : List ℕ) → part_of l s ≡ former_part_of (located_as l) s
unfolding part_of former_part_of
place_part (Ok place) s = refl
place_part (Err r) s = refl

pub asking_before : (n : ℕ) (s : List ℕ) → AskingAsBefore n s
asking_before n s = record {
  answer = place_same n s;
  part = place_part (located n s) s ∙ ap (λ (l : Former Part). former_part_of l s) (place_same n s);
}

-- ---- adding

room_for_same : (size end last : ℕ) (p : Plot) → added_as (room_for size end last p) ≡ former_room_for size end last p
unfolding room_for former_room_for lines_hold
room_for_same size end last p =
    through added_as (not (lines_fit p.lines)) refl
    (through added_as (eqb p.number 0) refl
    (through_lines added_as end (lines_check no_line 0 (lines_of p) p.lines) (lines_as_before (lines_of p) no_line p.lines) (λ bad. refl)
    (through added_as (leb p.number last) refl
    (through added_as (ltb (size - end) (length (record_of p))) refl
    refl))))

room_of : (s : List ℕ) (p : Plot) (q : Parsed) → added_as (added_of s p q) ≡ former_added_of s p (read q)
unfolding added_of former_added_of
room_of s p (Plots ps end) = room_for_same (length s) end _ p
room_of s p (Stopped r) = refl

room_same : (p : Plot) (s : List ℕ) → added_as (added p s) ≡ former_added p s
room_same p s = room_of s p (reading s) ∙ ap (former_added_of s p) (reading_as_before s)

room_payload : (a : Added) (p : Plot) (s : List ℕ) → payload_after a p s ≡ former_payload_after (added_as a) p s
unfolding payload_after former_payload_after
room_payload (Ok start) p s = refl
room_payload (Err r) p s = refl

pub adding_before : (p : Plot) (s : List ℕ) → AddingAsBefore p s
adding_before p s = record {
  answer = room_same p s;
  payload = room_payload (added p s) p s ∙ ap (λ (a : Former ℕ). former_payload_after a p s) (room_same p s);
}
