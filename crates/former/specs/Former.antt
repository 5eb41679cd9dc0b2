-- Checking a payload, asking and adding (R1 to R5) as they were before document 02's Note 2, kept so that today's answers can be compared with them (Unchanged.antt).
-- Each definition has the former text, but that a refusal is document 01's number and place, and that every answer is `accepted` or `refused`. What the note left as
-- it was, such as the bytes of a record, is not repeated: it comes from crates/plot/specs.
use Rattle.std.specs.Prelude.{ℕ, zero, suc, ◌+◌, ◌*◌, ◌-◌, Bool, true, false, not, List, [], ◌∷◌, ◌++◌, length, get_or, take, drop, ltb, leb, eqb}
use Rattle.lists.specs.Choice.{pick}
use Rattle.plot.specs.declared.Cursor.{Cursor}
use Rattle.plot.specs.declared.Line.{Line}
use Rattle.plot.specs.Layout.{Plot, mark, header_length, plot_of, count_of, record_length, line_of, no_line, within, rises, lines_of, record_of}
use Rattle.plot.specs.Grammar.{all_zero, agree, longest}
use Rattle.plot.specs.Answers.{last_number, lines_fit}

-- ---- answers

-- accepted with a value, or "A refusal returns its number and one place" (E5)
pub data Former (A : Type 0) : Type 0 where
  accepted : A → Former A
  refused : ℕ → ℕ → Former A

-- ---- lines

-- the check of one line, "by species, class, count and then its rise" (R1)
unfoldable pub former_line_holds : Line → Line → Bool
former_line_holds before line =
    pick (not (within 1 99 line.species)) false
    (pick (not (within 1 200 line.class)) false
    (pick (not (within 1 255 line.count)) false
    (rises before line)))

-- "the lines in turn" (R2): `count` lines from the front of s on, after the line `before`
unfoldable pub former_lines_hold : Line → ℕ → List ℕ → Bool
former_lines_hold before zero s = true
former_lines_hold before (suc count) s = pick (former_line_holds before (line_of s)) (former_lines_hold (line_of s) count (drop 3 s)) false

-- ---- reading a payload

-- what may stand at a place: a record, with the place and the number of its lines and the place after it; or zero bytes to the end
pub data Standing : Type 0 where
  Record : ℕ → ℕ → Cursor → Standing
  End : Standing

-- the checks of a record before its lines, in order (R2)
unfoldable pub former_head_at : ℕ → List ℕ → Former Standing
former_head_at at s =
    pick (not (agree mark s)) (refused 5 at)
    (pick (ltb (length s) header_length) (refused 6 at)
    (pick (ltb 40 (count_of s)) (refused 7 at)
    (pick (ltb (length s) (record_length (count_of s))) (refused 6 at)
    (pick (eqb (plot_of s) 0) (refused 7 at)
    (accepted (Record (at + header_length) (count_of s) (record { at = at + record_length (count_of s); last = plot_of s })))))))

-- "If the byte there is zero, all later bytes must be zero. Otherwise the checks are .." (R2)
unfoldable pub former_step_at : ℕ → List ℕ → Former Standing
former_step_at at s = pick (eqb (get_or s 0 0) 0) (pick (all_zero s) (accepted End) (refused 5 at)) (former_head_at at s)

-- all plots of a payload, and the place after the last record
pub record PlotsRead : Type 0 where
  pub plots : List Plot
  pub end : ℕ

-- a plot before the plots of a reading
abbrev pub former_onto : Plot → Former PlotsRead → Former PlotsRead
former_onto p (accepted read) = accepted (record { plots = p ∷ read.plots; end = read.end })
former_onto p (refused number place) = refused number place

-- "the lines in turn ..; rise of plot numbers" (R2), then `rest` for the records after this one
unfoldable pub former_read_step : (ℕ → ℕ → List ℕ → Former PlotsRead) → ℕ → ℕ → List ℕ → Former Standing → Former PlotsRead
former_read_step rest at last s (accepted End) = accepted (record { plots = []; end = at })
former_read_step rest at last s (refused number place) = refused number place
former_read_step rest at last s (accepted (Record from count next)) =
    pick (not (former_lines_hold no_line count (drop header_length s))) (refused 7 at)
    (pick (leb next.last last) (refused 8 at)
    (former_onto (record { number = next.last; lines = take (count * 3) (drop header_length s) })
    (rest next.at next.last (drop (record_length count) s))))

-- "A place in the payload moves on one record at a time." (R1)
unfoldable pub former_read_from : ℕ → ℕ → ℕ → List ℕ → Former PlotsRead
former_read_from zero at last s = accepted (record { plots = []; end = at })
former_read_from (suc steps) at last s = former_read_step (former_read_from steps) at last s (former_step_at at s)

-- "a payload exceeds 4,048 bytes": 2, before all others (E3)
unfoldable pub former_reading : List ℕ → Former PlotsRead
former_reading s = pick (ltb longest (length s)) (refused 2 0) (former_read_from (length s) 0 0 s)

-- ---- checking, asking and adding

-- checking a payload (R2): the place after the last record with the last plot's number, or the refusal
unfoldable pub former_checked_of : ℕ → Former PlotsRead → Former Cursor
former_checked_of last (accepted read) = accepted (record { at = read.end; last = last_number last read.plots })
former_checked_of last (refused number place) = refused number place

abbrev pub former_checked : List ℕ → Former Cursor
former_checked s = former_checked_of 0 (former_reading s)

-- a part of the payload
pub record Part : Type 0 where
  pub start : ℕ
  pub size : ℕ

-- where the record of plot n lies (R3), in records that begin at `at`; "payload accepted, plot absent (number 0 included)" is 9
unfoldable pub former_seek : ℕ → ℕ → List Plot → Former Part
former_seek n at [] = refused 9 0
former_seek n at (p ∷ ps) = pick (eqb p.number n) (accepted (record { start = at; size = length (record_of p) })) (former_seek n (at + length (record_of p)) ps)

unfoldable pub former_located_of : ℕ → Former PlotsRead → Former Part
former_located_of n (accepted read) = former_seek n 0 read.plots
former_located_of n (refused number place) = refused number place

abbrev pub former_located : ℕ → List ℕ → Former Part
former_located n s = former_located_of n (former_reading s)

-- "the record, mark to last line, as a part of the caller's payload"; "After a refusal that part is empty" (R3)
unfoldable pub former_part_of : Former Part → List ℕ → List ℕ
former_part_of (accepted part) s = take part.size (drop part.start s)
former_part_of (refused number place) s = []

abbrev pub former_asked : ℕ → List ℕ → List ℕ
former_asked n s = former_part_of (former_located n s) s

-- adding a plot (R4, R5): the checks after the payload's own, and the record's first byte
unfoldable pub former_room_for : ℕ → ℕ → ℕ → Plot → Former ℕ
former_room_for size end last p =
    pick (not (lines_fit p.lines)) (refused 7 end)
    (pick (eqb p.number 0) (refused 7 end)
    (pick (not (former_lines_hold no_line (lines_of p) p.lines)) (refused 7 end)
    (pick (leb p.number last) (refused 8 end)
    (pick (ltb (size - end) (length (record_of p))) (refused 10 end)
    (accepted end)))))

-- the payload's own refusal first (R4)
unfoldable pub former_added_of : List ℕ → Plot → Former PlotsRead → Former ℕ
former_added_of s p (accepted read) = former_room_for (length s) read.end (last_number 0 read.plots) p
former_added_of s p (refused number place) = refused number place

abbrev pub former_added : Plot → List ℕ → Former ℕ
former_added p s = former_added_of s p (former_reading s)

-- the payload after adding (R4); a refusal changes nothing (E4)
unfoldable pub former_payload_after : Former ℕ → Plot → List ℕ → List ℕ
former_payload_after (accepted start) p s = take start s ++ (record_of p ++ drop (start + length (record_of p)) s)
former_payload_after (refused number place) p s = s

abbrev pub former_payload_with : Plot → List ℕ → List ℕ
former_payload_with p s = former_payload_after (former_added p s) p s
