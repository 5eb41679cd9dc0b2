-- What each entry answers and leaves in the lent payload, from the reading of it (R3, R4, R5). Numbers.antt has the numbers of each answer.
use Rattle.std.specs.Prelude.{ℕ, ◌+◌, ◌-◌, ◌%◌, Bool, false, not, Result, Ok, Err, List, [], ◌∷◌, ◌++◌, length, take, drop, ltb, leb, eqb}
use Rattle.lists.specs.Choice.{pick}
use Rattle.plot.specs.Layout.{Plot, no_line, lines_check, lines_of, record_of}
use Rattle.plot.specs.Grammar.{after_lines, outside_line, Parsed, Plots, Stopped, reading}
use Rattle.plot.specs.declared.Cursor.{Cursor}
use Rattle.plot.specs.declared.Place.{Place}
use Rattle.plot.specs.declared.Refusal.{Refusal}
use Rattle.plot.specs.declared.Refusal.TheVariants.{PlotOrder, NoSuchPlot, Full}

-- what checking a payload answers: the place after the last record, or the refusal that ended the reading
abbrev pub Checked : Type 0
Checked = Result Cursor Refusal

-- what the companion entry of asking for a plot answers: where the record lies, or the refusal
abbrev pub Located : Type 0
Located = Result Place Refusal

-- what adding a plot answers: the record's first byte, or the refusal
abbrev pub Added : Type 0
Added = Result ℕ Refusal

-- the number of the last plot, or `last` if there is none
abbrev pub last_number : ℕ → List Plot → ℕ
last_number last [] = last
last_number last (p ∷ ps) = last_number p.number ps

-- checking a payload: the place after the last record with the last plot's number, or the refusal
unfoldable pub checked_of : ℕ → Parsed → Checked
checked_of last (Plots ps end) = Ok (record { at = end; last = last_number last ps })
checked_of last (Stopped r) = Err r

abbrev pub checked : List ℕ → Checked
checked s = checked_of 0 (reading s)

-- where the record of plot n lies, in records that begin at `at`; "no such plot: payload accepted, plot absent (number 0 included)"
unfoldable pub seek : ℕ → ℕ → List Plot → Located
seek n at [] = Err NoSuchPlot
seek n at (p ∷ ps) = pick (eqb p.number n) (Ok (record { start = at; length = length (record_of p) })) (seek n (at + length (record_of p)) ps)

-- "a companion entry gives the number and place for the same input": first byte and length of the record, or the refusal
unfoldable pub located_of : ℕ → Parsed → Located
located_of n (Plots ps end) = seek n 0 ps
located_of n (Stopped r) = Err r

abbrev pub located : ℕ → List ℕ → Located
located n s = located_of n (reading s)

-- asking for a plot: "the record, mark to last line, as a part of the caller's payload"; "After a refusal that part is empty"
unfoldable pub part_of : Located → List ℕ → List ℕ
part_of (Ok place) s = take place.length (drop place.start s)
part_of (Err r) s = []

abbrev pub asked : ℕ → List ℕ → List ℕ
asked n s = part_of (located n s) s

-- the lines of an added plot: "0 to 120 bytes, three a line"
abbrev pub lines_fit : List ℕ → Bool
lines_fit lines = pick (ltb 120 (length lines)) false (eqb (length lines % 3) 0)

-- adding a plot to an accepted payload of `size` bytes, whose last record ends at `end` and has the number `last`: "the length of the lent lines ..,
-- then that the plot number isn't 0, then the lines in turn, then the rise, then the space"; full "when the record needs more bytes than are left"
unfoldable pub room_for : ℕ → ℕ → ℕ → Plot → Added
room_for size end last p =
    pick (not (lines_fit p.lines)) (Err (outside_line end))
    (pick (eqb p.number 0) (Err (outside_line end))
    (after_lines end (lines_check no_line 0 (lines_of p) p.lines)
    (pick (leb p.number last) (Err (PlotOrder end))
    (pick (ltb (size - end) (length (record_of p))) (Err (Full end))
    (Ok end)))))

-- "Adding a plot checks the payload, then ..": its own refusal first
unfoldable pub added_of : List ℕ → Plot → Parsed → Added
added_of s p (Plots ps end) = room_for (length s) end (last_number 0 ps) p
added_of s p (Stopped r) = Err r

abbrev pub added : Plot → List ℕ → Added
added p s = added_of s p (reading s)

-- the payload after adding: "It writes the record right after the last record .. and changes no other byte"; a refusal changes nothing
unfoldable pub payload_after : Added → Plot → List ℕ → List ℕ
payload_after (Ok start) p s = take start s ++ (record_of p ++ drop (start + length (record_of p)) s)
payload_after (Err r) p s = s

abbrev pub payload_with : Plot → List ℕ → List ℕ
payload_with p s = payload_after (added p s) p s
