-- Each answer of the plot entries as the number, the place and the values of document 01 (E5), and the figure and the line's index of document 02 (Note 2), case by
-- case. An accepted answer has the number 0, and a value that an answer does not have is 0.
use Rattle.std.specs.Prelude.{ℕ, Option, Some, None}
use Rattle.answers.specs.Numbers.{or_zero, value_or_zero}
use Rattle.plot.specs.Layout.{fault_number}
use Rattle.plot.specs.Answers.{Checked, Located, Added}
use Rattle.plot.specs.declared.BadLine.{BadLine}
use Rattle.plot.specs.declared.Refusal.{Refusal}
use Rattle.plot.specs.declared.Refusal.TheVariants.{WrongLength, BadMark, CutShort, BadTally, PlotOrder, NoSuchPlot, Full}

-- "A refusal returns its number ..": the table of document 01
abbrev pub number_of : Refusal → ℕ
number_of WrongLength = 2
number_of (BadMark place) = 5
number_of (CutShort place) = 6
number_of (BadTally place line) = 7
number_of (PlotOrder place) = 8
number_of NoSuchPlot = 9
number_of (Full place) = 10

-- ".. and one place": "the record's first byte for 5 to 8 .., the would-be first byte for faults of an added plot and for 10, else 0"
abbrev pub place_of : Refusal → ℕ
place_of WrongLength = 0
place_of (BadMark place) = place
place_of (CutShort place) = place
place_of (BadTally place line) = place
place_of (PlotOrder place) = place
place_of NoSuchPlot = 0
place_of (Full place) = place

-- "what failed first" in the line at fault, "with the line's index from 0"; "For faults outside a line both are 0."
abbrev pub line_figure : Option BadLine → ℕ
line_figure None = 0
line_figure (Some bad) = fault_number bad.fault

abbrev pub line_index : Option BadLine → ℕ
line_index None = 0
line_index (Some bad) = bad.index

-- both stand beside number 7, and are 0 beside any other
abbrev pub figure_of : Refusal → ℕ
figure_of WrongLength = 0
figure_of (BadMark place) = 0
figure_of (CutShort place) = 0
figure_of (BadTally place line) = line_figure line
figure_of (PlotOrder place) = 0
figure_of NoSuchPlot = 0
figure_of (Full place) = 0

abbrev pub index_of : Refusal → ℕ
index_of WrongLength = 0
index_of (BadMark place) = 0
index_of (CutShort place) = 0
index_of (BadTally place line) = line_index line
index_of (PlotOrder place) = 0
index_of NoSuchPlot = 0
index_of (Full place) = 0

-- the check of a payload
abbrev pub payload_number : Checked → ℕ
payload_number = or_zero number_of

abbrev pub payload_place : Checked → ℕ
payload_place = or_zero place_of

abbrev pub payload_figure : Checked → ℕ
payload_figure = or_zero figure_of

abbrev pub payload_index : Checked → ℕ
payload_index = or_zero index_of

-- the byte after the last record
abbrev pub payload_end : Checked → ℕ
payload_end = value_or_zero (λ c. c.at)

-- asking for a plot: "a companion entry gives the number and place for the same input"
abbrev pub located_number : Located → ℕ
located_number = or_zero number_of

abbrev pub located_place : Located → ℕ
located_place = or_zero place_of

abbrev pub located_figure : Located → ℕ
located_figure = or_zero figure_of

abbrev pub located_index : Located → ℕ
located_index = or_zero index_of

-- "the record, mark to last line": its first byte in the payload
abbrev pub located_start : Located → ℕ
located_start = value_or_zero (λ p. p.start)

-- and its length; "After a refusal that part is empty"
abbrev pub located_length : Located → ℕ
located_length = value_or_zero (λ p. p.length)

-- adding a plot
abbrev pub added_number : Added → ℕ
added_number = or_zero number_of

abbrev pub added_place : Added → ℕ
added_place = or_zero place_of

abbrev pub added_figure : Added → ℕ
added_figure = or_zero figure_of

abbrev pub added_index : Added → ℕ
added_index = or_zero index_of

-- "the result is the record's first byte"
abbrev pub added_start : Added → ℕ
added_start = value_or_zero (λ start. start)
