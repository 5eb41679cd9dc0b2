-- The bytes of one record (R1): mark, plot number, number of lines, lines of three bytes; and the check of its lines (R2; document 02, Note 2). A later edition of
-- the record changes this file.
-- A list of bytes given to a reading here begins at the record's first byte, or at a line's where lines are read.
use Rattle.std.specs.Prelude.{ℕ, zero, suc, ◌+◌, ◌*◌, ◌/◌, ◌%◌, Bool, true, false, not, Result, Ok, Err, is_ok, List, [], ◌∷◌, ◌++◌, length, get_or, drop, ltb, leb, eqb}
use Rattle.lists.specs.Choice.{pick}
use Rattle.answers.specs.Numbers.{or_zero}
use Rattle.plot.specs.declared.Line.{Line}
use Rattle.plot.specs.declared.LineFault.{LineFault}
use Rattle.plot.specs.declared.LineFault.TheVariants.{Species, Class, Count, Order}
use Rattle.plot.specs.declared.BadLine.{BadLine}

-- "the two-byte mark 50 4C (hexadecimal)"
abbrev pub mark : List ℕ
mark = 0x50 ∷ 0x4C ∷ []

-- "the five header bytes": mark, plot number, number of lines
abbrev pub header_length : ℕ
header_length = 5

-- "the plot number (two bytes, low first ..)"
abbrev pub plot_of : List ℕ → ℕ
plot_of s = get_or s 2 0 + get_or s 3 0 * 256

-- "the number of lines (one byte ..)"
abbrev pub count_of : List ℕ → ℕ
count_of s = get_or s 4 0

-- "three bytes a line"
abbrev pub record_length : ℕ → ℕ
record_length count = header_length + count * 3

-- a tally line, "species number .., diameter class .., tree count": the one at the front of s
abbrev pub line_of : List ℕ → Line
line_of s = record { species = get_or s 0 0; class = get_or s 1 0; count = get_or s 2 0 }

-- before the first line stands none: every line in its ranges rises above this one
abbrev pub no_line : Line
no_line = record { species = 0; class = 0; count = 0 }

-- least to most
abbrev pub within : ℕ → ℕ → ℕ → Bool
within least most x = pick (ltb x least) false (leb x most)

-- "Lines rise strictly by species, then class."
unfoldable pub rises : Line → Line → Bool
rises before line =
    pick (ltb before.species line.species) true
    (pick (eqb before.species line.species) (ltb before.class line.class) false)

-- the check of one line, "by species, class, count and then its rise": "species number 1 to 99, diameter class 1 to 200 .., tree count 1 to 255". It "says what
-- failed first"
unfoldable pub line_check : Line → Line → Result Unit LineFault
line_check before line =
    pick (not (within 1 99 line.species)) (Err Species)
    (pick (not (within 1 200 line.class)) (Err Class)
    (pick (not (within 1 255 line.count)) (Err Count)
    (pick (not (rises before line)) (Err Order) (Ok tt))))

-- "1 species, 2 class, 3 count, 4 the rise above the line before" ..
abbrev pub fault_number : LineFault → ℕ
fault_number Species = 1
fault_number Class = 2
fault_number Count = 3
fault_number Order = 4

-- .. and 0 where the line holds
abbrev pub figure_number : Result Unit LineFault → ℕ
figure_number = or_zero fault_number

abbrev pub line_holds : Line → Line → Bool
line_holds before line = is_ok (line_check before line)

-- the check of the line with the index i, and then that of the lines after it: the first line that does not hold, "with the line's index from 0"
abbrev pub line_then : ℕ → Result Unit LineFault → Result Unit BadLine → Result Unit BadLine
line_then i (Ok u) rest = rest
line_then i (Err fault) rest = Err (record { fault = fault; index = i })

-- "the lines in turn": `count` lines from the front of s on, after the line `before`, the first of them with the index i
unfoldable pub lines_check : Line → ℕ → ℕ → List ℕ → Result Unit BadLine
lines_check before i zero s = Ok tt
lines_check before i (suc count) s = line_then i (line_check before (line_of s)) (lines_check (line_of s) (suc i) count (drop 3 s))

-- all of them hold
unfoldable pub lines_hold : Line → ℕ → List ℕ → Bool
lines_hold before count s = is_ok (lines_check before 0 count s)

-- a plot: its number, and the bytes of its lines, three a line
pub record Plot : Type 0 where
  pub number : ℕ
  pub lines : List ℕ

-- its number of lines
abbrev pub lines_of : Plot → ℕ
lines_of p = length p.lines / 3

-- its tally lines in turn: `count` lines from the front of s on
unfoldable pub tallies : ℕ → List ℕ → List Line
tallies zero s = []
tallies (suc count) s = line_of s ∷ tallies count (drop 3 s)

abbrev pub tallies_of : Plot → List Line
tallies_of p = tallies (lines_of p) p.lines

-- the header as written
abbrev pub header_of : ℕ → ℕ → List ℕ
header_of number count = mark ++ (number % 256 ∷ number / 256 ∷ count ∷ [])

-- the record as written, "mark to last line"
abbrev pub record_of : Plot → List ℕ
record_of p = header_of p.number (lines_of p) ++ p.lines

-- the records of plots, one after the other
abbrev pub bytes_of : List Plot → List ℕ
bytes_of [] = []
bytes_of (p ∷ ps) = record_of p ++ bytes_of ps
