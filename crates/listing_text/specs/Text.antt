-- The text of the plot lister's answer (L2), as bytes: "a header, one line per tally line (plot, species, class, count), and the word `mended`, a
-- comma and the number of blocks changed. A refusal prints only `refused,number,place`." Each line ends in the byte 0A.
use Rattle.std.specs.Prelude.{ℕ, zero, suc, ◌+◌, ◌*◌, ◌/◌, ◌%◌, List, [], ◌∷◌, ◌++◌, length, drop, ltb}
use Rattle.lists.specs.Choice.{pick}
use Rattle.plot.specs.Layout.{Plot, line_of, lines_of}
use Rattle.plot.specs.Grammar.{Parsed, Plots, Stopped, longest}
use Rattle.plot.specs.Numbers.{number_of, place_of}
use Rattle.plot.specs.declared.Line.{Line}

-- a number in decimal: its last digit after the digits of the rest. A number has no more digits than its own value and one.
unfoldable pub digits : ℕ → ℕ → List ℕ
digits zero n = (48 + n) ∷ []
digits (suc more) n = pick (ltb n 10) ((48 + n) ∷ []) (digits more (n / 10) ++ ((48 + n % 10) ∷ []))

unfoldable pub decimal : ℕ → List ℕ
decimal n = digits n n

abbrev pub comma : ℕ
comma = 44

abbrev pub newline : ℕ
newline = 0x0A

-- a number, and the byte that ends it
unfoldable pub field : ℕ → ℕ → List ℕ
field n end = decimal n ++ (end ∷ [])

-- `plot,species,class,count`
abbrev pub header : List ℕ
header = 112 ∷ 108 ∷ 111 ∷ 116 ∷ 44 ∷ 115 ∷ 112 ∷ 101 ∷ 99 ∷ 105 ∷ 101 ∷ 115 ∷ 44 ∷ 99 ∷ 108 ∷ 97 ∷ 115 ∷ 115 ∷ 44 ∷ 99 ∷ 111 ∷ 117 ∷ 110 ∷ 116 ∷ 0x0A ∷ []

-- `mended,`
abbrev pub mended : List ℕ
mended = 109 ∷ 101 ∷ 110 ∷ 100 ∷ 101 ∷ 100 ∷ 44 ∷ []

-- `refused,`
abbrev pub refused : List ℕ
refused = 114 ∷ 101 ∷ 102 ∷ 117 ∷ 115 ∷ 101 ∷ 100 ∷ 44 ∷ []

unfoldable pub line_text : ℕ → Line → List ℕ
line_text plot line = field plot comma ++ (field line.species comma ++ (field line.class comma ++ field line.count newline))

-- `count` lines from the front of s on
unfoldable pub lines_text : ℕ → ℕ → List ℕ → List ℕ
lines_text plot zero s = []
lines_text plot (suc count) s = line_text plot (line_of s) ++ lines_text plot count (drop 3 s)

unfoldable pub plots_text : List Plot → List ℕ
plots_text [] = []
plots_text (p ∷ ps) = lines_text p.number (lines_of p) p.lines ++ plots_text ps

-- the lines of an accepted payload
unfoldable pub plot_lines : Parsed → List ℕ
plot_lines (Plots ps end) = plots_text ps
plot_lines (Stopped r) = []

unfoldable pub refusal_text : ℕ → ℕ → List ℕ
refusal_text number place = refused ++ (field number comma ++ field place newline)

-- the whole answer for a payload, of a sheet with `changed` blocks changed
unfoldable pub listing_text : ℕ → Parsed → List ℕ
listing_text changed (Plots ps end) = header ++ (plots_text ps ++ (mended ++ field changed newline))
listing_text changed (Stopped r) = refusal_text (number_of r) (place_of r)

-- no answer is longer: the header, a line for each three bytes of the longest payload, of at most 17 bytes as `65535,99,200,255` with its end, and a
-- last line of at most 10, as `mended,16` with its end
abbrev pub longest_text : ℕ
longest_text = length header + longest / 3 * 17 + 10
