-- The canonical form of a payload (R1, R6): the records of its plots in turn, then zeros. The statements say that reading and adding agree on it,
-- with each answer told by its numbers (E5); proofs/Canonical.antt proves them.
use Rattle.std.specs.Prelude.{ℕ, ◌+◌, ◌*◌, ◌/◌, ◌<◌, ◌≤◌, ◌≡◌, ◌↔◌, ◌≢◌, List, [], ◌∷◌, ◌++◌, length, replicate, eqb}
use Rattle.lists.specs.Bytes.{Bytes}
use Rattle.lists.specs.Choice.{pick}
use Rattle.plot.specs.Layout.{Plot, line_of, lines_of, record_of, bytes_of}
use Rattle.plot_promises.specs.Lines.{LinesHold}
use Rattle.plot.specs.Grammar.{Plots, reading}
use Rattle.plot.specs.Answers.{Added, located, asked, added, payload_with}
use Rattle.plot.specs.Numbers.{located_number, located_start, located_length, added_number, added_place, added_start}

-- the bytes of a record in turn: "the two-byte mark 50 4C (hexadecimal)", "the plot number (two bytes, low first ..)", "the number of lines (one byte ..)", and the
-- lines, each "species number .., diameter class .., tree count", a byte each
pub record RecordBytes : Type 0 where
  pub bytes : (low high : ℕ) (lines : List ℕ) → low < 256
      → record_of (record { number = low + high * 256; lines = lines }) ≡ 0x50 ∷ 0x4C ∷ low ∷ high ∷ length lines / 3 ∷ lines
  pub line : (x y z : ℕ) (rest : List ℕ) → ((line_of (x ∷ y ∷ z ∷ rest)).species ≡ x) × ((line_of (x ∷ y ∷ z ∷ rest)).class ≡ y) × ((line_of (x ∷ y ∷ z ∷ rest)).count ≡ z)

-- a plot that a record can hold: "three bytes a line", "0 to 40" lines, a number that is not 0, lines that hold. That the number has two bytes is said where the
-- payload is of bytes.
pub record PlotHolds (p : Plot) : Type 0 where
  pub threes : lines_of p * 3 ≡ length p.lines
  pub few : lines_of p ≤ 40
  pub some : p.number ≢ 0
  pub hold : LinesHold (lines_of p) p.lines

-- "Plot numbers rise strictly."
abbrev pub Rising : ℕ → List Plot → Type 0
Rising last [] = Unit
Rising last (p ∷ ps) = PlotHolds p × (last < p.number) × Rising p.number ps

-- "A payload of 0 to 4,048 bytes holds records, then zero bytes to its end.": s holds the records of these plots
pub record Contains (s : List ℕ) (plots : List Plot) : Type 0 where
  pub short : length s ≤ 4048
  pub rising : Rising 0 plots
  pub zeros : ℕ
  pub form : s ≡ bytes_of plots ++ replicate zeros 0

-- a payload contains one list of plots only
abbrev pub PlotsUnique : Type 0
PlotsUnique = (s : List ℕ) (ps qs : List Plot) → Contains s ps → Contains s qs → ps ≡ qs

-- plots added one after the other: the payload with all of them, or the number and place of the first refusal
pub data Outcome : Type 0 where
  AllAdded : List ℕ → Outcome
  NotAdded : ℕ → ℕ → Outcome

abbrev pub add_then : (List ℕ → Outcome) → Added → List ℕ → Outcome
add_then rest a s = pick (eqb (added_number a) 0) (rest s) (NotAdded (added_number a) (added_place a))

unfoldable pub add_all : List Plot → List ℕ → Outcome
add_all [] s = AllAdded s
add_all (p ∷ ps) s = add_then (add_all ps) (added p s) (payload_with p s)

-- R1: the reading that the entries cite gives these plots exactly if the payload holds their records, then zeros
abbrev pub AcceptedForm : Type 0
AcceptedForm = (s : List ℕ) (ps : List Plot) → Bytes s → (reading s ≡ Plots ps (length (bytes_of ps))) ↔ Contains s ps

-- R6: a payload is byte for byte what adding its plots in turn to zeros gives ..
abbrev pub WrittenAsRead : Type 0
WrittenAsRead = (s : List ℕ) (ps : List Plot) → Contains s ps → add_all ps (replicate (length s) 0) ≡ AllAdded s

-- .. and what was so written holds those plots
abbrev pub ReadAsWritten : Type 0
ReadAsWritten = (size : ℕ) (ps : List Plot) (s : List ℕ) → size ≤ 4048 → add_all ps (replicate size 0) ≡ AllAdded s → Contains s ps

-- asking s for plot n gives `bytes`, and the companion entry says that they begin at `first`
pub record FoundAt (n : ℕ) (s : List ℕ) (first : ℕ) (bytes : List ℕ) : Type 0 where
  pub number : located_number (located n s) ≡ 0
  pub start : located_start (located n s) ≡ first
  pub size : located_length (located n s) ≡ length bytes
  pub part : asked n s ≡ bytes

-- R4: after a plot is added, asking finds it, and finds every other plot, or none, as before
abbrev pub AddedIsFound : Type 0
AddedIsFound =
    (s : List ℕ) (p : Plot) → Bytes s → added_number (added p s) ≡ 0
    → FoundAt p.number (payload_with p s) (added_start (added p s)) (record_of p)
    × ((n : ℕ) → p.number ≢ n → (located n (payload_with p s) ≡ located n s) × (asked n (payload_with p s) ≡ asked n s))
