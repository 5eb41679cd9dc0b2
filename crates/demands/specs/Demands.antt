-- What the customer demands, sentence by sentence in the customer's own words ("What the customer demands"), each with the statement that says it; then
-- what document 01 asks beside the three demands; what document 02 asks is in Requests.antt. A statement is defined in the crate that its `use` line names; proofs/Demands.antt proves them all.
use Rattle.std.specs.Prelude.{◌≡◌, List, ℕ, ◌*◌, ◌≤◌, length}
use Rattle.lists.specs.Bytes.{Bytes}
use Rattle.field.specs.Laws.{FieldLaws, AlphaLaws}
use Rattle.field.specs.Polynomial.{SumCoefficients}
use Rattle.code.specs.Theorems.{CodewordIffSyndromes, MinimumDistance, LongRunReaches}
use Rattle.profile.specs.Profile.{InRange, InRangeIff, half}
use Rattle.block.specs.Promises.{WritesCodeword, CleanIff, UncorrectableIff, AmbiguousIff, CorrectedIff, SparseIff, ExactlyOne, HalfPromise, DepthFree, BlockRefusals}
use Rattle.profile.specs.declared.Profile.{Profile}
use Rattle.sheet.specs.declared.Mode.{Mode}
use Rattle.sheet.specs.declared.Mode.TheVariants.{Burst}
use Rattle.sheet.specs.Sheet.{write_sheet_leaves, read_answer, read_payload}
use Rattle.sheet.specs.Numbers.{reading_number}
use Rattle.sheet.specs.Buffers.{Payload, Lent}
use Rattle.sheet.specs.Theorems.{Places, TakenApart, DifferIff, WritesSheet, ReadResults, SheetRefusals}
use Rattle.sheet.specs.Promise.{Damaged, ReadsBack}
use Rattle.demands.specs.Examples.{StarredExamples}
use Rattle.demands.specs.Requests.{Requests}
use Rattle.plot.specs.Layout.{Plot}
use Rattle.plot_promises.specs.Lines.{LinesHoldIff}
use Rattle.plot_promises.specs.Canonical.{RecordBytes, PlotsUnique, WrittenAsRead, ReadAsWritten, AcceptedForm, AddedIsFound}
use Rattle.plot_promises.specs.Refusals.{SteppingExactly, CheckingExactly, AskingExactly, AddingExactly}
use Rattle.plot.specs.Sheets.{WrittenReadsAsPlots, SameAfterDamage}
use Rattle.listing_text.specs.Meaning.{DecimalIff, OneReading, AcceptedText, RefusalText}
use Rattle.listing.specs.Refusals.{ListRefusals}
use Rattle.listing.specs.Accepted.{ListAccepted}
use Rattle.listing.specs.Theorems.{WholeText, EnoughInput}

-- 1. "So that any scan and any tally file can be fed in, every entry point ends with a result on every input, .."
-- This holds by the language: a function that is proved returns, with no undefined step, on every input that its `requires` allows. The gate shows the rest:
-- `rt ci` fails on a function that is not proved, and rust/compare/tests/entries.rs on a public function that has a `requires`.
pub record Demand1 : Type 0 where
  -- ".. refuses faulty input itself with the numbers of document 01, and after a refusal each lent buffer holds what document 01 says."
  pub blocks : (p : Profile) → BlockRefusals p
  pub sheets : (p : Profile) → SheetRefusals p
  pub payloads : (s : List ℕ) → Bytes s → CheckingExactly s
  pub asking : (n : ℕ) (s : List ℕ) → Bytes s → AskingExactly n s
  pub adding : (p : Plot) (s : List ℕ) → AddingExactly p s
  pub listing : (input : List ℕ) → ListRefusals input

-- 2.
pub record Demand2 : Type 0 where
  -- "A written block carries the message unchanged in its upper cells and is divisible by the generator polynomial of source document 000; .."
  pub writing : WritesCodeword
  -- ".. a block is called clean exactly if all its syndromes are zero."
  pub clean : CleanIff
  -- "Sheets and plot records follow document 01.": where cells and bytes of a sheet stand; the bytes of a record, and what stands at a place of the payload; an
  -- accepted payload is the records of one list of plots, then zeros, and lines hold where each is in its ranges and above the one before; an added plot is found.
  -- What checking, asking and adding answer, accepted or refused, is in Demand1.
  pub places : (D : ℕ) → Places D
  pub layout : RecordBytes
  pub stepping : (at : ℕ) (s : List ℕ) → SteppingExactly at s
  pub records : AcceptedForm
  pub unique : PlotsUnique
  pub lines : LinesHoldIff
  pub adding : AddedIsFound
  -- "A written sheet reads back as its plots, .."
  pub plots : WrittenReadsAsPlots
  -- ".. and every accepted payload is byte for byte what writing its plots afresh would give."
  pub afresh : WrittenAsRead

-- 3. "For every profile and whatever cells are read, misprint and wrong frame aside throughout: .."
pub record Demand3 : Type 0 where
  -- ".. a block is torn exactly when no run up to the profile's limit reaches a codeword, .."
  pub none : UncorrectableIff
  -- ".. and tied exactly when within that limit two different codewords share the shortest length."
  pub two : AmbiguousIff
  -- "Else it is mended to the codeword that differs from it inside the shortest run, every other codeword lying within longer runs only; the result is that
  -- run's start and length, 0 and 0 if clean.": `otherwise` is of the relations of document 01; since document 02, Note 7, a block that is mended by them is
  -- accepted so, or, exactly by its rule, thin
  pub otherwise : ExactlyOne
  pub one : CorrectedIff
  pub sparse : SparseIff
  -- "A sheet is refused exactly when a block of it is, with the lowest such block's number and reason; else its payload is the message bytes of all its
  -- blocks as mended, in document 01's order.": in every mode; document 01's is the burst mode
  pub reading : ReadResults
  -- "Every payload of the profile's size is written to a sheet as document 01 lays it out."
  pub writing : WritesSheet
  -- "If the limit is at least half the check cells, rounded down, then whatever a scratch puts into one run of that sheet, no longer than depth times that
  -- half, the reader under the same profile gives back that payload byte for byte."
  pub scratched : (p : Profile) (payload cells sheet scratch out : List ℕ) → InRange p → half p ≤ p.limit → Payload p payload → length cells ≡ p.depth * p.n
      → Damaged p (write_sheet_leaves p payload cells) sheet → Lent p sheet scratch out
      → (reading_number (read_answer Burst p sheet scratch out) ≡ 0) × (read_payload Burst p sheet scratch out ≡ payload)
  -- "Asking for any plot number then answers alike on both payloads, with the same record or the same refusal, as the rules for plot records have it."
  pub asking : SameAfterDamage

pub record Demands : Type 0 where
  pub first : Demand1
  pub second : Demand2
  pub third : Demand3

-- what is in no demand
pub record Beside : Type 0 where
  -- "Field laws are shown for every n and r together."
  pub field : FieldLaws
  pub powers : AlphaLaws
  -- "Sums are bitwise exclusive or": those of the polynomials that the bytes stand for
  pub sums : SumCoefficients
  -- a codeword is what the generator divides, which is where all syndromes are zero; two codewords differ in more than r cells
  pub codewords : CodewordIffSyndromes
  pub distance : MinimumDistance
  -- "Lengths of r and more reach a codeword always, so L stops at r−1."
  pub long_runs : LongRunReaches
  -- the table of ranges, and the test that the entries make
  pub ranges : InRangeIff
  -- "A block's verdict and its mended cells depend on its own cells and on n, r, b, L only."
  pub depth_free : DepthFree
  -- of one block, what Demand3 says of a sheet's scratch
  pub half_run : HalfPromise
  -- `differ`, by which changed blocks are counted, is what it says
  pub differing : DifferIff
  -- blocks and messages, put together and taken apart again
  pub apart : (D : ℕ) → TakenApart D
  -- a written sheet, read as it was written, gives its payload back with no block changed, in every mode
  pub untouched : (mode : Mode) (p : Profile) (payload cells scratch out : List ℕ) → InRange p → Payload p payload → length cells ≡ p.depth * p.n
      → Lent p (write_sheet_leaves p payload cells) scratch out → ReadsBack mode p payload (write_sheet_leaves p payload cells) 0 scratch out
  -- reading a payload that was written plot by plot gives those plots
  pub read_as_written : ReadAsWritten
  -- "The eleven starred examples are shown to follow from the definitions, gathered into a common table with a common theorem."
  pub examples : StarredExamples
  -- "It prints .. a header, one line per tally line (plot, species, class, count), and the word `mended`, a comma and the number of blocks changed.": for each
  -- sheet that is accepted; which lines a text has, and that it can be read in no other way; what a number in decimal is
  pub printed : (input : List ℕ) → ListAccepted input
  pub lines : (changed : ℕ) (plots : List Plot) → AcceptedText changed plots
  pub refusal : (number place : ℕ) → RefusalText number place
  pub one_reading : OneReading
  pub decimals : DecimalIff
  -- the plot lister's text is never cut, and the program's input buffer loses nothing
  pub text : WholeText
  pub input : EnoughInput

-- everything that is promised, as one theorem
pub record AllPromises : Type 0 where
  pub demands : Demands
  pub beside : Beside
  pub requests : Requests
