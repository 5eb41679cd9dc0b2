-- What document 02 asks for, sentence by sentence in its own words ("Later changes to the base"), each with the statement that says it. A statement is defined
-- in the crate that its `use` line names; proofs/Requests.antt proves them all.
use Rattle.std.specs.Prelude.{◌≡◌, ◌≢◌, List, ℕ, ◌*◌, length}
use Rattle.field.specs.Polynomial.{ProductIff, InverseIff}
use Rattle.field.specs.Operation.{OnlyProduct}
use Rattle.code.specs.Code.{distance}
use Rattle.profile.specs.Profile.{InRange, SparseRunIff}
use Rattle.profile.specs.declared.Profile.{Profile}
use Rattle.block.specs.Block.{correct_answer}
use Rattle.block.specs.Numbers.{verdict_number}
use Rattle.block.specs.Runs.{OneReached, SparseRepair}
use Rattle.block.specs.Promises.{LentBlock, UncorrectableIff, AmbiguousIff, Corrects, CorrectedIff, SparseIff, ShortExempt, ThreeExempt, CountsAll, HalfPromise, CorrectRefusals}
use Rattle.block.specs.LookAndFill.{LookIff, LookRefusals, Fills, FilledIff, OneWithin, NoCodewordIff, FillLimitFree, EmptyRun, FillRefusals, LooksThenFills, FillsAtOnce}
use Rattle.spots.specs.Spots.{spot_answer, spot_leaves}
use Rattle.spots.specs.Nearest.{LowestChanged}
use Rattle.spots.specs.Promises.{CorrectsCells, CorrectedCellsIff, TooManyErrorsIff, NoTie, NearComesBack, LimitFree, SpotRefusals}
use Rattle.sheet.specs.declared.Mode.{Mode}
use Rattle.sheet.specs.declared.Mode.TheVariants.{Burst, Spots}
use Rattle.sheet.specs.Sheet.{write_sheet_leaves, read_answer, read_payload}
use Rattle.sheet.specs.Numbers.{reading_number}
use Rattle.sheet.specs.Buffers.{Payload, Lent}
use Rattle.sheet.specs.Theorems.{Results, ReadRefusals, SheetLimitFree}
use Rattle.sheet.specs.Looks.{SheetByLooks}
use Rattle.sheet.specs.Promise.{FewErrors, SheetPromise}
use Rattle.plot.specs.declared.Line.{Line}
use Rattle.plot.specs.Layout.{Plot}
use Rattle.plot.specs.Sheets.{SameAfterErrors}
use Rattle.plot_promises.specs.Refusals.{MovingExactly}
use Rattle.plot_promises.specs.Figures.{LineCheckExactly, FirstLineRises, Figures}
use Rattle.stand.specs.declared.Tract.{Tract}
use Rattle.stand_promises.specs.Species.{RowsIff, ColumnsIff}
use Rattle.stand_promises.specs.Trees.{TallyLines}
use Rattle.stand_promises.specs.Exactly.{BeginningExactly, AddingPayload, TotalExactly, PerPlotExactly}
use Rattle.stand_promises.specs.InTurn.{InTurn}
use Rattle.listing.specs.Refusals.{ListRefusals}
use Rattle.former.specs.AsBefore.{NumbersAndTextAsBefore}
use Rattle.former.specs.LessScratch.{AsFormerReader, TextAsFormer, SameRule, FormerScratchRefused}

-- Note 1, mould spots
pub record Request1 : Type 0 where
  -- "A sheet may be read in spot mode: each block goes to the codeword that differs in the fewest cells, up to h cells anywhere, by the shift-register method of
  -- source document 002 or another."
  pub nearest : CorrectedCellsIff
  pub reading : (p : Profile) (sheet scratch out : List ℕ) → InRange p → Lent p sheet scratch out → Results Spots p sheet scratch out
  -- "The result is the number of cells changed and the lowest of them (0 if clean)."
  pub result : (p : Profile) (y out : List ℕ) (t j : ℕ) (c : List ℕ) → InRange p → LentBlock p y out → CorrectsCells p y out t j c
      → (t ≡ distance y c) × LowestChanged p y j c × (c ≡ y → (t ≡ 0) × (j ≡ 0))
  -- "A tie can't occur here, and that should be shown."
  pub no_tie : NoTie
  -- "The user's wish is that any h spots a block come back.": of one block, of a sheet, and of what is asked of its payload
  pub back : NearComesBack
  pub sheet_back : (p : Profile) (payload cells sheet scratch out : List ℕ) → InRange p → Payload p payload → length cells ≡ p.depth * p.n
      → FewErrors p (write_sheet_leaves p payload cells) sheet → Lent p sheet scratch out
      → (reading_number (read_answer Spots p sheet scratch out) ≡ 0) × (read_payload Spots p sheet scratch out ≡ payload)
  pub asking : SameAfterErrors
  -- "Answers: 11 spotted, in this mode instead of 3 and with 3's order and place, exactly when no codeword is that near.": on a sheet the lowest block that
  -- is refused is the place, as `reading` says
  pub too_many : TooManyErrorsIff
  pub refusals : (p : Profile) (y out : List ℕ) → SpotRefusals p y out
  pub sheet_refusals : (p : Profile) (sheet scratch out : List ℕ) → ReadRefusals Spots p sheet scratch out
  -- what the note leaves open, as decided: L has to be in its range and has no other effect
  pub limit : LimitFree
  pub sheet_limit : SheetLimitFree

-- Note 2, which value in the line
pub record Request2 : Type 0 where
  -- "The check of one line now says what failed first: 1 species, 2 class, 3 count, 4 the rise above the line before."
  pub line : (before line : Line) → LineCheckExactly before line
  pub first_line : FirstLineRises
  -- "Adding a plot and reading a payload pass this on beside number 7, with the line's index from 0. For faults outside a line both are 0."
  pub figures : Figures
  -- what the note leaves as it was, on every input: numbers, places, the payload after adding, and the lister's text
  pub as_before : NumbersAndTextAsBefore

-- Note 3, look first, fill after
pub record Request3 : Type 0 where
  -- "Mending splits into a look, which writes nothing and gives the verdict, ..": a look is lent no buffer that it could write
  pub look : LookIff
  pub look_refusals : (p : Profile) (y : List ℕ) → LookRefusals p y
  -- ".. and a fill, which takes a start and length and writes the codeword within that run, ..": there is at most one
  pub fill : FilledIff
  pub one : OneWithin
  -- ".. or says torn if none is; from a fill, torn speaks of that one run only, whatever L is, ..": L and the depth have no effect on a fill
  pub none : NoCodewordIff
  pub limit : FillLimitFree
  -- ".. and elsewhere it means what it did.": of the corrector and of a read sheet
  pub elsewhere : UncorrectableIff
  pub reading : (p : Profile) (sheet scratch out : List ℕ) → InRange p → Lent p sheet scratch out → Results Burst p sheet scratch out
  -- "The sheet reader uses both.": a look may hand its fill what it has worked out, and that is the fill all the same
  pub sheet : SheetByLooks
  pub at_once : FillsAtOnce
  -- "With a second buffer of n bytes, a look followed, where it accepts, by its fill must be what mending was."
  pub same : LooksThenFills
  -- "Answers: 12 bad span, after 2 and before 3, when start plus length exceeds n or length exceeds r−1."
  pub fill_refusals : (p : Profile) (y : List ℕ) (s f : ℕ) (out : List ℕ) → FillRefusals p y s f out
  -- what the note leaves open, as decided: start n with length 0 is a run too, and a run of no cells holds the block itself where that is a codeword
  pub empty : EmptyRun

-- Note 4, stand table
pub record Request4 : Type 0 where
  -- "Payloads are added one after another, up to 1,000. .. In a table begun empty and only added to, each cell must equal its trees in all added tallies, counted from
  -- the records, and the total, the sum of the cells, all of them. Trees per plot, the table's total over the number of records added, come as a whole quotient and the
  -- exact remainder."
  pub in_turn : InTurn
  -- "Up to 16 listed species, in the list's order, have a row each and a last row takes the others, the seventeenth; .."
  pub rows : RowsIff
  -- ".. twenty columns take classes 1 to 10, 11 to 20 and on to 191 to 200."
  pub columns : ColumnsIff
  -- ".. all added tallies, counted from the records ..": the tally lines of a plot are those of its record; the records are read by a cursor that makes every check of each
  pub tallies : (p : Plot) → TallyLines p
  pub moving : (at last : ℕ) (s : List ℕ) → MovingExactly at last s
  -- "A refused payload leaves the table unchanged. Answers, for a state handed in too: 13 species list, after 2, for a listed number outside 1 to 99, a repeat, or more than
  -- 16; 14 tract full, next, for a payload beyond 1,000 or a cell or counter handed in above 400,000,000; ..": of each entry, for every state
  pub beginning : (l : List ℕ) → BeginningExactly l
  pub adding : (t : List (List ℕ)) (tract : Tract) (s : List ℕ) → AddingPayload t tract s
  pub total : (t : List (List ℕ)) (tract : Tract) → TotalExactly t tract
  -- ".. 15 no plots, last, for the quotient only, when no plot was added."
  pub per_plot : (t : List (List ℕ)) (tract : Tract) → PerPlotExactly t tract

-- Note 5, tables out
pub record Request5 : Type 0 where
  -- "However it is done now, products and inverses are worked out by the field's rule itself, shift and fold, with no table. Every product must be the field's, ..":
  -- the one remainder of the product of the two bytes' polynomials; and the only operation on bytes that has the laws of `IsFieldProduct`
  pub product : ProductIff
  pub operation : OnlyProduct
  -- ".. every cell but 0 times its inverse must be 1, ..": and times no other cell
  pub inverse : InverseIff
  -- ".. and no result changes.": every contract stands as it did, over the same definitions

-- Note 6, less scratch
pub record Request6 : Type 0 where
  -- "The sheet reader, in spot mode too, now takes a scratch of n bytes instead of D × n.": the longer one is refused by 2 where D is above 1; that n bytes are taken is in `same`
  pub longer : FormerScratchRefused
  -- "The scratch's length aside, verdicts, payload, refusals and their places are those of the old reader on every input, ..": the answer is equal as a whole, and so is the lister's text
  pub same : AsFormerReader
  pub text : TextAsFormer
  -- ".. and a refused sheet still leaves the payload buffer untouched."
  pub untouched : (mode : Mode) (p : Profile) (sheet scratch out : List ℕ) → reading_number (read_answer mode p sheet scratch out) ≢ 0 → read_payload mode p sheet scratch out ≡ out
  -- "Afterwards the n bytes are zero, by the same rule as before."
  pub rule : (mode : Mode) (p : Profile) (sheet out scratch : List ℕ) → SameRule mode p sheet out scratch

-- Note 7, long but thin repairs
pub record Request7 : Type 0 where
  -- "From now on a repair whose length exceeds half of r is refused unless more than half of its run is changed.": refused by 16 exactly so, and else accepted; the cells
  -- that are counted are all that the repair changes; what the public test of the two numbers answers
  pub sparse : SparseIff
  pub corrected : CorrectedIff
  pub counted : CountsAll
  pub rule : SparseRunIff
  -- "The run is still found as before, so a shorter or tied one decides first.": torn and tied are what they were, by the relations of demand 3
  pub none : UncorrectableIff
  pub two : AmbiguousIff
  -- "The look of Note 3 applies the rule, the fill doesn't.": the run by which demand 3 mends is filled, thin or not
  pub look : LookIff
  pub fill : FilledIff
  pub filled : (p : Profile) (y out : List ℕ) (s f : ℕ) (c : List ℕ) → InRange p → LentBlock p y out → OneReached p y s f c → Fills p y s f out c
  -- "Shorter repairs and clean blocks are exempt, so scratches within depth times h come back as ever.": exempt are also runs of at most three cells by which a block is
  -- mended; of one block, and of a sheet, word for word as in demand 3
  pub exempt : ShortExempt
  pub three : ThreeExempt
  pub half_run : HalfPromise
  pub sheets : SheetPromise
  -- "A block that demand 3 calls mended is from now on mended or, exactly by this rule, thin."
  pub mended : (p : Profile) (y out : List ℕ) (s f : ℕ) (c : List ℕ) → InRange p → LentBlock p y out → OneReached p y s f c
      → ((SparseRepair p y s f c → ⊥) → Corrects p y out s f c) × (SparseRepair p y s f c → verdict_number (correct_answer p y out) ≡ 16)
  -- "Answers: 16 thin, after 4, with the block number on a sheet.": on a sheet the lowest block that is refused decides, and the lister prints it so; every lent buffer as after
  -- 3 and 4
  pub refusals : (p : Profile) (y out : List ℕ) → CorrectRefusals p y out
  pub reading : (p : Profile) (sheet scratch out : List ℕ) → InRange p → Lent p sheet scratch out → Results Burst p sheet scratch out
  pub sheet_refusals : (p : Profile) (sheet scratch out : List ℕ) → ReadRefusals Burst p sheet scratch out
  pub listing : (input : List ℕ) → ListRefusals input
  -- what the note does not say: a thin repair changes at most h cells, so spot mode, which has no such rule, accepts every thin block, with the very codeword
  pub by_spots : (p : Profile) (y out : List ℕ) (s f : ℕ) (c : List ℕ) → InRange p → LentBlock p y out → OneReached p y s f c → SparseRepair p y s f c
      → (verdict_number (spot_answer p y out) ≡ 0) × (spot_leaves p y out ≡ c)

pub record Requests : Type 0 where
  pub first : Request1
  pub second : Request2
  pub third : Request3
  pub fourth : Request4
  pub fifth : Request5
  pub sixth : Request6
  pub seventh : Request7
