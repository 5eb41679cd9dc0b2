-- The promise of specs/Promise.antt. A written block goes to itself. Each block of a damaged sheet agrees with the written block outside a run of at
-- most h cells, or differs from it in at most h cells, and so goes to it by what is known of one block.
use mathlib.Core.Path.{◌≡◌, sym, ap, subst, ◌∙◌}
use mathlib.Core.List.{List}
use Prim.Native.Nat.{ℕ, ◌+◌, ◌*◌, ◌≤◌, ◌<◌}
use lib.ListN.{get_or, drop}
use Rattle.lists.specs.Choice.{pick}
use Rattle.code.specs.Run.{Outside}
use Rattle.profile.specs.Profile.{InRange, message_length, half}
use Rattle.block.specs.Runs.{Cells, Reached}
use Rattle.profile.specs.declared.Profile.{Profile}
use Rattle.block.proofs.Verdicts.{verdict-one, verdict-half}
use Rattle.spots.proofs.Verdicts.{spot_near}
use Rattle.sheet.specs.declared.Mode.{Mode}
use Rattle.sheet.specs.declared.Mode.TheVariants.{Burst, Spots}
use Rattle.sheet.specs.Modes.{GoesTo}
use Rattle.sheet.specs.Sheet.{message_of, written_block, written_sheet, write_sheet_leaves, read_block, differ}
use Rattle.sheet.specs.Buffers.{Payload, Lent, differing}
use Rattle.sheet.specs.Theorems.{HasWord, AllWords}
use Rattle.sheet.specs.Promise.{ReadsBack, Damaged, FewErrors, SheetPromise}
use Rattle.sheet.proofs.Places.{cell_inside}
use Rattle.sheet.proofs.Apart.{block_cell, same-joined, joined-messages}
use Rattle.sheet.proofs.Differ.{differ_self}
use Rattle.sheet.proofs.Modes.{own_word}
use Rattle.lists.proofs.Sum.{same_sum, zero-sum}
use Rattle.sheet.proofs.Theorems.{block_cells, written-word, written_message, written_block_lem, written-sheet, leaves_written, all_words}
use Rattle.sheet.proofs.Runs as runs

module _ (p : Profile) (m : List ℕ) (v : InRange p) (h : Payload p m) where
  abbrev written : List ℕ
  written = written_sheet p m

  -- where each block has the written block as its codeword, the payload comes back
  reads_back : (mode : Mode) (sheet scratch out : List ℕ) → AllWords mode p sheet (written_block p m) → Lent p sheet scratch out
      → ReadsBack mode p m sheet (differing p.depth (read_block p written) (read_block p sheet)) scratch out
  reads_back mode sheet scratch out a l =
      let q = all_words mode p sheet scratch out v l (written_block p m) a in
      record {
        number = q.number;
        count =
            q.changed
            ∙ same_sum p.depth (λ (d : ℕ). pick (differ (written_block p m d) (read_block p sheet d)) 1 0) (λ (d : ℕ). pick (differ (read_block p written d) (read_block p sheet d)) 1 0)
            (λ d k. ap (λ (x : List ℕ). pick (differ x (read_block p sheet d)) 1 0) (sym (written_block_lem p m v h d k)));
        payload =
            q.payload
            ∙ same-joined p.depth (message_length p) (λ (d : ℕ). drop p.r (written_block p m d)) (message_of (message_length p) m) (λ d k. written_message p m v h d k)
            ∙ joined-messages p.depth (message_length p) m h.count;
      }

  own_words : (mode : Mode) → AllWords mode p written (written_block p m)
  own_words mode d l =
      subst (λ (y : List ℕ). GoesTo mode p y (written_block p m d)) (sym (written_block_lem p m v h d l)) (own_word p (written_block p m d) v (written-word p m v h d l) mode)

  none-changed : differing p.depth (read_block p written) (read_block p written) ≡ 0
  none-changed = zero-sum p.depth (λ (d : ℕ). pick (differ (read_block p written d) (read_block p written d)) 1 0) (λ d l. rw (differ_self (read_block p written d)))

  module _ (sheet : List ℕ) (k : half p ≤ p.limit) (z : Damaged p written sheet) (d : ℕ) (l : d < p.depth) where
    abbrev start : ℕ
    start = runs.first p.depth d l z.start

    abbrev size : ℕ
    size = runs.cells p.depth d l z.start z.size

    agrees : (i : ℕ) → i < p.n → Outside start size i → get_or (read_block p sheet d) i 0 ≡ get_or (written_block p m d) i 0
    unfolding read_block
    agrees i g o =
        block_cell p.depth p.n sheet d i g
        ∙ z.agree (i * p.depth + d) (cell_inside p.depth p.n i d l g) (runs.stays_outside p.depth d l z.start z.size i o)
        ∙ sym (block_cell p.depth p.n written d i g)
        ∙ ap (λ (y : List ℕ). get_or y i 0) (written_block_lem p m v h d l)

    reached : Reached p (read_block p sheet d) start size (written_block p m d)
    reached = record { run = runs.within p.depth d l z.start z.size p.n z.run; codeword = written-word p m v h d l; agree = agrees }

    damaged-word : HasWord Burst p sheet d (written_block p m d)
    damaged-word =
        let y : List ℕ = read_block p sheet d in
        let c : Cells p y = block_cells p sheet d z.cells.bytes in
        let q = verdict-half p y start size (written_block p m d) v c k (runs.few p.depth d l z.start z.size (half p) z.short) reached in
        (q.0.0, q.0.1, (verdict-one p y v c q.0.0 q.0.1 (written_block p m d)).0 (q.0.2, q.1))

  -- at most h cells of each block differ
  few_word : (sheet : List ℕ) → FewErrors p written sheet → (d : ℕ) → d < p.depth → HasWord Spots p sheet d (written_block p m d)
  few_word sheet z d l =
      spot_near p (read_block p sheet d) v (block_cells p sheet d z.cells.bytes) (written_block p m d)
      (record { word = written-word p m v h d l; within = rw (written_block_lem p m v h d l) at (z.few d l) })

-- of the sheet as the definitions write it
module _ (p : Profile) (m : List ℕ) (v : InRange p) (h : Payload p m) where
  back_unchanged : (mode : Mode) (scratch out : List ℕ) → Lent p (written_sheet p m) scratch out → ReadsBack mode p m (written_sheet p m) 0 scratch out
  back_unchanged mode scratch out l =
      subst (λ (k : ℕ). ReadsBack mode p m (written_sheet p m) k scratch out) (none-changed p m v h)
      (reads_back p m v h mode (written_sheet p m) scratch out (own_words p m v h mode) l)

  back_damaged : (sheet scratch out : List ℕ) → half p ≤ p.limit → Damaged p (written_sheet p m) sheet → Lent p sheet scratch out
      → ReadsBack Burst p m sheet (differing p.depth (read_block p (written_sheet p m)) (read_block p sheet)) scratch out
  back_damaged sheet scratch out k z l = reads_back p m v h Burst sheet scratch out (damaged-word p m v h sheet k z) l

  back_few : (sheet scratch out : List ℕ) → FewErrors p (written_sheet p m) sheet → Lent p sheet scratch out
      → ReadsBack Spots p m sheet (differing p.depth (read_block p (written_sheet p m)) (read_block p sheet)) scratch out
  back_few sheet scratch out z l = reads_back p m v h Spots sheet scratch out (few_word p m v h sheet z) l

-- and so of the sheet that the writer leaves, which is that one
pub sheet_promise : SheetPromise
sheet_promise p m cells v h c =
    let e : write_sheet_leaves p m cells ≡ written_sheet p m = leaves_written p m v h cells c in
    record {
      sheet = rw e (written-sheet p m v h);
      back = rw e (back_unchanged p m v h);
      damaged = rw e (back_damaged p m v h);
      few_errors = rw e (back_few p m v h);
    }
