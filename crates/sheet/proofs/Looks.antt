-- The reader by looks and fills: a look at a block has the number of its verdict in scratch mode, and the fill of an accepted look is the codeword; so the
-- theorem on a read sheet says the rest.
use mathlib.Core.Path.{◌≡◌, sym, ap, ◌∙◌}
use mathlib.Core.Logic.{◌≢◌}
use mathlib.Core.List.{List}
use Prim.Native.Nat.{ℕ, ◌<◌}
use lib.ListN.{length}
use Rattle.profile.specs.Profile.{InRange}
use Rattle.block.specs.Block.{verdict}
use Rattle.block.specs.Numbers.{verdict_number}
use Rattle.block.specs.Runs.{Cells}
use Rattle.profile.specs.declared.Profile.{Profile}
use Rattle.block.proofs.Answers.{block-leaves}
use Rattle.block.proofs.LookAndFill.{looks_then_fills}
use Rattle.sheet.specs.declared.Mode.TheVariants.{Burst}
use Rattle.sheet.specs.Sheet.{read_block, read_answer}
use Rattle.sheet.specs.Numbers.{reading_number}
use Rattle.sheet.specs.Buffers.{Lent}
use Rattle.sheet.specs.Theorems.{LowestRefused, HasWord, Accepts, Results}
use Rattle.sheet.specs.Looks.{look_at, fill_at, LowestLook, SheetByLooks}
use Rattle.sheet.proofs.Modes.{BlockLaw, block_law}
use Rattle.sheet.proofs.Modes as modes
use Rattle.sheet.proofs.Theorems.{block_cells, read-results}

module _ (p : Profile) (sheet scratch out : List ℕ) (v : InRange p) (h : Lent p sheet scratch out) where
  whole : (d : ℕ) → Cells p (read_block p sheet d)
  whole d = block_cells p sheet d h.cells.bytes

  law : (d : ℕ) → BlockLaw Burst p (read_block p sheet d)
  law d = block_law Burst p (read_block p sheet d) v (whole d)

  look_verdict : (d : ℕ) → look_at p sheet d ≡ verdict p (read_block p sheet d)
  look_verdict d = modes.look_verdict p (read_block p sheet d) v (whole d)

  -- a look accepts exactly where the block has a codeword
  word_accepted : (d : ℕ) (c : List ℕ) → HasWord Burst p sheet d c → verdict_number (look_at p sheet d) ≡ 0
  word_accepted d c g = ap verdict_number (look_verdict d) ∙ (((law d).accepted c).1 g).0

  fill_word : (second : ℕ → List ℕ) → ((d : ℕ) → length (second d) ≡ p.n) → (d : ℕ) → verdict_number (look_at p sheet d) ≡ 0 → HasWord Burst p sheet d (fill_at p sheet d (second d))
  fill_word second l d q =
      let y : List ℕ = read_block p sheet d in
      let a : verdict_number (verdict p y) ≡ 0 = ap verdict_number (sym (look_verdict d)) ∙ q in
      ((law d).accepted (fill_at p sheet d (second d))).0
      (a, sym (((looks_then_fills p y (second d) (whole d).bytes (l d)).accepted q).leaves ∙ block-leaves p v y (whole d).count (second d) (l d) a))

  results : Results Burst p sheet scratch out
  results = read-results Burst p sheet scratch out v h

  lowest_there : (d number : ℕ) → number ≢ 0 → LowestRefused Burst p sheet d number → LowestLook p sheet d number
  lowest_there d number n k = record {
    below = k.below;
    refused = ap verdict_number (look_verdict d) ∙ (((law d).refused number).1 k.refused).0;
    before = λ e l. let w = k.before e l in word_accepted e w.0 w.1;
  }

  lowest_back : (d number : ℕ) → number ≢ 0 → LowestLook p sheet d number → LowestRefused Burst p sheet d number
  lowest_back d number n k = record {
    below = k.below;
    refused = ((law d).refused number).0 (ap verdict_number (sym (look_verdict d)) ∙ k.refused, n);
    before = λ e l. (fill_at p sheet e (read_block p sheet e), fill_word (read_block p sheet) (λ i. (whole i).count) e (k.before e l));
  }

  all_accepted : reading_number (read_answer Burst p sheet scratch out) ≡ 0 → (d : ℕ) → d < p.depth → verdict_number (look_at p sheet d) ≡ 0
  all_accepted q d l = let w = results.accepted.0 q in word_accepted d (w.0 d) (w.1 d l)

  accepts : (second : ℕ → List ℕ) → ((d : ℕ) → length (second d) ≡ p.n) → reading_number (read_answer Burst p sheet scratch out) ≡ 0
      → Accepts Burst p sheet scratch out (λ (d : ℕ). fill_at p sheet d (second d))
  accepts second l q = results.accepts _ (λ d m. fill_word second l d (all_accepted q d m))

pub sheet_by_looks : SheetByLooks
sheet_by_looks p sheet scratch out v h =
    let k = results p sheet scratch out v h in
    record {
      refused = λ d number n. (
        λ q. lowest_there p sheet scratch out v h d number n ((k.refused d number n).0 q),
        λ w. (k.refused d number n).1 (lowest_back p sheet scratch out v h d number n w),
      );
      accepted = (
        all_accepted p sheet scratch out v h,
        λ a. k.accepted.1 (
          λ (d : ℕ). fill_at p sheet d (read_block p sheet d),
          λ d l. fill_word p sheet scratch out v h (read_block p sheet) (λ i. (whole p sheet scratch out v h i).count) d (a d l),
        ),
      );
      payload = λ second l q. (accepts p sheet scratch out v h second l q).payload;
      changed = λ second l q. (accepts p sheet scratch out v h second l q).changed;
    }
