-- The starred examples hold: both sides of each row compute to the same, with every definition opened.
use mathlib.Core.Path.{◌≡◌, refl, ap, ◌∙◌}
use mathlib.Core.Logic.{⊎_elim}
use mathlib.Core.List.{List, [], ◌∷◌}
use mathlib.Core.Bool.{true}
use Prim.Native.Nat.{ℕ, zero, suc, ◌*◌, ◌<◌}
use native.Mathlib.Omega.{arith}
use lib.ListN.{length, get_or}
use Rattle.std.specs.Prelude.{Ok}
use Rattle.field.specs.Field.{add, double, mul_bits, mul, power, squares, inverse}
use Rattle.code.specs.Poly.{padd, pscale, pmul}
use Rattle.code.specs.Code.{generator, rem_step, remainder, weight, Codeword}
use Rattle.code.specs.Run.{Outside, back_step, back_steps, shifted_remainder, added_at}
use Rattle.code.specs.Search.{extent, better, scanned, extents}
use Rattle.profile.specs.Profile.{in_range, message_length, is_sparse}
use Rattle.block.specs.Block.{check_cells, encode, run_verdict, decided, judged, verdict, filled, corrected, write_answer, write_leaves, correct_answer}
use Rattle.profile.specs.Numbers.{early_number}
use Rattle.block.specs.Numbers.{verdict_number, verdict_start, verdict_length}
use Rattle.block.specs.Promises.{Corrects}
use Rattle.profile.specs.declared.Profile.{Profile}
use Rattle.block.specs.declared.numbers.Correction.TheVariants.{Run}
use Rattle.profile.proofs.Ranges.{in_range_lem}
use Rattle.block.proofs.Answers.{write-accepted, block_written, block-answer, block-leaves}
use Rattle.sheet.specs.Sheet.{interleave, message_of, written_block, written_sheet, write_sheet_answer, write_sheet_leaves}
use Rattle.demands.specs.Examples.{small, wide, StarredExamples}
use Rattle.sheet.proofs.Entry.{write_rest}

abbrev read : List ℕ
read = 8 ∷ 14 ∷ 0 ∷ 0 ∷ []

abbrev upper : List ℕ
upper = 8 ∷ 14 ∷ 7 ∷ 1 ∷ []

abbrev lower : List ℕ
lower = 0 ∷ 0 ∷ 0 ∷ 0 ∷ []

-- the two codewords of the ambiguous block: once and no times the generator
upper-word : Codeword 4 3 0 upper
unfolding add double mul_bits mul power padd pscale pmul generator
upper-word = record { cells = refl; bytes = (omega arith, (omega arith, (omega arith, (omega arith, tt)))); quotient = 1 ∷ []; places = refl; divided = refl }

lower_word : Codeword 4 3 0 lower
unfolding add double mul_bits mul power padd pscale pmul generator
lower_word = record { cells = refl; bytes = (omega arith, (omega arith, (omega arith, (omega arith, tt)))); quotient = 0 ∷ []; places = refl; divided = refl }

-- each agrees with the read block outside its run
upper_agrees : (i : ℕ) → i < 4 → Outside 2 2 i → get_or read i 0 ≡ get_or upper i 0
upper_agrees zero l o = refl
upper_agrees (suc zero) l o = refl
upper_agrees (suc (suc i)) l o = absurd (⊎_elim (λ g. omega arith) (λ g. omega arith) o)

lower_agrees : (i : ℕ) → i < 4 → Outside 0 2 i → get_or read i 0 ≡ get_or lower i 0
lower_agrees zero l o = absurd (⊎_elim (λ g. omega arith) (λ g. omega arith) o)
lower_agrees (suc zero) l o = absurd (⊎_elim (λ g. omega arith) (λ g. omega arith) o)
lower_agrees (suc (suc i)) l o = refl

-- ---- from what computes to what the entries answer and leave

module _ (p : Profile) (t : in_range p ≡ true) where
  module _ (y : List ℕ) (h : length y ≡ p.n) where
    shows : (s f : ℕ) (c : List ℕ) → verdict p y ≡ Ok (Run s f) → corrected p y ≡ c → (out : List ℕ) → length out ≡ p.n → Corrects p y out s f c
    shows s f c q e out l =
        let v = (in_range_lem p).0 t in
        let a : correct_answer p y out ≡ Ok (Run s f) = block-answer p v y h out l ∙ q in
        record { accepted = ap verdict_number a; start = ap verdict_start a; size = ap verdict_length a; leaves = block-leaves p v y h out l (ap verdict_number q) ∙ e }

    shows_number : (k : ℕ) → verdict_number (verdict p y) ≡ k → (out : List ℕ) → length out ≡ p.n → verdict_number (correct_answer p y out) ≡ k
    shows_number k q out l = ap verdict_number (block-answer p ((in_range_lem p).0 t) y h out l) ∙ q

  shows_block : (m c : List ℕ) → length m ≡ message_length p → encode p.b p.r m ≡ c
      → (out : List ℕ) → length out ≡ p.n → (early_number (write_answer p m out) ≡ 0) × (write_leaves p m out ≡ c)
  shows_block m c k e out l = let v = (in_range_lem p).0 t in (ap early_number (write-accepted p v m out k l), block_written p v m out k l ∙ e)

  shows_sheet : (m s : List ℕ) → length m ≡ p.depth * message_length p → written_sheet p m ≡ s
      → (out : List ℕ) → length out ≡ p.depth * p.n → (early_number (write_sheet_answer p m out) ≡ 0) × (write_sheet_leaves p m out ≡ s)
  shows_sheet m s k e out l = let q = write_rest p m out ((in_range_lem p).0 t) k l in (ap early_number q.0, q.1 ∙ e)

pub starred_examples : StarredExamples
unfolding in_range add double mul_bits mul power squares inverse padd pscale pmul generator rem_step remainder back_step back_steps shifted_remainder added_at extent better scanned extents check_cells encode weight is_sparse run_verdict decided judged verdict filled corrected interleave message_of written_block written_sheet
starred_examples = (
  shows (small 0 1) refl _ refl 0 0 _ refl refl,
  (
    shows (small 1 1) refl _ refl 0 1 _ refl refl,
    (
      shows_number (small 0 1) refl _ refl 3 refl,
      (
        shows (small 2 1) refl _ refl 0 2 _ refl refl,
        (
          shows (small 2 1) refl _ refl 1 2 _ refl refl,
          (
            shows_number (small 1 1) refl _ refl 3 refl,
            (
              (
                shows_number (small 2 1) refl read refl 4 refl,
                record { run = omega arith; codeword = upper-word; agree = upper_agrees },
                record { run = omega arith; codeword = lower_word; agree = lower_agrees },
              ),
              (
                shows_number (small 2 1) refl _ refl 3 refl,
                (shows_block wide refl _ _ refl refl, (shows_block wide refl _ _ refl refl, (shows_sheet (small 0 2) refl _ _ refl refl, tt))),
              ),
            ),
          ),
        ),
      ),
    ),
  ),
)
