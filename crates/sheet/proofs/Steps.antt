-- One law for each turn of the writer's and the reader's loops over the blocks, from what the calls in it leave; what is kept of a block between the
-- reader's two loops is in Passes.antt.
use mathlib.Core.Path.{◌≡◌, refl, sym, ap, ap₂, ◌∙◌}
use mathlib.Core.Logic.{⊎_elim}
use mathlib.Core.List.{List}
use Rattle.std.specs.Prelude.{Ok, Err}
use Rattle.std.specs.Result.{is_ok}
use Prim.Native.Nat.{ℕ, suc, ◌+◌, ◌*◌, ◌-◌, ◌≤◌, ◌<◌}
use native.Mathlib.Nat.{eq-or-lt_of_le}
use native.Mathlib.Numerals.{add-one}
use native.Mathlib.Omega.{arith}
use lib.ListN.{length, get_or}
use lib.Dec.{eqb}
use Rattle.lists.proofs.Test.{true_or_false}
use Rattle.lists.specs.Bytes.{Bytes}
use Rattle.profile.specs.Profile.{InRange, message_length}
use Rattle.block.specs.Block.{encode}
use Rattle.block.specs.Numbers.{Verdict, verdict_number}
use Rattle.profile.specs.declared.Profile.{Profile}
use Rattle.block.specs.declared.numbers.Correction.{Correction}
use Rattle.block.specs.declared.numbers.Refusal as block
use Rattle.sheet.specs.declared.Refusal.{Refusal}
use Rattle.sheet.specs.declared.Mode.{Mode}
use Rattle.sheet.specs.declared.Refusal.TheVariants.{Block}
use Rattle.sheet.specs.Modes.{word_in}
use Rattle.sheet.specs.Sheet.{message_of, written_block, written_sheet, read_block, block_verdict, codeword, changed_at, answer_from, sheet_answer}
use Rattle.sheet.specs.Steps.{Laid, size_of, changed_by, refused_at}
use Rattle.sheet.proofs.Apart.{is_interleave}
use Rattle.sheet.proofs.Differ.{differ-number}
use Rattle.sheet.proofs.Modes.{block_law}
use Rattle.sheet.proofs.SheetAnswer.{answer_on, answer_stop, answer-end}
use Rattle.sheet.proofs.Theorems.{block_cells}

-- ---- reading

module _ (mode : Mode) (p : Profile) (v : InRange p) (sheet : List ℕ) (d : ℕ) where
  -- the correction tells whether the block was changed
  pub changed_is : Bytes sheet → (c : Correction) → block_verdict mode p sheet d ≡ Ok c → changed_by (size_of c) ≡ changed_at mode p sheet d
  unfolding block_verdict changed_at codeword
  changed_is h c e =
      let y : List ℕ = read_block p sheet d in
      differ-number (size_of c) (word_in mode p y) y (rw e at ((block_law mode p y v (block_cells p sheet d h)).changed (ap verdict_number e)))

pub changed-small : (size : ℕ) → changed_by size ≤ 1
changed-small size = ⊎_elim (λ e. rw e (omega arith)) (λ e. rw e (omega arith)) (true_or_false (eqb size 0))

-- what a block's verdict was, where it is passed on as the sheet's
refused-is : (d : ℕ) (v : Verdict) (e : Refusal) → Err e ≡ refused_at d v → (r : block.Refusal) × (v ≡ Err r) × (e ≡ Block d (Err r))
refused-is d (Ok c) e q = absurd (cc)
refused-is d (Err r) e q = (r, refl, cc)

pub accepted-is : (d : ℕ) (v : Verdict) (c : Correction) → Ok c ≡ refused_at d v → v ≡ Ok c
accepted-is d (Ok c') c q = cc
accepted-is d (Err r) c q = absurd (cc)

module _ (mode : Mode) (p : Profile) (sheet : List ℕ) where
  pub turn-start : sheet_answer mode p sheet ≡ answer_from mode p sheet (p.depth - 0) 0 0
  unfolding sheet_answer
  turn-start = ap (λ (m : ℕ). answer_from mode p sheet m 0 0) (omega arith)

  -- block d, where blocks are left
  module _ (d changed : ℕ) (l : d < p.depth) (q : sheet_answer mode p sheet ≡ answer_from mode p sheet (p.depth - d) d changed) where
    left : p.depth - d ≡ suc (p.depth - (d + 1))
    left = omega arith

    pub turn_on : InRange p → Bytes sheet → (c : Correction) → block_verdict mode p sheet d ≡ Ok c
        → sheet_answer mode p sheet ≡ answer_from mode p sheet (p.depth - (d + 1)) (d + 1) (changed + changed_by (size_of c))
    turn_on v h c e =
        let a : answer_from mode p sheet (p.depth - d) d changed ≡ answer_from mode p sheet (p.depth - (d + 1)) (suc d) (changed + changed_at mode p sheet d) =
        rw left (answer_on mode p sheet (p.depth - (d + 1)) d changed (ap is_ok e)) in
        q ∙ a ∙ ap₂ (answer_from mode p sheet (p.depth - (d + 1))) (sym (add-one d)) (ap (λ (x : ℕ). changed + x) (sym (changed_is mode p v sheet d h c e)))

    pub turn_stop : (v : Verdict) → v ≡ block_verdict mode p sheet d → (e : Refusal) → Err e ≡ refused_at d v → Err e ≡ sheet_answer mode p sheet
    turn_stop v j e t =
        let r = refused-is d v e t in
        let a : answer_from mode p sheet (p.depth - d) d changed ≡ Err (Block d (Err r.0)) = rw left (answer_stop mode p sheet (p.depth - (d + 1)) d changed r.0 (sym j ∙ r.1)) in
        ap (λ (x : Refusal). Err x) r.2 ∙ sym (q ∙ a)

  pub turn_end : (d changed : ℕ) → d ≡ p.depth → sheet_answer mode p sheet ≡ answer_from mode p sheet (p.depth - d) d changed → Ok changed ≡ sheet_answer mode p sheet
  turn_end d changed e q =
      let z : p.depth - d ≡ 0 = omega arith in
      let a : answer_from mode p sheet (p.depth - d) d changed ≡ Ok changed = rw z (answer-end mode p sheet d changed) in
      sym (q ∙ a)

-- ---- writing

module _ (p : Profile) (payload : List ℕ) where
  -- the blocks below d are written
  abbrev pub WrittenBelow : ℕ → List ℕ → Type 0
  WrittenBelow d s = (e : ℕ) → e < d → (i : ℕ) → i < p.n → get_or s (i * p.depth + e) 0 ≡ get_or (written_block p payload e) i 0

  pub written-more : (d : ℕ) (m s t : List ℕ) → d < p.depth → m ≡ message_of (message_length p) payload d
      → Laid p.depth p.n d (encode p.b p.r m) s t → WrittenBelow d s → WrittenBelow (d + 1) t
  unfolding written_block
  written-more d m s t l q h w e k i b =
      ⊎_elim
      (λ z. ap (λ (x : ℕ). get_or t (i * p.depth + x) 0) z ∙ h.cells i b ∙ ap (λ (x : List ℕ). get_or (encode p.b p.r x) i 0) (q ∙ ap (message_of (message_length p) payload) (sym z)))
      (λ z. h.others i e (omega arith) (λ y. omega arith) ∙ w e z i b)
      (eq-or-lt_of_le (let z : e ≤ d = omega arith in z))

  pub written_all : (d : ℕ) (s : List ℕ) → d ≡ p.depth → length s ≡ p.depth * p.n → WrittenBelow d s → s ≡ written_sheet p payload
  unfolding written_sheet
  written_all d s e c w = is_interleave p.depth p.n (written_block p payload) s c (λ f l i b. w f (omega arith) i b)
