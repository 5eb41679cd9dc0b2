-- Every refusal of the entries on a sheet: the laws of `refusing` say exactly when 1 and 2 come, and what the blocks answer is none of them.
use mathlib.Core.Path.{◌≡◌, refl, sym}
use mathlib.Core.Logic.{◌≢◌, ◌⊎◌, ⊎_elim}
use mathlib.Core.Bool.{Bool, true}
use mathlib.Core.List.{List}
use Rattle.std.specs.Prelude.{Result, Ok, Err, ⊤}
use Rattle.std.specs.Result.{is_ok}
use Prim.Native.Nat.{ℕ, zero, suc, ◌+◌, ◌*◌}
use native.Mathlib.Omega.{arith}
use lib.ListN.{length, replicate}
use Rattle.lists.specs.Choice.{pick}
use Rattle.lists.proofs.Test.{true_or_false}
use Rattle.profile.specs.Profile.{in_range, message_length}
use Rattle.profile.specs.Numbers.{early_number}
use Rattle.answers.proofs.Numbers.{no_place, no_value}
use Rattle.block.specs.Numbers.{Verdict, verdict_number}
use Rattle.profile.specs.Refusals.{EarlyRefusals}
use Rattle.profile.specs.declared.Profile.{Profile}
use Rattle.profile.specs.declared.refusals.Refusal.{Refusal as EarlyRefusal}
use Rattle.profile.specs.declared.refusals.Refusal.TheVariants as ones
use Rattle.profile.proofs.Ranges.{in_range_lem}
use Rattle.profile.proofs.Refusing.{early_of, kept_of}
use Rattle.sheet.specs.declared.Mode.{Mode}
use Rattle.sheet.specs.declared.Refusal.TheVariants.{BadProfile, WrongLength}
use Rattle.sheet.specs.Sheet.{written_sheet, write_sheet_fits, write_sheet_answer, write_sheet_leaves, read_block, block_verdict, unless_refused, changed_at, answer_from, sheet_answer, sheet_payload, read_fits, read_answer, read_scratch, read_payload}
use Rattle.sheet.specs.Numbers.{Reading, refusal_number, reading_number, reading_place}
use Rattle.sheet.specs.Theorems.{WriteSheetRefusals, ReadRefusals, SheetRefusals}
use Rattle.sheet.proofs.Modes.{late_in}
use Rattle.sheet.proofs.Entry.{write_lengths, write_fits_lem, read_lengths, read_fits_lem, read_bad, read_wrong, read-rest}

-- ---- the writer

module _ (p : Profile) (m cells : List ℕ) where
  write_refusals : WriteSheetRefusals p m cells
  unfolding write_sheet_answer write_sheet_leaves
  write_refusals = record {
    early =
        early_of p (write_sheet_fits p (length m) (length cells)) _ (write_lengths p (length m) (length cells), λ z. write_fits_lem p (length m) (length cells) z.0 z.1)
        (λ (a : Result ⊤ EarlyRefusal). early_number a) (Err ones.BadProfile) (Err ones.WrongLength) (Ok tt) refl refl (λ q. omega arith) (λ q. omega arith);
    place = no_place (write_sheet_answer p m cells);
    kept = λ n. kept_of p (write_sheet_fits p (length m) (length cells)) (λ (a : Result ⊤ EarlyRefusal). early_number a) (Err ones.BadProfile) (Err ones.WrongLength) (Ok tt) cells (written_sheet p m) refl n;
  }

-- ---- the reader

abbrev pub Late : Reading → Type 0
Late r = (reading_number r ≢ 1) × (reading_number r ≢ 2)

-- a block's refusal that is neither is the sheet's
late-unless : (v : Verdict) (d : ℕ) (rest : Reading) → (verdict_number v ≢ 1) × (verdict_number v ≢ 2) → Late rest → Late (unless_refused v d rest)
late-unless (Ok c) d rest h k = k
late-unless (Err e) d rest h k = h

-- what the blocks answer is neither refusal 1 nor 2
module _ (mode : Mode) (p : Profile) (sheet : List ℕ) where
  blocks_late : (left d changed : ℕ) → Late (answer_from mode p sheet left d changed)
  unfolding answer_from block_verdict
  blocks_late zero d changed = (λ q. omega arith, λ q. omega arith)
  blocks_late (suc left) d changed =
      late-unless (block_verdict mode p sheet d) d (answer_from mode p sheet left (suc d) (changed + changed_at mode p sheet d)) (late_in mode p (read_block p sheet d))
      (blocks_late left (suc d) (changed + changed_at mode p sheet d))

  pub sheet-late : Late (sheet_answer mode p sheet)
  unfolding sheet_answer
  sheet-late = blocks_late p.depth 0 0

accepted_0 : (r : Reading) → is_ok r ≡ true → reading_number r ≡ 0
accepted_0 (Ok changed) t = refl
accepted_0 (Err r) t = absurd (cc)

module _ (mode : Mode) (p : Profile) (sheet scratch out : List ℕ) where
  abbrev answer : Reading
  answer = read_answer mode p sheet scratch out

  abbrev fits : Bool
  fits = read_fits p (length sheet) (length scratch) (length out)

  early : EarlyRefusals p ((length sheet ≡ p.depth * p.n) × (length scratch ≡ p.n) × (length out ≡ p.depth * message_length p)) (reading_number answer)
  unfolding read_answer
  early =
      early_of p fits _ (read_lengths p (length sheet) (length scratch) (length out), λ z. read_fits_lem p (length sheet) (length scratch) (length out) z.0 z.1 z.2) reading_number
      (Err BadProfile) (Err WrongLength) (sheet_answer mode p sheet) refl refl (sheet-late mode p sheet).0 (sheet-late mode p sheet).1

  -- the three ways of the entry: what holds of each holds of it
  by_case : (P : Reading → List ℕ → List ℕ → Type 0) → P (Err BadProfile) scratch out → P (Err WrongLength) scratch out
      → P (sheet_answer mode p sheet) (replicate (length scratch) 0) (pick (is_ok (sheet_answer mode p sheet)) (sheet_payload mode p sheet) out)
      → P answer (read_scratch mode p sheet scratch out) (read_payload mode p sheet scratch out)
  by_case P one two rest =
      ⊎_elim
      (λ t. ⊎_elim
      (λ f.
      let l = read_lengths p (length sheet) (length scratch) (length out) f in
      let q = read-rest mode p sheet scratch out ((in_range_lem p).0 t) l.0 l.1 l.2 in
      rw (q.0, q.1, q.2) rest)
      (λ f. let q = read_wrong mode p sheet scratch out t f in rw (sym q.0, sym q.1.0, sym q.1.1) two) (true_or_false fits))
      (λ t. let q = read_bad mode p sheet scratch out t in rw (sym q.0, sym q.1.0, sym q.1.1) one) (true_or_false (in_range p))

  kept-rest : (r : Reading) (m : List ℕ) → reading_number r ≢ 0 → pick (is_ok r) m out ≡ out
  kept-rest r m n = ⊎_elim (λ t. absurd (n (accepted_0 r t))) (λ t. rw t) (true_or_false (is_ok r))

  not_early : {A : Type 0} → (reading_number (sheet_answer mode p sheet) ≡ 1) ⊎ (reading_number (sheet_answer mode p sheet) ≡ 2) → A
  not_early e = absurd (⊎_elim (sheet-late mode p sheet).0 (sheet-late mode p sheet).1 e)

  read_refusals : ReadRefusals mode p sheet scratch out
  read_refusals = record {
    early = early;
    place = by_case (λ r s m. (reading_number r ≡ 1) ⊎ (reading_number r ≡ 2) → reading_place r ≡ 0) (λ e. refl) (λ e. refl) not_early;
    scratch_kept = by_case (λ r s m. (reading_number r ≡ 1) ⊎ (reading_number r ≡ 2) → s ≡ scratch) (λ e. refl) (λ e. refl) not_early;
    out_kept = by_case (λ r s m. reading_number r ≢ 0 → m ≡ out) (λ n. refl) (λ n. refl) (kept-rest (sheet_answer mode p sheet) (sheet_payload mode p sheet));
    changed = no_value (λ (n : ℕ). n) refusal_number answer;
  }

pub sheet_refusals : (p : Profile) → SheetRefusals p
sheet_refusals p = record { writes = write_refusals p; reads = λ mode. read_refusals mode p }
