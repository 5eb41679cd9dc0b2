-- The entries' cases: the lengths' tests, and what each case answers and leaves, by the laws of `refusing`.
use mathlib.Core.Path.{◌≡◌, refl, sym, ◌∙◌}
use mathlib.Core.Bool.{Bool, true, false}
use mathlib.Core.List.{List}
use Rattle.std.specs.Prelude.{Result, Ok, Err, ⊤}
use Rattle.std.specs.Result.{is_ok}
use Prim.Native.Nat.{ℕ, ◌*◌}
use lib.Dec.{eqb}
use lib.ListN.{length, replicate}
use borrow.Author.Tests.{eq-eqb, eqb-true}
use Rattle.lists.specs.Choice.{pick, both}
use Rattle.lists.proofs.Test.{both_true}
use Rattle.profile.specs.Profile.{InRange, in_range, message_length}
use Rattle.profile.specs.declared.Profile.{Profile}
use Rattle.profile.specs.declared.refusals.Refusal.{Refusal as EarlyRefusal}
use Rattle.profile.specs.declared.refusals.Refusal.TheVariants as early
use Rattle.profile.specs.Refusals.{refusing}
use Rattle.profile.proofs.Ranges.{in_range_lem}
use Rattle.profile.proofs.Refusing.{refuse_one, refuse_two, accept, not_admitted}
use Rattle.sheet.specs.declared.Mode.{Mode}
use Rattle.sheet.specs.declared.Refusal.TheVariants.{BadProfile, WrongLength}
use Rattle.sheet.specs.Numbers.{Reading, read_early}
use Rattle.sheet.specs.Sheet.{written_sheet, write_sheet_fits, write_sheet_answer, write_sheet_leaves, sheet_answer, sheet_payload, read_fits, read_answer, read_scratch, read_payload}

-- ---- the writer

module _ (p : Profile) (payload sheet : ℕ) where
  pub write_fits_lem : payload ≡ p.depth * message_length p → sheet ≡ p.depth * p.n → write_sheet_fits p payload sheet ≡ true
  unfolding write_sheet_fits
  write_fits_lem e f = rw (eq-eqb _ _ e, eq-eqb _ _ f)

  pub write_lengths : write_sheet_fits p payload sheet ≡ true → (payload ≡ p.depth * message_length p) × (sheet ≡ p.depth * p.n)
  unfolding write_sheet_fits
  write_lengths t =
      let a = both_true (eqb payload (p.depth * message_length p)) (eqb sheet (p.depth * p.n)) t in
      (eqb-true _ _ a.0, eqb-true _ _ a.1)

module _ (p : Profile) (payload sheet : List ℕ) where
  abbrev lengths : Bool
  lengths = write_sheet_fits p (length payload) (length sheet)

  -- the answer, and what stands in the sheet afterwards
  abbrev pub Written : Result ⊤ EarlyRefusal → List ℕ → Type 0
  Written r s = (r ≡ write_sheet_answer p payload sheet) × (s ≡ write_sheet_leaves p payload sheet)

  -- what `Profile::admit` refuses
  pub write_refused : (e : EarlyRefusal) → ◌≡◌ {A = Result ⊤ EarlyRefusal} (refusing p lengths (Err early.BadProfile) (Err early.WrongLength) (Ok tt)) (Err e) → Written (Err e) sheet
  unfolding write_sheet_answer write_sheet_leaves
  write_refused e q =
      (not_admitted p lengths (λ (x : EarlyRefusal). Err x) (Ok tt) e q, not_admitted p lengths (λ (x : EarlyRefusal). sheet) (written_sheet p payload) e q)

  module _ (t : in_range p ≡ true) where
    pub write_done : write_sheet_fits p (length payload) (length sheet) ≡ true → (s : List ℕ) → s ≡ written_sheet p payload
        → Written (Ok tt) s
    unfolding write_sheet_answer write_sheet_leaves
    write_done f s e = (accept p _ _ _ _ t f, e ∙ accept p _ _ _ _ t f)

-- profile and lengths right
pub write_rest : (p : Profile) (payload sheet : List ℕ) → InRange p → length payload ≡ p.depth * message_length p → length sheet ≡ p.depth * p.n
    → (write_sheet_answer p payload sheet ≡ Ok tt) × (write_sheet_leaves p payload sheet ≡ written_sheet p payload)
write_rest p payload sheet v e f =
    let q = write_done p payload sheet ((in_range_lem p).1 v) (write_fits_lem p (length payload) (length sheet) e f) (written_sheet p payload) refl in
    (sym q.0, sym q.1)

-- ---- the reader

module _ (p : Profile) (sheet scratch payload : ℕ) where
  pub read_fits_lem : sheet ≡ p.depth * p.n → scratch ≡ p.n → payload ≡ p.depth * message_length p → read_fits p sheet scratch payload ≡ true
  unfolding read_fits
  read_fits_lem e q f = rw (eq-eqb _ _ e, eq-eqb _ _ q, eq-eqb _ _ f)

  pub read_lengths : read_fits p sheet scratch payload ≡ true → (sheet ≡ p.depth * p.n) × (scratch ≡ p.n) × (payload ≡ p.depth * message_length p)
  unfolding read_fits
  read_lengths t =
      let a = both_true (eqb sheet (p.depth * p.n)) (both (eqb scratch p.n) (eqb payload (p.depth * message_length p))) t in
      let b = both_true (eqb scratch p.n) (eqb payload (p.depth * message_length p)) a.1 in
      (eqb-true _ _ a.0, eqb-true _ _ b.0, eqb-true _ _ b.1)

module _ (mode : Mode) (p : Profile) (sheet scratch out : List ℕ) where
  -- the answer and what stands in both buffers afterwards
  abbrev pub Read : Reading → List ℕ → List ℕ → Type 0
  Read r s m = (r ≡ read_answer mode p sheet scratch out) × ((s ≡ read_scratch mode p sheet scratch out) × (m ≡ read_payload mode p sheet scratch out))

  abbrev fits : Bool
  fits = read_fits p (length sheet) (length scratch) (length out)

  -- what `Profile::admit` refuses
  pub read_refused : (e : EarlyRefusal) → ◌≡◌ {A = Result ⊤ EarlyRefusal} (refusing p fits (Err early.BadProfile) (Err early.WrongLength) (Ok tt)) (Err e) → Read (Err (read_early e)) scratch out
  unfolding read_answer read_scratch read_payload
  read_refused e q = (
    not_admitted p fits (λ (x : EarlyRefusal). Err (read_early x)) (sheet_answer mode p sheet) e q,
    (
      not_admitted p fits (λ (x : EarlyRefusal). scratch) (replicate (length scratch) 0) e q,
      not_admitted p fits (λ (x : EarlyRefusal). out) (pick (is_ok (sheet_answer mode p sheet)) (sheet_payload mode p sheet) out) e q,
    ),
  )

  pub read_bad : in_range p ≡ false → Read (Err BadProfile) scratch out
  unfolding read_answer read_scratch read_payload
  read_bad t = (refuse_one p _ _ _ _ t, (refuse_one p _ _ _ _ t, refuse_one p _ _ _ _ t))

  module _ (t : in_range p ≡ true) where
    pub read_wrong : fits ≡ false → Read (Err WrongLength) scratch out
    unfolding read_answer read_scratch read_payload
    read_wrong f = (refuse_two p _ _ _ _ t f, (refuse_two p _ _ _ _ t f, refuse_two p _ _ _ _ t f))

    module _ (f : read_fits p (length sheet) (length scratch) (length out) ≡ true) where
      -- past the refusals 1 and 2
      pub read_past : Read (sheet_answer mode p sheet) (replicate (length scratch) 0) (pick (is_ok (sheet_answer mode p sheet)) (sheet_payload mode p sheet) out)
      unfolding read_answer read_scratch read_payload
      read_past = (accept p _ _ _ _ t f, (accept p _ _ _ _ t f, accept p _ _ _ _ t f))

-- profile and lengths right
pub read-rest : (mode : Mode) (p : Profile) (sheet scratch out : List ℕ) → InRange p → length sheet ≡ p.depth * p.n → length scratch ≡ p.n → length out ≡ p.depth * message_length p
    → (read_answer mode p sheet scratch out ≡ sheet_answer mode p sheet) × (read_scratch mode p sheet scratch out ≡ replicate (length scratch) 0)
    × (read_payload mode p sheet scratch out ≡ pick (is_ok (sheet_answer mode p sheet)) (sheet_payload mode p sheet) out)
read-rest mode p sheet scratch out v e f g =
    let q = read_past mode p sheet scratch out ((in_range_lem p).1 v) (read_fits_lem p (length sheet) (length scratch) (length out) e f g) in
    (sym q.0, sym q.1.0, sym q.1.1)
