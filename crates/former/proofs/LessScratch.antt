-- Both readers go by the same three cases. Whether their buffers fit is the same test but for the scratch, and that is answered alike where each scratch has its
-- own length or neither has; the rest of both definitions is one text.
use mathlib.Core.Path.{◌≡◌, sym, ap, ap₂, ◌∙◌}
use mathlib.Core.Logic.{◌↔◌, ◌≢◌, ◌⊎◌, inl, inr, ⊎_elim}
use mathlib.Core.Bool.{Bool, true}
use mathlib.Core.List.{List}
use Prim.Native.Nat.{ℕ, ◌*◌, ◌≤◌}
use native.Mathlib.Nat.{mul-le-mul_right}
use native.Mathlib.Omega.{arith}
use Rattle.std.specs.Prelude.{Err, is_ok}
use lib.Dec.{eqb}
use lib.ListN.{length, replicate, length-replicate}
use borrow.Author.Tests.{eqb-true, eq-eqb, ne_eqb}
use Rattle.lists.specs.Choice.{pick, both}
use Rattle.lists.proofs.Test.{true_or_false, true_false, both_true}
use Rattle.profile.specs.Profile.{in_range, message_length}
use Rattle.profile.specs.Refusals.{refusing}
use Rattle.profile.proofs.Refusing.{refuse_one, refuse_two, accept}
use Rattle.profile.specs.declared.Profile.{Profile}
use Rattle.sheet.specs.declared.Mode.{Mode}
use Rattle.sheet.specs.declared.Mode.TheVariants.{Burst}
use Rattle.sheet.specs.declared.Refusal.TheVariants.{BadProfile, WrongLength}
use Rattle.sheet.specs.Sheet.{sheet_answer, sheet_payload, read_fits, read_answer, read_scratch, read_payload}
use Rattle.sheet.specs.Numbers.{Reading, reading_number}
use Rattle.sheet.proofs.Entry.{read_lengths}
use Rattle.sheet.proofs.Refusals.{Late, sheet-late, sheet_refusals}
use Rattle.listing.specs.Listing.{scratch_buffer, payload_buffer, sheet_answer_text, sheet_text}
use Rattle.former.specs.FormerReader.{former_read_fits, former_read_answer, former_read_scratch, former_read_payload}
use Rattle.former.specs.LessScratch.{AsFormerReader, TextAsFormer, SameRule, FormerScratchRefused}

-- two tests that are true together are one
same_test : (a b c d : ℕ) → (a ≡ b) ↔ (c ≡ d) → eqb a b ≡ eqb c d
same_test a b c d e =
    ⊎_elim (λ t. t ∙ sym (eq-eqb c d (e.0 (eqb-true a b t)))) (λ t. t ∙ sym (ne_eqb c d (λ q. true_false (eq-eqb a b (e.1 q)) t))) (true_or_false (eqb a b))

module _ (p : Profile) (sheet out small large : ℕ) (e : (small ≡ p.n) ↔ (large ≡ p.depth * p.n)) where
  same-fits : read_fits p sheet small out ≡ former_read_fits p sheet large out
  unfolding read_fits former_read_fits
  same-fits = ap (λ (t : Bool). both (eqb sheet (p.depth * p.n)) (both t (eqb out (p.depth * message_length p)))) (same_test small p.n large (p.depth * p.n) e)

pub as_former_reader : AsFormerReader
unfolding read_answer read_payload former_read_answer former_read_payload
as_former_reader mode p sheet out small large e =
    let f = same-fits p (length sheet) (length out) (length small) (length large) e in
    record {
      answer = ap (λ (t : Bool). refusing p t (Err BadProfile) (Err WrongLength) (sheet_answer mode p sheet)) f;
      payload = ap (λ (t : Bool). refusing p t out out (pick (is_ok (sheet_answer mode p sheet)) (sheet_payload mode p sheet) out)) f;
    }

pub text_as_former : TextAsFormer
unfolding sheet_text
text_as_former p sheet =
    let own = length-replicate {A = ℕ} p.n 0 in
    let former = length-replicate {A = ℕ} (p.depth * p.n) 0 in
    let same = as_former_reader Burst p sheet (payload_buffer p) (scratch_buffer p) (replicate (p.depth * p.n) 0) (λ e. former, λ e. own) in
    ap₂ sheet_answer_text same.answer same.payload

-- ---- the scratch

-- by the three cases, of a reader whose scratch has m bytes where its buffers fit
module _ (p : Profile) (fits : Bool) (rest : Reading) (late : Late rest) (scratch : List ℕ) (m : ℕ) (long : fits ≡ true → length scratch ≡ m) where
  abbrev number : ℕ
  number = reading_number (refusing p fits (Err BadProfile) (Err WrongLength) rest)

  abbrev left : List ℕ
  left = refusing p fits scratch scratch (replicate (length scratch) 0)

  by_case : ((number ≡ 1) × (left ≡ scratch)) ⊎ (((number ≡ 2) × (left ≡ scratch)) ⊎ ((number ≢ 1) × (number ≢ 2) × (left ≡ replicate m 0)))
  by_case =
      ⊎_elim
      (λ t. ⊎_elim
      (λ f.
      let q = accept p fits (Err BadProfile) (Err WrongLength) rest t f in
      inr (inr (λ z. late.0 (ap reading_number q ∙ z), λ z. late.1 (ap reading_number q ∙ z), sym (accept p fits scratch scratch _ t f) ∙ ap (λ (k : ℕ). replicate k 0) (long f))))
      (λ f. inr (inl (ap reading_number (sym (refuse_two p fits (Err BadProfile) (Err WrongLength) rest t f)), sym (refuse_two p fits scratch scratch _ t f)))) (true_or_false fits))
      (λ t. inl (ap reading_number (sym (refuse_one p fits (Err BadProfile) (Err WrongLength) rest t)), sym (refuse_one p fits scratch scratch _ t))) (true_or_false (in_range p))

  kept_then : (number ≡ 1) ⊎ (number ≡ 2) → left ≡ scratch
  kept_then e = ⊎_elim (λ z. z.1) (λ w. ⊎_elim (λ z. z.1) (λ z. absurd (⊎_elim z.0 z.1 e)) w) by_case

  cleared_then : number ≢ 1 → number ≢ 2 → left ≡ replicate m 0
  cleared_then a b = ⊎_elim (λ z. absurd (a z.0)) (λ w. ⊎_elim (λ z. absurd (b z.0)) (λ z. z.2) w) by_case

-- what the former test says of the scratch
former_long : (p : Profile) (sheet scratch out : ℕ) → former_read_fits p sheet scratch out ≡ true → scratch ≡ p.depth * p.n
unfolding former_read_fits
former_long p sheet scratch out t =
    let a = both_true (eqb sheet (p.depth * p.n)) (both (eqb scratch (p.depth * p.n)) (eqb out (p.depth * message_length p))) t in
    eqb-true _ _ (both_true (eqb scratch (p.depth * p.n)) (eqb out (p.depth * message_length p)) a.1).0

module _ (mode : Mode) (p : Profile) (sheet out scratch : List ℕ) where
  long : read_fits p (length sheet) (length scratch) (length out) ≡ true → length scratch ≡ p.n
  long t = (read_lengths p (length sheet) (length scratch) (length out) t).1

  pub same_rule : SameRule mode p sheet out scratch
  unfolding read_answer read_scratch former_read_answer former_read_scratch
  same_rule = record {
    kept = kept_then p _ (sheet_answer mode p sheet) (sheet-late mode p sheet) scratch p.n long;
    cleared = cleared_then p _ (sheet_answer mode p sheet) (sheet-late mode p sheet) scratch p.n long;
    former_kept = kept_then p _ (sheet_answer mode p sheet) (sheet-late mode p sheet) scratch (p.depth * p.n) (former_long p (length sheet) (length scratch) (length out));
    former_cleared = cleared_then p _ (sheet_answer mode p sheet) (sheet-late mode p sheet) scratch (p.depth * p.n) (former_long p (length sheet) (length scratch) (length out));
  }

pub former_scratch_refused : FormerScratchRefused
former_scratch_refused mode p sheet scratch out v d e =
    let r = (sheet_refusals p).reads mode sheet scratch out in
    let two : reading_number (read_answer mode p sheet scratch out) ≡ 2 =
    r.early.two.1 (
      v,
      λ z.
          let more : 2 * p.n ≤ p.depth * p.n = mul-le-mul_right p.n d in
          omega (arith, more, e, z.1, v.r_below),
    ) in
    (two, r.place (inr two))
