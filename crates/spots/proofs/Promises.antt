-- The promises of specs/Promises.antt. Where profile and lengths are right the entry answers the verdict, of which Verdicts.antt says what it means; else
-- it answers refusal 1 or 2.
use mathlib.Core.Path.{◌≡◌, refl, sym, ap, ◌∙◌}
use mathlib.Core.Logic.{◌↔◌, ◌≢◌, ◌⊎◌, inl, inr, ⊎_elim}
use mathlib.Core.List.{List}
use Rattle.std.specs.Prelude.{Ok, Err}
use Prim.Native.Nat.{ℕ, ◌<◌}
use native.Mathlib.Omega.{arith}
use lib.ListN.{length}
use Rattle.code.specs.Code.{distance}
use Rattle.locator.proofs.Theorems.{nearest_only}
use Rattle.profile.specs.Profile.{InRange, half}
use Rattle.profile.specs.Refusals.{EarlyRefusals}
use Rattle.answers.proofs.Numbers.{no_place}
use Rattle.profile.proofs.Refusing.{refusing_of, same-refusing, early_of}
use Rattle.block.specs.Block.{correct_fits}
use Rattle.block.specs.Numbers.{Verdict, verdict_number, verdict_count, verdict_lowest}
use Rattle.block.specs.Promises.{LentBlock}
use Rattle.block.proofs.Entries.{same-fits}
use Rattle.block.proofs.Promises.{two_lengths}
use Rattle.block.proofs.NumberLaws.{case_of, no_values}
use Rattle.profile.specs.declared.Profile.{Profile}
use Rattle.block.specs.declared.numbers.Correction.TheVariants.{Cells}
use Rattle.block.specs.declared.numbers.Refusal.TheVariants.{BadProfile, WrongLength}
use Rattle.spots.specs.Spots.{spot_verdict, spot_word, spot_answer, spot_leaves}
use Rattle.spots.specs.Nearest.{Near, NoneNear, NearestWord}
use Rattle.spots.specs.Promises.{CorrectsCells, CorrectedCellsIff, TooManyErrorsIff, NoTie, NearComesBack, LimitFree, SpotRefusals}
use Rattle.spots.proofs.Words.{word-or-not}
use Rattle.spots.proofs.Verdicts.{spot_none, spot_one, spot_some, spot_near}
use Rattle.spots.proofs.Answers.{spot_of, spot-late, same-verdict, same_word, spot-kept, spot-answer, spot-leaves}

module _ (p : Profile) (y out : List ℕ) (v : InRange p) (h : LentBlock p y out) where
  is_verdict : spot_answer p y out ≡ spot_verdict p y
  is_verdict = spot-answer p v y h.cells.count out h.second

  leaves_word : {t j : ℕ} → spot_verdict p y ≡ Ok (Cells t j) → spot_leaves p y out ≡ spot_word p y
  leaves_word q = spot-leaves p v y h.cells.count out h.second (ap verdict_number q)

  corrects : (t j : ℕ) (c : List ℕ) → NearestWord p y t j c → CorrectsCells p y out t j c
  corrects t j c o =
      let q = (spot_one p y v h.cells t j c).1 o in
      let a : spot_answer p y out ≡ Ok (Cells t j) = is_verdict ∙ q.0 in
      record { accepted = ap verdict_number a; count = ap verdict_count a; lowest = ap verdict_lowest a; leaves = leaves_word q.0 ∙ q.1 }

  -- an accepted block has its codeword
  nearest : (t j : ℕ) (c : List ℕ) → CorrectsCells p y out t j c → NearestWord p y t j c
  nearest t j c k =
      ⊎_elim
      (λ n. absurd (let z : ◌≡◌ {A = ℕ} 11 0 = sym (ap verdict_number (is_verdict ∙ (spot_none p y v h.cells).1 n)) ∙ k.accepted in omega arith))
      (λ o.
      let m = corrects o.0 o.1 o.2 o.3 in
      same (sym m.count ∙ k.count) (sym m.lowest ∙ k.lowest) (sym m.leaves ∙ k.leaves) o.3)
      (spot_some p y v h.cells)
    where
      same : {t' j' : ℕ} {c' : List ℕ} → t' ≡ t → j' ≡ j → c' ≡ c → NearestWord p y t' j' c' → NearestWord p y t j c
      same et ej ec o = rw (sym et, sym ej, sym ec) o

  too_many : (verdict_number (spot_answer p y out) ≡ 11) ↔ NoneNear p y
  too_many = (
    λ q. ⊎_elim (λ n. n)
        (λ o. absurd (let z : ◌≡◌ {A = ℕ} 0 11 = sym (corrects o.0 o.1 o.2 o.3).accepted ∙ q in omega arith)) (spot_some p y v h.cells),
    λ n. ap verdict_number (is_verdict ∙ (spot_none p y v h.cells).1 n),
  )

pub corrected-cells_iff : CorrectedCellsIff
corrected-cells_iff p y out t j c v h = (nearest p y out v h t j c, corrects p y out v h t j c)

pub too_many_errors_iff : TooManyErrorsIff
too_many_errors_iff = too_many

pub near_comes_back : NearComesBack
near_comes_back p y out c v h k =
    let o = spot_near p y v h.cells c k in
    let m = corrects p y out v h o.0 o.1 c o.2 in
    (m.accepted, m.leaves)

pub no_tie : NoTie
no_tie p y c d v e j k =
    let closer : (a b : List ℕ) → Near p y a → Near p y b → b ≢ a → distance y a < distance y b =
    λ a b l m n. nearest_only p.n p.r p.b (half p) y a b v.n_most e (omega arith) l m.word n in
    ⊎_elim (λ q. q) (λ n. absurd (let z : distance y c < distance y d = closer c d j k (λ q. n (sym q)) in let w : distance y d < distance y c = closer d c k j n in omega arith))
    (word-or-not c d (j.word.cells ∙ sym k.word.cells))

-- ---- what the answer reads of the profile

module _ (p q : Profile) (y out : List ℕ) (v : InRange p) (w : InRange q) (en : p.n ≡ q.n) (er : p.r ≡ q.r) (eb : p.b ≡ q.b) where
  same_answer : spot_answer p y out ≡ spot_answer q y out
  unfolding spot_answer
  same_answer =
      same-refusing p q (correct_fits p y out) (correct_fits q y out) (Err BadProfile) (Err WrongLength) (spot_verdict p y) (spot_verdict q y) v w (same-fits p q y out en) (same-verdict p q y en er eb)

  same_leaves : spot_leaves p y out ≡ spot_leaves q y out
  unfolding spot_leaves
  same_leaves = rw (same_answer, same_word p q y en er eb)

pub limit_free : LimitFree
limit_free p q y out v w en er eb = (same_answer p q y out v w en er eb, same_leaves p q y out v w en er eb)

-- ---- refusals

abbrev Numbered : Verdict → Type 0
Numbered w = verdict_number w ≢ 0 → (verdict_number w ≡ 1) ⊎ ((verdict_number w ≡ 2) ⊎ (verdict_number w ≡ 11))

module _ (p : Profile) (y out : List ℕ) where
  numbered : Numbered (spot_answer p y out)
  unfolding spot_answer
  numbered =
      refusing_of p (correct_fits p y out) (Err BadProfile) (Err WrongLength) (spot_verdict p y) Numbered (λ n. inl refl) (λ n. inr (inl refl))
      (spot_of Numbered (λ n. inr (inr refl)) (λ t j n. absurd (n refl)) p y)

  of_spots : case_of (spot_answer p y out) ≢ 1
  unfolding spot_answer
  of_spots =
      refusing_of p (correct_fits p y out) (Err BadProfile) (Err WrongLength) (spot_verdict p y) (λ (w : Verdict). case_of w ≢ 1) (λ q. omega arith) (λ q. omega arith)
      (spot_of (λ (w : Verdict). case_of w ≢ 1) (λ q. omega arith) (λ t j q. omega arith) p y)

  early : EarlyRefusals p ((length y ≡ p.n) × (length out ≡ p.n)) (verdict_number (spot_answer p y out))
  unfolding spot_answer correct_fits
  early =
      early_of p (correct_fits p y out) _ (two_lengths (length y) (length out) p.n p.n) verdict_number (Err BadProfile) (Err WrongLength) (spot_verdict p y) refl refl
      (spot-late p y).0 (spot-late p y).1

  pub spot_refusals : SpotRefusals p y out
  spot_refusals = record {
    early = early;
    numbers = numbered;
    place = no_place (spot_answer p y out);
    kept = spot-kept p y out;
    cells = λ n. let z = no_values (spot_answer p y out) n in (z.count, z.lowest);
    no_run = λ s f q. of_spots (ap case_of q);
  }
