-- What the entry answers and leaves where profile and lengths are right, and after each refusal. Who calls it cites these laws and opens no definition.
use mathlib.Core.Path.{◌≡◌, sym, ap, ◌∙◌}
use mathlib.Core.Logic.{◌≢◌, ⊎_elim}
use mathlib.Core.Bool.{true}
use mathlib.Core.List.{List}
use Rattle.std.specs.Prelude.{Result, Ok, Err, ⊤}
use Prim.Native.Nat.{ℕ}
use native.Mathlib.Omega.{arith}
use lib.ListN.{length, get_or}
use borrow.Author.Tests.{eq-eqb, ne_eqb}
use Rattle.lists.proofs.Test.{zero_or, pick_of}
use Rattle.locator.specs.Locator.{locations, is_located}
use Rattle.profile.specs.Profile.{InRange, in_range, half}
use Rattle.profile.proofs.Ranges.{in_range_lem}
use Rattle.profile.specs.Refusals.{refusing}
use Rattle.profile.proofs.Refusing.{accept, not_admitted}
use Rattle.profile.specs.declared.refusals.Refusal.{Refusal as EarlyRefusal}
use Rattle.profile.specs.declared.refusals.Refusal.TheVariants as early
use Rattle.block.specs.Block.{correct_fits}
use Rattle.block.specs.Numbers.{Verdict, correct_early, correct_refusal_number, verdict_number}
use Rattle.block.proofs.Entries.{correct_fits_lem}
use Rattle.block.proofs.Promises.{two_lengths}
use Rattle.profile.specs.declared.Profile.{Profile}
use Rattle.block.specs.declared.numbers.Correction.TheVariants.{Cells}
use Rattle.block.specs.declared.numbers.Refusal.TheVariants.{BadProfile, WrongLength, TooManyErrors}
use Rattle.spots.specs.Spots.{spot_decided, read_syndromes, spot_verdict, spot_word, spot_answer, spot_leaves}
use Rattle.spots.specs.Steps.{SpotsInto}

-- the verdict, by its two cases
pub spot_of : (P : Verdict → Type 0) → P (Err TooManyErrors) → ((t j : ℕ) → P (Ok (Cells t j))) → (p : Profile) (y : List ℕ) → P (spot_verdict p y)
unfolding spot_verdict
spot_of P none some p y = decided (read_syndromes p y)
  where
    decided : (s : List ℕ) → P (spot_decided p s)
    decided s =
        unfold spot_decided in
        pick_of P (is_located 64 (half p) p.n s) (Ok (Cells (length (locations 64 p.n s)) (get_or (locations 64 p.n s) 0 0))) (Err TooManyErrors) (some _ _) none

-- it has no number 1 or 2
pub spot-late : (p : Profile) (y : List ℕ) → (verdict_number (spot_verdict p y) ≢ 1) × (verdict_number (spot_verdict p y) ≢ 2)
spot-late =
    spot_of (λ (w : Verdict). (verdict_number w ≢ 1) × (verdict_number w ≢ 2)) ((λ q. omega arith), (λ q. omega arith)) (λ t j. ((λ q. omega arith), (λ q. omega arith)))

-- verdict and codeword read n, r and b of the profile, and nothing else
module _ (p q : Profile) (y : List ℕ) (en : p.n ≡ q.n) (er : p.r ≡ q.r) (eb : p.b ≡ q.b) where
  pub same-verdict : spot_verdict p y ≡ spot_verdict q y
  unfolding spot_verdict spot_decided read_syndromes
  same-verdict = rw (en, er, eb)

  pub same_word : spot_word p y ≡ spot_word q y
  unfolding spot_word
  same_word = rw (er, eb)

-- refusals 1 and 2 have a number
early-some : (e : EarlyRefusal) → correct_refusal_number (correct_early e) ≢ 0
early-some early.BadProfile = λ q. omega arith
early-some early.WrongLength = λ q. omega arith

module _ (p : Profile) (y out : List ℕ) where
  -- after a refusal the second buffer is as it was
  pub spot-kept : verdict_number (spot_answer p y out) ≢ 0 → spot_leaves p y out ≡ out
  unfolding spot_leaves
  spot-kept n = rw (ne_eqb _ _ n)

  pub spot-word : verdict_number (spot_answer p y out) ≡ 0 → spot_leaves p y out ≡ spot_word p y
  unfolding spot_leaves
  spot-word e = rw (eq-eqb _ _ e)

  pub right_lengths : correct_fits p y out ≡ true → (length y ≡ p.n) × (length out ≡ p.n)
  unfolding correct_fits
  right_lengths = (two_lengths (length y) (length out) p.n p.n).0

  -- an answer and the second buffer with it
  abbrev pub Spots : Verdict → List ℕ → Type 0
  Spots a o = (a ≡ spot_answer p y out) × (o ≡ spot_leaves p y out)

  refused : (a : Verdict) → a ≡ spot_answer p y out → verdict_number a ≢ 0 → Spots a out
  refused a e n = (e, sym (spot-kept (λ q. n (ap verdict_number e ∙ q))))

  -- what `Profile::admit` refuses
  pub spot-refused : (e : EarlyRefusal) → ◌≡◌ {A = Result ⊤ EarlyRefusal} (refusing p (correct_fits p y out) (Err early.BadProfile) (Err early.WrongLength) (Ok tt)) (Err e) → Spots (Err (correct_early e)) out
  spot-refused e q =
      refused (Err (correct_early e))
      (unfold spot_answer in not_admitted p (correct_fits p y out) (λ (x : EarlyRefusal). Err (correct_early x)) (spot_verdict p y) e q) (early-some e)

  module _ (t : in_range p ≡ true) (f : correct_fits p y out ≡ true) where
    is_verdict : spot_verdict p y ≡ spot_answer p y out
    unfolding spot_answer
    is_verdict = accept p (correct_fits p y out) (Err BadProfile) (Err WrongLength) (spot_verdict p y) t f

    -- past the refusals 1 and 2
    pub spot_past : (a : Verdict) (o : List ℕ) → SpotsInto p y out a o → Spots a o
    spot_past a o k =
        let q : a ≡ spot_answer p y out = k.answer ∙ is_verdict in
        (q, ⊎_elim (λ z. k.word z ∙ sym (spot-word (sym (ap verdict_number q) ∙ z))) (λ n. k.kept n ∙ sym (spot-kept (λ z. n (ap verdict_number q ∙ z)))) (zero_or (verdict_number a)))

module _ (p : Profile) (v : InRange p) (y : List ℕ) (h : length y ≡ p.n) (out : List ℕ) (e : length out ≡ p.n) where
  pub spot-answer : spot_answer p y out ≡ spot_verdict p y
  spot-answer = sym (is_verdict p y out ((in_range_lem p).1 v) (correct_fits_lem p y out h e))

  pub spot-leaves : verdict_number (spot_verdict p y) ≡ 0 → spot_leaves p y out ≡ spot_word p y
  spot-leaves q = spot-word p y out (ap verdict_number spot-answer ∙ q)
