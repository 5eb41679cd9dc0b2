-- Which answer has which number and values. Each goes by the cases of the answer, or by the four cases of the verdict on n cells.
use mathlib.Core.Path.{◌≡◌, refl, ap, ◌∙◌}
use mathlib.Core.Logic.{◌≢◌}
use mathlib.Core.Bool.{Bool, true, false}
use mathlib.Core.List.{List, []}
use Rattle.std.specs.Prelude.{Ok, Err}
use Prim.Native.Nat.{ℕ, ◌≤◌}
use native.Mathlib.Omega.{arith}
use lib.Dec.{eqb, ltb}
use Rattle.lists.specs.Choice.{pick}
use Rattle.code.specs.Code.{generator, remainder, weight}
use Rattle.code.specs.Run.{back_steps}
use Rattle.code.specs.Search.{Best, extent, extents, scanned}
use Rattle.profile.specs.Profile.{is_sparse}
use Rattle.answers.proofs.Numbers.{no_value}
use Rattle.block.specs.Block.{run_verdict, decided, judged, verdict, filled}
use Rattle.block.specs.Numbers.{Verdict, correct_refusal_number, verdict_number, verdict_start, verdict_length, verdict_count, verdict_lowest}
use Rattle.profile.specs.declared.Profile.{Profile}
use Rattle.block.specs.declared.numbers.Correction.TheVariants.{Run, Cells}
use Rattle.block.specs.declared.numbers.Refusal.{Refusal}
use Rattle.block.specs.declared.numbers.Refusal.TheVariants.{BadProfile, WrongLength, Uncorrectable, Ambiguous, TooManyErrors, Sparse}

-- a refusal's number tells which it is
abbrev refusal_of : ℕ → Refusal
refusal_of n =
    pick (eqb n 1) BadProfile (pick (eqb n 2) WrongLength (pick (eqb n 3) Uncorrectable (pick (eqb n 4) Ambiguous (pick (eqb n 11) TooManyErrors Sparse))))

by_number : (w : Verdict) → verdict_number w ≢ 0 → w ≡ Err (refusal_of (verdict_number w))
by_number (Ok c) n = absurd (n refl)
by_number (Err BadProfile) n = refl
by_number (Err WrongLength) n = refl
by_number (Err Uncorrectable) n = refl
by_number (Err Ambiguous) n = refl
by_number (Err TooManyErrors) n = refl
by_number (Err Sparse) n = refl

pub number-3 : (w : Verdict) → verdict_number w ≡ 3 → w ≡ Err Uncorrectable
number-3 w e = by_number w (λ z. omega arith) ∙ ap (λ (n : ℕ). Err (refusal_of n)) e

pub number-4 : (w : Verdict) → verdict_number w ≡ 4 → w ≡ Err Ambiguous
number-4 w e = by_number w (λ z. omega arith) ∙ ap (λ (n : ℕ). Err (refusal_of n)) e

pub number-16 : (w : Verdict) → verdict_number w ≡ 16 → w ≡ Err Sparse
number-16 w e = by_number w (λ z. omega arith) ∙ ap (λ (n : ℕ). Err (refusal_of n)) e

pub number-most : (w : Verdict) → verdict_number w ≤ 16
number-most (Ok c) = omega arith
number-most (Err BadProfile) = omega arith
number-most (Err WrongLength) = omega arith
number-most (Err Uncorrectable) = omega arith
number-most (Err Ambiguous) = omega arith
number-most (Err TooManyErrors) = omega arith
number-most (Err Sparse) = omega arith

-- the mode whose case a verdict is: 1 burst, 2 spot, and 0 for the cases of both
abbrev pub case_of : Verdict → ℕ
case_of (Ok (Run s f)) = 1
case_of (Ok (Cells count lowest)) = 2
case_of (Err BadProfile) = 0
case_of (Err WrongLength) = 0
case_of (Err Uncorrectable) = 1
case_of (Err Ambiguous) = 1
case_of (Err TooManyErrors) = 2
case_of (Err Sparse) = 1

-- beside a refusal every value is 0
pub record NoValues (w : Verdict) : Type 0 where
  pub start : verdict_start w ≡ 0
  pub size : verdict_length w ≡ 0
  pub count : verdict_count w ≡ 0
  pub lowest : verdict_lowest w ≡ 0

pub no_values : (w : Verdict) → verdict_number w ≢ 0 → NoValues w
no_values w n = record {
  start = no_value _ correct_refusal_number w n;
  size = no_value _ correct_refusal_number w n;
  count = no_value _ correct_refusal_number w n;
  lowest = no_value _ correct_refusal_number w n;
}

-- a refusal writes nothing
pub filled-kept : (p : Profile) (y out : List ℕ) (w : Verdict) → verdict_number w ≢ 0 → filled p y out w ≡ out
unfolding filled
filled-kept p y out (Ok c) n = absurd (n refl)
filled-kept p y out (Err e) n = refl

-- ---- the verdict on n cells is one of four

chosen : (P : Verdict → Type 0) → P (Err Uncorrectable) → P (Err Ambiguous) → P (Err Sparse) → ((s f : ℕ) → P (Ok (Run s f))) → (clean long again few : Bool) (s f : ℕ)
    → P (pick clean (Ok (Run 0 0)) (pick long (Err Uncorrectable) (pick again (Err Ambiguous) (pick few (Err Sparse) (Ok (Run s f))))))
chosen P none two sparse one true long again few s f = one 0 0
chosen P none two sparse one false true again few s f = none
chosen P none two sparse one false false true few s f = two
chosen P none two sparse one false false false true s f = sparse
chosen P none two sparse one false false false false s f = one s f

pub verdict_of : (P : Verdict → Type 0) → P (Err Uncorrectable) → P (Err Ambiguous) → P (Err Sparse) → ((s f : ℕ) → P (Ok (Run s f))) → (p : Profile) (y : List ℕ) → P (verdict p y)
unfolding verdict judged decided run_verdict
verdict_of P none two sparse one p y =
    let R : List ℕ = remainder p.r (generator p.b p.r) y in
    let k : Best = scanned (extents (generator p.b p.r) R) p.n p.limit p.n in
    chosen P none two sparse one (eqb (extent R) 0) (ltb p.limit k.size) k.again (is_sparse p k.size (weight (back_steps k.start (generator p.b p.r) R))) k.start k.size

-- so that of number 0 is the corrected one
pub verdict-0 : (p : Profile) (y : List ℕ) → verdict_number (verdict p y) ≡ 0 → verdict p y ≡ Ok (Run (verdict_start (verdict p y)) (verdict_length (verdict p y)))
verdict-0 =
    verdict_of (λ (w : Verdict). verdict_number w ≡ 0 → w ≡ Ok (Run (verdict_start w) (verdict_length w))) (λ e. absurd (omega arith)) (λ e. absurd (omega arith))
    (λ e. absurd (omega arith)) (λ s f e. refl)

-- it has no number 1 or 2, and is no case of spot mode
pub record Late (w : Verdict) : Type 0 where
  pub not_1 : verdict_number w ≢ 1
  pub not_2 : verdict_number w ≢ 2
  pub burst : case_of w ≢ 2

pub verdict-late : (p : Profile) (y : List ℕ) → Late (verdict p y)
verdict-late =
    verdict_of Late (record { not_1 = λ q. omega arith; not_2 = λ q. omega arith; burst = λ q. omega arith })
    (record { not_1 = λ q. omega arith; not_2 = λ q. omega arith; burst = λ q. omega arith })
    (record { not_1 = λ q. omega arith; not_2 = λ q. omega arith; burst = λ q. omega arith })
    (λ s f. record { not_1 = λ q. omega arith; not_2 = λ q. omega arith; burst = λ q. omega arith })

-- and writes its codeword over whatever stood there
pub filled_alike : (p : Profile) (y out : List ℕ) → verdict_number (verdict p y) ≡ 0 → filled p y out (verdict p y) ≡ filled p y [] (verdict p y)
unfolding filled
filled_alike p y out =
    verdict_of (λ (w : Verdict). verdict_number w ≡ 0 → filled p y out w ≡ filled p y [] w) (λ e. absurd (omega arith)) (λ e. absurd (omega arith))
    (λ e. absurd (omega arith)) (λ s f e. refl) p y
