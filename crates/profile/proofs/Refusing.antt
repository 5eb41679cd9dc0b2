-- Laws of `refusing`, for every entry on a block or a sheet: refusal 1, refusal 2, what else is answered, and so exactly when the first two come.
use mathlib.Core.Path.{◌≡◌, refl, sym, ap, ◌∙◌}
use mathlib.Core.Logic.{◌↔◌, ◌≢◌, ⊎_elim}
use mathlib.Core.Bool.{Bool, true, false}
use Prim.Native.Nat.{ℕ}
use native.Mathlib.Omega.{arith}
use Rattle.std.specs.Prelude.{Result, Ok, Err, ⊤}
use Rattle.lists.specs.Choice.{pick}
use Rattle.lists.proofs.Test.{true_or_false, true_false, pick_of}
use Rattle.profile.specs.Profile.{InRange, in_range}
use Rattle.profile.specs.Refusals.{refusing, EarlyRefusals}
use Rattle.profile.specs.declared.Profile.{Profile}
use Rattle.profile.specs.declared.refusals.Refusal.{Refusal}
use Rattle.profile.specs.declared.refusals.Refusal.TheVariants.{BadProfile, WrongLength}
use Rattle.profile.proofs.Ranges.{in_range_lem}

module _ {A : Type 0} (p : Profile) (fits : Bool) (one two rest : A) where
  pub refuse_one : in_range p ≡ false → one ≡ refusing p fits one two rest
  unfolding refusing
  refuse_one e = rw e

  module _ (v : in_range p ≡ true) where
    pub refuse_two : fits ≡ false → two ≡ refusing p fits one two rest
    unfolding refusing
    refuse_two e = rw (v, e)

    pub accept : fits ≡ true → rest ≡ refusing p fits one two rest
    unfolding refusing
    accept e = rw (v, e)

  -- what holds of the three cases holds of what is answered
  pub refusing_of : (P : A → Type 0) → P one → P two → P rest → P (refusing p fits one two rest)
  unfolding refusing
  refusing_of P a b c = pick_of P (in_range p) (pick fits rest two) one (pick_of P fits rest two c b) a

-- ---- `Profile::admit`, of which each entry takes its refusals 1 and 2

abbrev admit : Profile → Bool → Result ⊤ Refusal
admit p fits = refusing p fits (Err BadProfile) (Err WrongLength) (Ok tt)

by_cases : {A : Type 0} (f : Refusal → A) (rest : A) (valid fits : Bool) (e : Refusal)
    → ◌≡◌ {A = Result ⊤ Refusal} (pick valid (pick fits (Ok tt) (Err WrongLength)) (Err BadProfile)) (Err e) → f e ≡ pick valid (pick fits rest (f WrongLength)) (f BadProfile)
by_cases f rest true true e q = absurd (cc)
by_cases f rest true false e q = ap f (cc)
by_cases f rest false fits e q = ap f (cc)

both_of : (valid fits : Bool) (u : ⊤) → ◌≡◌ {A = Result ⊤ Refusal} (pick valid (pick fits (Ok tt) (Err WrongLength)) (Err BadProfile)) (Ok u) → (valid ≡ true) × (fits ≡ true)
both_of true true u q = (refl, refl)
both_of true false u q = absurd (cc)
both_of false fits u q = absurd (cc)

module _ (p : Profile) (fits : Bool) where
  -- what it refuses is refused, whatever the entry makes of the refusal: an error of its own, or a buffer as it was
  pub not_admitted : {A : Type 0} (f : Refusal → A) (rest : A) (e : Refusal) → admit p fits ≡ Err e → f e ≡ refusing p fits (f BadProfile) (f WrongLength) rest
  unfolding refusing
  not_admitted f rest e q = by_cases f rest (in_range p) fits e q

  -- what it accepts is in range and fits, and so the rest is answered
  pub admitted : (u : ⊤) → admit p fits ≡ Ok u → (in_range p ≡ true) × (fits ≡ true)
  unfolding refusing
  admitted u q = both_of (in_range p) fits u q

  pub admitted_in_range : (u : ⊤) → admit p fits ≡ Ok u → InRange p
  admitted_in_range u q = (in_range_lem p).0 (admitted u q).0

  pub admitted_rest : {A : Type 0} (one two rest : A) (u : ⊤) → admit p fits ≡ Ok u → rest ≡ refusing p fits one two rest
  admitted_rest one two rest u q = let z = admitted u q in accept p fits one two rest z.0 z.1

-- profiles in range, with the same test and the same rest, have the same answer
pub same-refusing : {A : Type 0} (p q : Profile) (f g : Bool) (one two x y : A) → InRange p → InRange q → f ≡ g → x ≡ y → refusing p f one two x ≡ refusing q g one two y
unfolding refusing
same-refusing p q f g one two x y v w ef ex = rw ((in_range_lem p).1 v, (in_range_lem q).1 w, ef, ex)

-- ---- exactly when

-- a number that is 1 and 2 at most where it is said
module _ (p : Profile) (Fits : Type 0) (k : ℕ) where
  early_one : (InRange p → ⊥) → k ≡ 1 → EarlyRefusals p Fits k
  early_one n e = record { one = (λ _. n, λ _. e); two = (λ q. absurd (omega arith), λ z. absurd (n z.0)) }

  early_two : InRange p → (Fits → ⊥) → k ≡ 2 → EarlyRefusals p Fits k
  early_two v n e = record { one = (λ q. absurd (omega arith), λ z. absurd (z v)); two = (λ _. (v, n), λ _. e) }

  early_none : InRange p → Fits → k ≢ 1 → k ≢ 2 → EarlyRefusals p Fits k
  early_none v f a b = record { one = (λ q. absurd (a q), λ z. absurd (z v)); two = (λ q. absurd (b q), λ z. absurd (z.1 f)) }

-- the number of what an entry answers, by its three cases
pub early_of : {A : Type 0} (p : Profile) (fits : Bool) (Fits : Type 0) → ((fits ≡ true) ↔ Fits) → (number : A → ℕ) (one two rest : A)
    → number one ≡ 1 → number two ≡ 2 → number rest ≢ 1 → number rest ≢ 2 → EarlyRefusals p Fits (number (refusing p fits one two rest))
early_of p fits Fits same number one two rest e₁ e₂ n₁ n₂ =
    let k : ℕ = number (refusing p fits one two rest) in
    ⊎_elim
    (λ t. ⊎_elim
    (λ f.
    let q : number rest ≡ k = ap number (accept p fits one two rest t f) in
    early_none p Fits k ((in_range_lem p).0 t) (same.0 f) (λ z. n₁ (q ∙ z)) (λ z. n₂ (q ∙ z)))
    (λ f. early_two p Fits k ((in_range_lem p).0 t) (λ z. true_false (same.1 z) f) (sym (ap number (refuse_two p fits one two rest t f)) ∙ e₂))
    (true_or_false fits))
    (λ t. early_one p Fits k (λ v. true_false ((in_range_lem p).1 v) t) (sym (ap number (refuse_one p fits one two rest t)) ∙ e₁))
    (true_or_false (in_range p))

-- a buffer that is written only where the entry accepts is as it was after every refusal
pub kept_of : {A B : Type 0} (p : Profile) (fits : Bool) (number : A → ℕ) (one two rest : A) (old new : B) → number rest ≡ 0
    → number (refusing p fits one two rest) ≢ 0 → refusing p fits old old new ≡ old
kept_of p fits number one two rest old new e n =
    ⊎_elim
    (λ t. ⊎_elim (λ f. absurd (n (sym (ap number (accept p fits one two rest t f)) ∙ e))) (λ f. sym (refuse_two p fits old old new t f)) (true_or_false fits))
    (λ t. sym (refuse_one p fits old old new t)) (true_or_false (in_range p))
