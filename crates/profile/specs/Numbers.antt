-- The numbers of the refusals 1 and 2, and the number and the place of an entry that has no others.
use Rattle.std.specs.Prelude.{ℕ, Result}
use Rattle.answers.specs.Numbers.{or_zero}
use Rattle.profile.specs.declared.refusals.Refusal.{Refusal}
use Rattle.profile.specs.declared.refusals.Refusal.TheVariants as refusals

-- 1 misprint, 2 wrong frame
abbrev pub refusal_number : Refusal → ℕ
refusal_number refusals.BadProfile = 1
refusal_number refusals.WrongLength = 2

-- the number and the place of an entry that has no other refusals than these two
abbrev pub early_number : {A : Type 0} → Result A Refusal → ℕ
early_number answer = or_zero refusal_number answer

abbrev pub early_place : {A : Type 0} → Result A Refusal → ℕ
early_place answer = or_zero (λ _. 0) answer
