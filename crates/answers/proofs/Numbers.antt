-- Number, place and values of any answer: each goes by the two cases of a Result.
use mathlib.Core.Path.{◌≡◌, refl}
use mathlib.Core.Logic.{◌≢◌}
use Prim.Native.Nat.{ℕ}
use Rattle.std.specs.Prelude.{Result, Ok, Err}
use Rattle.answers.specs.Numbers.{or_zero, value_or_zero}

module _ {A E : Type 0} where
  -- where no refusal has a place, no answer has one
  pub no_place : (answer : Result A E) → or_zero (λ _. 0) answer ≡ 0
  no_place (Ok a) = refl
  no_place (Err e) = refl

  -- beside a refusal a value is 0
  pub no_value : (f : A → ℕ) (number : E → ℕ) (answer : Result A E) → or_zero number answer ≢ 0 → value_or_zero f answer ≡ 0
  no_value f number (Ok a) n = absurd (n refl)
  no_value f number (Err e) n = refl
