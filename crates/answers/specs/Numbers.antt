-- The documents' number and place of an answer (E5): those of its refusal, and 0 where it is accepted; and a value of what is accepted, 0 beside a refusal.
use Rattle.std.specs.Prelude.{ℕ, Result, Ok, Err}

-- what a refusal has, or 0 where accepted
abbrev pub or_zero : {A E : Type 0} → (E → ℕ) → Result A E → ℕ
or_zero f (Ok a) = 0
or_zero f (Err e) = f e

-- what is accepted has, or 0 beside a refusal
abbrev pub value_or_zero : {A E : Type 0} → (A → ℕ) → Result A E → ℕ
value_or_zero f (Ok a) = f a
value_or_zero f (Err e) = 0
