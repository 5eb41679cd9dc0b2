-- How many runs listing a block answers; the number and the place of its refusals, 1 misprint and 2 wrong frame, are those of the profile crate's specs/Numbers.antt.
use Rattle.std.specs.Prelude.{ℕ, Result}
use Rattle.answers.specs.Numbers.{value_or_zero}
use Rattle.profile.specs.declared.refusals.Refusal.{Refusal}

-- 0 beside a refusal
abbrev pub listed_count : Result ℕ Refusal → ℕ
listed_count answer = value_or_zero (λ n. n) answer
