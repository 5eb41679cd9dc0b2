-- What the C interface adds to the numbers of each answer, which the answer's own crate defines (E5): a profile from five numbers, its own number, and
-- one number that stands for a value or for a place.
use Rattle.std.specs.Prelude.{ℕ, eqb}
use Rattle.lists.specs.Choice.{pick}
use Rattle.profile.specs.Profile.{in_range}
use Rattle.profile.specs.declared.Profile.{Profile}

-- "A profile is five numbers"
abbrev pub profile_of : ℕ → ℕ → ℕ → ℕ → ℕ → Profile
profile_of n r b limit depth = record { n = n; r = r; b = b; limit = limit; depth = depth }

-- 1, "a profile number is outside its range", or 0
abbrev pub profile_number : Profile → ℕ
profile_number p = pick (in_range p) 0 1

-- of a plot entry, through one reference: a value where the answer is accepted, and the place of the refusal where it is not
abbrev pub value_or_place : ℕ → ℕ → ℕ → ℕ
value_or_place number value place = pick (eqb number 0) value place

-- what is lent and written only where the answer is accepted: the new value, and as it was after a refusal
abbrev pub unless_refused {ℓ} : {A : Type ℓ} → ℕ → A → A → A
unless_refused number new old = pick (eqb number 0) new old
