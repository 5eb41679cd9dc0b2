-- The documents' number, place and values of what reading a sheet answers (E5): "the block number for 3 and 4 on a sheet, .. else 0", 11 "with 3's order
-- and place" (document 02, Note 1), and 16 "with the block number on a sheet" (Note 7). A value that an answer does not have is 0. What writing a sheet answers has the
-- number and place of every entry with no other refusals than 1 and 2 (the profile crate's specs/Numbers.antt).
use Rattle.std.specs.Prelude.{ℕ, Result}
use Rattle.answers.specs.Numbers.{or_zero, value_or_zero}
use Rattle.profile.specs.declared.refusals.Refusal.{Refusal as EarlyRefusal}
use Rattle.profile.specs.declared.refusals.Refusal.TheVariants as early
use Rattle.block.specs.Numbers.{verdict_number}
use Rattle.sheet.specs.declared.Refusal.{Refusal}
use Rattle.sheet.specs.declared.Refusal.TheVariants.{BadProfile, WrongLength, Block}

-- "the number of blocks changed", or a refusal
abbrev pub Reading : Type 0
Reading = Result ℕ Refusal

-- refusals 1 and 2, as every entry has them
abbrev pub read_early : EarlyRefusal → Refusal
read_early early.BadProfile = BadProfile
read_early early.WrongLength = WrongLength

-- 1 misprint, 2 wrong frame, or the refused block's own reason
abbrev pub refusal_number : Refusal → ℕ
refusal_number BadProfile = 1
refusal_number WrongLength = 2
refusal_number (Block number verdict) = verdict_number verdict

abbrev pub refusal_place : Refusal → ℕ
refusal_place BadProfile = 0
refusal_place WrongLength = 0
refusal_place (Block number verdict) = number

-- the refusal's number, or 0 for an accepted sheet
abbrev pub reading_number : Reading → ℕ
reading_number answer = or_zero refusal_number answer

abbrev pub reading_place : Reading → ℕ
reading_place answer = or_zero refusal_place answer

-- "the number of blocks changed"
abbrev pub reading_changed : Reading → ℕ
reading_changed answer = value_or_zero (λ changed. changed) answer
