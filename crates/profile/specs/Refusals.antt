-- The refusals 1 and 2 of every entry on a block or a sheet (E3): "Where several apply, 1 precedes 2, and 2 the rest." One definition that the entries
-- compute by, and one statement of exactly when each comes.
use Rattle.std.specs.Prelude.{◌≡◌, ◌↔◌, Bool, ℕ}
use Rattle.lists.specs.Choice.{pick}
use Rattle.profile.specs.Profile.{InRange, in_range}
use Rattle.profile.specs.declared.Profile.{Profile}

-- what such an entry answers, or leaves in a buffer: refusal 1, refusal 2 where its lent buffers do not fit, or the rest
unfoldable pub refusing : {A : Type 0} → Profile → Bool → A → A → A → A
refusing p fits one two rest = pick (in_range p) (pick fits rest two) one

-- refusals 1 and 2 of an entry on a block or a sheet that answers `number`: 1 exactly where a profile number is out of range, and 2 exactly where
-- none is and a lent buffer has not its length; so 1 goes before 2, and 2 before the rest
pub record EarlyRefusals (p : Profile) (Fits : Type 0) (number : ℕ) : Type 0 where
  pub one : (number ≡ 1) ↔ (InRange p → ⊥)
  pub two : (number ≡ 2) ↔ (InRange p × (Fits → ⊥))
