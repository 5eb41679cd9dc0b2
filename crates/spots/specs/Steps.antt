-- What the private steps of the corrector leave. No promise rests on these words: they join its functions.
use Rattle.std.specs.Prelude.{◌≡◌, ◌≢◌, List, ℕ}
use Rattle.block.specs.Numbers.{Verdict, verdict_number}
use Rattle.profile.specs.declared.Profile.{Profile}
use Rattle.spots.specs.Spots.{spot_verdict, spot_word}

-- the cells y answer a, and the second buffer, which held out, holds o: the codeword, or what it held
pub record SpotsInto (p : Profile) (y out : List ℕ) (a : Verdict) (o : List ℕ) : Type 0 where
  pub answer : a ≡ spot_verdict p y
  pub word : verdict_number a ≡ 0 → o ≡ spot_word p y
  pub kept : verdict_number a ≢ 0 → o ≡ out
