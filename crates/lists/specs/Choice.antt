-- Choosing by a test: the definitions of every crate are written with these two.
use Rattle.std.specs.Prelude.{Bool, true, false}

-- the first where the test is true, the second where it is false
abbrev pub pick {ℓ} : {A : Type ℓ} → Bool → A → A → A
pick true a b = a
pick false a b = b

-- both tests are true
abbrev pub both : Bool → Bool → Bool
both true b = b
both false b = false
