-- A register is zero where its extent is 0.
use mathlib.Core.Path.{ap}
use Prim.Native.Nat.{ℕ}
use lib.Dec.{eqb}
use Rattle.register.proofs.is_zero.Goals as goal

pub returns : goal.returns
returns c = ap (λ (v : ℕ). eqb v 0) c.extent.ensures
