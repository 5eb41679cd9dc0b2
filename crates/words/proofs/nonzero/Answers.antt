-- `words::nonzero` meets its contract: a cell that is not zero is a successor.
use mathlib.Core.Path.{◌≡◌, refl}
use mathlib.Core.Logic.{◌≢◌}
use Prim.Native.Nat.{ℕ, zero, suc}
use Rattle.code.specs.Code.{nonzero}
use Rattle.words.proofs.nonzero.Goals as goal

some : (c : ℕ) → c ≢ 0 → 1 ≡ nonzero c
some zero n = absurd (n refl)
some (suc c) n = refl

pub returns-then-c-ne0 : goal.returns-then-c-ne0
returns-then-c-ne0 c = some _ c.if-c-ne0.true
