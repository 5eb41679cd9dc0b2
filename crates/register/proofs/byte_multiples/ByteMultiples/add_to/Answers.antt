-- The multiples by the two halves of f add up to the multiple by f.
use mathlib.Core.Path.{ap, ◌∙◌}
use Prim.Native.Nat.{ℕ, ◌%◌, ◌/◌}
use native.Mathlib.Omega.{arith}
use Rattle.code.specs.Poly.{padd, pscale}
use Rattle.register.specs.Words.{cells}
use Rattle.register.proofs.Multiples.{rows_sum}
use Rattle.register.proofs.byte_multiples.ByteMultiples.add_to.Goals as goal

pub returns : goal.returns
returns c =
    let m = c.args.self.now in
    let f : ℕ = c.from-n.result in
    rows_sum _ _ _ _ _ _ f (m.low_halves _ (f % 16) (omega arith)) (m.high_halves _ (f / 16) (omega (arith, c.from-n.ensures))) c.add.ensures c.add-2.ensures
    ∙ ap (λ (k : ℕ). padd (cells c.args.x) (pscale k (cells m.register))) c.from-n.ensures
