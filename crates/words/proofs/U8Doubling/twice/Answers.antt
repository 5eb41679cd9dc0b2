-- Twice a byte is its product with 2.
use mathlib.Core.Path.{sym, ap, ◌∙◌}
use mathlib.Core.List.{[], ◌∷◌}
use Prim.Native.Nat.{ℕ}
use native.Mathlib.Omega.{arith}
use Rattle.field.proofs.Product.{mul-two}
use Rattle.code.specs.Poly.{pscale}
use Rattle.words.proofs.U8Doubling.twice.Goals as goal

pub returns : goal.returns
unfolding pscale
returns c = ap (λ (x : ℕ). x ∷ []) (c.double.ensures ∙ sym (mul-two c.args.self (omega arith)))
