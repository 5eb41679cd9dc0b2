-- The last bit of the exponent is 0 or 1.
use mathlib.Core.Path.{◌≡◌, sym, ap, ◌∙◌}
use Prim.Native.Nat.{ℕ, ◌%◌}
use native.Mathlib.Omega.{arith}
use Rattle.words.specs.Word.{bytes_from}
use Rattle.products.specs.Products.{times, powers}
use Rattle.products.proofs.Powers.{powers-none, powers-one}
use Rattle.products.proofs.power_turn.Goals as goal

pub returns-then-left-eq0 : goal.returns-then-left-eq0
returns-then-left-eq0 c = sym (ap (λ (k : ℕ). times (powers k (bytes_from 8 0 c.args.square)) (bytes_from 8 0 c.args.res)) c.if-left-eq0.true ∙ powers-none _ _)

pub returns : goal.returns
returns c = let e : c.args.left % 2 ≡ 1 = omega arith in c.word_times.ensures ∙ sym (ap (λ (k : ℕ). times (powers k (bytes_from 8 0 c.args.square)) (bytes_from 8 0 c.args.res)) e ∙ powers-one _ _)
