use mathlib.Core.Path.{◌≡◌, sym, ap, ◌∙◌}
use Prim.Native.Nat.{ℕ}
use native.Mathlib.Omega.{arith}
use Rattle.words.specs.Word.{bytes_from}
use Rattle.products.specs.Products.{times, powers}
use Rattle.products.proofs.Powers.{power-first, power-more, powers-none}
use Rattle.products.proofs.word_power.Goals as goal

pub loop-left-init : goal.loop-left-init
loop-left-init c = power-first _ _

pub loop-left-preserved : goal.loop-left-preserved
loop-left-preserved c = power-more _ _ _ _ _ _ _ c.loop-left.invariant c.power_turn-result.ensures c.word_times-square.ensures

pub returns : goal.returns
returns c = let l = c.loop-left in let z : l.left ≡ 0 = omega arith in sym (powers-none _ _) ∙ ap (λ (k : ℕ). times (powers k (bytes_from 8 0 l.square)) (bytes_from 8 0 l.result)) (sym z) ∙ l.invariant
