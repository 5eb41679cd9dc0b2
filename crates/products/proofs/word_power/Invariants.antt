-- The invariant: the power of the square that is left, times the result, is the whole power.
use mathlib.Core.Path.{◌≡◌}
use Rattle.words.specs.Word.{bytes_from}
use Rattle.products.specs.Products.{times, powers}
use Rattle.products.proofs.word_power.Given as goal

abbrev pub invariant-loop-left : goal.invariant-loop-left
invariant-loop-left l = times (powers l.left (bytes_from 8 0 l.square)) (bytes_from 8 0 l.result) ≡ powers l.e (bytes_from 8 0 l.x)

abbrev pub decreases-loop-left : goal.decreases-loop-left
decreases-loop-left l = l.left
