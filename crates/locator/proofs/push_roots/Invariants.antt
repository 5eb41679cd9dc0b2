-- The invariant: the roots among the first i places are in. Cell i of the word of points is α^(j+i), and cell i of the word of values is the locator's
-- value there.
use mathlib.Core.Path.{◌≡◌}
use mathlib.Core.List.{List, ◌++◌}
use Prim.Native.Nat.{ℕ, ◌+◌, ◌≤◌}
use Rattle.products.specs.Products.{evals}
use Rattle.words.specs.Word.{bytes_from}
use Rattle.locator.specs.Locator.{roots_from}
use Rattle.locator.specs.Answer.{errors_at}
use Rattle.locator.proofs.push_roots.Given as goal

abbrev pub invariant-loop-i : goal.invariant-loop-i
invariant-loop-i l = record {
  count : l.found.count ≤ l.j + l.i;
  pushed : (P E : List ℕ) → bytes_from 8 0 l.values ≡ evals P (bytes_from 8 0 l.points) → l.initial.found ≡ errors_at E → l.found ≡ errors_at (E ++ roots_from P l.i l.j);
}
