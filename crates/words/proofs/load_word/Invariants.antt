-- The invariant: the word holds the cells from i on of the first k + 8. A list that ends at k or before leaves the word blank.
use mathlib.Core.Path.{◌≡◌}
use Prim.Native.Nat.{◌+◌, ◌≤◌}
use lib.ListN.{take, drop}
use Rattle.words.specs.Word.{bytes_from}
use Rattle.words.specs.Cells.{pad_to}
use Rattle.words.proofs.load_word.Given as goal

abbrev pub invariant-loop-i : goal.invariant-loop-i
invariant-loop-i l = (l.k ≤ l.i) × (bytes_from 8 0 l.w ≡ pad_to 8 (drop l.i (take (l.k + 8) l.s)))
