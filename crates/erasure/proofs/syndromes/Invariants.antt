-- The invariant: i syndromes are out, with zeros after them.
use mathlib.Core.Path.{◌≡◌}
use lib.ListN.{take}
use Rattle.words.specs.Cells.{pad_to}
use Rattle.erasure.specs.Erasure.{syndromes}
use Rattle.erasure.proofs.syndromes.Given as goal

abbrev pub invariant-loop-i : goal.invariant-loop-i
invariant-loop-i l = l.out ≡ pad_to 64 (take l.i (syndromes l.b l.n l.rest))
