-- The invariant: what is left to lay, over the cells as they are, is the whole.
use mathlib.Core.Path.{◌≡◌}
use Rattle.words.specs.Word.{bytes_from}
use Rattle.erasure.specs.Filling.{laid_at}
use Rattle.erasure.proofs.add_values.Given as goal

abbrev pub invariant-loop-place : goal.invariant-loop-place
invariant-loop-place l = laid_at l.place-iterator.a.rest.now l.place-iterator.b.rest.now l.cells ≡ laid_at l.places (bytes_from 8 0 l.v) l.initial.cells
