-- The invariant: the first words hold their values, and the points are those of the next.
use Prim.Native.Nat.{ℕ, ◌+◌, ◌*◌, ◌<◌}
use lib.ListN.{get_or}
use Rattle.products.proofs.Values.{Points}
use Rattle.erasure.proofs.Words.{Valued}
use Rattle.erasure.proofs.syndrome_words.Given as goal

abbrev pub invariant-loop-word : goal.invariant-loop-word
invariant-loop-word l = record {
  here : Points l.x (l.b + 8 * l.word-index);
  values : (j : ℕ) → j < l.word-index → Valued l.b l.rest (get_or l.word-items j 0) j;
}
