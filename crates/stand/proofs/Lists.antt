-- The cases of the test of a species list, each from the plain facts that a turn of the code gives: what is left from place i on. They hold by computing the
-- definition with the test's value.
use Prim.Native.Nat.{ℕ, suc, ◌+◌, ◌<◌, ◌≤◌}
use native.Mathlib.Numerals.{add-one}
use mathlib.Core.Path.{◌≡◌, ap}
use mathlib.Core.Bool.{Bool, true, false}
use mathlib.Core.List.{List}
use lib.ListN.{length, get_or, drop, drop_of_length-le}
use lib.Seq.{drop-cons}
use Rattle.lists.specs.Choice.{pick}
use Rattle.plot.specs.Layout.{within}
use Rattle.stand.specs.Table.{among, numbers_hold}

module _ (s : List ℕ) (i : ℕ) where
  module _ (h : i < length s) where
    pub numbers_out : within 1 99 (get_or s i 0) ≡ false → numbers_hold (drop i s) ≡ false
    unfolding numbers_hold
    numbers_out w = rw (drop-cons s i 0 h, w)

    module _ (w : within 1 99 (get_or s i 0) ≡ true) where
      pub numbers_twice : among (get_or s i 0) (drop (i + 1) s) ≡ true → numbers_hold (drop i s) ≡ false
      unfolding numbers_hold
      numbers_twice a = rw (drop-cons s i 0 h, w, ← add-one i, a)

      pub numbers_on : among (get_or s i 0) (drop (i + 1) s) ≡ false → numbers_hold (drop i s) ≡ numbers_hold (drop (i + 1) s)
      unfolding numbers_hold
      numbers_on a = rw (drop-cons s i 0 h, w, add-one) (ap (λ (t : Bool). pick t false (numbers_hold (drop (suc i) s))) (rw add-one at a))

  pub numbers-end : length s ≤ i → numbers_hold (drop i s) ≡ true
  unfolding numbers_hold
  numbers-end h = rw (drop_of_length-le s h)
