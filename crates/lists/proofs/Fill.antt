-- A buffer that a loop fills from the front with the cells of a list: what one turn stores, and what is there at the end.
use mathlib.Core.Path.{◌≡◌, refl, ap, ◌∙◌}
use mathlib.Core.List.{List, [], ◌∷◌, ◌++◌, append-nil}
use Prim.Native.Nat.{ℕ, zero, suc, ◌+◌, ◌-◌, ◌≤◌, ◌<◌}
use native.Mathlib.Nat.{not-suc-le-zero, le_of_suc-le-suc, le_of_eq}
use native.Mathlib.Numerals.{add-one}
use native.Mathlib.Omega.{arith}
use lib.ListN.{length, get_or, set, take, drop, length-append, length-take, drop_of_length-le}
use lib.Seq.{take_all, take_at, drop_at}
use borrow.Rule.Slice.PartMut.{mid_of, put_mid}

module _ {A : Type 0} where
  fill_suc : (n : ℕ) (s d : List A) (z : A) → n < length d → n < length s → set (take n s ++ drop n d) n (get_or s n z) ≡ take (suc n) s ++ drop (suc n) d
  fill_suc n s [] z l k = absurd (not-suc-le-zero l)
  fill_suc n [] (x ∷ d) z l k = absurd (not-suc-le-zero k)
  fill_suc zero (y ∷ s) (x ∷ d) z l k = refl
  fill_suc (suc n) (y ∷ s) (x ∷ d) z l k = ap (λ (t : List A). y ∷ t) (fill_suc n s d z (le_of_suc-le-suc l) (le_of_suc-le-suc k))

  -- a turn
  pub fill_more : (n : ℕ) (s d : List A) (z : A) → n < length d → n < length s → set (take n s ++ drop n d) n (get_or s n z) ≡ take (n + 1) s ++ drop (n + 1) d
  fill_more n s d z l k = rw add-one (fill_suc n s d z l k)

  -- the cell that a turn finds is the old one
  pub fill_old : (n : ℕ) (s d : List A) (z : A) → n ≤ length s → get_or (take n s ++ drop n d) n z ≡ get_or d n z
  fill_old zero s d z l = refl
  fill_old (suc n) [] d z l = absurd (not-suc-le-zero l)
  fill_old (suc n) (y ∷ s) [] z l = append-none n s z
    where
      append-none : (m : ℕ) (t : List A) (u : A) → get_or (take m t ++ []) m u ≡ u
      append-none zero t u = refl
      append-none (suc m) [] u = refl
      append-none (suc m) (w ∷ t) u = append-none m t u
  fill_old (suc n) (y ∷ s) (x ∷ d) z l = fill_old n s d z (le_of_suc-le-suc l)

  -- all of it
  pub fill_all : (n : ℕ) (s d : List A) → length s ≤ n → length d ≤ n → take n s ++ drop n d ≡ s
  fill_all n s d h k = rw (take_all n s h, drop_of_length-le d k, append-nil)

  -- the part of a buffer above its first n cells, filled whole with s
  pub fill_part : (n k : ℕ) (h d s last : List A) → length h ≡ n → length d ≡ length s → k ≡ length (h ++ d) - n
      → last ≡ take (length s) s ++ drop (length s) (mid_of n k (h ++ d)) → put_mid n k (h ++ d) last ≡ h ++ s
  fill_part n k h d s last e l q el =
      let m : k ≡ length d = omega (arith, length-append h d) in
      let short : length (mid_of n k (h ++ d)) ≤ length s = omega (arith, length-take k (drop n (h ++ d)), ap length (drop_at h d n e)) in
      let filled : last ≡ s = el ∙ fill_all (length s) s (mid_of n k (h ++ d)) (le_of_eq refl) short in
      let rest : length d ≤ k = omega arith in
      rw (filled, take_at h d n e, drop_at h d n e, drop_of_length-le d rest, append-nil)
