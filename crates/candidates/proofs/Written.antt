-- The steps of writing the list, over plain values: one start more of a length, and one length more. There is room for each run, since no list has more than starts.
use mathlib.Core.Path.{◌≡◌, refl, sym, ap, ap₂, ◌∙◌}
use mathlib.Core.List.{List, [], ◌∷◌, ◌++◌}
use Prim.Native.Nat.{ℕ, ◌+◌, ◌-◌, ◌*◌, ◌≤◌, ◌<◌}
use native.Mathlib.Omega.{arith}
use lib.ListN.{length, length-append}
use Rattle.candidates.specs.Candidates.{Run, of_length, up_to_length, laid_behind}
use Rattle.candidates.proofs.Laying.{laid_none, laid-length, laid_more}
use Rattle.candidates.proofs.Lists.{of_length-found, of_length_other, of_length-grows, up_to_next, length_most}

-- ---- one length: the runs of f cells from the starts below s are written behind k pairs of out, and there are `count` pairs

module _ (t : ℕ → ℕ) (f k : ℕ) (out : List ℕ) where
  pub record Writing (s count : ℕ) (pairs : List ℕ) : Type 0 where
    pub counted : count ≡ k + length (of_length t f s)
    pub written : pairs ≡ laid_behind k (of_length t f s) out

  pub writing-none : Writing 0 k out
  unfolding of_length
  writing-none = record { counted = omega arith; written = sym (laid_none k out) }

  module _ (n : ℕ) (room : 2 * (k + length (of_length t f n)) ≤ length out) where
    few : (s : ℕ) → s ≤ n → 2 * (k + length (of_length t f s)) ≤ length out
    few s l = omega (arith, of_length-grows t f s n l)

    pub writing-length : (s count : ℕ) (pairs : List ℕ) → s ≤ n → Writing s count pairs → length pairs ≡ length out
    writing-length s count pairs l w = ap length w.written ∙ laid-length k out (of_length t f s) (few s l)

    module _ (s count : ℕ) (pairs : List ℕ) (l : s < n) (w : Writing s count pairs) where
      more : t s ≡ f → length (of_length t f (s + 1)) ≡ length (of_length t f s) + 1
      more e = ap length (of_length-found t f s e) ∙ length-append (of_length t f s) (record { start = s; size = f } ∷ [])

      pub writing_room : t s ≡ f → 2 * (count + 1) ≤ length pairs
      writing_room e = omega (arith, more e, few (s + 1) (omega arith), w.counted, writing-length s count pairs (omega arith) w)

      pub writing-found : (new : List ℕ) → t s ≡ f → new ≡ laid_behind count (record { start = s; size = f } ∷ []) pairs → Writing (s + 1) (count + 1) new
      writing-found new e q =
          let one : List Run = record { start = s; size = f } ∷ [] in
          let found : of_length t f (s + 1) ≡ of_length t f s ++ one = of_length-found t f s e in
          let fits : 2 * (k + length (of_length t f s ++ one)) ≤ length out = omega (arith, ap length found, few (s + 1) (omega arith)) in
          record {
            counted = omega (arith, more e, w.counted);
            written = q ∙ ap₂ (λ (i : ℕ) (u : List ℕ). laid_behind i one u) w.counted w.written ∙ laid_more k out (of_length t f s) one fits
                ∙ ap (λ (u : List Run). laid_behind k u out) (sym found);
          }

      pub writing_other : (t s ≡ f → ⊥) → Writing (s + 1) count pairs
      writing_other e =
          let same : of_length t f (s + 1) ≡ of_length t f s = of_length_other t f s e in
          record {
            counted = w.counted ∙ ap (λ (u : List Run). k + length u) (sym same);
            written = w.written ∙ ap (λ (u : List Run). laid_behind k u out) (sym same);
          }

-- ---- all lengths: the runs of 1 to f cells are written, `count` of them

module _ (t : ℕ → ℕ) (n : ℕ) (out : List ℕ) where
  pub record Wrote (f count : ℕ) (pairs : List ℕ) : Type 0 where
    pub counted : count ≡ length (up_to_length t n f)
    pub written : pairs ≡ laid_behind 0 (up_to_length t n f) out

  pub wrote_none : Wrote 0 0 out
  unfolding up_to_length
  wrote_none = record { counted = refl; written = sym (laid_none 0 out) }

  module _ (room : length out ≡ 2 * n) where
    fits : (f : ℕ) → 2 * (0 + length (up_to_length t n f)) ≤ length out
    fits f = omega (arith, length_most t n f)

    -- those of less than f cells are written
    module _ (f count : ℕ) (pairs : List ℕ) (pos : 0 < f) (w : Wrote (f - 1) count pairs) where
      abbrev before : List Run
      before = up_to_length t n (f - 1)

      abbrev now : List Run
      now = of_length t f n

      next : up_to_length t n f ≡ before ++ now
      next = up_to_next t n f pos

      both_lengths : length (up_to_length t n f) ≡ length before + length now
      both_lengths = ap length next ∙ length-append before now

      pub wrote_room : 2 * (count + length (of_length t f n)) ≤ length pairs
      wrote_room = omega (arith, fits f, both_lengths, w.counted, ap length w.written ∙ laid-length 0 out before (fits (f - 1)))

      pub wrote-next : (z : ℕ) (new : List ℕ) → z ≡ count + length (of_length t f n) → new ≡ laid_behind count (of_length t f n) pairs → Wrote f z new
      wrote-next z new e q =
          let few : 2 * (0 + length (before ++ now)) ≤ length out = omega (arith, ap length next, fits f) in
          let from : count ≡ 0 + length before = omega (arith, w.counted) in
          record {
            counted = omega (arith, both_lengths, w.counted);
            written = q ∙ ap₂ (λ (i : ℕ) (u : List ℕ). laid_behind i now u) from w.written ∙ laid_more 0 out before now few
                ∙ ap (λ (u : List Run). laid_behind 0 u out) (sym next);
          }
