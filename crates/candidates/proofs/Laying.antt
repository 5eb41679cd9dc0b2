-- Pairs laid into a buffer one behind the other: what a run that is written adds, and where the two numbers of a pair stand.
use mathlib.Core.Path.{◌≡◌, refl, sym, ap, ap₂, ◌∙◌}
use mathlib.Core.List.{List, [], ◌∷◌, ◌++◌, append-nil, append_assoc}
use Prim.Native.Nat.{ℕ, zero, suc, ◌+◌, ◌-◌, ◌*◌, ◌≤◌, ◌<◌}
use native.Mathlib.Nat.{le_of_suc-le-suc, not-suc-le-zero}
use native.Mathlib.Omega.{arith}
use borrow.Rule.Slice.PartMut.{put_mid, Post-is}
use lib.ListN.{length, get_or, take, drop, length-append, length-drop, take-append-drop}
use lib.Seq.{length-take-le, take_at, drop_at, drop-drop, drop-append-add}
use Rattle.candidates.specs.Candidates.{Run, pair_bytes, laid_behind}

-- ---- the bytes of runs

pub pair_length : (l : List Run) → length (pair_bytes l) ≡ 2 * length l
unfolding pair_bytes
pair_length [] = refl
pair_length (x ∷ l) = omega (arith, pair_length l)

pub pair_append : (a b : List Run) → pair_bytes (a ++ b) ≡ pair_bytes a ++ pair_bytes b
unfolding pair_bytes
pair_append [] b = refl
pair_append (x ∷ a) b = ap (λ (u : List ℕ). x.start ∷ x.size ∷ u) (pair_append a b)

-- run i stands at bytes 2 i and 2 i + 1
pub pair_at : (l : List Run) (rest : List ℕ) (i : ℕ) (d : Run) → i < length l
    → (get_or (pair_bytes l ++ rest) (2 * i) 0 ≡ (get_or l i d).start) × (get_or (pair_bytes l ++ rest) (2 * i + 1) 0 ≡ (get_or l i d).size)
unfolding pair_bytes
pair_at [] rest i d h = absurd (not-suc-le-zero h)
pair_at (x ∷ l) rest zero d h = (refl, refl)
pair_at (x ∷ l) rest (suc i) d h =
    let k = pair_at l rest i d (le_of_suc-le-suc h) in
    let e : 2 * suc i ≡ suc (suc (2 * i)) = omega arith in
    let f : 2 * suc i + 1 ≡ suc (suc (2 * i + 1)) = omega arith in
    (ap (λ (j : ℕ). get_or (pair_bytes (x ∷ l) ++ rest) j 0) e ∙ k.0, ap (λ (j : ℕ). get_or (pair_bytes (x ∷ l) ++ rest) j 0) f ∙ k.1)

-- ---- laid behind k pairs

module _ (k : ℕ) (out : List ℕ) where
  pub laid_none : laid_behind k [] out ≡ out
  unfolding laid_behind pair_bytes
  laid_none =
      let e : 2 * (k + 0) ≡ 2 * k = omega arith in
      ap₂ (λ (u : List ℕ) (j : ℕ). u ++ drop j out) (append-nil (take (2 * k) out)) e ∙ take-append-drop (2 * k) out

  -- what stands before the bytes that are left
  abbrev front : List Run → List ℕ
  front l = take (2 * k) out ++ pair_bytes l

  front_length : (l : List Run) → 2 * (k + length l) ≤ length out → length (front l) ≡ 2 * (k + length l)
  front_length l h = omega (arith, length-append (take (2 * k) out) (pair_bytes l), length-take-le (2 * k) out (omega arith), pair_length l)

  pub laid-length : (l : List Run) → 2 * (k + length l) ≤ length out → length (laid_behind k l out) ≡ length out
  unfolding laid_behind
  laid-length l h =
      omega (arith, length-append (front l) (drop (2 * (k + length l)) out), front_length l h, length-drop (2 * (k + length l)) out)

  -- the bytes behind are as they were
  pub laid-rest : (l : List Run) → 2 * (k + length l) ≤ length out → drop (2 * (k + length l)) (laid_behind k l out) ≡ drop (2 * (k + length l)) out
  unfolding laid_behind
  laid-rest l h = drop_at (front l) (drop (2 * (k + length l)) out) (2 * (k + length l)) (front_length l h)

  -- runs laid behind those that were laid before
  pub laid_more : (a b : List Run) → 2 * (k + length (a ++ b)) ≤ length out → laid_behind (k + length a) b (laid_behind k a out) ≡ laid_behind k (a ++ b) out
  unfolding laid_behind
  laid_more a b h =
      let n : length (a ++ b) ≡ length a + length b = length-append a b in
      let few : 2 * (k + length a) ≤ length out = omega arith in
      let rest : List ℕ = drop (2 * (k + length a)) out in
      let la : length (front a) ≡ 2 * (k + length a) = front_length a few in
      let split : 2 * (k + length a + length b) ≡ length (front a) + 2 * length b = omega arith in
      let end : 2 * (k + length a) + 2 * length b ≡ 2 * (k + length (a ++ b)) = omega arith in
      ap₂ (λ (u v : List ℕ). u ++ pair_bytes b ++ v)
      (take_at (front a) rest (2 * (k + length a)) la)
      (ap (λ (j : ℕ). drop j (front a ++ rest)) split ∙ drop-append-add (front a) rest (2 * length b) ∙ drop-drop (2 * length b) (2 * (k + length a)) out
      ∙ ap (λ (j : ℕ). drop j out) end)
      ∙ ap (λ (u : List ℕ). u ++ drop (2 * (k + length (a ++ b))) out)
      (append_assoc (take (2 * k) out) (pair_bytes a) (pair_bytes b) ∙ ap (λ (u : List ℕ). take (2 * k) out ++ u) (sym (pair_append a b)))

-- ---- one run

-- the two bytes of a run, put behind the first k pairs
pub put_law : (k start size : ℕ) (out bytes : List ℕ) → bytes ≡ start ∷ size ∷ []
    → put_mid (2 * k) (2 * k + 2 - 2 * k) out bytes ≡ laid_behind k (record { start = start; size = size } ∷ []) out
unfolding laid_behind pair_bytes
put_law k start size out bytes e =
    let f : 2 * k + 2 ≡ 2 * (k + 1) = omega arith in
    ap₂ (λ (u v : List ℕ). take (2 * k) out ++ (u ++ v)) e (Post-is (2 * k) (2 * k + 2) out (omega arith) ∙ ap (λ (j : ℕ). drop j out) f)
    ∙ sym (append_assoc (take (2 * k) out) (start ∷ size ∷ []) (drop (2 * (k + 1)) out))
