-- A cell after trees were added to the table: it has them more if it is the one that they went to, and is as it was if not; so the cells stay below a bound
-- that grows by 255 for each line.
use Prim.Native.Nat.{ℕ, zero, suc, zero-le, suc-le-suc, ◌+◌, ◌*◌, ◌<◌, ◌≤◌}
use native.Mathlib.Omega.{arith}
use mathlib.Core.Path.{◌≡◌, refl, sym, ap, subst, ◌∙◌}
use mathlib.Core.Logic.{◌⊎◌, inl, inr, ⊎_elim}
use mathlib.Core.Bool.{Bool, true, false}
use mathlib.Core.List.{List, []}
use lib.ListN.{length, get_or, set, drop}
use lib.Seq.{get_or-set_same, get_or-set_other, set_out}
use lib.Dec.{eqb}
use borrow.Author.Tests.{eqb-true, eqb-false}
use Rattle.lists.proofs.Test.{lt-or_ge}
use Rattle.plot.specs.declared.Line.{Line}
use Rattle.plot.specs.Layout.{tallies, line_of}
use Rattle.plot_promises.specs.Lines.{line_at, InRanges}
use Rattle.plot_promises.proofs.Lines.{line_after}
use Rattle.stand.specs.Table.{column_of, cell_of, plus_at, plus_line, plus_lines}
use Rattle.stand.specs.Bounds.{AtMost}

-- an element of a list after a store at r: the new one there, the old one elsewhere and past the end
module _ {A : Type 0} (t : List A) (r : ℕ) (a d : A) where
  stored : (i : ℕ) → (get_or (set t r a) i d ≡ get_or t i d) ⊎ ((i ≡ r) × (get_or (set t r a) i d ≡ a))
  stored i = by_place (eqb i r) refl
    where
      by_place : (b : Bool) → eqb i r ≡ b → (get_or (set t r a) i d ≡ get_or t i d) ⊎ ((i ≡ r) × (get_or (set t r a) i d ≡ a))
      by_place false e = inl (get_or-set_other t r i a d (eqb-false i r e))
      by_place true e =
          let z : i ≡ r = eqb-true i r e in
          ⊎_elim (λ h. inr (z, ap (λ (k : ℕ). get_or (set t r a) k d) z ∙ get_or-set_same t r a d h)) (λ h. inl (ap (λ (u : List A). get_or u i d) (set_out t r a h))) (lt-or_ge r (length t))

module _ (t : List (List ℕ)) (r c n : ℕ) where
  -- the cell that the trees went to
  pub plus_here : r < length t → c < length (get_or t r []) → cell_of (plus_at r c n t) r c ≡ cell_of t r c + n
  plus_here h k = ap (λ (row : List ℕ). get_or row c 0) (get_or-set_same t r _ [] h) ∙ get_or-set_same (get_or t r []) c _ 0 k

  -- any other
  pub plus_other : (i j : ℕ) → ((i ≡ r) × (j ≡ c) → ⊥) → cell_of (plus_at r c n t) i j ≡ cell_of t i j
  plus_other i j other =
      ⊎_elim (λ e. ap (λ (row : List ℕ). get_or row j 0) e)
      (λ e. ap (λ (row : List ℕ). get_or row j 0) e.1
      ∙ ⊎_elim (λ q. q ∙ ap (λ (k : ℕ). cell_of t k j) (sym e.0)) (λ q. absurd (other (e.0, q.0))) (stored (get_or t r []) c _ 0 j))
      (stored t r _ [] i)

  -- no cell has more than they add
  plus_most : (m : ℕ) → AtMost m t → AtMost (m + n) (plus_at r c n t)
  plus_most m h i j =
      let k : cell_of t i j ≤ m = h i j in
      let l : cell_of t r c ≤ m = h r c in
      ⊎_elim (λ e.
      let z : cell_of (plus_at r c n t) i j ≡ cell_of t i j = ap (λ (row : List ℕ). get_or row j 0) e in
      omega arith)
      (λ e.
      let y : cell_of (plus_at r c n t) i j ≡ get_or (set (get_or t r []) c (cell_of t r c + n)) j 0 = ap (λ (row : List ℕ). get_or row j 0) e.1 in
      ⊎_elim (λ q.
      let x : get_or (set (get_or t r []) c (cell_of t r c + n)) j 0 ≡ cell_of t r j = q in
      let w : cell_of t r j ≤ m = h r j in
      omega arith)
      (λ q.
      let x : get_or (set (get_or t r []) c (cell_of t r c + n)) j 0 ≡ cell_of t r c + n = q.1 in
      omega arith) (stored (get_or t r []) c (cell_of t r c + n) 0 j))
      (stored t r _ [] i)

-- a weaker bound
pub at-most_up : (m n : ℕ) (t : List (List ℕ)) → m ≤ n → AtMost m t → AtMost n t
at-most_up m n t h a i j =
    let k : cell_of t i j ≤ m = a i j in
    omega arith

module _ (rows : List ℕ) where
  pub line_most : (line : Line) (m : ℕ) (t : List (List ℕ)) → line.count ≤ 255 → AtMost m t → AtMost (m + 255) (plus_line rows line t)
  unfolding plus_line
  line_most line m t h a = at-most_up (m + line.count) (m + 255) (plus_line rows line t) (omega arith) (plus_most t (get_or rows line.species 0) (column_of line.class) line.count m a)

  -- k lines whose counts are in their range
  pub lines-most : (k : ℕ) (s : List ℕ) (m : ℕ) (t : List (List ℕ)) → ((i : ℕ) → i < k → InRanges (line_at s i)) → AtMost m t
      → AtMost (m + k * 255) (plus_lines rows (tallies k s) t)
  unfolding plus_lines tallies
  lines-most zero s m t r a = at-most_up m (m + 0 * 255) t (omega arith) a
  lines-most (suc k) s m t r a =
      let z : m + 255 + k * 255 ≤ m + suc k * 255 = omega arith in
      at-most_up (m + 255 + k * 255) (m + suc k * 255) (plus_lines rows (tallies k (drop 3 s)) (plus_line rows (line_of s) t)) z
      (lines-most k (drop 3 s) (m + 255) (plus_line rows (line_of s) t) (λ i l. subst InRanges (sym (line_after s i)) (r (suc i) (suc-le-suc l)))
      (line_most (line_of s) m t (r 0 (suc-le-suc zero-le)).count.1 a))
