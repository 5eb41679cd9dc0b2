-- A run of a sheet meets each block in one run. Cell i of block d stands at i D + d, so the cells at or after sheet place a are those from
-- (a + D − 1 − d)/D on; between two such bounds lie at most h cells where the sheet's run has at most D h.
use mathlib.Core.Path.{◌≡◌}
use mathlib.Core.Logic.{inl, inr, ⊎_elim}
use Prim.Native.Nat.{ℕ, suc, ◌+◌, ◌*◌, ◌-◌, ◌/◌, ◌<◌, ◌≤◌}
use native.Mathlib.Nat.{suc-mul, add-mul, mul_comm, le-div_iff_mul-le, div-lt_iff_lt-mul}
use native.Mathlib.Omega.{arith}
use Rattle.lists.proofs.Test.{lt-or_ge}
use Rattle.code.specs.Run.{Outside}

module _ (D d : ℕ) (h : d < D) where
  -- the first cell of block d at or after sheet place a
  abbrev pub first : ℕ → ℕ
  first a = (a + (D - 1 - d)) / D

  some : 0 < D
  some = omega arith

  pub before-first : (a i : ℕ) → i < first a → i * D + d < a
  before-first a i l =
      let g : suc i * D ≤ a + (D - 1 - d) = (le-div_iff_mul-le some).0 l in
      omega (arith, suc-mul i D)

  pub after_first : (a i : ℕ) → first a ≤ i → a ≤ i * D + d
  after_first a i l =
      let k : first a < suc i = omega arith in
      let g : a + (D - 1 - d) < suc i * D = (div-lt_iff_lt-mul some).0 k in
      omega (arith, suc-mul i D)

  -- the sheet's run starts at a and has `size` cells
  module _ (a size : ℕ) where
    pub ordered : first a ≤ first (a + size)
    ordered =
        ⊎_elim
        (λ l. let g : first (a + size) * D + d < a = before-first a (first (a + size)) l in
        let k : a + size ≤ first (a + size) * D + d = after_first (a + size) (first (a + size)) (omega arith) in
        absurd (omega arith))
        (λ l. l) (lt-or_ge (first (a + size)) (first a))

    abbrev pub cells : ℕ
    cells = first (a + size) - first a

    pub ends : first a + cells ≡ first (a + size)
    ends = omega (arith, ordered)

    pub within : (n : ℕ) → a + size ≤ D * n → first a + cells ≤ n
    within n w =
        ⊎_elim
        (λ l. let g : n * D + d < a + size = before-first (a + size) n l in absurd (omega (arith, mul_comm n D)))
        (λ l. omega (arith, ends)) (lt-or_ge n (first (a + size)))

    pub few : (k : ℕ) → size ≤ D * k → cells ≤ k
    few k w =
        ⊎_elim
        (λ l. let g : (first a + k) * D + d < a + size = before-first (a + size) (first a + k) l in
        let j : a ≤ first a * D + d = after_first a (first a) (omega arith) in
        absurd (omega (arith, add-mul (first a) k D, mul_comm k D)))
        (λ l. omega arith) (lt-or_ge (first a + k) (first (a + size)))

    -- a cell outside the block's run stands outside the sheet's
    pub stays_outside : (i : ℕ) → Outside (first a) cells i → Outside a size (i * D + d)
    stays_outside i o = ⊎_elim (λ l. inl (before-first a i l)) (λ l. inr (after_first (a + size) i (omega (arith, ends)))) o
