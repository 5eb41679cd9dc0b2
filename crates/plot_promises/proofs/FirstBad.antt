-- The check of lines in turn finds the first line that fails, and in it the first value: by induction on the lines that are left, those passed hold. There is one
-- such line at most.
use mathlib.Core.Path.{◌≡◌, refl, sym, ap, ◌∙◌}
use mathlib.Core.Logic.{◌≢◌, inl, inr, ⊎_elim}
use mathlib.Core.List.{List, [], ◌∷◌}
use Prim.Native.Nat.{ℕ, zero, suc, ◌+◌, ◌*◌, ◌<◌}
use native.Mathlib.Omega.{arith}
use native.Mathlib.Nat.{not-suc-le-zero}
use Rattle.std.specs.Prelude.{Result, Ok, Err}
use lib.ListN.{drop}
use lib.Seq.{drop-drop}
use Rattle.lists.proofs.Test.{lt-or_ge}
use Rattle.plot.specs.declared.Line.{Line}
use Rattle.plot.specs.declared.LineFault.{LineFault}
use Rattle.plot.specs.declared.BadLine.{BadLine}
use Rattle.plot.specs.Layout.{no_line, line_check, line_then, fault_number, figure_number, lines_check}
use Rattle.plot_promises.specs.Lines.{line_at, Above, LinesHold}
use Rattle.plot_promises.specs.Checks.{◌unless◌, FirstFails, NoneFails}
use Rattle.plot_promises.specs.Figures.{value_checks, checks_of_line, checks_at, FirstBadLine, FirstLineRises}
use Rattle.plot_promises.proofs.Checks.{first_one, not-both, first-before}
use Rattle.plot_promises.proofs.Lines.{fault_some, line_check_exactly, figure_some}

-- the line before line i
abbrev line_before : List ℕ → ℕ → Line
line_before lines zero = no_line
line_before lines (suc i) = line_at lines i

-- with no line before it, a line that holds rises above `no_line`: the checks of line i are those after the line before it
none-at : (lines : List ℕ) (i : ℕ) → NoneFails (checks_of_line (line_before lines i) (line_at lines i)) → NoneFails (checks_at lines i)
none-at lines zero h = (h.0, (h.1.0, (h.1.1.0, tt)))
none-at lines (suc i) h = h

first-at : (lines : List ℕ) (i figure : ℕ) → FirstFails (checks_of_line (line_before lines i) (line_at lines i)) figure → FirstFails (checks_at lines i) figure
first-at lines zero figure (inl h) = inl h
first-at lines zero figure (inr (s, inl h)) = inr (s, inl h)
first-at lines zero figure (inr (s, inr (c, inl h))) = inr (s, inr (c, inl h))
first-at lines zero figure (inr (s, inr (c, inr (n, inl h)))) = absurd (h.0 (inl s.0))
first-at lines zero figure (inr (s, inr (c, inr (n, inr (a, x))))) = absurd x
first-at lines (suc i) figure h = h

at_first : (lines : List ℕ) (i figure : ℕ) → FirstFails (checks_at lines i) figure → FirstFails (checks_of_line (line_before lines i) (line_at lines i)) figure
at_first lines zero figure h = first-before (value_checks (line_at lines 0)) ((4 unless (Above no_line (line_at lines 0))) ∷ []) figure h
at_first lines (suc i) figure h = h

pub bad_some : (count : ℕ) (lines : List ℕ) (figure index : ℕ) → FirstBadLine count lines figure index → figure ≢ 0
bad_some count lines figure index b = figure_some (line_before lines index) (line_at lines index) figure (at_first lines index figure b.fails)

-- the first line that fails is one
module _ (count : ℕ) (lines : List ℕ) (f i g j : ℕ) (a : FirstBadLine count lines f i) (b : FirstBadLine count lines g j) where
  pub bad_index : i ≡ j
  bad_index =
      ⊎_elim
      (λ l. absurd (not-both (checks_at lines i) f a.fails (b.before i l)))
      (λ k.
      ⊎_elim
      (λ l. absurd (not-both (checks_at lines j) g b.fails (a.before j l)))
      (λ l. omega arith)
      (lt-or_ge j i))
      (lt-or_ge i j)

  pub bad_figure : f ≡ g
  bad_figure = first_one (checks_at lines i) f g a.fails (rw bad_index b.fails)

-- what the check of `count` lines found
pub data Found (count : ℕ) (lines : List ℕ) (found : Result Unit BadLine) : Type 0 where
  none : found ≡ Ok tt → ((i : ℕ) → i < count → NoneFails (checks_at lines i)) → Found count lines found
  first : (bad : BadLine) → found ≡ Err bad → FirstBadLine count lines (fault_number bad.fault) bad.index → Found count lines found

module _ (lines : List ℕ) where
  abbrev Passed : ℕ → Type 0
  Passed i = (j : ℕ) → j < i → NoneFails (checks_at lines j)

  one_more : (i : ℕ) → Passed i → NoneFails (checks_of_line (line_before lines i) (line_at lines i)) → Passed (suc i)
  one_more i passed n j l =
      ⊎_elim
      (passed j)
      (λ k.
      let e : j ≡ i = omega arith in
      rw e (none-at lines i n))
      (lt-or_ge j i)

  found_turn : (left i count : ℕ) → i + left ≡ count → Passed i → Found count lines (lines_check (line_before lines i) i left (drop (i * 3) lines))
  unfolding lines_check
  found_turn zero i count e passed = none refl (λ j l. passed j (omega arith))
  found_turn (suc left) i count e passed =
      let l : suc i + left ≡ count = omega arith in
      by_line (line_check (line_before lines i) (line_at lines i)) refl (found_turn left (suc i) count l)
    where
      by_line : (c : Result Unit LineFault) → line_check (line_before lines i) (line_at lines i) ≡ c
          → (Passed (suc i) → Found count lines (lines_check (line_at lines i) (suc i) left (drop (suc i * 3) lines)))
          → Found count lines (line_then i (line_check (line_before lines i) (line_at lines i)) (lines_check (line_at lines i) (suc i) left (drop 3 (drop (i * 3) lines))))
      by_line (Ok u) q rest =
          let n = (line_check_exactly (line_before lines i) (line_at lines i)).holds.0 (ap figure_number q) in
          let y : i * 3 + 3 ≡ suc i * 3 = omega arith in
          let d : drop 3 (drop (i * 3) lines) ≡ drop (suc i * 3) lines = drop-drop 3 (i * 3) lines ∙ ap (λ (n : ℕ). drop n lines) y in
          rw (q, d) (rest (one_more i passed n))
      by_line (Err f) q rest =
          let x = ((line_check_exactly (line_before lines i) (line_at lines i)).fails (fault_number f) (fault_some f)).0 (ap figure_number q) in
          let b : FirstBadLine count lines (fault_number f) i = record { inside = omega arith; before = passed; fails = first-at lines i _ x } in
          rw q (first (record { fault = f; index = i }) refl b)

  lines-found : (count : ℕ) → Found count lines (lines_check no_line 0 count lines)
  lines-found count = found_turn count 0 count (omega arith) (λ j l. absurd (not-suc-le-zero l))

  module _ (count : ℕ) where
    -- the line that is found is the first that fails
    pub found_first : (bad : BadLine) → lines_check no_line 0 count lines ≡ Err bad → FirstBadLine count lines (fault_number bad.fault) bad.index
    found_first bad e = by_found (lines-found count)
      where
        by_found : Found count lines (lines_check no_line 0 count lines) → FirstBadLine count lines (fault_number bad.fault) bad.index
        by_found (none q n) = absurd (let same : Ok tt ≡ Err bad = sym q ∙ e in cc)
        by_found (first found q b) =
            let same : Err found ≡ Err bad = sym q ∙ e in
            let is : found ≡ bad = cc in
            rw (← is) b

    -- lines that hold have none
    pub hold_no_first : LinesHold count lines → (f i : ℕ) → FirstBadLine count lines f i → ⊥
    hold_no_first h f i b = by_line i b.inside b.fails
      where
        by_line : (j : ℕ) → j < count → FirstFails (checks_at lines j) f → ⊥
        by_line zero l x =
            let r = h.ranges 0 l in
            not-both (checks_at lines 0) f x (r.species, (r.class, (r.count, tt)))
        by_line (suc j) l x =
            let r = h.ranges (suc j) l in
            not-both (checks_at lines (suc j)) f x (r.species, (r.class, (r.count, (h.rise j l, tt))))

pub first_line_rises : FirstLineRises
first_line_rises count lines b = by_case b.fails
  where
    by_case : FirstFails (checks_at lines 0) 4 → ⊥
    by_case (inl h) = omega (arith, h.1)
    by_case (inr (s, inl h)) = omega (arith, h.1)
    by_case (inr (s, inr (c, inl h))) = omega (arith, h.1)
    by_case (inr (s, inr (c, inr (n, x)))) = x
