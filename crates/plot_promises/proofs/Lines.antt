-- The check of one line tells the first of its checks that fails, and the test of the lines in turn is what specs/Lines.antt says of every line and of every two
-- neighbours. By induction on the number of lines: the lines after the first are the lines of the bytes after the first three.
use mathlib.Core.Path.{◌≡◌, refl, sym, ap, subst, ◌∙◌}
use mathlib.Core.Logic.{◌⊎◌, ◌↔◌, ◌≢◌, inl, inr, ⊎_elim}
use mathlib.Core.Bool.{Bool, true, false}
use mathlib.Core.List.{List, [], ◌∷◌}
use Prim.Native.Nat.{ℕ, zero, suc, zero-le, suc-le-suc, ◌+◌, ◌*◌, ◌<◌, ◌≤◌}
use native.Mathlib.Omega.{arith}
use native.Mathlib.Nat.{not-suc-le-zero, le_of_suc-le-suc}
use Rattle.std.specs.Prelude.{Result, Ok, Err, is_ok}
use lib.ListN.{drop}
use lib.Seq.{drop-drop}
use lib.Dec.{ltb, leb, eqb}
use borrow.Author.Tests.{le-ltb, lt-ltb, le-leb, eq-eqb, ltb-true, ltb-false, leb-true, eqb-true}
use Rattle.lists.specs.Choice.{pick}
use Rattle.lists.proofs.Test.{true_false}
use Rattle.plot.specs.declared.Line.{Line}
use Rattle.plot.specs.declared.BadLine.{BadLine}
use Rattle.plot.specs.declared.LineFault.{LineFault}
use Rattle.plot.specs.declared.LineFault.TheVariants.{Species, Class, Count, Order}
use Rattle.plot.specs.Layout.{line_of, no_line, within, rises, line_check, fault_number, figure_number, line_holds, lines_check, lines_hold}
use Rattle.plot.proofs.Lines.{hold_none, hold_first}
use Rattle.plot_promises.specs.Lines.{line_at, SpeciesInRange, ClassInRange, CountInRange, InRanges, Above, LinesHold, LinesHoldIff}
use Rattle.plot_promises.specs.Checks.{FirstFails, NoneFails}
use Rattle.plot_promises.specs.Figures.{checks_of_line, LineCheckExactly}
use Rattle.plot_promises.proofs.Checks.{first_one, not-both, first_of, Tested, unless_true, chosen}

-- two tests of which both have to be true
pub pick_true : (t u : Bool) → pick t u false ≡ true → (t ≡ true) × (u ≡ true)
pick_true true u h = (refl, h)
pick_true false u h = absurd (true_false h refl)

-- a number within its range
pub within_iff : (least most x : ℕ) → (within least most x ≡ true) ↔ ((least ≤ x) × (x ≤ most))
within_iff least most x = (by_test (ltb x least) refl, λ h. rw (le-ltb x least h.0, le-leb x most h.1))
  where
    by_test : (t : Bool) → ltb x least ≡ t → pick t false (leb x most) ≡ true → (least ≤ x) × (x ≤ most)
    by_test true e h = absurd (true_false h refl)
    by_test false e h = (ltb-false x least e, leb-true x most h)

rises_iff : (before line : Line) → (rises before line ≡ true) ↔ Above before line
unfolding rises
rises_iff before line = (
  by_species (ltb before.species line.species) refl,
  ⊎_elim (λ h. rw (lt-ltb _ _ h)) (λ h. rw (eq-eqb _ _ h.0, lt-ltb before.class line.class h.1) (either (ltb before.species line.species))),
)
  where
    either : (t : Bool) → pick t true true ≡ true
    either true = refl
    either false = refl

    by_species : (t : Bool) → ltb before.species line.species ≡ t
        → pick t true (pick (eqb before.species line.species) (ltb before.class line.class) false) ≡ true → Above before line
    by_species true e h = inl (ltb-true _ _ e)
    by_species false e h =
        let a = pick_true _ _ h in
        inr (eqb-true _ _ a.0, ltb-true _ _ a.1)

-- a line holds where its figure is 0
pub fault_some : (f : LineFault) → fault_number f ≢ 0
fault_some Species e = omega arith
fault_some Class e = omega arith
fault_some Count e = omega arith
fault_some Order e = omega arith

holds_iff : (c : Result Unit LineFault) → (is_ok c ≡ true) ↔ (figure_number c ≡ 0)
holds_iff (Ok u) = (λ e. refl, λ e. refl)
holds_iff (Err f) = (λ e. absurd (true_false refl (sym e)), λ e. absurd (fault_some f e))

-- one line: the choice by tests is the first check that fails
module _ (before line : Line) where
  abbrev Figure : Result Unit LineFault → ℕ → Type 0
  Figure check figure = figure_number check ≡ figure

  abbrev line_tests : List (Tested Figure)
  line_tests =
      unless_true Figure 1 (Err Species) refl (within 1 99 line.species) (SpeciesInRange line) (within_iff 1 99 line.species)
      ∷ unless_true Figure 2 (Err Class) refl (within 1 200 line.class) (ClassInRange line) (within_iff 1 200 line.class)
      ∷ unless_true Figure 3 (Err Count) refl (within 1 255 line.count) (CountInRange line) (within_iff 1 255 line.count)
      ∷ unless_true Figure 4 (Err Order) refl (rises before line) (Above before line) (rises_iff before line)
      ∷ []

  pub line_check_is : ((k : ℕ) × FirstFails (checks_of_line before line) k × Figure (line_check before line) k) ⊎ (NoneFails (checks_of_line before line) × (line_check before line ≡ Ok tt))
  unfolding line_check
  line_check_is = chosen Figure line_tests (Ok tt)

  -- the number of a check that fails is not 0
  pub figure_some : (k : ℕ) → FirstFails (checks_of_line before line) k → k ≢ 0
  figure_some k = first_of (λ (j : ℕ). j ≢ 0) (checks_of_line before line) k ((λ e. omega arith), ((λ e. omega arith), ((λ e. omega arith), ((λ e. omega arith), tt))))

  pub line_check_exactly : LineCheckExactly before line
  line_check_exactly =
      ⊎_elim
      (λ h. record {
        fails = λ figure z. ((λ e. subst (FirstFails (checks_of_line before line)) (sym h.2 ∙ e) h.1), λ f. h.2 ∙ first_one (checks_of_line before line) h.0 figure h.1 f);
        holds = ((λ e. absurd (figure_some h.0 h.1 (sym h.2 ∙ e))), λ n. absurd (not-both (checks_of_line before line) h.0 h.1 n));
      })
      (λ h. record {
        fails = λ figure z. ((λ e. absurd (z (sym e ∙ ap figure_number h.1))), λ f. absurd (not-both (checks_of_line before line) figure f h.0));
        holds = ((λ e. h.0), λ n. ap figure_number h.1);
      })
      line_check_is

  pub line_iff : (line_holds before line ≡ true) ↔ (InRanges line × Above before line)
  line_iff = (
    (λ e.
        let n = line_check_exactly.holds.0 ((holds_iff (line_check before line)).0 e) in
        (record { species = n.0; class = n.1.0; count = n.1.1.0 }, n.1.1.1.0)),
    (λ h. (holds_iff (line_check before line)).1 (line_check_exactly.holds.1 (h.0.species, (h.0.class, (h.0.count, (h.1, tt)))))),
  )

-- the lines after the first
pub line_after : (s : List ℕ) (i : ℕ) → line_at (drop 3 s) i ≡ line_at s (suc i)
line_after s i =
    let z : 3 + i * 3 ≡ suc i * 3 = omega arith in
    ap line_of (drop-drop (i * 3) 3 s ∙ ap (λ (n : ℕ). drop n s) z)

-- lines after the line `before`: the first of them is above it
abbrev HoldAfter : Line → ℕ → List ℕ → Type 0
HoldAfter before count s = LinesHold count s × (0 < count → Above before (line_at s 0))

module _ (before : Line) (count : ℕ) (s : List ℕ) where
  more : InRanges (line_at s 0) → Above before (line_at s 0) → HoldAfter (line_at s 0) count (drop 3 s) → HoldAfter before (suc count) s
  more r a h = (record { ranges = ranges₁; rise = rise₁ }, λ z. a)
    where
      ranges₁ : (i : ℕ) → i < suc count → InRanges (line_at s i)
      ranges₁ zero l = r
      ranges₁ (suc i) l = subst InRanges (line_after s i) (h.0.ranges i (le_of_suc-le-suc l))

      rise₁ : (i : ℕ) → suc i < suc count → Above (line_at s i) (line_at s (suc i))
      rise₁ zero l = subst (Above (line_at s 0)) (line_after s 0) (h.1 (le_of_suc-le-suc l))
      rise₁ (suc i) l =
          subst (λ (x : Line). Above x (line_at s (suc (suc i)))) (line_after s i)
          (subst (Above (line_at (drop 3 s) i)) (line_after s (suc i)) (h.0.rise i (le_of_suc-le-suc l)))

  less : LinesHold (suc count) s → HoldAfter (line_at s 0) count (drop 3 s)
  less h = (record { ranges = ranges₁; rise = rise₁ }, λ z. subst (Above (line_at s 0)) (before-after 0) (h.rise 0 (suc-le-suc z)))
    where
      before-after : (i : ℕ) → line_at s (suc i) ≡ line_at (drop 3 s) i
      before-after i = sym (line_after s i)

      ranges₁ : (i : ℕ) → i < count → InRanges (line_at (drop 3 s) i)
      ranges₁ i l = subst InRanges (before-after i) (h.ranges (suc i) (suc-le-suc l))

      rise₁ : (i : ℕ) → suc i < count → Above (line_at (drop 3 s) i) (line_at (drop 3 s) (suc i))
      rise₁ i l =
          subst (λ (x : Line). Above x (line_at (drop 3 s) (suc i))) (before-after i)
          (subst (Above (line_at s (suc i))) (before-after (suc i)) (h.rise (suc i) (suc-le-suc l)))

hold_after : (count : ℕ) (before : Line) (s : List ℕ) → (lines_hold before count s ≡ true) ↔ HoldAfter before count s
hold_after zero before s = (
  (λ e. (record { ranges = λ i l. absurd (not-suc-le-zero l); rise = λ i l. absurd (not-suc-le-zero l) }, λ l. absurd (not-suc-le-zero l))),
  λ h. hold_none before s,
)
hold_after (suc count) before s = (
  (λ e.
      let a = pick_true (line_holds before (line_of s)) _ (sym (hold_first before count s) ∙ e) in
      let b = (line_iff before (line_of s)).0 a.0 in
      more before count s b.0 b.1 ((hold_after count (line_of s) (drop 3 s)).0 a.1)),
  (λ h.
      let a : line_holds before (line_of s) ≡ true = (line_iff before (line_of s)).1 (h.0.ranges 0 (suc-le-suc zero-le), h.1 (suc-le-suc zero-le)) in
      hold_first before count s ∙ ap (λ (t : Bool). pick t (lines_hold (line_of s) count (drop 3 s)) false) a ∙ (hold_after count (line_of s) (drop 3 s)).1 (less before count s h.0)),
)

-- lines that all hold are not refused
pub held_check : (before : Line) (count : ℕ) (s : List ℕ) → lines_hold before count s ≡ true → lines_check before 0 count s ≡ Ok tt
unfolding lines_hold
held_check before count s e = by_check (lines_check before 0 count s) e
  where
    by_check : (c : Result Unit BadLine) → is_ok c ≡ true → c ≡ Ok tt
    by_check (Ok u) q = refl
    by_check (Err bad) q = absurd (true_false q refl)

-- every line in its ranges is above the one that stands before the first
pub lines_hold_iff : LinesHoldIff
lines_hold_iff count lines = (
  (λ e. ((hold_after count no_line lines).0 e).0),
  (λ h. (hold_after count no_line lines).1 (h, λ z. inl (h.ranges 0 z).species.0)),
)
