-- Today's reading of a payload, with each refusal as its number and place, is the former one. The check of a line fails in the same cases as before, whatever it names as
-- the first fault, and then both readings make the same tests in the same order: by induction on the steps of the reading.
use Prim.Native.Nat.{ℕ, zero, suc, ◌*◌}
use mathlib.Core.Path.{◌≡◌, refl, ap, ◌∙◌}
use mathlib.Core.Bool.{Bool, true, false, not}
use mathlib.Core.List.{List}
use Rattle.std.specs.Prelude.{Some, None, Result, Ok, Err, is_ok}
use lib.ListN.{length, get_or, take, drop}
use lib.Dec.{ltb, leb, eqb}
use Rattle.lists.specs.Choice.{pick}
use Rattle.plot.specs.declared.Line.{Line}
use Rattle.plot.specs.declared.LineFault.{LineFault}
use Rattle.plot.specs.declared.LineFault.TheVariants.{Order}
use Rattle.plot.specs.declared.BadLine.{BadLine}
use Rattle.plot.specs.declared.Refusal.{Refusal}
use Rattle.plot.specs.Layout.{Plot, mark, header_length, plot_of, count_of, record_length, line_of, no_line, within, rises, line_check, lines_check, line_holds, lines_hold}
use Rattle.plot.specs.Grammar.{Step, bad_line, after_lines, all_zero, agree, head_at, step_at, Parsed, Plots, Stopped, onto, late_checked, read_step, read_from, longest, reading}
use Rattle.plot.specs.Numbers.{number_of, place_of}
use Rattle.plot.proofs.Lines.{hold_none, hold_first}
use Rattle.former.specs.Former.{Former, accepted, refused, former_line_holds, former_lines_hold, former_head_at, former_step_at}
use Rattle.former.specs.Former.{PlotsRead, former_onto, former_read_step, former_read_from, former_reading}
use Rattle.former.specs.Unchanged.{standing}

-- a function of a choice by a test is the choice of its values, by the same test or by an equal one
module _ {A B : Type 0} (f : A → B) where
  pub through : (t : Bool) {x y : A} {x' y' : B} → f x ≡ x' → f y ≡ y' → f (pick t x y) ≡ pick t x' y'
  through true a b = a
  through false a b = b

  pub through_equal : {t u : Bool} {x y : A} {x' y' : B} → t ≡ u → f x ≡ x' → f y ≡ y' → f (pick t x y) ≡ pick u x' y'
  through_equal {t} {u} {x} {y} {x'} {y'} e a b = through t a b ∙ ap (λ (v : Bool). pick v x' y') e

-- a function of an answer after the check of lines is a choice by whether they hold
module _ {A B : Type 0} (f : Result A Refusal → B) (at : ℕ) where
  pub through_lines : (c : Result Unit BadLine) {t : Bool} {y : Result A Refusal} {x' y' : B} → is_ok c ≡ t → ((bad : BadLine) → f (Err (bad_line at bad)) ≡ x') → f y ≡ y'
      → f (after_lines at c y) ≡ pick (not t) x' y'
  through_lines (Ok u) {t} {y} {x'} {y'} e a b = b ∙ ap (λ (v : Bool). pick (not v) x' y') e
  through_lines (Err bad) {t} {y} {x'} {y'} e a b = a bad ∙ ap (λ (v : Bool). pick (not v) x' y') e

-- ---- lines

abbrev held : Result Unit LineFault → Bool
held c = is_ok c

rise_held : (t : Bool) → held (pick (not t) (Err Order) (Ok tt)) ≡ t
rise_held true = refl
rise_held false = refl

pub line_as_before : (before line : Line) → line_holds before line ≡ former_line_holds before line
unfolding line_check former_line_holds
line_as_before before line =
    through held (not (within 1 99 line.species)) refl
    (through held (not (within 1 200 line.class)) refl
    (through held (not (within 1 255 line.count)) refl
    (rise_held (rises before line))))

pub lines_as_before : (count : ℕ) (before : Line) (s : List ℕ) → lines_hold before count s ≡ former_lines_hold before count s
unfolding former_lines_hold
lines_as_before zero before s = hold_none before s
lines_as_before (suc count) before s =
    hold_first before count s ∙ through_equal (λ (t : Bool). t) (line_as_before before (line_of s)) (lines_as_before count (line_of s) (drop 3 s)) refl

-- ---- what stands at a place

head_as_before : (at : ℕ) (s : List ℕ) → standing (head_at at s) ≡ former_head_at at s
unfolding head_at former_head_at
head_as_before at s =
    through standing (not (agree mark s)) refl
    (through standing (ltb (length s) header_length) refl
    (through standing (ltb 40 (count_of s)) refl
    (through standing (ltb (length s) (record_length (count_of s))) refl
    (through standing (eqb (plot_of s) 0) refl
    refl))))

pub step_as_before : (at : ℕ) (s : List ℕ) → standing (step_at at s) ≡ former_step_at at s
unfolding step_at former_step_at
step_as_before at s = through standing (eqb (get_or s 0 0) 0) (through standing (all_zero s) refl refl) (head_as_before at s)

-- ---- the reading

-- what was read today, a refusal as its number and place
abbrev pub read : Parsed → Former PlotsRead
read (Plots ps end) = accepted (record { plots = ps; end = end })
read (Stopped r) = refused (number_of r) (place_of r)

onto_as_before : (p : Plot) (q : Parsed) → read (onto p q) ≡ former_onto p (read q)
onto_as_before p (Plots ps end) = refl
onto_as_before p (Stopped r) = refl

-- one step, where the rest is read as before
module _ (rest : ℕ → ℕ → List ℕ → Parsed) (formerRest : ℕ → ℕ → List ℕ → Former PlotsRead)
    (same : (at last : ℕ) (s : List ℕ) → read (rest at last s) ≡ formerRest at last s) where
  read-step_as_before : (at last : ℕ) (s : List ℕ) (step : Step) → read (read_step rest at s (late_checked at last s step)) ≡ former_read_step formerRest at last s (standing step)
  unfolding late_checked read_step former_read_step lines_hold
  read-step_as_before at last s (Ok None) = refl
  read-step_as_before at last s (Err r) = refl
  read-step_as_before at last s (Ok (Some rec)) =
      let here : Plot = record { number = rec.next.last; lines = take (rec.count * 3) (drop header_length s) } in
      let after : List ℕ = drop (record_length rec.count) s in
      let onward : Step → Former PlotsRead = λ step. read (read_step rest at s step) in
      through_lines onward at (lines_check no_line 0 rec.count (drop header_length s)) (lines_as_before rec.count no_line (drop header_length s)) (λ bad. refl)
      (through onward (leb rec.next.last last) refl
      (onto_as_before here (rest rec.next.at rec.next.last after) ∙ ap (former_onto here) (same rec.next.at rec.next.last after)))

pub read_as_before : (steps at last : ℕ) (s : List ℕ) → read (read_from steps at last s) ≡ former_read_from steps at last s
unfolding read_from former_read_from
read_as_before zero at last s = refl
read_as_before (suc steps) at last s =
    read-step_as_before (read_from steps) (former_read_from steps) (read_as_before steps) at last s (step_at at s)
    ∙ ap (former_read_step (former_read_from steps) at last s) (step_as_before at s)

pub reading_as_before : (s : List ℕ) → read (reading s) ≡ former_reading s
unfolding reading former_reading
reading_as_before s = through read (ltb longest (length s)) refl (read_as_before (length s) 0 0 s)
