-- The cases of the definitions of specs/, each from the plain facts that a test of the code gives; and what a whole record says of its bytes.
-- They hold by computing the definition with the test's value.
use Prim.Native.Nat.{ℕ, zero, suc, suc-le-suc, zero-le, ◌+◌, ◌*◌, ◌-◌, ◌/◌, ◌<◌, ◌≤◌}
use native.Mathlib.Omega.{arith}
use native.Mathlib.Nat.{not-suc-le-zero, mul-div_left}
use mathlib.Core.Path.{◌≡◌, refl, sym, ap, ◌∙◌}
use mathlib.Core.Bool.{Bool, true, false, not, ◌&&◌}
use mathlib.Core.List.{List, [], ◌∷◌}
use Rattle.std.specs.Prelude.{Some, None, Ok, Err}
use lib.ListN.{length, take, drop, get_or, length-drop, drop_of_length-le, take-append-drop}
use lib.Seq.{drop-cons, drop-drop, length-take-le}
use lib.Dec.{ltb, eqb, lit<}
use borrow.Author.Tests.{le-ltb, lt-ltb, le-leb, lt-leb, eq-eqb, ne_eqb, ltb-false, eqb-false, not-false}
use Rattle.plot.specs.declared.BadLine.{BadLine}
use Rattle.plot.specs.declared.Record.{Record}
use Rattle.plot.specs.declared.Refusal.{Refusal}
use Rattle.plot.specs.declared.Refusal.TheVariants.{WrongLength, BadMark, CutShort, PlotOrder}
use Rattle.std.specs.List.{list_all, zip}
use Rattle.lists.specs.Choice.{pick}
use Rattle.plot.specs.Layout.{Plot, mark, header_length, plot_of, count_of, record_length, no_line, lines_check}
use Rattle.plot.specs.Grammar.{Step, all_zero, agree, bad_line, outside_line, head_at, step_at, Parsed, Plots, Stopped, onto, late_checked, read_step, read_from, longest, reading}
use Rattle.plot.specs.Answers.{checked_of}
use Rattle.plot.proofs.Lines.{check_prefix}

-- a test and then another
both : (t : Bool) {a b : Bool} → a ≡ b → (t && a) ≡ pick t b false
both true h = h
both false h = refl

-- `all` of the library, where it answers for each byte that it is zero
pub all_zero_is : (s : List ℕ) → list_all (λ x. eqb x 0) s ≡ all_zero s
unfolding all_zero
all_zero_is [] = refl
all_zero_is (x ∷ s) = both (eqb x 0) (all_zero_is s)

-- as much of the mark as there is: each byte is the mark's, as far as both go
pub agree_is : (m s : List ℕ) → list_all (λ p. eqb p.0 p.1) (zip s m) ≡ agree m s
unfolding agree
agree_is [] [] = refl
agree_is [] (x ∷ s) = refl
agree_is (m ∷ ms) [] = refl
agree_is (m ∷ ms) (x ∷ s) = both (eqb x m) (agree_is ms s)

-- the checks of a record before its lines
module _ (at : ℕ) (s : List ℕ) where
  pub head_mark : agree mark s ≡ false → Err (BadMark at) ≡ head_at at s
  unfolding head_at
  head_mark e = rw e

  module _ (h1 : agree mark s ≡ true) where
    pub head_short : length s < 5 → Err (CutShort at) ≡ head_at at s
    unfolding head_at
    head_short h = rw (h1, lt-ltb _ _ h)

    module _ (h2 : 5 ≤ length s) where
      pub head_lines : 40 < get_or s 4 0 → Err (outside_line at) ≡ head_at at s
      unfolding head_at
      head_lines h = rw (h1, le-ltb _ _ h2, lt-ltb _ _ h)

      module _ (h3 : get_or s 4 0 ≤ 40) where
        pub head_cut : length s < record_length (count_of s) → Err (CutShort at) ≡ head_at at s
        unfolding head_at
        head_cut h = rw (h1, le-ltb _ _ h2, le-ltb _ _ h3, lt-ltb _ _ h)

        module _ (h4 : record_length (count_of s) ≤ length s) where
          pub head_plot : plot_of s ≡ 0 → Err (outside_line at) ≡ head_at at s
          unfolding head_at
          head_plot h = rw (h1, le-ltb _ _ h2, le-ltb _ _ h3, le-ltb _ _ h4, eq-eqb _ _ h)

          pub head_record : (plot_of s ≡ 0 → ⊥)
              → Ok (Some (record { lines = at + 5; count = count_of s; next = record { at = at + record_length (count_of s); last = plot_of s } })) ≡ head_at at s
          unfolding head_at
          head_record h = rw (h1, le-ltb _ _ h2, le-ltb _ _ h3, le-ltb _ _ h4, ne_eqb _ _ h)

-- what stands at a place of the payload
module _ (at : ℕ) (s : List ℕ) where
  pub step_past : length s ≤ at → Ok None ≡ step_at at (drop at s)
  unfolding step_at all_zero
  step_past h = rw (drop_of_length-le s h)

  module _ (h1 : at < length s) where
    first : get_or (drop at s) 0 0 ≡ get_or s at 0
    first = rw (drop-cons s at 0 h1)

    pub step_head : (get_or s at 0 ≡ 0 → ⊥) → head_at at (drop at s) ≡ step_at at (drop at s)
    unfolding step_at
    step_head h = rw (first, ne_eqb _ _ h)

    pub step_end : get_or s at 0 ≡ 0 → all_zero (drop at s) ≡ true → Ok None ≡ step_at at (drop at s)
    unfolding step_at
    step_end h z = rw (first, eq-eqb _ _ h, z)

    pub step-tail : get_or s at 0 ≡ 0 → all_zero (drop at s) ≡ false → Err (BadMark at) ≡ step_at at (drop at s)
    unfolding step_at
    step-tail h z = rw (first, eq-eqb _ _ h, z)

-- a refused record has a byte
pub refused_some : (at : ℕ) (s : List ℕ) (r : Refusal) → step_at at s ≡ Err r → 0 < length s
unfolding step_at all_zero
refused_some at [] r e = absurd (let z : ◌≡◌ {A = ℕ} 0 1 = cc in omega arith)
refused_some at (x ∷ s) r e = suc-le-suc zero-le

-- a choice that is not its first case
pub pick_out {ℓ} : {A : Type ℓ} (t : Bool) (x y z : A) → pick t x y ≡ z → (x ≡ z → ⊥) → (t ≡ false) × (y ≡ z)
pick_out true x y z e h = absurd (h e)
pick_out false x y z e h = (refl, e)

-- what a record whose header holds says of its bytes
pub record Whole (at : ℕ) (s : List ℕ) (rec : Record) : Type 0 where
  pub marked : agree mark s ≡ true
  pub few : rec.count ≤ 40
  pub fits : record_length rec.count ≤ length s
  pub counted : count_of s ≡ rec.count
  pub numbered : plot_of s ≡ rec.next.last
  pub some : plot_of s ≡ 0 → ⊥
  pub lines_at : at + header_length ≡ rec.lines
  pub past : at + record_length rec.count ≡ rec.next.at

pub whole : (at : ℕ) (s : List ℕ) (rec : Record) → step_at at s ≡ Ok (Some rec) → Whole at s rec
unfolding step_at head_at
whole at s rec e =
    let p0 = pick_out (eqb (get_or s 0 0) 0) _ _ _ e (λ q. zero-first (all_zero s) q) in
    let p1 = pick_out (not (agree mark s)) _ _ _ p0.1 (λ q. differ _ q) in
    let p2 = pick_out (ltb (length s) header_length) _ _ _ p1.1 (λ q. differ _ q) in
    let p3 = pick_out (ltb 40 (count_of s)) _ _ _ p2.1 (λ q. differ _ q) in
    let p4 = pick_out (ltb (length s) (record_length (count_of s))) _ _ _ p3.1 (λ q. differ _ q) in
    let p5 = pick_out (eqb (plot_of s) 0) _ _ _ p4.1 (λ q. differ _ q) in
    let same : record { lines = at + header_length; count = count_of s; next = record { at = at + record_length (count_of s); last = plot_of s } } ≡ rec = inside p5.1 in
    let few₀ : count_of s ≤ 40 = ltb-false _ _ p3.0 in
    let fits₀ : record_length (count_of s) ≤ length s = ltb-false _ _ p4.0 in
    let counted₀ : count_of s ≡ rec.count = ap (λ (r : Record). r.count) same in
    let past₀ : at + record_length (count_of s) ≡ rec.next.at = ap (λ (r : Record). r.next.at) same in
    record {
      marked = not-false _ p1.0;
      few = omega arith;
      fits = omega arith;
      counted = counted₀;
      numbered = ap (λ (r : Record). r.next.last) same;
      some = eqb-false _ _ p5.0;
      lines_at = ap (λ (r : Record). r.lines) same;
      past = omega arith;
    }
  where
    differ : (r : Refusal) → Err r ≡ Ok (Some rec) → ⊥
    differ r q = cc

    zero-first : (t : Bool) → pick t (Ok None) (Err (BadMark at)) ≡ Ok (Some rec) → ⊥
    zero-first true q = cc
    zero-first false q = cc

    inside : {r t : Record} → ◌≡◌ {A = Step} (Ok (Some r)) (Ok (Some t)) → r ≡ t
    inside q = cc

-- the reading from a place on
module _ (at last : ℕ) (s : List ℕ) where
  pub read-end : (f : ℕ) → step_at at s ≡ Ok None → read_from f at last s ≡ Plots [] at
  unfolding read_from read_step late_checked
  read-end zero e = refl
  read-end (suc f) e = rw e

  pub read-refused : (f : ℕ) (r : Refusal) → length s ≤ f → step_at at s ≡ Err r → read_from f at last s ≡ Stopped r
  unfolding read_from read_step late_checked
  read-refused zero r h e = absurd (let z : 0 < length s = refused_some at s r e in omega arith)
  read-refused (suc f) r h e = rw e

  module _ (rec : Record) (e : step_at at s ≡ Ok (Some rec)) where
    abbrev pub plot_here : Plot
    plot_here = record { number = rec.next.last; lines = take (rec.count * 3) (drop header_length s) }

    pub read-lines : (f : ℕ) → 0 < f → (bad : BadLine) → lines_check no_line 0 rec.count (drop header_length s) ≡ Err bad
        → read_from f at last s ≡ Stopped (bad_line at bad)
    unfolding read_from read_step late_checked
    read-lines zero h bad g = absurd (not-suc-le-zero h)
    read-lines (suc f) h bad g = rw (e, g)

    module _ (g : lines_check no_line 0 rec.count (drop header_length s) ≡ Ok tt) where
      pub read_order : (f : ℕ) → 0 < f → rec.next.last ≤ last → read_from f at last s ≡ Stopped (PlotOrder at)
      unfolding read_from read_step late_checked
      read_order zero h o = absurd (not-suc-le-zero h)
      read_order (suc f) h o = rw (e, g, le-leb _ _ o)

      pub read_on : (f : ℕ) → 0 < f → last < rec.next.last
          → read_from f at last s ≡ onto plot_here (read_from (f - 1) rec.next.at rec.next.last (drop (record_length rec.count) s))
      unfolding read_from read_step late_checked
      read_on zero h o = absurd (not-suc-le-zero h)
      read_on (suc f) h o =
          let z : suc f - 1 ≡ f = omega arith in
          rw (e, g, lt-leb _ _ o, z)

-- the check's answer, from the reading
pub checked_stopped : (last : ℕ) (q : Parsed) (r : Refusal) → q ≡ Stopped r → Err r ≡ checked_of last q
unfolding checked_of
checked_stopped last q r e = rw e

pub checked-plots : (last at : ℕ) (q : Parsed) → q ≡ Plots [] at → Ok (record { at = at; last = last }) ≡ checked_of last q
unfolding checked_of
checked-plots last at q e = rw e

pub checked-onto : (last : ℕ) (p : Plot) (r : Parsed) → checked_of last (onto p r) ≡ checked_of p.number r
unfolding checked_of
checked-onto last p (Plots ps end) = refl
checked-onto last p (Stopped r) = refl

-- the bytes from the lines on
pub past_header : (at from : ℕ) (s : List ℕ) → at + header_length ≡ from → drop header_length (drop at s) ≡ drop from s
past_header at from s e = drop-drop header_length at s ∙ ap (λ (n : ℕ). drop n s) e

-- a turn of the check: a record of the payload s whose header holds, at the place `at`, with f steps left
module _ (s : List ℕ) (at last f : ℕ) (rec : Record) (e : step_at at (drop at s) ≡ Ok (Some rec)) where
  pub record Bounds : Type 0 where
    pub lines_at : at + header_length ≡ rec.lines
    pub few : rec.count ≤ 40
    pub past : at + record_length rec.count ≡ rec.next.at
    pub inside : rec.next.at ≤ length s
    pub lines_inside : rec.lines + rec.count * 3 ≤ length s

  pub bounds : Bounds
  bounds =
      let w = whole at (drop at s) rec e in
      let l : length (drop at s) ≡ length s - at = length-drop at s in
      let fits₀ : record_length rec.count ≤ length (drop at s) = w.fits in
      let past₀ : at + record_length rec.count ≡ rec.next.at = w.past in
      let from₀ : at + header_length ≡ rec.lines = w.lines_at in
      record {
        lines_at = from₀;
        few = w.few;
        past = past₀;
        inside = omega arith;
        lines_inside = omega arith;
      }

  -- the bytes of its lines, as a part of the payload
  abbrev pub lines_here : List ℕ
  lines_here = take (rec.next.at - rec.lines) (drop rec.lines s)

  pub lines_long : length lines_here ≡ rec.count * 3
  lines_long =
      let b = bounds in
      let from₀ : at + header_length ≡ rec.lines = b.lines_at in
      let past₀ : at + record_length rec.count ≡ rec.next.at = b.past in
      let inside₀ : rec.next.at ≤ length s = b.inside in
      let z : rec.next.at - rec.lines ≡ rec.count * 3 = omega arith in
      rw z (length-take-le (rec.count * 3) (drop rec.lines s) (omega (arith, length-drop rec.lines s)))

  -- their check is the check of that part
  pub check_here : lines_check no_line 0 rec.count (drop header_length (drop at s)) ≡ lines_check no_line 0 (length lines_here / 3) lines_here
  check_here =
      let b = bounds in
      let from₀ : at + header_length ≡ rec.lines = b.lines_at in
      let past₀ : at + record_length rec.count ≡ rec.next.at = b.past in
      let z : rec.next.at - rec.lines ≡ rec.count * 3 = omega arith in
      let n : length lines_here / 3 ≡ rec.count = ap (λ (k : ℕ). k / 3) lines_long ∙ mul-div_left rec.count {n = 3} (lit< tt) in
      let d = drop rec.lines s in
      ap (lines_check no_line 0 rec.count) (past_header at rec.lines s from₀ ∙ sym (take-append-drop (rec.next.at - rec.lines) d))
      ∙ check_prefix rec.count no_line 0 lines_here (drop (rec.next.at - rec.lines) d) (omega (arith, lines_long))
      ∙ ap (λ (k : ℕ). lines_check no_line 0 k lines_here) (sym n)

  module _ (h : length s ≤ at + f) where
    steps : 0 < f
    steps =
        let b = bounds in
        let past₀ : at + record_length rec.count ≡ rec.next.at = b.past in
        let inside₀ : rec.next.at ≤ length s = b.inside in
        omega arith

    pub turn_lines : (bad : BadLine) → lines_check no_line 0 (length lines_here / 3) lines_here ≡ Err bad → read_from f at last (drop at s) ≡ Stopped (bad_line at bad)
    turn_lines bad g = read-lines at last (drop at s) rec e f steps bad (check_here ∙ g)

    module _ (g : lines_check no_line 0 (length lines_here / 3) lines_here ≡ Ok tt) where
      pub turn_order : rec.next.last ≤ last → read_from f at last (drop at s) ≡ Stopped (PlotOrder at)
      turn_order o = read_order at last (drop at s) rec e (check_here ∙ g) f steps o

      pub turn_on : last < rec.next.last → read_from f at last (drop at s)
          ≡ onto (plot_here at last (drop at s) rec e) (read_from (f - 1) rec.next.at rec.next.last (drop rec.next.at s))
      turn_on o =
          read_on at last (drop at s) rec e (check_here ∙ g) f steps o
          ∙ ap (λ (t : List ℕ). onto (plot_here at last (drop at s) rec e) (read_from (f - 1) rec.next.at rec.next.last t))
          (drop-drop (record_length rec.count) at s ∙ ap (λ (n : ℕ). drop n s) bounds.past)

-- the reading of a payload
module _ (s : List ℕ) where
  pub reading_long : longest < length s → Err WrongLength ≡ checked_of 0 (reading s)
  unfolding reading checked_of
  reading_long h = rw (lt-ltb _ _ h)

  pub reading-short : length s ≤ longest → reading s ≡ read_from (length s) 0 0 s
  unfolding reading
  reading-short h = rw (le-ltb _ _ h)
