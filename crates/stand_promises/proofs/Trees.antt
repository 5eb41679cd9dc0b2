-- What counting lines into a table does to its cells and to its sum: each line adds its trees to the one cell of its row and its column. By induction along the lines and
-- the plots.
use mathlib.Core.Path.{◌≡◌, refl, sym, ap, subst, ◌∙◌}
use mathlib.Core.Bool.{Bool, true, false}
use mathlib.Core.List.{List, [], ◌∷◌, ◌++◌, flat_map}
use Prim.Native.Nat.{ℕ, zero, suc, zero-le, suc-le-suc, ◌+◌, ◌<◌, ◌≤◌}
use native.Mathlib.Omega.{arith}
use native.Mathlib.Nat.{not-suc-le-zero, le_of_suc-le-suc, zero-add}
use lib.ListN.{length, get_or, set, drop, length-set}
use lib.Seq.{get_or-set_same, get_or-set_other}
use lib.Dec.{eqb}
use borrow.Author.Tests.{eqb-true, eqb-false}
use Rattle.std.proofs.lemmas.List.Sums.{sum_by-set}
use Rattle.lists.specs.Choice.{pick, both}
use Rattle.plot.specs.Layout.{Plot, no_line, lines_of, tallies, tallies_of}
use Rattle.plot.specs.declared.Line.{Line}
use Rattle.plot_promises.specs.Lines.{line_at, InRanges}
use Rattle.plot_promises.specs.Canonical.{Rising}
use Rattle.plot_promises.proofs.Lines.{line_after}
use Rattle.stand.specs.Table.{row_of, rows_of, column_of, cell_of, plus_at, plus_line, plus_lines, plus_plots, row_total, table_total}
use Rattle.stand.proofs.Rows.{get_or_tabulate, row-most}
use Rattle.stand.proofs.Cells.{plus_here, plus_other}
use Rattle.stand_promises.specs.Trees.{TallyLines, lines_in, trees_where, in_cell}
use Rattle.stand_promises.specs.Exactly.{Shape}
use Rattle.stand_promises.proofs.Species.{columns_iff}

-- ---- tally lines
tallies-length : (k : ℕ) (s : List ℕ) → length (tallies k s) ≡ k
unfolding tallies
tallies-length zero s = refl
tallies-length (suc k) s = ap suc (tallies-length k (drop 3 s))

tallies-at : (k : ℕ) (s : List ℕ) (i : ℕ) → i < k → get_or (tallies k s) i no_line ≡ line_at s i
unfolding tallies
tallies-at zero s i h = absurd (not-suc-le-zero h)
tallies-at (suc k) s zero h = refl
tallies-at (suc k) s (suc i) h = tallies-at k (drop 3 s) i (le_of_suc-le-suc h) ∙ line_after s i

pub tally_lines : (p : Plot) → TallyLines p
tally_lines p = record { count = tallies-length (lines_of p) p.lines; line = tallies-at (lines_of p) p.lines }

-- lines in their ranges
abbrev pub Each : List Line → Type 0
Each [] = Unit {0}
Each (line ∷ ls) = InRanges line × Each ls

each_tally : (k : ℕ) (s : List ℕ) → ((i : ℕ) → i < k → InRanges (line_at s i)) → Each (tallies k s)
unfolding tallies
each_tally zero s r = tt
each_tally (suc k) s r = (r 0 (suc-le-suc zero-le), each_tally k (drop 3 s) (λ i h. subst InRanges (sym (line_after s i)) (r (suc i) (suc-le-suc h))))

-- ---- sums
pub trees_append : (test : Line → Bool) (ls ms : List Line) → trees_where test (ls ++ ms) ≡ trees_where test ls + trees_where test ms
trees_append test [] ms = sym (zero-add _)
trees_append test (line ∷ ls) ms = omega (arith, trees_append test ls ms)

row_plus : (row : List ℕ) (c n : ℕ) → c < length row → row_total (set row c (get_or row c 0 + n)) ≡ row_total row + n
row_plus row c n h = omega (arith, sum_by-set (λ x. x) row c (get_or row c 0 + n) 0 h)

table_plus : (t : List (List ℕ)) (r n : ℕ) (row : List ℕ) → r < length t → row_total row ≡ row_total (get_or t r []) + n → table_total (set t r row) ≡ table_total t + n
table_plus t r n row h e = omega (arith, e, sum_by-set row_total t r row [] h)

-- ---- what counting does
pub record Does (l : List ℕ) (t u : List (List ℕ)) (ls : List Line) : Type 0 where
  pub shape : Shape u
  pub cells : (i j : ℕ) → i < 17 → j < 20 → cell_of u i j ≡ cell_of t i j + trees_where (in_cell l i j) ls
  pub total : table_total u ≡ table_total t + trees_where (λ (line : Line). true) ls

pub does-none : (l : List ℕ) (t : List (List ℕ)) → Shape t → Does l t t []
does-none l t s = record { shape = s; cells = λ i j h k. omega arith; total = omega arith }

pub does_then : (l : List ℕ) (t u v : List (List ℕ)) (ls ms : List Line) → Does l t u ls → Does l u v ms → Does l t v (ls ++ ms)
does_then l t u v ls ms a b = record {
  shape = b.shape;
  cells = λ i j h k. omega (arith, a.cells i j h k, b.cells i j h k, trees_append (in_cell l i j) ls ms);
  total = omega (arith, a.total, b.total, trees_append (λ (line : Line). true) ls ms);
}

shape_plus : (t : List (List ℕ)) (r c n : ℕ) → r < 17 → Shape t → Shape (plus_at r c n t)
shape_plus t r c n h s = record { rows = length-set t r _ ∙ s.rows; columns = λ i k. by_row i k (eqb i r) refl }
  where
    by_row : (i : ℕ) → i < 17 → (b : Bool) → eqb i r ≡ b → length (get_or (plus_at r c n t) i []) ≡ 20
    by_row i k false e = ap length (get_or-set_other t r i _ [] (eqb-false i r e)) ∙ s.columns i k
    by_row i k true e =
        let z : i ≡ r = eqb-true i r e in
        let w : r < length t = omega (arith, s.rows) in
        ap (λ (m : ℕ). length (get_or (plus_at r c n t) m [])) z ∙ ap length (get_or-set_same t r _ [] w) ∙ length-set (get_or t r []) c _ ∙ s.columns r h

module _ (l : List ℕ) (few : length l ≤ 16) where
  rows_at : (x : ℕ) → x < 256 → get_or (rows_of l) x 0 ≡ row_of l x
  rows_at x h = get_or_tabulate 256 0 x (row_of l) h ∙ ap (row_of l) (zero-add x)

  module _ (line : Line) (ranges : InRanges line) (t : List (List ℕ)) (s : Shape t) where
    abbrev r : ℕ
    r = row_of l line.species

    abbrev c : ℕ
    c = column_of line.class

    r_is : get_or (rows_of l) line.species 0 ≡ r
    r_is =
        let k : line.species ≤ 99 = ranges.species.1 in
        rows_at line.species (omega arith)

    r_in : r < 17
    r_in =
        let z : r ≤ 16 = row-most l 0 line.species 16 (omega arith) (omega arith) in
        omega arith

    c_in : c < 20
    c_in = columns_iff.twenty line.class ranges.class.1

    at_cell : (i j : ℕ) → (a b : Bool) → eqb r i ≡ a → eqb c j ≡ b → cell_of (plus_at r c line.count t) i j ≡ cell_of t i j + pick (both a b) line.count 0
    at_cell i j true true e f =
        let z : r ≡ i = eqb-true r i e in
        let y : c ≡ j = eqb-true c j f in
        let w : r < length t = omega (arith, s.rows, r_in) in
        let v : c < length (get_or t r []) = omega (arith, s.columns r r_in, c_in) in
        subst (λ (n : ℕ). cell_of (plus_at r c line.count t) n j ≡ cell_of t n j + line.count) z
        (subst (λ (n : ℕ). cell_of (plus_at r c line.count t) r n ≡ cell_of t r n + line.count) y (plus_here t r c line.count w v))
    at_cell i j true false e f = plus_other t r c line.count i j (λ q. eqb-false c j f (sym q.1)) ∙ omega arith
    at_cell i j false b e f = plus_other t r c line.count i j (λ q. eqb-false r i e (sym q.0)) ∙ omega arith

    does-here : Does l t (plus_at r c line.count t) (line ∷ [])
    does-here = record {
      shape = shape_plus t r c line.count r_in s;
      cells = λ i j h k. omega (arith, at_cell i j (eqb r i) (eqb c j) refl refl);
      total =
          let w : r < length t = omega (arith, s.rows, r_in) in
          let v : c < length (get_or t r []) = omega (arith, s.columns r r_in, c_in) in
          omega (arith, table_plus t r line.count (set (get_or t r []) c (cell_of t r c + line.count)) w (row_plus (get_or t r []) c line.count v));
    }

    does_line : Does l t (plus_line (rows_of l) line t) (line ∷ [])
    unfolding plus_line
    does_line = subst (λ (n : ℕ). Does l t (plus_at n c line.count t) (line ∷ [])) (sym r_is) does-here

  does-lines : (ls : List Line) → Each ls → (t : List (List ℕ)) → Shape t → Does l t (plus_lines (rows_of l) ls t) ls
  unfolding plus_lines
  does-lines [] e t s = does-none l t s
  does-lines (line ∷ ls) e t s =
      let d = does_line line e.0 t s in
      does_then l t (plus_line (rows_of l) line t) (plus_lines (rows_of l) ls (plus_line (rows_of l) line t)) (line ∷ []) ls d (does-lines ls e.1 (plus_line (rows_of l) line t) d.shape)

  pub does-plots : (ps : List Plot) (last : ℕ) → Rising last ps → (t : List (List ℕ)) → Shape t → Does l t (plus_plots (rows_of l) ps t) (lines_in ps)
  unfolding plus_plots flat_map
  does-plots [] last r t s = does-none l t s
  does-plots (p ∷ ps) last r t s =
      let d = does-lines (tallies_of p) (each_tally (lines_of p) p.lines r.0.hold.ranges) t s in
      does_then l t (plus_lines (rows_of l) (tallies_of p) t) (plus_plots (rows_of l) ps (plus_lines (rows_of l) (tallies_of p) t)) (tallies_of p) (lines_in ps) d (does-plots ps p.number r.2 (plus_lines (rows_of l) (tallies_of p) t) d.shape)
