-- The cases of the check of one line and of lines in turn, each from the plain facts that a test of the code gives; and how the check of one line more follows
-- from the check of the others. They hold by computing the definition with the test's value; what fails is the same wherever the index begins, by induction on the lines.
use Prim.Native.Nat.{ℕ, zero, suc, ◌+◌, ◌*◌, ◌/◌, ◌<◌, ◌≤◌}
use native.Mathlib.Omega.{arith}
use mathlib.Core.Path.{◌≡◌, refl, sym, ap, ◌∙◌}
use mathlib.Core.Bool.{Bool, true, false, cond, ◌&&◌}
use mathlib.Core.List.{List, [], ◌∷◌, ◌++◌}
use Rattle.std.specs.Prelude.{Result, Ok, Err, is_ok}
use Rattle.std.specs.declared.cmp.Ordering.TheVariants.{Less, Equal, Greater}
use Rattle.std.specs.Ordering.{is_le, is_lt, nat_cmp}
use lib.Dec.{ltb, leb, eqb}
use borrow.Author.Tests.{ltb-true, ltb-false, eqb-true, eqb-false, le-leb, lt-leb}
use lib.ListN.{length, drop}
use Rattle.lists.specs.Choice.{pick}
use Rattle.plot.specs.declared.Line.{Line}
use Rattle.plot.specs.declared.LineFault.{LineFault}
use Rattle.plot.specs.declared.LineFault.TheVariants.{Species, Class, Count, Order}
use Rattle.plot.specs.Layout.{line_of, within, rises, line_check, line_holds, line_then, lines_check, lines_hold}

-- the library's test of a range that is not spent
at_most : (a b : ℕ) → is_le (nat_cmp a b) ≡ leb a b
at_most a b = by_test (ltb a b) refl (eqb a b) refl
  where
    by_test : (t : Bool) → ltb a b ≡ t → (u : Bool) → eqb a b ≡ u → is_le (cond t Less (cond u Equal Greater)) ≡ leb a b
    by_test true p u q = let h : a < b = ltb-true a b p in sym (le-leb a b (omega arith))
    by_test false p true q = let h : a ≡ b = eqb-true a b q in sym (le-leb a b (omega arith))
    by_test false p false q =
        let h : b ≤ a = ltb-false a b p in
        let g : a ≡ b → ⊥ = eqb-false a b q in
        sym (lt-leb a b (omega arith))

in_range : (least most x : ℕ) (t : Bool) → ltb x least ≡ t → (is_le (nat_cmp least x) && is_le (nat_cmp x most)) ≡ within least most x
in_range least most x true p = let h : x < least = ltb-true x least p in rw (at_most least x, lt-leb least x h, p)
in_range least most x false p = let h : least ≤ x = ltb-false x least p in rw (at_most least x, le-leb least x h, at_most x most, p)

pub range_told : {lo hi : ℕ} {ex r t : Bool} (least most x : ℕ) → lo ≡ least → hi ≡ most → ex ≡ false
    → r ≡ (is_le (nat_cmp lo x) && cond ex (is_lt (nat_cmp x hi)) (is_le (nat_cmp x hi))) → r ≡ t → within least most x ≡ t
range_told {lo} {hi} {ex} {r} {t} least most x s e n value told =
    let here : r ≡ (is_le (nat_cmp least x) && is_le (nat_cmp x most)) = rw (s, e, n) at value in
    sym (in_range least most x (ltb x least) refl) ∙ sym here ∙ told

-- one line
module _ (before line : Line) where
  pub line_species : within 1 99 line.species ≡ false → Err Species ≡ line_check before line
  unfolding line_check
  line_species h = rw h

  module _ (h1 : within 1 99 line.species ≡ true) where
    pub line_class : within 1 200 line.class ≡ false → Err Class ≡ line_check before line
    unfolding line_check
    line_class h = rw (h1, h)

    module _ (h2 : within 1 200 line.class ≡ true) where
      pub line_count_lem : within 1 255 line.count ≡ false → Err Count ≡ line_check before line
      unfolding line_check
      line_count_lem h = rw (h1, h2, h)

      module _ (h3 : within 1 255 line.count ≡ true) where
        pub line_order : rises before line ≡ false → Err Order ≡ line_check before line
        unfolding line_check
        line_order h = rw (h1, h2, h3, h)

        pub line_holds_lem : rises before line ≡ true → Ok tt ≡ line_check before line
        unfolding line_check
        line_holds_lem h = rw (h1, h2, h3, h)

-- the lines in turn, three bytes a line
count_more : (n : ℕ) → suc (suc (suc n)) / 3 ≡ suc (n / 3)
count_more n = omega arith

-- a line and the lines after it
pub lines_first : (before : Line) (i : ℕ) (bytes rest : List ℕ) → length bytes ≡ 3
    → lines_check before i (length (bytes ++ rest) / 3) (bytes ++ rest)
    ≡ line_then i (line_check before (line_of bytes)) (lines_check (line_of bytes) (suc i) (length rest / 3) rest)
unfolding lines_check
lines_first before i [] rest h = absurd (let z : 0 ≡ 3 = h in omega arith)
lines_first before i (x ∷ []) rest h = absurd (let z : ◌≡◌ {A = ℕ} 1 3 = h in omega arith)
lines_first before i (x ∷ y ∷ []) rest h = absurd (let z : ◌≡◌ {A = ℕ} 2 3 = h in omega arith)
lines_first before i (x ∷ y ∷ z ∷ []) rest h = ap (λ (n : ℕ). lines_check before i n (x ∷ y ∷ z ∷ rest)) (count_more (length rest))
lines_first before i (x ∷ y ∷ z ∷ w ∷ bytes) rest h = absurd (let k : suc (suc (suc (suc (length bytes)))) ≡ 3 = h in omega arith)

-- a turn of a check of lines in turn: the line with the index i stands at the front of those that are left
module _ (before : Line) (i : ℕ) (left bytes rest : List ℕ) (e : left ≡ bytes ++ rest) (three : length bytes ≡ 3) (line : Line) (is : line ≡ line_of bytes) where
  turn : (c : Result Unit LineFault) → c ≡ line_check before line → lines_check before i (length left / 3) left ≡ line_then i c (lines_check line (suc i) (length rest / 3) rest)
  turn c h = rw (e, h, is) (lines_first before i bytes rest three)

  pub lines_bad : (fault : LineFault) → Err fault ≡ line_check before line → (index : ℕ) → index ≡ i
      → lines_check before i (length left / 3) left ≡ Err (record { fault = fault; index = index })
  lines_bad fault h index n = rw n (turn (Err fault) h)

  pub lines_on : Ok tt ≡ line_check before line → (next : ℕ) → next ≡ i + 1 → lines_check before i (length left / 3) left ≡ lines_check line next (length rest / 3) rest
  lines_on h next n =
      let z : next ≡ suc i = omega arith in
      rw z (turn (Ok tt) h)

-- no line
pub lines_none : (before : Line) (i : ℕ) (s : List ℕ) → length s < 3 → lines_check before i (length s / 3) s ≡ Ok tt
unfolding lines_check
lines_none before i s h =
    let z : length s / 3 ≡ 0 = omega arith in
    rw z

-- all lines hold where the check of them finds none that does not
pub all_held : (before : Line) (count : ℕ) (s : List ℕ) → lines_check before 0 count s ≡ Ok tt → lines_hold before count s ≡ true
unfolding lines_hold
all_held before count s e = rw e

-- whether all lines hold does not depend on where the index begins
index_free : (count : ℕ) (before : Line) (i j : ℕ) (s : List ℕ) → is_ok (lines_check before i count s) ≡ is_ok (lines_check before j count s)
unfolding lines_check
index_free zero before i j s = refl
index_free (suc count) before i j s = by_line (line_check before (line_of s)) (index_free count (line_of s) (suc i) (suc j) (drop 3 s))
  where
    by_line : (c : Result Unit LineFault) → is_ok (lines_check (line_of s) (suc i) count (drop 3 s)) ≡ is_ok (lines_check (line_of s) (suc j) count (drop 3 s))
        → is_ok (line_then i c (lines_check (line_of s) (suc i) count (drop 3 s))) ≡ is_ok (line_then j c (lines_check (line_of s) (suc j) count (drop 3 s)))
    by_line (Ok u) h = h
    by_line (Err fault) h = refl

-- all lines hold where the first holds and then the others do
pub hold_none : (before : Line) (s : List ℕ) → lines_hold before zero s ≡ true
unfolding lines_hold lines_check
hold_none before s = refl

pub hold_first : (before : Line) (count : ℕ) (s : List ℕ)
    → lines_hold before (suc count) s ≡ pick (line_holds before (line_of s)) (lines_hold (line_of s) count (drop 3 s)) false
unfolding lines_hold lines_check
hold_first before count s = by_line (line_check before (line_of s))
  where
    by_line : (c : Result Unit LineFault)
        → is_ok (line_then 0 c (lines_check (line_of s) 1 count (drop 3 s))) ≡ pick (is_ok c) (is_ok (lines_check (line_of s) 0 count (drop 3 s))) false
    by_line (Ok u) = index_free count (line_of s) 1 0 (drop 3 s)
    by_line (Err fault) = refl

-- lines are checked by their own bytes
pub check_prefix : (k : ℕ) (before : Line) (i : ℕ) (l r : List ℕ) → k * 3 ≤ length l → lines_check before i k (l ++ r) ≡ lines_check before i k l
unfolding lines_check
check_prefix zero before i l r h = refl
check_prefix (suc k) before i [] r h = absurd (let z : suc k * 3 ≤ 0 = h in omega arith)
check_prefix (suc k) before i (x ∷ []) r h = absurd (let z : suc k * 3 ≤ 1 = h in omega arith)
check_prefix (suc k) before i (x ∷ y ∷ []) r h = absurd (let z : suc k * 3 ≤ 2 = h in omega arith)
check_prefix (suc k) before i (x ∷ y ∷ z ∷ l) r h =
    let g : suc k * 3 ≤ suc (suc (suc (length l))) = h in
    let line : Line = record { species = x; class = y; count = z } in
    ap (line_then i (line_check before line)) (check_prefix k line (suc i) l r (omega arith))
