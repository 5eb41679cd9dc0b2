-- Massey's recursion in registers: what a turn makes of the two polynomials, and what the loop over the syndromes keeps. A register has the syndromes
-- read, the last one first, and the recursion has still to go over those that are left.
use mathlib.Core.Path.{◌≡◌, refl, sym, ap, ap₂, ◌∙◌}
use mathlib.Core.Logic.{◌≢◌}
use mathlib.Core.Bool.{true, false}
use mathlib.Core.List.{List, [], ◌∷◌, ◌++◌, reverse}
use Rattle.std.proofs.lemmas.List.{take_more, reverse-append}
use Prim.Native.Nat.{ℕ, zero, suc, ◌+◌, ◌-◌, ◌≤◌, ◌<◌}
use native.Mathlib.Omega.{arith}
use lib.Dec.{eqb, ltb}
use lib.ListN.{length, get_or, take, drop, replicate, drop_of_length-le}
use lib.Seq.{drop-cons}
use borrow.Author.Tests.{eq-eqb, ne_eqb, lt-ltb, le-ltb}
use Rattle.code.specs.Poly.{padd, pscale}
use Rattle.products.specs.Products.{dot}
use Rattle.words.specs.Cells.{shift_up, pad_to}
use Rattle.words.proofs.Pad.{pad_nil, pad_at, pad_up}
use Rattle.erasure.proofs.Dot.{dot-cells}
use Rattle.locator.specs.Locator.{Recursion, start, grows, next, turn, massey_from, massey, mirrored}
use Rattle.locator.specs.Answer.{turn_at}
use Rattle.locator.proofs.Run.{never_smaller}

-- ---- one turn

up_is : (c : ℕ) (l : List ℕ) → shift_up c l ≡ take (length l) (c ∷ l)
unfolding shift_up
up_is c [] = refl
up_is c (x ∷ l) = ap (λ (t : List ℕ). c ∷ t) (up_is x l)

pub first_law : (B C : List ℕ) → B ≡ replicate 64 0 → C ≡ shift_up 1 B → record { connection = C; before = C; size = 0; unit = 1 } ≡ start 64
unfolding start shift_up
first_law B C eB eC =
    let e : C ≡ 1 ∷ replicate 63 0 = eC ∙ ap (shift_up 1) eB in
    rw e refl

pub start-size : (k : Recursion) → k ≡ start 64 → k.size ≤ 0
unfolding start
start-size k e = let z : k.size ≡ 0 = ap (λ (r : Recursion). r.size) e in omega arith

-- the next recursion by its cases, with D for `before`, moved
module _ (k : Recursion) (N d : ℕ) (D : List ℕ) (cut : D ≡ take 64 (0 ∷ k.before)) where
  abbrev now : Recursion
  now = next 64 N k d (grows d k.size N)

  next-none : d ≡ 0 → record { connection = k.connection; before = D; size = k.size; unit = k.unit } ≡ now
  unfolding next grows
  next-none z = let t : eqb d 0 ≡ true = eq-eqb d 0 z in rw (t, cut) refl

  next_long : d ≢ 0 → N ≤ k.size + k.size → record { connection = padd (pscale k.unit k.connection) (pscale d D); before = D; size = k.size; unit = k.unit } ≡ now
  unfolding next grows
  next_long n l =
      let t : eqb d 0 ≡ false = ne_eqb d 0 n in
      let u : ltb (k.size + k.size) N ≡ false = le-ltb (k.size + k.size) N l in
      rw (t, u, cut) refl

  next_grown : d ≢ 0 → k.size + k.size < N
      → record { connection = padd (pscale k.unit k.connection) (pscale d D); before = k.connection; size = N - k.size; unit = d } ≡ now
  unfolding next grows
  next_grown n l =
      let t : eqb d 0 ≡ false = ne_eqb d 0 n in
      let u : ltb (k.size + k.size) N ≡ true = lt-ltb (k.size + k.size) N l in
      rw (t, u, cut) refl

module _ (k : Recursion) (N d : ℕ) (R D : List ℕ) (wide : length k.before ≡ 64) (moved : D ≡ shift_up 0 k.before) (ed : d ≡ dot k.connection R) where
  turned : next 64 N k d (grows d k.size N) ≡ turn_at N R k
  unfolding turn_at
  turned = ap (λ (v : ℕ). next 64 N k v (grows v k.size N)) ed

  cut : D ≡ take 64 (0 ∷ k.before)
  cut = moved ∙ up_is 0 k.before ∙ ap (λ (n : ℕ). take n (0 ∷ k.before)) wide

  pub turn-none : d ≡ 0 → record { connection = k.connection; before = D; size = k.size; unit = k.unit } ≡ turn_at N R k
  turn-none z = next-none k N d D cut z ∙ turned

  pub turn_long : (S : List ℕ) → d ≢ 0 → N ≤ k.size + k.size → S ≡ padd (pscale k.unit k.connection) (pscale d D)
      → record { connection = S; before = D; size = k.size; unit = k.unit } ≡ turn_at N R k
  turn_long S n l e = ap (λ (C : List ℕ). record { connection = C; before = D; size = k.size; unit = k.unit }) e ∙ next_long k N d D cut n l ∙ turned

  pub turn_grown : (S : List ℕ) → d ≢ 0 → k.size + k.size < N → S ≡ padd (pscale k.unit k.connection) (pscale d D)
      → record { connection = S; before = k.connection; size = N - k.size; unit = d } ≡ turn_at N R k
  turn_grown S n l e = ap (λ (C : List ℕ). record { connection = C; before = k.connection; size = N - k.size; unit = d }) e ∙ next_grown k N d D cut n l ∙ turned

-- ---- the syndromes in a register

turn_at_lem : (T : List ℕ) (k : Recursion) → length k.connection ≡ 64 → turn_at (length T) (pad_to 64 T) k ≡ turn 64 T k
unfolding turn_at turn
turn_at_lem T k w =
    ap (λ (d : ℕ). next 64 (length T) k d (grows d k.size (length T))) (dot-cells k.connection (pad_to 64 T) T (λ j h. pad_at 64 T j (omega arith)))

-- i of the syndromes s are read
pub record Reading (s : List ℕ) (i : ℕ) (R : List ℕ) (k : Recursion) : Type 0 where
  pub read : List ℕ
  pub read_length : length read ≡ i
  pub register : R ≡ pad_to 64 read
  pub left : massey 64 s ≡ massey_from 64 (drop i s) read k

pub reading-none : (s R : List ℕ) (k : Recursion) → R ≡ replicate 64 0 → k ≡ start 64 → Reading s 0 R k
unfolding massey
reading-none s R k eR ek = record { read = []; read_length = refl; register = eR ∙ sym (pad_nil 64); left = ap (massey_from 64 s []) (sym ek) }

from_cons : (x : ℕ) (s T : List ℕ) (k : Recursion) → massey_from 64 (x ∷ s) T k ≡ massey_from 64 s (x ∷ T) (turn 64 (x ∷ T) k)
unfolding massey_from
from_cons x s T k = refl

pub reading-more : (s R N : List ℕ) (i x : ℕ) (k next : Recursion) → i < length s → x ≡ get_or s i 0 → length k.connection ≡ 64 → N ≡ shift_up x R → next ≡ turn_at (i + 1) N k
    → Reading s i R k → Reading s (i + 1) N next
reading-more s R N i x k next h ex w eN en g =
    let T : List ℕ = x ∷ g.read in
    let l : i + 1 ≡ length T = omega (arith, g.read_length) in
    let m : suc i ≡ i + 1 = omega arith in
    let r : N ≡ pad_to 64 T = eN ∙ ap (shift_up x) g.register ∙ pad_up 64 x g.read in
    let e : turn 64 T k ≡ next = sym (en ∙ ap₂ (λ (n : ℕ) (u : List ℕ). turn_at n u k) l r ∙ turn_at_lem T k w) in
    record {
      read = T;
      read_length = sym l;
      register = r;
      left = g.left ∙ ap (λ (u : List ℕ). massey_from 64 u g.read k) (drop-cons s i 0 h ∙ ap₂ (λ (c n : ℕ). c ∷ drop n s) (sym ex) m) ∙ from_cons x (drop (i + 1) s) g.read k
          ∙ ap (massey_from 64 (drop (i + 1) s) T) e;
    }

from-none : (T : List ℕ) (k : Recursion) → massey_from 64 [] T k ≡ k
unfolding massey_from
from-none T k = refl

-- all of them are read
pub reading-all : (s R : List ℕ) (i : ℕ) (k : Recursion) → length s ≤ i → Reading s i R k → k ≡ massey 64 s
reading-all s R i k h g =
    sym (g.left ∙ ap (λ (u : List ℕ). massey_from 64 u g.read k) (drop_of_length-le s h) ∙ from-none g.read k)

-- the size is above the limit, and stays there
pub reading-left : (s R : List ℕ) (i limit : ℕ) (k : Recursion) → limit < k.size → Reading s i R k → limit < (massey 64 s).size
reading-left s R i limit k h g =
    let m : k.size ≤ (massey 64 s).size = rw g.left (never_smaller 64 (drop i s) g.read k) in
    omega arith

-- ---- the locator's cells

-- the locator's cells are the lowest of the polynomial, the last one first
pub mirrored-is : (p : ℕ) (C : List ℕ) → p < length C → reverse (take (p + 1) C) ≡ mirrored p C
unfolding mirrored
mirrored-is zero (x ∷ C) h = refl
mirrored-is zero [] h = absurd (omega arith)
mirrored-is (suc p) C h =
    let m : suc p ≡ p + 1 = omega arith in
    let e : take (suc p + 1) C ≡ take (p + 1) C ++ (get_or C (suc p) 0 ∷ []) = take_more C (suc p) 0 h ∙ ap (λ (n : ℕ). take n C ++ (get_or C (suc p) 0 ∷ [])) m in
    ap reverse e ∙ reverse-append (take (p + 1) C) (get_or C (suc p) 0 ∷ []) ∙ ap (λ (u : List ℕ). get_or C (suc p) 0 ∷ u) (mirrored-is p C (omega arith))
