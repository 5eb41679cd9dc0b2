-- The answer by its cases: the size is above the limit, the number of roots is another, or both are right. Where nothing is cut the answer is that of
-- the theorems.
use mathlib.Core.Path.{◌≡◌, refl, sym, ap, ap₂, ◌∙◌}
use mathlib.Core.Logic.{◌≢◌}
use mathlib.Core.Bool.{Bool, true, false}
use mathlib.Core.List.{List, map}
use Prim.Native.Nat.{ℕ, ◌≤◌, ◌<◌, min}
use native.Mathlib.Omega.{arith}
use lib.Dec.{eqb, leb}
use lib.ListN.{length, take}
use lib.Seq.{take_all}
use borrow.Author.Tests.{eq-eqb, ne_eqb, le-leb, lt-leb}
use Rattle.lists.specs.Choice.{pick, both}
use Rattle.field.specs.Field.{alpha}
use Rattle.words.specs.Cells.{pad_to}
use Rattle.std.specs.Prelude.{Some, None}
use Rattle.locator.specs.Locator.{Recursion, massey, mirrored, locator, roots_from, locations, is_located}
use Rattle.locator.specs.Answer.{errors_at, error_locations, LocationsWhole}
use Rattle.locator.specs.declared.Errors.{Errors}

pub locations-whole : LocationsWhole
unfolding error_locations
locations-whole s n h ls hn hh =
    let a : min h 32 ≡ h = omega arith in
    let b : min n 255 ≡ n = omega arith in
    rw (a, b, take_all 64 s ls) refl

-- errors that are the answer, field by field, where nothing is cut
pub record Fields (s : List ℕ) (n h : ℕ) (L : Errors) : Type 0 where
  pub fine : is_located 64 h n s ≡ true
  pub count : L.count ≡ length (locations 64 n s)
  pub places : L.places ≡ pad_to 32 (locations 64 n s)
  pub points : L.points ≡ pad_to 32 (map alpha (locations 64 n s))

module _ (s : List ℕ) (n h : ℕ) (ls : length s ≤ 64) (hn : n ≤ 255) (hh : h ≤ 32) where
  none_of : (t : Bool) → None ≡ pick t (Some (errors_at (locations 64 n s))) None → t ≡ false
  none_of true e = cc
  none_of false e = refl

  some_of : (L : Errors) (t : Bool) → is_located 64 h n s ≡ t → Some L ≡ pick t (Some (errors_at (locations 64 n s))) None → Fields s n h L
  unfolding errors_at
  some_of L true t e =
      let q : L ≡ errors_at (locations 64 n s) = cc in
      record { fine = t; count = ap (λ (f : Errors). f.count) q; places = ap (λ (f : Errors). f.places) q; points = ap (λ (f : Errors). f.points) q }
  some_of L false t e = cc

  pub located-none : None ≡ error_locations s n h → is_located 64 h n s ≡ false
  located-none e = none_of (is_located 64 h n s) (e ∙ locations-whole s n h ls hn hh)

  pub located-some : (L : Errors) → Some L ≡ error_locations s n h → Fields s n h L
  located-some L e = some_of L (is_located 64 h n s) refl (e ∙ locations-whole s n h ls hn hh)

both_false : (a : Bool) → both a false ≡ false
both_false true = refl
both_false false = refl

module _ (s : List ℕ) (n h limit : ℕ) (el : limit ≡ min h 32) where
  abbrev t : List ℕ
  t = take 64 s

  abbrev K : Recursion
  K = massey 64 t

  pub size_above : limit < K.size → None ≡ error_locations s n h
  unfolding error_locations is_located
  size_above l =
      let z : leb K.size (min h 32) ≡ false = lt-leb K.size (min h 32) (omega arith) in
      rw z refl

  module _ (k : Recursion) (P : List ℕ) (N : ℕ) (f : Errors) (eN : N ≡ min n 255) (small : k.size ≤ limit) (same : k ≡ K) (eP : P ≡ mirrored k.size k.connection) (ef : f ≡ errors_at (roots_from P N 0)) where
    roots : roots_from P N 0 ≡ locations 64 (min n 255) t
    unfolding locations locator
    roots = ap₂ (λ (Q : List ℕ) (m : ℕ). roots_from Q m 0) (eP ∙ ap (λ (r : Recursion). mirrored r.size r.connection) same) eN

    count : f.count ≡ length (locations 64 (min n 255) t)
    unfolding errors_at
    count = ap (λ (l : Errors). l.count) ef ∙ ap length roots

    size : k.size ≡ K.size
    size = ap (λ (r : Recursion). r.size) same

    pub roots_missing : f.count ≢ k.size → None ≡ error_locations s n h
    unfolding error_locations is_located
    roots_missing ne =
        let z : eqb (length (locations 64 (min n 255) t)) K.size ≡ false = ne_eqb (length (locations 64 (min n 255) t)) K.size (λ q. ne (count ∙ q ∙ sym size)) in
        rw (z, both_false (leb K.size (min h 32))) refl

    pub roots_right : f.count ≡ k.size → Some f ≡ error_locations s n h
    unfolding error_locations is_located
    roots_right e =
        let y : leb K.size (min h 32) ≡ true = le-leb K.size (min h 32) (omega (arith, size)) in
        let z : eqb (length (locations 64 (min n 255) t)) K.size ≡ true = eq-eqb (length (locations 64 (min n 255) t)) K.size (sym count ∙ e ∙ size) in
        rw (y, z) (ap Some (ef ∙ ap errors_at roots))
