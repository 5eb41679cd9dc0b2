-- Laws on lists that say nothing of plots.
use Prim.Native.Nat.{ℕ, ◌+◌, ◌*◌, ◌-◌, ◌/◌, ◌%◌, ◌<◌, ◌≤◌}
use native.Mathlib.Omega.{arith}
use mathlib.Core.Path.{◌≡◌, ap, ◌∙◌}
use mathlib.Core.List.{List, [], ◌∷◌, ◌++◌}
use native.Mathlib.Nat.{zero-add, add-mul-mod_self_right, add-mul-div_right, mod-eq_of_lt, div-eq_of_lt}
use lib.ListN.{length, take, drop, get_or, length-drop}
use lib.Seq.{take_all, drop-cons, take-append-le, drop-append-le, take-append_seam, drop-append_seam}
use lib.Dec.{lit<}

-- the part from a on to the end
pub tail-part : (s : List ℕ) (a : ℕ) → take (length s - a) (drop a s) ≡ drop a s
tail-part s a = take_all (length s - a) (drop a s) (omega (arith, length-drop a s))

-- the first five elements, and the rest
pub front_five : (s : List ℕ) → 5 ≤ length s → s ≡ (get_or s 0 0 ∷ get_or s 1 0 ∷ get_or s 2 0 ∷ get_or s 3 0 ∷ get_or s 4 0 ∷ []) ++ drop 5 s
front_five s h =
    drop-cons s 0 0 (omega arith)
    ∙ ap (λ (t : List ℕ). get_or s 0 0 ∷ t) (drop-cons s 1 0 (omega arith)
    ∙ ap (λ (t : List ℕ). get_or s 1 0 ∷ t) (drop-cons s 2 0 (omega arith)
    ∙ ap (λ (t : List ℕ). get_or s 2 0 ∷ t) (drop-cons s 3 0 (omega arith)
    ∙ ap (λ (t : List ℕ). get_or s 3 0 ∷ t) (drop-cons s 4 0 (omega arith)))))

-- two bytes of a number, low first
pub low_byte : (lo hi : ℕ) → lo < 256 → (lo + hi * 256) % 256 ≡ lo
low_byte lo hi h = add-mul-mod_self_right lo hi 256 ∙ mod-eq_of_lt h

pub high_byte : (lo hi : ℕ) → lo < 256 → (lo + hi * 256) / 256 ≡ hi
high_byte lo hi h = add-mul-div_right lo hi {z = 256} (lit< tt) ∙ ap (λ (n : ℕ). n + hi) (div-eq_of_lt h) ∙ zero-add hi

-- a part that lies within the first of two lists
pub part-front : (a len : ℕ) (x y : List ℕ) → a + len ≤ length x → take len (drop a (x ++ y)) ≡ take len (drop a x)
part-front a len x y h =
    let n : length (drop a x) ≡ length x - a = length-drop a x in
    let k : len ≤ length (drop a x) = omega arith in
    ap (take len) (drop-append-le a x y (omega arith)) ∙ take-append-le len (drop a x) y k

-- the middle one of three lists
pub part_middle : (x y z : List ℕ) → take (length y) (drop (length x) (x ++ (y ++ z))) ≡ y
part_middle x y z = ap (take (length y)) (drop-append_seam x (y ++ z)) ∙ take-append_seam y z
