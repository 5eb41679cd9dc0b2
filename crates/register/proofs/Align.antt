-- Shorter lists at the top of a register: cells with zeros below them keep sums, multiples and shifts. Each law is an induction along the zeros.
use mathlib.Core.Path.{◌≡◌, refl, ap, ap₂, ◌∙◌}
use mathlib.Core.List.{List, ◌∷◌, ◌++◌}
use Prim.Native.Nat.{ℕ, zero, suc, ◌+◌, ◌-◌}
use native.Mathlib.Nat.{suc-add, zero-add}
use lib.ListN.{get_or, drop, replicate, length-replicate}
use lib.Seq.{drop_at}
use Rattle.field.proofs.Sum.{add_self}
use Rattle.field.proofs.Product.{mul-zero}
use Rattle.code.specs.Poly.{padd, pscale}
use Rattle.words.specs.Cells.{shift_up}
use Rattle.register.specs.Register.{on_top}

pub low_up : (k : ℕ) (R : List ℕ) → shift_up 0 (replicate k 0 ++ R) ≡ replicate k 0 ++ shift_up 0 R
unfolding shift_up
low_up zero R = refl
low_up (suc k) R = ap (λ (t : List ℕ). 0 ∷ t) (low_up k R)

pub low_scale : (k f : ℕ) (G : List ℕ) → pscale f (replicate k 0 ++ G) ≡ replicate k 0 ++ pscale f G
unfolding pscale
low_scale zero f G = refl
low_scale (suc k) f G = ap₂ ◌∷◌ (mul-zero f) (low_scale k f G)

pub low_sum : (k : ℕ) (p q : List ℕ) → padd (replicate k 0 ++ p) (replicate k 0 ++ q) ≡ replicate k 0 ++ padd p q
unfolding padd
low_sum zero p q = refl
low_sum (suc k) p q = ap₂ ◌∷◌ (add_self 0) (low_sum k p q)

pub low_at : (k j : ℕ) (R : List ℕ) → get_or (replicate k 0 ++ R) (k + j) 0 ≡ get_or R j 0
low_at zero j R = ap (λ (i : ℕ). get_or R i 0) (zero-add j)
low_at (suc k) j R = ap (λ (i : ℕ). get_or (replicate (suc k) 0 ++ R) i 0) (suc-add k j) ∙ low_at k j R

-- the cells on top, moved down
pub drop_top : (r : ℕ) (l : List ℕ) → drop (64 - r) (on_top r l) ≡ l
drop_top r l = drop_at (replicate (64 - r) 0) l (64 - r) (length-replicate (64 - r) 0)
