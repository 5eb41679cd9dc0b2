-- The forward step over 64 cells, as the loop makes it: two rows are added, and the cells that are left make the rest of the definition.
use mathlib.Core.Path.{◌≡◌, refl, sym, ap, ap₂, ◌∙◌}
use mathlib.Core.List.{List, [], ◌∷◌, ◌++◌}
use Prim.Native.Nat.{ℕ, zero, suc, ◌+◌, ◌-◌, ◌*◌, ◌/◌, ◌%◌, ◌≤◌, ◌<◌}
use native.Mathlib.Omega.{arith}
use lib.ListN.{length, get_or, take, replicate, length-append, length-replicate, length-take, replicate-append-replicate}
use lib.Seq.{take_all}
use Rattle.code.specs.Poly.{padd, pscale}
use Rattle.field.specs.Field.{add}
use Rattle.words.specs.Cells.{shift_up}
use Rattle.register.specs.Words.{cells}
use Rattle.register.specs.Register.{feed, feeds, on_top}
use Rattle.register.specs.declared.Register.{Register}
use Rattle.register.proofs.Cells.{take_cells}
use Rattle.register.proofs.Align.{low_up, low_scale, low_sum, low_at}

-- a turn of the loop: the feedback is the highest cell and the cell that comes in, S the register moved up, N the sum with f times p
pub feed_law : (p : Register) (R S N : List ℕ) (x f : ℕ) → f ≡ add (get_or R 63 0) x → S ≡ shift_up 0 R → N ≡ padd S (pscale f (cells p)) → N ≡ feed 64 (cells p) x R
unfolding feed
feed_law p R S N x f ef eS eN =
    eN
    ∙ ap₂ (λ (u : List ℕ) (k : ℕ). padd u (pscale k (cells p))) eS ef
    ∙ ap (λ (g : List ℕ). padd (shift_up 0 R) (pscale (add (get_or R 63 0) x) g)) (sym (take_cells p))

pub feeds_cons : (r : ℕ) (G : List ℕ) (x : ℕ) (s : List ℕ) → feed r G x (feeds r G s) ≡ feeds r G (x ∷ s)
unfolding feeds
feeds_cons r G x s = refl

pub feeds_none : (r : ℕ) (G : List ℕ) → feeds r G [] ≡ replicate r 0
unfolding feeds
feeds_none r G = refl

pub all_taken : (s rest taken : List ℕ) → s ≡ rest ++ taken → length rest ≡ 0 → s ≡ taken
all_taken s [] taken e z = e
all_taken s (x ∷ rest) taken e z = absurd (omega arith)

-- ---- r cells on top: the zeros below stay

feed_top : (r : ℕ) (g : List ℕ) (x : ℕ) (R : List ℕ) → 0 < r → r ≤ 64 → feed 64 (on_top r (take r g)) x (on_top r R) ≡ on_top r (feed r g x R)
unfolding feed
feed_top r g x R p l =
    let k : ℕ = 64 - r in
    let e : 63 ≡ k + (r - 1) = omega arith in
    let f : ℕ = add (get_or R (r - 1) 0) x in
    let at : get_or (on_top r R) 63 0 ≡ get_or R (r - 1) 0 = ap (λ (j : ℕ). get_or (on_top r R) j 0) e ∙ low_at k (r - 1) R in
    let whole : take 64 (on_top r (take r g)) ≡ on_top r (take r g) =
    take_all 64 (on_top r (take r g)) (omega (arith, length-append (replicate k 0) (take r g), length-replicate {A = ℕ} k 0, length-take r g)) in
    ap₂ padd (low_up k R) (ap₂ (λ (t : ℕ) (G : List ℕ). pscale (add t x) G) at whole ∙ low_scale k f (take r g))
    ∙ low_sum k (shift_up 0 R) (pscale f (take r g))

feeds-nil : (g m : List ℕ) → feeds 0 g m ≡ []
unfolding feeds feed shift_up padd pscale
feeds-nil g [] = refl
feeds-nil g (x ∷ m) = ap (λ (R : List ℕ). padd (shift_up 0 R) (pscale (add (get_or R (0 - 1) 0) x) [])) (feeds-nil g m)

feed_still : (x : ℕ) → feed 64 (on_top 0 []) x (on_top 0 []) ≡ on_top 0 []
unfolding feed shift_up padd pscale
feed_still x = ap₂ padd (low_up 64 []) (low_scale 64 (add (get_or (on_top 0 []) 63 0) x) []) ∙ low_sum 64 [] []

feed-none : (g : List ℕ) (x : ℕ) (m : List ℕ) → feed 64 (on_top 0 []) x (on_top 0 []) ≡ on_top 0 (feed 0 g x (feeds 0 g m))
unfolding feeds
feed-none g x m = feed_still x ∙ ap (on_top 0) (sym (feeds-nil g (x ∷ m)))

pub feeds_top : (r : ℕ) (g m : List ℕ) → r ≤ 64 → feeds 64 (on_top r (take r g)) m ≡ on_top r (feeds r g m)
unfolding feeds
feeds_top r g [] l =
    let e : 64 - r + r ≡ 64 = omega arith in
    sym (replicate-append-replicate (64 - r) r 0 ∙ ap (λ (n : ℕ). replicate n 0) e)
feeds_top zero g (x ∷ m) l = ap (feed 64 (on_top 0 []) x) (feeds_top zero g m l ∙ ap (on_top 0) (feeds-nil g m)) ∙ feed-none g x m
feeds_top (suc r) g (x ∷ m) l =
    ap (feed 64 (on_top (suc r) (take (suc r) g)) x) (feeds_top (suc r) g m l) ∙ feed_top (suc r) g x (feeds (suc r) g m) (omega arith) l
