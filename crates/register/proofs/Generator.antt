-- The generator at the top of a register, root by root, and the generator of the step back at the bottom. A further root a makes of g the sum of
-- a g and x g (code's generator-suc); the register holds all of g but the cell 1 on top.
use mathlib.Core.Path.{◌≡◌, refl, sym, ap, ap₂, ◌∙◌}
use mathlib.Core.List.{List, [], ◌∷◌, ◌++◌, append_assoc}
use Prim.Native.Nat.{ℕ, zero, suc, ◌+◌, ◌-◌, ◌<◌, ◌≤◌}
use native.Mathlib.Omega.{arith}
use native.Mathlib.Numerals.{add-one}
use lib.ListN.{length, get_or, take, drop, replicate, length-replicate, drop_of_length-le, get_or-append}
use lib.Seq.{take-length, take-suc, take_all, drop-nil, drop_at, get_or-drop}
use Rattle.field.specs.Field.{add, inverse, alpha}
use Rattle.field.proofs.Product.{mul-two}
use Rattle.field.proofs.Turns.{alpha-turn}
use Rattle.field.proofs.Laws.{alpha_laws}
use Rattle.code.specs.Poly.{padd, pscale}
use Rattle.code.specs.Code.{generator}
use Rattle.code.specs.Run.{tail}
use Rattle.code.proofs.Poly.{padd_comm, pscale-length}
use Rattle.code.proofs.Generator.{generator-length, generator_monic, generator-suc}
use Rattle.words.proofs.Bits.{first_cell}
use Rattle.words.specs.Cells.{shift_down, pad_to}
use Rattle.words.proofs.Pad.{pad_at, pad_scale}
use Rattle.register.specs.Register.{on_top, monic_of, back_generator}
use Rattle.register.proofs.Align.{low_scale, low_sum}

-- ---- at the top

down_in : (c x : ℕ) (l : List ℕ) → shift_down (x ∷ l) c ≡ l ++ (c ∷ [])
unfolding shift_down
down_in c x [] = refl
down_in c x (y ∷ l) = ap (λ (t : List ℕ). y ∷ t) (down_in c y l)

zeros_on : (m : ℕ) (t : List ℕ) → replicate (suc m) 0 ++ t ≡ replicate m 0 ++ (0 ∷ t)
zeros_on zero t = refl
zeros_on (suc m) t = ap (λ (u : List ℕ). 0 ∷ u) (zeros_on m t)

take-padd : (p q : List ℕ) → take (length p) (padd p q) ≡ padd p (take (length p) q)
unfolding padd
take-padd [] q = refl
take-padd (x ∷ p) [] = ap (λ (t : List ℕ). x ∷ t) (take-length p)
take-padd (x ∷ p) (y ∷ q) = ap (λ (t : List ℕ). add x y ∷ t) (take-padd p q)

-- the generator is its low cells and 1
split_top : (b i : ℕ) → take i (generator b i) ++ (1 ∷ []) ≡ generator b i
split_top b i =
    ap (λ (k : ℕ). take i (generator b i) ++ (k ∷ [])) (sym (generator_monic b i))
    ∙ sym (take-suc (generator b i) i 0 (omega (arith, generator-length b i)))
    ∙ take_all (suc i) (generator b i) (omega (arith, generator-length b i))

low_suc : (b i : ℕ) → take (suc i) (generator b (suc i)) ≡ padd (0 ∷ take i (generator b i)) (pscale (alpha (b + i)) (generator b i))
low_suc b i =
    let g : List ℕ = generator b i in
    let p : List ℕ = pscale (alpha (b + i)) g in
    let l : length p ≡ suc i = pscale-length (alpha (b + i)) g ∙ generator-length b i in
    ap (take (suc i)) (generator-suc b i)
    ∙ ap (λ (k : ℕ). take k (padd p (0 ∷ g))) (sym l)
    ∙ take-padd p (0 ∷ g)
    ∙ ap (λ (k : ℕ). padd p (take k (0 ∷ g))) l
    ∙ padd_comm p (0 ∷ take i g)

-- the same over any list t in front of 1, with m zeros and one more below it
top_sum : (m a : ℕ) (t G : List ℕ) → G ≡ 0 ∷ (replicate m 0 ++ t) → padd G (pscale a (shift_down G 1)) ≡ replicate m 0 ++ padd (0 ∷ t) (pscale a (t ++ (1 ∷ [])))
top_sum m a t G eG =
    ap₂ padd (eG ∙ zeros_on m t)
    (ap (pscale a) (ap (λ (u : List ℕ). shift_down u 1) eG ∙ down_in 1 0 (replicate m 0 ++ t) ∙ append_assoc (replicate m 0) t (1 ∷ [])) ∙ low_scale m a (t ++ (1 ∷ [])))
    ∙ low_sum m (0 ∷ t) (pscale a (t ++ (1 ∷ [])))

low_top : (b i : ℕ) → padd (0 ∷ take i (generator b i)) (pscale (alpha (b + i)) (take i (generator b i) ++ (1 ∷ []))) ≡ take (i + 1) (generator b (i + 1))
low_top b i =
    ap (λ (g : List ℕ). padd (0 ∷ take i (generator b i)) (pscale (alpha (b + i)) g)) (split_top b i)
    ∙ sym (low_suc b i)
    ∙ ap (λ (k : ℕ). take k (generator b k)) (sym (add-one i))

pub top_more : (b i : ℕ) (G N : List ℕ) → i < 64 → G ≡ on_top i (take i (generator b i)) → N ≡ padd G (pscale (alpha (b + i)) (shift_down G 1))
    → N ≡ on_top (i + 1) (take (i + 1) (generator b (i + 1)))
top_more b i G N h eG eN =
    let high : 64 - i ≡ suc (63 - i) = omega arith in
    let low : 63 - i ≡ 64 - (i + 1) = omega arith in
    eN
    ∙ top_sum (63 - i) (alpha (b + i)) (take i (generator b i)) G (eG ∙ ap (λ (k : ℕ). replicate k 0 ++ take i (generator b i)) high)
    ∙ ap₂ (λ (k : ℕ) (u : List ℕ). replicate k 0 ++ u) low (low_top b i)

pub top_none : (b : ℕ) (G : List ℕ) → G ≡ replicate 64 0 → G ≡ on_top 0 (take 0 (generator b 0))
top_none b G e = e

-- a root's double is the next root
pub next_root : (b i a v : ℕ) → a ≡ alpha (b + i) → v ∷ [] ≡ pscale 2 (a ∷ []) → v ≡ alpha (b + (i + 1))
next_root b i a v h e =
    let n : b + i + 1 ≡ b + (i + 1) = omega arith in
    alpha-turn (b + i) a v h (first_cell 2 a v e ∙ mul-two a (rw h (alpha_laws.byte (b + i)))) ∙ ap alpha n

-- ---- at the bottom

-- a register on top of which stands the generator
pub monic_generator : (b r : ℕ) → monic_of r (on_top r (take r (generator b r))) ≡ generator b r
monic_generator b r =
    ap (drop (64 - r)) (append_assoc (replicate (64 - r) 0) (take r (generator b r)) (1 ∷ []))
    ∙ drop_at (replicate (64 - r) 0) (take r (generator b r) ++ (1 ∷ [])) (64 - r) (length-replicate (64 - r) 0)
    ∙ split_top b r

tail-drop : (k x : ℕ) (l : List ℕ) → tail (drop k (x ∷ l)) ≡ drop k l
tail-drop zero x l = refl
tail-drop (suc k) x [] = ap tail (drop-nil k)
tail-drop (suc k) x (y ∷ l) = tail-drop k y l

-- the cells above the lowest are those of the register moved down by one, with 1 on top
tail_monic : (k : ℕ) (G : List ℕ) → 0 < length G → tail (drop k (G ++ (1 ∷ []))) ≡ drop k (shift_down G 1)
tail_monic k [] h = absurd (omega arith)
tail_monic k (x ∷ l) h = tail-drop k x (l ++ (1 ∷ [])) ∙ ap (drop k) (sym (down_in 1 x l))

first_monic : (k : ℕ) (G : List ℕ) → k < length G → get_or (drop k G) 0 0 ≡ get_or (drop k (G ++ (1 ∷ []))) 0 0
first_monic k G h =
    get_or-drop k G 0 0
    ∙ sym (get_or-append G (1 ∷ []) 0 (k + 0) (omega arith))
    ∙ sym (get_or-drop k (G ++ (1 ∷ [])) 0 0)

down_length : (G : List ℕ) → length (shift_down G 1) ≡ length G
unfolding shift_down
down_length [] = refl
down_length (x ∷ []) = refl
down_length (x ∷ y ∷ l) = ap suc (down_length (y ∷ l))

-- with no cell above the lowest every factor will do
scaled_tail : (r v : ℕ) (G : List ℕ) → r ≤ 64 → length G ≡ 64 → (0 < r → v ≡ inverse (get_or (monic_of r G) 0 0))
    → pscale v (drop (64 - r) (shift_down G 1)) ≡ back_generator (monic_of r G)
unfolding back_generator pscale
scaled_tail zero v G h l e =
    let short : length (shift_down G 1) ≤ 64 = omega (arith, down_length G) in
    let none : drop 64 (shift_down G 1) ≡ [] = drop_of_length-le (shift_down G 1) short in
    ap (pscale v) none ∙ ap (pscale (inverse (get_or (monic_of 0 G) 0 0))) (sym (tail_monic 64 G (omega arith) ∙ none))
scaled_tail (suc r) v G h l e = ap₂ pscale (e (omega arith)) (sym (tail_monic (64 - suc r) G (omega arith)))

pub bottom_law : (r c v : ℕ) (G L P D N : List ℕ) → r ≤ 64 → length G ≡ 64 → L ≡ pad_to 64 (drop (64 - r) G) → c ≡ get_or L 0 0 → v ≡ inverse c
    → P ≡ shift_down G 1 → D ≡ pad_to 64 (drop (64 - r) P) → N ≡ pscale v D → N ≡ pad_to 64 (back_generator (monic_of r G))
bottom_law r c v G L P D N h l eL ec ev eP eD eN =
    eN
    ∙ ap (pscale v) (eD ∙ ap (λ (u : List ℕ). pad_to 64 (drop (64 - r) u)) eP)
    ∙ pad_scale 64 v (drop (64 - r) (shift_down G 1))
    ∙ ap (pad_to 64) (scaled_tail r v G h l (λ p. ev ∙ ap inverse (ec ∙ ap (λ (u : List ℕ). get_or u 0 0) eL ∙ pad_at 64 (drop (64 - r) G) 0 (omega arith) ∙ first_monic (64 - r) G (omega arith))))
