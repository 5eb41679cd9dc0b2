-- The polynomials of filling as 64 cells: the product of (x + X) grows by a multiple and a move up; the evaluator is a sum of multiples of its cells
-- moved down; the derivative is every second cell.
use mathlib.Core.Path.{◌≡◌, refl, sym, ap, ap₂, ◌∙◌}
use mathlib.Core.List.{List, [], ◌∷◌}
use Prim.Native.Nat.{ℕ, zero, suc, ◌+◌, ◌≤◌, ◌<◌}
use native.Mathlib.Nat.{mod-eq_of_lt}
use native.Mathlib.Numerals.{add-one}
use native.Mathlib.Omega.{arith}
use lib.Bits.{bit_and, and_mask, and_zero_r}
use lib.ListN.{length, get_or, drop, replicate, drop_of_length-le}
use lib.Seq.{drop-cons}
use Rattle.field.specs.Field.{add}
use Rattle.field.proofs.Product.{mul_comm}
use Rattle.code.specs.Poly.{padd, pscale}
use Rattle.code.proofs.Poly.{padd_comm, padd_assoc, padd-zeros}
use Rattle.words.specs.Word.{byte, bytes_from}
use Rattle.words.specs.Cells.{shift_up, shift_down, pad_to}
use Rattle.words.proofs.Words.{byte-lt, same8}
use Rattle.words.proofs.Pad.{pad_nil, pad_sum, pad_scale, pad_up}
use Rattle.register.specs.Words.{cells}
use Rattle.register.specs.declared.Register.{Register}
use Rattle.register.proofs.Cells.{cong8}
use Rattle.products.specs.Products.{dot}
use Rattle.products.proofs.Product.{byte-and}
use Rattle.erasure.specs.Filling.{rooted_at, windows, even_cells}
use Rattle.erasure.proofs.Dot.{Same, dot-same}
use Rattle.erasure.proofs.Fill.{windows-length}

-- ---- the product of (x + X)

-- the register has the product of (x + X) for the points p
abbrev pub Rooted : Register → List ℕ → Type 0
Rooted r p = cells r ≡ pad_to 64 (rooted_at p)

pub rooted_none : (z r : Register) → cells z ≡ replicate 64 0 → cells r ≡ shift_up 1 (cells z) → Rooted r []
unfolding rooted_at
rooted_none z r ez er = er ∙ ap (shift_up 1) (ez ∙ sym (pad_nil 64)) ∙ pad_up 64 1 []

-- a point more
pub rooted_more : (r a b n : Register) (X : ℕ) (p : List ℕ) → cells a ≡ pscale X (cells r) → cells b ≡ shift_up 0 (cells r) → cells n ≡ padd (cells a) (cells b) → Rooted r p → Rooted n (X ∷ p)
unfolding rooted_at
rooted_more r a b n X p ea eb en er =
    let P : List ℕ = rooted_at p in
    en
    ∙ ap₂ padd (ea ∙ ap (pscale X) er ∙ pad_scale 64 X P) (eb ∙ ap (shift_up 0) er ∙ pad_up 64 0 P)
    ∙ pad_sum 64 (pscale X P) (0 ∷ P)

-- ---- the evaluator

dot-zero : (s : List ℕ) → dot (0 ∷ []) s ≡ 0
dot-zero s = dot-same (0 ∷ []) [] s none ∙ (unfold dot in refl)
  where
    none : Same (0 ∷ []) []
    none zero = refl
    none (suc k) = refl

down_same : (z : ℕ) (l : List ℕ) → Same (z ∷ shift_down (z ∷ l) 0) (z ∷ l)
unfolding shift_down
down_same z l zero = refl
down_same z [] (suc zero) = refl
down_same z [] (suc (suc k)) = refl
down_same z (y ∷ l) (suc k) = down_same y l k

dot_down : (z : ℕ) (l s : List ℕ) → dot (z ∷ shift_down (z ∷ l) 0) s ≡ dot (z ∷ l) s
dot_down z l s = dot-same (z ∷ shift_down (z ∷ l) 0) (z ∷ l) s (down_same z l)

-- a syndrome adds a multiple, and the cells move down
windows_down : (x : ℕ) (l s : List ℕ) → windows l (x ∷ s) ≡ padd (pscale x l) (windows (shift_down l 0) s)
unfolding windows dot padd pscale shift_down
windows_down x [] s = refl
windows_down x (y ∷ []) s = ap₂ (λ (u v : ℕ). add u v ∷ []) (mul_comm y x) (sym (dot-zero s))
windows_down x (y ∷ z ∷ l) s =
    ap₂ ◌∷◌ (ap₂ add (mul_comm y x) (sym (dot_down z l s))) (windows_down x (z ∷ l) s)

windows-none : (l : List ℕ) → windows l [] ≡ replicate (length l) 0
unfolding windows dot
windows-none [] = refl
windows-none (x ∷ l) = ap (λ (t : List ℕ). 0 ∷ t) (windows-none l)

pub evaluator-start : (l s W : List ℕ) → length l ≡ 64 → W ≡ replicate 64 0 → padd W (windows l (drop 0 s)) ≡ windows l s
evaluator-start l s W h e =
    ap (λ (u : List ℕ). padd u (windows l s)) e
    ∙ padd_comm (replicate 64 0) (windows l s)
    ∙ padd-zeros (windows l s) 64 (omega (arith, windows-length l s))

pub evaluator-more : (l s W R M W' R' : List ℕ) (k : ℕ) → k < length s → padd W (windows R (drop k s)) ≡ windows l s → M ≡ pscale (get_or s k 0) R
    → W' ≡ padd W M → R' ≡ shift_down R 0 → padd W' (windows R' (drop (k + 1) s)) ≡ windows l s
evaluator-more l s W R M W' R' k h inv em ew er =
    let x : ℕ = get_or s k 0 in
    ap₂ (λ (u v : List ℕ). padd u (windows v (drop (k + 1) s))) (ew ∙ ap (padd W) em) er
    ∙ padd_assoc W (pscale x R) (windows (shift_down R 0) (drop (k + 1) s))
    ∙ ap (padd W) (ap (λ (j : ℕ). padd (pscale x R) (windows (shift_down R 0) (drop j s))) (add-one k) ∙ sym (windows_down x R (drop (suc k) s)) ∙ ap (windows R) (sym (drop-cons s k 0 h)))
    ∙ inv

pub evaluator-end : (l s W R : List ℕ) (k : ℕ) → length s ≤ k → length R ≡ 64 → length W ≡ 64 → padd W (windows R (drop k s)) ≡ windows l s → W ≡ windows l s
evaluator-end l s W R k h hr hw inv =
    sym (ap (λ (u : List ℕ). padd W (windows R u)) (drop_of_length-le s h) ∙ ap (padd W) (windows-none R) ∙ padd-zeros W (length R) (omega arith)) ∙ inv

-- ---- the derivative

kept : (w m j : ℕ) → byte m j ≡ 255 → byte (bit_and w m) j ≡ byte w j
kept w m j e = byte-and w m j ∙ ap (bit_and (byte w j)) e ∙ and_mask (byte w j) 8 ∙ mod-eq_of_lt (byte-lt w j)

gone : (w m j : ℕ) → byte m j ≡ 0 → byte (bit_and w m) j ≡ 0
gone w m j e = byte-and w m j ∙ ap (bit_and (byte w j)) e ∙ and_zero_r (byte w j)

abbrev mask : ℕ
mask = 0x00ff00ff00ff00ff

even_word : (w : ℕ) → bytes_from 8 0 (bit_and w mask) ≡ even_cells (bytes_from 8 0 w)
unfolding even_cells byte
even_word w =
    same8 _ _ _ _ _ _ _ _ _ _ _ _ _ _ _ _ (kept w mask 0 refl) (gone w mask 1 refl) (kept w mask 2 refl) (gone w mask 3 refl) (kept w mask 4 refl) (gone w mask 5 refl) (kept w mask 6 refl) (gone w mask 7 refl)

pub even_cells_lem : (x z : Register) → z.w0 ≡ bit_and x.w0 mask → z.w1 ≡ bit_and x.w1 mask → z.w2 ≡ bit_and x.w2 mask → z.w3 ≡ bit_and x.w3 mask
    → z.w4 ≡ bit_and x.w4 mask → z.w5 ≡ bit_and x.w5 mask → z.w6 ≡ bit_and x.w6 mask → z.w7 ≡ bit_and x.w7 mask
    → cells z ≡ even_cells (cells x)
unfolding cells even_cells
even_cells_lem x z p q r s t u v w = cong8 (on _ _ p) (on _ _ q) (on _ _ r) (on _ _ s) (on _ _ t) (on _ _ u) (on _ _ v) (on _ _ w)
  where
    on : (c d : ℕ) → c ≡ bit_and d mask → bytes_from 8 0 c ≡ even_cells (bytes_from 8 0 d)
    on c d e = ap (bytes_from 8 0) e ∙ even_word d
