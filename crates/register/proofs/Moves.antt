-- Cells that come in eight at a time and go out one at a time, and cells moved down: what is left of a list after i cells is what the loops keep.
use mathlib.Core.Path.{◌≡◌, refl, sym, ap, ap₂, ◌∙◌}
use mathlib.Core.List.{List, [], ◌∷◌, ◌++◌}
use Prim.Native.Nat.{ℕ, zero, suc, ◌+◌, ◌*◌, ◌/◌, ◌%◌, ◌≤◌, ◌<◌}
use native.Mathlib.Omega.{arith}
use native.Mathlib.Numerals.{add-one}
use native.Mathlib.Nat.{zero-add, suc-add}
use lib.ListN.{length, get_or, set, take, drop}
use lib.Seq.{drop-drop, drop-nil, take-suc, take-suc-set, take_all}
use Rattle.words.specs.Word.{byte, bytes_from}
use Rattle.words.specs.Cells.{shift_down, pad_to}
use Rattle.words.proofs.Pad.{pad_full, pad_down, drop_pad}
use Rattle.register.specs.Words.{unpack, cells}
use Rattle.register.specs.declared.Register.{Register}
use Rattle.register.proofs.Cells.{cells-length, cong8}

-- ---- cells that come in, eight at a time

chunks : ℕ → ℕ → List ℕ → List ℕ
chunks zero k s = []
chunks (suc m) k s = pad_to 8 (drop k s) ++ chunks m (k + 8) s

pad_split : (m n : ℕ) (s : List ℕ) → pad_to m s ++ pad_to n (drop m s) ≡ pad_to (m + n) s
unfolding pad_to
pad_split zero n s = ap (λ (k : ℕ). pad_to k s) (sym (zero-add n))
pad_split (suc m) n [] =
    ap (λ (t : List ℕ). 0 ∷ t) (ap (λ (t : List ℕ). pad_to m [] ++ pad_to n t) (sym (drop-nil m)) ∙ pad_split m n [])
    ∙ ap (λ (k : ℕ). pad_to k []) (sym (suc-add m n))
pad_split (suc m) n (x ∷ s) = ap (λ (t : List ℕ). x ∷ t) (pad_split m n s) ∙ ap (λ (k : ℕ). pad_to k (x ∷ s)) (sym (suc-add m n))

chunks_pad : (m k : ℕ) (s : List ℕ) → chunks m k s ≡ pad_to (8 * m) (drop k s)
unfolding chunks pad_to
chunks_pad zero k s = refl
chunks_pad (suc m) k s =
    let e : 8 + 8 * m ≡ 8 * suc m = omega arith in
    ap (λ (t : List ℕ). pad_to 8 (drop k s) ++ t) (chunks_pad m (k + 8) s ∙ ap (pad_to (8 * m)) (sym (drop-drop 8 k s)))
    ∙ pad_split 8 (8 * m) (drop k s)
    ∙ ap (λ (n : ℕ). pad_to n (drop k s)) e

pub load_words : (x : Register) (s : List ℕ) → bytes_from 8 0 x.w0 ≡ pad_to 8 (drop 0 s) → bytes_from 8 0 x.w1 ≡ pad_to 8 (drop 8 s)
    → bytes_from 8 0 x.w2 ≡ pad_to 8 (drop 16 s) → bytes_from 8 0 x.w3 ≡ pad_to 8 (drop 24 s) → bytes_from 8 0 x.w4 ≡ pad_to 8 (drop 32 s)
    → bytes_from 8 0 x.w5 ≡ pad_to 8 (drop 40 s) → bytes_from 8 0 x.w6 ≡ pad_to 8 (drop 48 s) → bytes_from 8 0 x.w7 ≡ pad_to 8 (drop 56 s)
    → cells x ≡ pad_to 64 s
unfolding cells chunks
load_words x s a b c d e f g h = cong8 a b c d e f g h ∙ chunks_pad 8 0 s

-- ---- cells moved down

pub lower-none : (x : Register) → cells x ≡ pad_to 64 (cells x)
lower-none x = sym (pad_full 64 (cells x) (cells-length x))

-- one step more, where each moves the cells down by n
pub lower-more : (n : ℕ) (C X N : List ℕ) (i : ℕ) → length C ≡ 64 → X ≡ pad_to 64 (drop (n * i) C) → N ≡ pad_to 64 (drop n X) → N ≡ pad_to 64 (drop (n * (i + 1)) C)
lower-more n C X N i l eX eN =
    let e : n * i + n ≡ n * (i + 1) = grind arith in
    eN ∙ ap (λ (u : List ℕ). pad_to 64 (drop n u)) eX ∙ drop_pad n (n * i) 64 C (omega arith) ∙ ap (λ (k : ℕ). pad_to 64 (drop k C)) e

pub lower-one : (x : Register) (N : List ℕ) → N ≡ shift_down (cells x) 0 → N ≡ pad_to 64 (drop 1 (cells x))
lower-one x N e =
    e ∙ ap (λ (u : List ℕ). shift_down u 0) (lower-none x) ∙ pad_down 64 (cells x) (omega (arith, cells-length x))

pub word-lower_law : (x : Register) (w : ℕ) → w ≡ 0
    → cells (record { w0 = x.w1; w1 = x.w2; w2 = x.w3; w3 = x.w4; w4 = x.w5; w5 = x.w6; w6 = x.w7; w7 = 0 }) ≡ pad_to 64 (drop 8 (cells x))
unfolding cells byte pad_to
word-lower_law x w e = refl

pub lowered_law : (x : Register) (X N : List ℕ) (n : ℕ) → X ≡ pad_to 64 (drop (8 * (n / 8)) (cells x)) → N ≡ pad_to 64 (drop (n % 8) X) → N ≡ pad_to 64 (drop n (cells x))
lowered_law x X N n eX eN =
    let e : 8 * (n / 8) + n % 8 ≡ n = omega arith in
    eN ∙ ap (λ (u : List ℕ). pad_to 64 (drop (n % 8) u)) eX ∙ drop_pad (n % 8) (8 * (n / 8)) 64 (cells x) (omega (arith, cells-length x))
    ∙ ap (λ (k : ℕ). pad_to 64 (drop k (cells x))) e

-- ---- cells that go out, from the first to the last

-- cell i of the words is cell i % 8 of word i / 8
pub cell_of_lem : (ws : List ℕ) (i : ℕ) → i < 8 * length ws → get_or (unpack ws) i 0 ≡ byte (get_or ws (i / 8) 0) (i % 8)
cell_of_lem [] i h = absurd (omega arith)
cell_of_lem (w ∷ ws) zero h = refl
cell_of_lem (w ∷ ws) (suc zero) h = refl
cell_of_lem (w ∷ ws) (suc (suc zero)) h = refl
cell_of_lem (w ∷ ws) (suc (suc (suc zero))) h = refl
cell_of_lem (w ∷ ws) (suc (suc (suc (suc zero)))) h = refl
cell_of_lem (w ∷ ws) (suc (suc (suc (suc (suc zero))))) h = refl
cell_of_lem (w ∷ ws) (suc (suc (suc (suc (suc (suc zero)))))) h = refl
cell_of_lem (w ∷ ws) (suc (suc (suc (suc (suc (suc (suc zero))))))) h = refl
cell_of_lem (w ∷ ws) (suc (suc (suc (suc (suc (suc (suc (suc i)))))))) h =
    let q : suc (suc (suc (suc (suc (suc (suc (suc i))))))) / 8 ≡ suc (i / 8) = omega arith in
    let m : suc (suc (suc (suc (suc (suc (suc (suc i))))))) % 8 ≡ i % 8 = omega arith in
    cell_of_lem ws i (omega arith) ∙ ap₂ (λ (j k : ℕ). byte (get_or (w ∷ ws) j 0) k) (sym q) (sym m)

pub out_more : (C out : List ℕ) (v i : ℕ) → length C ≡ 64 → i < 64 → length out ≡ 64 → take i out ≡ take i C → v ≡ get_or C i 0
    → take (i + 1) (set out i v) ≡ take (i + 1) C
out_more C out v i l h lo et ev =
    let e : i + 1 ≡ suc i = add-one i in
    ap (λ (k : ℕ). take k (set out i v)) e ∙ take-suc-set out i v (omega arith)
    ∙ ap₂ (λ (u : List ℕ) (k : ℕ). u ++ (k ∷ [])) et ev
    ∙ sym (take-suc C i 0 (omega arith)) ∙ ap (λ (k : ℕ). take k C) (sym e)

pub out_all : (C out : List ℕ) (i : ℕ) → length C ≡ 64 → length out ≡ 64 → 64 ≤ i → take i out ≡ take i C → out ≡ C
out_all C out i l lo h e = sym (take_all i out (omega arith)) ∙ e ∙ take_all i C (omega arith)
