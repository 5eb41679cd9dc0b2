-- Cells of a slice that come into a word one at a time, from the last of the first m to the first: what is left of the list after i cells is what
-- the loop keeps.
use mathlib.Core.Path.{◌≡◌, refl, sym, ap, ap₂, ◌∙◌}
use mathlib.Core.List.{List, ◌∷◌}
use Prim.Native.Nat.{ℕ, zero, suc, ◌+◌, ◌-◌, ◌≤◌, ◌<◌, min}
use native.Mathlib.Omega.{arith}
use lib.ListN.{length, get_or, take, drop, replicate, length-take, drop_of_length-le}
use lib.Seq.{drop-cons, drop_at, length-take-le, get_or-take, take-add}
use Rattle.words.specs.Word.{byte, bytes_from}
use Rattle.words.specs.Cells.{shift_up, pad_to}
use Rattle.words.proofs.Pad.{pad_nil, pad_take, pad_up}

pub load_none : (n m k : ℕ) (s : List ℕ) → k ≡ min (length s) m → pad_to n (drop k (take m s)) ≡ replicate n 0
load_none n m k s e =
    let h : length (take m s) ≤ k = omega (arith, length-take m s) in
    ap (pad_to n) (drop_of_length-le (take m s) h) ∙ pad_nil n

pub load_more : (n m i : ℕ) (s X N : List ℕ) → 0 < i → i ≤ m → i ≤ length s → X ≡ pad_to n (drop i (take m s)) → N ≡ shift_up (get_or s (i - 1) 0) X
    → N ≡ pad_to n (drop (i - 1) (take m s))
load_more n m zero s X N p l h eX eN = absurd (omega arith)
load_more n m (suc i) s X N p l h eX eN =
    let e : suc i - 1 ≡ i = omega arith in
    let t : i < length (take m s) = omega (arith, length-take m s) in
    eN ∙ ap₂ (λ (k : ℕ) (u : List ℕ). shift_up (get_or s k 0) u) e eX ∙ pad_up n (get_or s i 0) (drop (suc i) (take m s))
    ∙ ap (λ (c : ℕ). pad_to n (c ∷ drop (suc i) (take m s))) (sym (get_or-take m s i 0 l))
    ∙ ap (pad_to n) (sym (drop-cons (take m s) i 0 t) ∙ ap (λ (k : ℕ). drop k (take m s)) (sym e))

-- all of the n cells from k on
pub load_all : (n k i : ℕ) (s : List ℕ) → k < length s → i ≡ k → pad_to n (drop i (take (k + n) s)) ≡ pad_to n (drop k s)
load_all n k i s l q =
    ap (λ (j : ℕ). pad_to n (drop j (take (k + n) s))) q
    ∙ ap (pad_to n) (ap (drop k) (take-add k n s) ∙ drop_at (take k s) (take n (drop k s)) k (length-take-le k s (omega arith)))
    ∙ pad_take n (drop k s)

pub no_cells : bytes_from 8 0 0 ≡ replicate 8 0
unfolding byte
no_cells = refl

-- past the end of the list a word has no cells
pub load_past : (k : ℕ) (s : List ℕ) → length s ≤ k → bytes_from 8 0 0 ≡ pad_to 8 (drop k s)
load_past k s h = no_cells ∙ sym (ap (pad_to 8) (drop_of_length-le s h) ∙ pad_nil 8)
