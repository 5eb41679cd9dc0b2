-- Multiples of a list of cells: the rows by the numbers below 16, and that the rows of the two halves of a byte add up to its multiple.
use mathlib.Core.Path.{◌≡◌, sym, ap, ap₂, ◌∙◌}
use mathlib.Core.List.{List, [], ◌∷◌}
use mathlib.Core.Bool.{Bool}
use Prim.Native.Nat.{ℕ, zero, suc, ◌+◌, ◌*◌, ◌/◌, ◌%◌, ◌<◌}
use native.Mathlib.Nat.{mod-lt, zero-add, suc-add, add-suc, add-zero, le_of_suc-le-suc, mul_comm as ℕ-mul-comm}
use native.Mathlib.Omega.{arith}
use lib.Bits.{bit_xor, xor_shifted}
use lib.Dec.{T, eqb, eqb→eq}
use lib.Pow.{split}
use lib.ListN.{length, get_or, replicate}
use Rattle.code.specs.Poly.{padd, pscale}
use Rattle.code.proofs.Poly.{pscale-add, pscale-mul, pscale-one, pscale-zero, padd_assoc}
use Rattle.field.specs.Field.{add, mul, mul_bits, double}
use Rattle.lists.proofs.Test.{all-at}
use Rattle.register.specs.Words.{cells}
use Rattle.register.specs.declared.Register.{Register}
use Rattle.register.proofs.Cells.{cells-bytes, cells-length}

-- ---- the rows

-- the registers of a list are the multiples of P by k, k + 1, ..
abbrev Multiples : List ℕ → ℕ → List Register → Type 0
Multiples P k [] = Unit {0}
Multiples P k (x ∷ l) = (cells x ≡ pscale k P) × Multiples P (suc k) l

multiple_at : (P : List ℕ) (k : ℕ) (l : List Register) → Multiples P k l → (d : Register) (n : ℕ) → n < length l → cells (get_or l n d) ≡ pscale (k + n) P
multiple_at P k [] h d n l = absurd (omega arith)
multiple_at P k (x ∷ xs) h d zero l = h.0 ∙ ap (λ (j : ℕ). pscale j P) (sym (add-zero k))
multiple_at P k (x ∷ xs) h d (suc n) l = multiple_at P (suc k) xs h.1 d n (le_of_suc-le-suc l) ∙ ap (λ (j : ℕ). pscale j P) (suc-add k n ∙ sym (add-suc k n))

module _ (P : List ℕ) (x y z : Register) (a b : ℕ) (hx : cells x ≡ pscale a P) where
  row-add : cells y ≡ pscale b P → cells z ≡ padd (cells x) (cells y) → cells z ≡ pscale (add a b) P
  row-add hy e = e ∙ ap₂ padd hx hy ∙ pscale-add a b P

  row_twice : cells z ≡ pscale 2 (cells x) → cells z ≡ pscale (mul 2 a) P
  row_twice e = e ∙ ap (pscale 2) hx ∙ pscale-mul 2 a P

pub rows_law : (d z x1 x2 x3 x4 x5 x6 x7 x8 x9 x10 x11 x12 x13 x14 x15 : Register) → cells z ≡ replicate 64 0
    → cells x2 ≡ pscale 2 (cells x1) → cells x4 ≡ pscale 2 (cells x2) → cells x8 ≡ pscale 2 (cells x4)
    → cells x3 ≡ padd (cells x2) (cells x1)
    → cells x5 ≡ padd (cells x4) (cells x1)
    → cells x6 ≡ padd (cells x4) (cells x2)
    → cells x7 ≡ padd (cells x4) (cells x3)
    → cells x9 ≡ padd (cells x8) (cells x1)
    → cells x10 ≡ padd (cells x8) (cells x2)
    → cells x11 ≡ padd (cells x8) (cells x3)
    → cells x12 ≡ padd (cells x8) (cells x4)
    → cells x13 ≡ padd (cells x8) (cells x5)
    → cells x14 ≡ padd (cells x8) (cells x6)
    → cells x15 ≡ padd (cells x8) (cells x7)
    → (n : ℕ) → n < 16 → cells (get_or (z ∷ x1 ∷ x2 ∷ x3 ∷ x4 ∷ x5 ∷ x6 ∷ x7 ∷ x8 ∷ x9 ∷ x10 ∷ x11 ∷ x12 ∷ x13 ∷ x14 ∷ x15 ∷ []) n d) ≡ pscale n (cells x1)
unfolding add mul mul_bits double
rows_law d z x1 x2 x3 x4 x5 x6 x7 x8 x9 x10 x11 x12 x13 x14 x15 ez e2 e4 e8 e3 e5 e6 e7 e9 e10 e11 e12 e13 e14 e15 n l =
    let P : List ℕ = cells x1 in
    let h0 : cells z ≡ pscale 0 P = ez ∙ sym (pscale-zero P ∙ ap (λ (k : ℕ). replicate k 0) (cells-length x1)) in
    let h1 : cells x1 ≡ pscale 1 P = sym (pscale-one P (cells-bytes x1)) in
    let h2 : cells x2 ≡ pscale 2 P = row_twice P x1 x1 x2 1 0 h1 e2 in
    let h4 : cells x4 ≡ pscale 4 P = row_twice P x2 x2 x4 2 0 h2 e4 in
    let h8 : cells x8 ≡ pscale 8 P = row_twice P x4 x4 x8 4 0 h4 e8 in
    let h3 : cells x3 ≡ pscale 3 P = row-add P x2 x1 x3 2 1 h2 h1 e3 in
    let h5 : cells x5 ≡ pscale 5 P = row-add P x4 x1 x5 4 1 h4 h1 e5 in
    let h6 : cells x6 ≡ pscale 6 P = row-add P x4 x2 x6 4 2 h4 h2 e6 in
    let h7 : cells x7 ≡ pscale 7 P = row-add P x4 x3 x7 4 3 h4 h3 e7 in
    let h9 : cells x9 ≡ pscale 9 P = row-add P x8 x1 x9 8 1 h8 h1 e9 in
    let h10 : cells x10 ≡ pscale 10 P = row-add P x8 x2 x10 8 2 h8 h2 e10 in
    let h11 : cells x11 ≡ pscale 11 P = row-add P x8 x3 x11 8 3 h8 h3 e11 in
    let h12 : cells x12 ≡ pscale 12 P = row-add P x8 x4 x12 8 4 h8 h4 e12 in
    let h13 : cells x13 ≡ pscale 13 P = row-add P x8 x5 x13 8 5 h8 h5 e13 in
    let h14 : cells x14 ≡ pscale 14 P = row-add P x8 x6 x14 8 6 h8 h6 e14 in
    let h15 : cells x15 ≡ pscale 15 P = row-add P x8 x7 x15 8 7 h8 h7 e15 in
    multiple_at P 0 (z ∷ x1 ∷ x2 ∷ x3 ∷ x4 ∷ x5 ∷ x6 ∷ x7 ∷ x8 ∷ x9 ∷ x10 ∷ x11 ∷ x12 ∷ x13 ∷ x14 ∷ x15 ∷ []) (h0, (h1, (h2, (h3, (h4, (h5, (h6, (h7, (h8, (h9, (h10, (h11, (h12, (h13, (h14, (h15, tt)))))))))))))))) d n l
    ∙ ap (λ (k : ℕ). pscale k P) (zero-add n)

-- ---- the rows of the two halves of a byte

sixteen_fold : (P : List ℕ) → pscale 2 (pscale 2 (pscale 2 (pscale 2 P))) ≡ pscale 16 P
unfolding mul mul_bits double add
sixteen_fold P = ap (pscale 2) (ap (pscale 2) (pscale-mul 2 2 P) ∙ pscale-mul 2 4 P) ∙ pscale-mul 2 8 P

high_test : ℕ → Bool
high_test n = eqb (mul n 16) (16 * n)

high_product : (n : ℕ) → n < 16 → mul n 16 ≡ 16 * n
unfolding high_test mul mul_bits double add
high_product n h = eqb→eq _ _ (all-at high_test 16 tt n h)

pub high_rows_law : (P A B C D T : List ℕ) (n : ℕ) → n < 16 → A ≡ pscale 2 P → B ≡ pscale 2 A → C ≡ pscale 2 B → D ≡ pscale 2 C → T ≡ pscale n D → T ≡ pscale (16 * n) P
high_rows_law P A B C D T n h ea eb ec ed et =
    et ∙ ap (pscale n) (ed ∙ ap (pscale 2) (ec ∙ ap (pscale 2) (eb ∙ ap (pscale 2) ea)) ∙ sixteen_fold P)
    ∙ pscale-mul n 16 P ∙ ap (λ (k : ℕ). pscale k P) (high_product n h)

halves : (f : ℕ) → add (16 * (f / 16)) (f % 16) ≡ f
unfolding add
halves f = ap (λ (k : ℕ). bit_xor k (f % 16)) (ℕ-mul-comm 16 (f / 16)) ∙ xor_shifted (f / 16) 4 (f % 16) (mod-lt f (omega arith)) ∙ split f 4

-- a sum with the rows of the two halves of f is a sum with f times P
pub rows_sum : (P S L H A N : List ℕ) (f : ℕ) → L ≡ pscale (f % 16) P → H ≡ pscale (16 * (f / 16)) P → A ≡ padd S H → N ≡ padd A L → N ≡ padd S (pscale f P)
rows_sum P S L H A N f eL eH eA eN =
    eN
    ∙ ap₂ padd (eA ∙ ap (padd S) eH) eL
    ∙ padd_assoc S (pscale (16 * (f / 16)) P) (pscale (f % 16) P)
    ∙ ap (padd S) (pscale-add (16 * (f / 16)) (f % 16) P ∙ ap (λ (k : ℕ). pscale k P) (halves f))
