-- The product of two words, cell by cell: a cell is the sum of its bits, each with its power of two, so the product is the sum of the doubles of the
-- other cell that the bits choose. A mask of whole cells is a bit of each times 255.
use mathlib.Core.Path.{◌≡◌, refl, sym, ap, ap₂, ◌∙◌}
use mathlib.Core.List.{List, [], ◌∷◌}
use Prim.Native.Nat.{ℕ, zero, suc, ◌*◌, ◌/◌, ◌%◌, ◌^◌, ◌<◌}
use native.Mathlib.Nat.{mod-eq_of_lt}
use native.Mathlib.Omega.{arith}
use lib.ListN.{length, replicate}
use lib.Bits.{bit_and, bit_xor, and_zero_l, and_comm, and_mask, and_shr, and_mod}
use Rattle.lists.specs.Bytes.{Bytes}
use Rattle.field.specs.Field.{mul, add}
use Rattle.field.proofs.Sum.{bit-lt}
use Rattle.field.proofs.Product.{mul-zero, zero-mul, mul-one, one-mul, mul_comm}
use Rattle.code.specs.Poly.{padd, pscale}
use Rattle.words.specs.Word.{byte, bytes_from}
use Rattle.words.specs.Doubles.{Doubled, bits_at}
use Rattle.words.proofs.Words.{byte-lt, word_bytes, word_sum, same8}
use Rattle.words.proofs.Bits.{ones, plane_byte, plane_law, sum8, cell_sum, padd8, multiples}
use Rattle.products.specs.Products.{times}

-- ---- the cells that a bit of each cell chooses

pub byte-and : (v m j : ℕ) → byte (bit_and v m) j ≡ bit_and (byte v j) (byte m j)
unfolding byte
byte-and v m j = ap (λ (x : ℕ). x % 2 ^ 8) (and_shr v m (8 * j)) ∙ and_mod (v / 2 ^ (8 * j)) (m / 2 ^ (8 * j)) 8

-- all of a byte, or nothing
gated : (t x : ℕ) → t < 2 → x < 256 → bit_and (mul 255 t) x ≡ mul t x
gated zero x ht hx = ap (λ (m : ℕ). bit_and m x) (mul-zero 255) ∙ and_zero_l x ∙ sym (zero-mul x)
gated (suc zero) x ht hx =
    ap (λ (m : ℕ). bit_and m x) (mul-one 255 (omega arith)) ∙ and_comm 255 x ∙ and_mask x 8 ∙ mod-eq_of_lt hx ∙ sym (one-mul x hx)
gated (suc (suc t)) x ht hx = absurd (omega arith)

chosen_byte : (k v d : ℕ) → k < 8 → v < 2 ^ 64 → (j : ℕ) → j < 8 → byte (bit_and (bit_and (v / 2 ^ k) ones * 255) d) j ≡ mul (byte v j / 2 ^ k % 2) (byte d j)
chosen_byte k v d hk hv j hj =
    byte-and (bit_and (v / 2 ^ k) ones * 255) d j
    ∙ ap (λ (m : ℕ). bit_and m (byte d j)) (plane_byte k 255 v hk (omega arith) hv j hj)
    ∙ gated (byte v j / 2 ^ k % 2) (byte d j) (bit-lt (byte v j / 2 ^ k)) (byte-lt d j)

pub chosen_law : (k v d : ℕ) → k < 8 → v < 2 ^ 64 → bytes_from 8 0 (bit_and (bit_and (v / 2 ^ k) ones * 255) d) ≡ times (bits_at k (bytes_from 8 0 v)) (bytes_from 8 0 d)
unfolding times bits_at
chosen_law k v d hk hv =
    let n : (j : ℕ) → j < 8 → byte (bit_and (bit_and (v / 2 ^ k) ones * 255) d) j ≡ mul (byte v j / 2 ^ k % 2) (byte d j) = chosen_byte k v d hk hv in
    same8 _ _ _ _ _ _ _ _ _ _ _ _ _ _ _ _ (n 0 (omega arith)) (n 1 (omega arith)) (n 2 (omega arith)) (n 3 (omega arith)) (n 4 (omega arith)) (n 5 (omega arith)) (n 6 (omega arith)) (n 7 (omega arith))

-- ---- the sum of what the bits choose

cell_product : (a x : ℕ) → a < 256 → x < 256
    → sum8 (mul (x / 2 ^ 0 % 2) a) (mul (x / 2 ^ 1 % 2) (mul 2 a)) (mul (x / 2 ^ 2 % 2) (mul 4 a)) (mul (x / 2 ^ 3 % 2) (mul 8 a))
    (mul (x / 2 ^ 4 % 2) (mul 16 a)) (mul (x / 2 ^ 5 % 2) (mul 32 a)) (mul (x / 2 ^ 6 % 2) (mul 64 a)) (mul (x / 2 ^ 7 % 2) (mul 128 a))
    ≡ mul a x
cell_product a x ha hx =
    ap₂ add (ap₂ add (ap₂ add (ap₂ add (ap (mul _) (sym (one-mul a ha)) ∙ mul_comm _ (mul 1 a)) (mul_comm _ (mul 2 a))) (mul_comm _ (mul 4 a))) (mul_comm _ (mul 8 a)))
    (ap₂ add (ap₂ add (ap₂ add (mul_comm _ (mul 16 a)) (mul_comm _ (mul 32 a))) (mul_comm _ (mul 64 a))) (mul_comm _ (mul 128 a)))
    ∙ cell_sum a x hx

list_product : (a v : List ℕ) → Bytes a → Bytes v
    → padd8 (times (bits_at 0 v) a) (times (bits_at 1 v) (pscale 2 a)) (times (bits_at 2 v) (pscale 4 a)) (times (bits_at 3 v) (pscale 8 a))
    (times (bits_at 4 v) (pscale 16 a)) (times (bits_at 5 v) (pscale 32 a)) (times (bits_at 6 v) (pscale 64 a)) (times (bits_at 7 v) (pscale 128 a))
    ≡ times a v
unfolding padd pscale bits_at times
list_product [] [] ha hv = refl
list_product [] (y ∷ v) ha hv = refl
list_product (x ∷ a) [] ha hv = refl
list_product (x ∷ a) (y ∷ v) ha hv = ap₂ ◌∷◌ (cell_product x y ha.0 hv.0) (list_product a v ha.1 hv.1)

pub chosen_sum : (v x d1 d2 d3 d4 d5 d6 d7 p0 p1 p2 p3 p4 p5 p6 p7 : ℕ) → Doubled (bytes_from 8 0) x d1 d2 d3 d4 d5 d6 d7
    → bytes_from 8 0 p0 ≡ times (bits_at 0 (bytes_from 8 0 v)) (bytes_from 8 0 x)
    → bytes_from 8 0 p1 ≡ times (bits_at 1 (bytes_from 8 0 v)) (bytes_from 8 0 d1)
    → bytes_from 8 0 p2 ≡ times (bits_at 2 (bytes_from 8 0 v)) (bytes_from 8 0 d2)
    → bytes_from 8 0 p3 ≡ times (bits_at 3 (bytes_from 8 0 v)) (bytes_from 8 0 d3)
    → bytes_from 8 0 p4 ≡ times (bits_at 4 (bytes_from 8 0 v)) (bytes_from 8 0 d4)
    → bytes_from 8 0 p5 ≡ times (bits_at 5 (bytes_from 8 0 v)) (bytes_from 8 0 d5)
    → bytes_from 8 0 p6 ≡ times (bits_at 6 (bytes_from 8 0 v)) (bytes_from 8 0 d6)
    → bytes_from 8 0 p7 ≡ times (bits_at 7 (bytes_from 8 0 v)) (bytes_from 8 0 d7)
    → bytes_from 8 0 (bit_xor (bit_xor (bit_xor (bit_xor p0 p1) p2) p3) (bit_xor (bit_xor (bit_xor p4 p5) p6) p7)) ≡ times (bytes_from 8 0 x) (bytes_from 8 0 v)
chosen_sum v x d1 d2 d3 d4 d5 d6 d7 p0 p1 p2 p3 p4 p5 p6 p7 d h0 h1 h2 h3 h4 h5 h6 h7 =
    let e = multiples (bytes_from 8 0) x d1 d2 d3 d4 d5 d6 d7 d in
    word_sum _ _ (word_sum _ _ (word_sum _ _ (word_sum p0 p1 h0 (h1 ∙ on 1 e.0)) (h2 ∙ on 2 e.1)) (h3 ∙ on 3 e.2))
    (word_sum _ _ (word_sum _ _ (word_sum p4 p5 (h4 ∙ on 4 e.3) (h5 ∙ on 5 e.4)) (h6 ∙ on 6 e.5)) (h7 ∙ on 7 e.6))
    ∙ list_product (bytes_from 8 0 x) (bytes_from 8 0 v) (word_bytes 8 0 x) (word_bytes 8 0 v)
  where
    on : (k : ℕ) {p q : List ℕ} → p ≡ q → times (bits_at k (bytes_from 8 0 v)) p ≡ times (bits_at k (bytes_from 8 0 v)) q
    on k = ap (times (bits_at k (bytes_from 8 0 v)))

-- ---- a blank factor, and a cell eight times

zero-times : (n : ℕ) (l : List ℕ) → length l ≡ n → times (replicate n 0) l ≡ replicate n 0
unfolding times
zero-times zero [] e = refl
zero-times zero (x ∷ l) e = absurd (omega arith)
zero-times (suc n) [] e = absurd (omega arith)
zero-times (suc n) (x ∷ l) e = ap₂ ◌∷◌ (zero-mul x) (zero-times n l (omega arith))

pub blank_times : (a b : ℕ) → a ≡ 0 → bytes_from 8 0 0 ≡ times (bytes_from 8 0 a) (bytes_from 8 0 b)
blank_times a b e = sym (ap (λ (w : ℕ). times (bytes_from 8 0 w) (bytes_from 8 0 b)) e ∙ on)
  where
    on : times (bytes_from 8 0 0) (bytes_from 8 0 b) ≡ bytes_from 8 0 0
    on = unfold byte in zero-times 8 (bytes_from 8 0 b) refl

pub spread_law : (c : ℕ) → c < 256 → bytes_from 8 0 (ones * c) ≡ replicate 8 c
spread_law c h = plane_law 0 c ones (omega arith) h (omega arith) ∙ (unfold pscale bits_at byte in same8 _ _ _ _ _ _ _ _ _ _ _ _ _ _ _ _ one one one one one one one one)
  where
    one : mul c 1 ≡ c
    one = mul-one c h
