-- A word times a byte, by planes of bits: the product of a word whose cells are bits with a byte has no carry, so its cells are the products;
-- and a cell is the sum of its bits, each with its power of two.
use mathlib.Core.Path.{◌≡◌, refl, sym, ap, ap₂, ◌∙◌}
use mathlib.Core.List.{List, [], ◌∷◌}
use Prim.Native.Nat.{ℕ, zero, suc, ◌+◌, ◌*◌, ◌/◌, ◌%◌, ◌^◌, ◌<◌, ◌≤◌}
use native.Mathlib.Nat.{div-one, mul_right_comm, mul-le-mul, add-mul as ℕ-add-mul}
use native.Mathlib.Omega.{arith}
use lib.Bits.{bit_and, bit_xor, and_le_r}
use lib.Dec.{T}
use lib.ListN.{get_or}
use lib.Pow.{shr-shr, split, high, low}
use Rattle.lists.proofs.Test.{all, all-at}
use Rattle.field.specs.Field.{add, mul, mul_bits, double}
use Rattle.field.proofs.Sum.{Additive, agree-byte, bit-lt, add_low}
use Rattle.field.proofs.Product.{mul-add, mul-zero, mul-one, one-mul, mul_comm, mul_assoc}
use Rattle.lists.specs.Bytes.{Bytes}
use Rattle.code.specs.Poly.{padd, pscale}
use Rattle.code.proofs.Poly.{pscale-mul}
use Rattle.words.specs.Word.{byte, bytes_from}
use Rattle.words.specs.Doubles.{Doubled, bits_at}
use Rattle.words.proofs.Linear.{family, agree_b, shr, byte-add, shr-add, and-add, after, sum-add}
use Rattle.words.proofs.Words.{word_bytes, word_sum, same8}

abbrev pub ones : ℕ
ones = 0x0101010101010101

-- ---- a word of bits times a byte

byte-suc : (v i : ℕ) → byte v (suc i) ≡ byte (v / 2 ^ 8) i
unfolding byte
byte-suc v i =
    let e : 8 * suc i ≡ 8 + 8 * i = omega arith in
    ap (λ (k : ℕ). v / 2 ^ k % 2 ^ 8) e ∙ ap (λ (x : ℕ). x % 2 ^ 8) (sym (shr-shr v 8 (8 * i)))

byte-first : (v : ℕ) → byte v 0 ≡ v % 2 ^ 8
unfolding byte
byte-first v = ap (λ (x : ℕ). x % 2 ^ 8) (div-one v)

small : (t c : ℕ) → t < 2 → c < 256 → t * c < 2 ^ 8
small zero c h l = omega arith
small (suc zero) c h l = omega arith
small (suc (suc t)) c h l = absurd (omega arith)

product_split : (v c : ℕ) → v * c ≡ v / 2 ^ 8 * c * 2 ^ 8 + v % 2 ^ 8 * c
product_split v c =
    ap (λ (x : ℕ). x * c) (sym (split v 8))
    ∙ ℕ-add-mul (v / 2 ^ 8 * 2 ^ 8) (v % 2 ^ 8) c
    ∙ ap (λ (x : ℕ). x + v % 2 ^ 8 * c) (mul_right_comm (v / 2 ^ 8) (2 ^ 8) c)

times-byte : (j v c : ℕ) → c < 256 → ((i : ℕ) → i ≤ j → byte v i < 2) → byte (v * c) j ≡ byte v j * c
times-byte zero v c l h =
    let t : v % 2 ^ 8 < 2 = rw (byte-first v) at (h 0 (omega arith)) in
    byte-first (v * c)
    ∙ ap (λ (x : ℕ). x % 2 ^ 8) (product_split v c)
    ∙ low (v / 2 ^ 8 * c) 8 (small (v % 2 ^ 8) c t l)
    ∙ ap (λ (x : ℕ). x * c) (sym (byte-first v))
times-byte (suc j) v c l h =
    let t : v % 2 ^ 8 < 2 = rw (byte-first v) at (h 0 (omega arith)) in
    byte-suc (v * c) j
    ∙ ap (λ (x : ℕ). byte x j) (ap (λ (x : ℕ). x / 2 ^ 8) (product_split v c) ∙ high (v / 2 ^ 8 * c) 8 (small (v % 2 ^ 8) c t l))
    ∙ times-byte j (v / 2 ^ 8) c l (λ i hi. rw (byte-suc v i) at (h (suc i) (omega arith)))
    ∙ ap (λ (x : ℕ). x * c) (sym (byte-suc v j))

bit_product : (t c : ℕ) → t < 2 → c < 256 → t * c ≡ mul c t
bit_product zero c h l = omega (arith, mul-zero c)
bit_product (suc zero) c h l = omega (arith, mul-one c l)
bit_product (suc (suc t)) c h l = absurd (omega arith)

-- ---- the bits of the cells of a word

bit-add : (k : ℕ) → Additive (λ x. x / 2 ^ k % 2)
bit-add k a b = ap (λ (x : ℕ). x % 2) (shr-add k a b) ∙ add_low 1 (a / 2 ^ k) (b / 2 ^ k)

bit_test : T (all (λ k. all (λ j. all (agree_b (λ v. byte (bit_and (shr k v) ones) j) (λ v. byte v j / 2 ^ k % 2)) 64) 8) 8)
unfolding byte agree_b
bit_test = tt

bit_byte : (k : ℕ) → k < 8 → (j : ℕ) → j < 8 → (w : ℕ) → w < 2 ^ 64 → byte (bit_and (w / 2 ^ k) ones) j ≡ byte w j / 2 ^ k % 2
bit_byte k hk =
    family (λ j v. byte (bit_and (shr k v) ones) j) (λ j v. byte v j / 2 ^ k % 2)
    (λ j. after (λ v. byte v j) (λ v. bit_and (shr k v) ones) (byte-add j) (after (λ v. bit_and v ones) (shr k) (and-add ones) (shr-add k)))
    (λ j. after (λ x. x / 2 ^ k % 2) (λ v. byte v j) (bit-add k) (byte-add j)) 8
    (all-at (λ m. all (λ j. all (agree_b (λ v. byte (bit_and (shr m v) ones) j) (λ v. byte v j / 2 ^ m % 2)) 64) 8) 8 bit_test k hk)

pub plane_byte : (k c w : ℕ) → k < 8 → c < 256 → w < 2 ^ 64 → (j : ℕ) → j < 8 → byte (bit_and (w / 2 ^ k) ones * c) j ≡ mul c (byte w j / 2 ^ k % 2)
plane_byte k c w hk hc hw j hj =
    times-byte j (bit_and (w / 2 ^ k) ones) c hc (λ i hi. rw (sym (bit_byte k hk i (omega arith) w hw)) at (bit-lt (byte w i / 2 ^ k)))
    ∙ ap (λ (x : ℕ). x * c) (bit_byte k hk j hj w hw)
    ∙ bit_product (byte w j / 2 ^ k % 2) c (bit-lt (byte w j / 2 ^ k)) hc

pub plane_law : (k c w : ℕ) → k < 8 → c < 256 → w < 2 ^ 64 → bytes_from 8 0 (bit_and (w / 2 ^ k) ones * c) ≡ pscale c (bits_at k (bytes_from 8 0 w))
unfolding pscale bits_at
plane_law k c w hk hc hw =
    let n : (j : ℕ) → j < 8 → byte (bit_and (w / 2 ^ k) ones * c) j ≡ mul c (byte w j / 2 ^ k % 2) = plane_byte k c w hk hc hw in
    same8 _ _ _ _ _ _ _ _ _ _ _ _ _ _ _ _ (n 0 (omega arith)) (n 1 (omega arith)) (n 2 (omega arith)) (n 3 (omega arith)) (n 4 (omega arith)) (n 5 (omega arith)) (n 6 (omega arith)) (n 7 (omega arith))

pub plane_fits : (v c : ℕ) → c < 256 → bit_and v ones * c < 2 ^ 64
plane_fits v c h =
    let m : bit_and v ones * c ≤ ones * 255 = mul-le-mul {m₂ = 255} (and_le_r v ones) (omega arith) in
    omega (arith, m)

-- ---- the sum of the planes

abbrev term : ℕ → ℕ → ℕ
term k x = mul (2 ^ k) (x / 2 ^ k % 2)

abbrev pub sum8 : (x0 x1 x2 x3 x4 x5 x6 x7 : ℕ) → ℕ
sum8 x0 x1 x2 x3 x4 x5 x6 x7 = add (add (add (add x0 x1) x2) x3) (add (add (add x4 x5) x6) x7)

bits_of : ℕ → ℕ
bits_of x = sum8 (term 0 x) (term 1 x) (term 2 x) (term 3 x) (term 4 x) (term 5 x) (term 6 x) (term 7 x)

term-add : (k : ℕ) → Additive (term k)
term-add k = after (mul (2 ^ k)) (λ x. x / 2 ^ k % 2) (mul-add (2 ^ k)) (bit-add k)

bits_add : Additive bits_of
unfolding bits_of
bits_add =
    sum-add _ _ (sum-add _ _ (sum-add _ _ (sum-add _ _ (term-add 0) (term-add 1)) (term-add 2)) (term-add 3))
    (sum-add _ _ (sum-add _ _ (sum-add _ _ (term-add 4) (term-add 5)) (term-add 6)) (term-add 7))

bits_all : (x : ℕ) → x < 256 → bits_of x ≡ x
unfolding bits_of add mul mul_bits double
bits_all = agree-byte bits_of (λ x. x) bits_add (λ a b. refl) tt

mul-sum8 : (a x0 x1 x2 x3 x4 x5 x6 x7 : ℕ) → sum8 (mul a x0) (mul a x1) (mul a x2) (mul a x3) (mul a x4) (mul a x5) (mul a x6) (mul a x7) ≡ mul a (sum8 x0 x1 x2 x3 x4 x5 x6 x7)
mul-sum8 a x0 x1 x2 x3 x4 x5 x6 x7 =
    sym
    (mul-add a (add (add (add x0 x1) x2) x3) (add (add (add x4 x5) x6) x7)
    ∙ ap₂ add (four x0 x1 x2 x3) (four x4 x5 x6 x7))
  where
    four : (p q s t : ℕ) → mul a (add (add (add p q) s) t) ≡ add (add (add (mul a p) (mul a q)) (mul a s)) (mul a t)
    four p q s t =
        mul-add a (add (add p q) s) t
        ∙ ap (λ (x : ℕ). add x (mul a t)) (mul-add a (add p q) s ∙ ap (λ (x : ℕ). add x (mul a s)) (mul-add a p q))

swap : (p a t : ℕ) → mul (mul p a) t ≡ mul a (mul p t)
swap p a t = ap (λ (x : ℕ). mul x t) (mul_comm p a) ∙ mul_assoc a p t

-- a cell times a, by the cell's bits
pub cell_sum : (a x : ℕ) → x < 256
    → sum8 (mul (mul 1 a) (x / 2 ^ 0 % 2)) (mul (mul 2 a) (x / 2 ^ 1 % 2)) (mul (mul 4 a) (x / 2 ^ 2 % 2)) (mul (mul 8 a) (x / 2 ^ 3 % 2))
    (mul (mul 16 a) (x / 2 ^ 4 % 2)) (mul (mul 32 a) (x / 2 ^ 5 % 2)) (mul (mul 64 a) (x / 2 ^ 6 % 2)) (mul (mul 128 a) (x / 2 ^ 7 % 2))
    ≡ mul a x
unfolding bits_of
cell_sum a x h =
    ap₂ add (ap₂ add (ap₂ add (ap₂ add (swap 1 a _) (swap 2 a _)) (swap 4 a _)) (swap 8 a _))
    (ap₂ add (ap₂ add (ap₂ add (swap 16 a _) (swap 32 a _)) (swap 64 a _)) (swap 128 a _))
    ∙ mul-sum8 a (term 0 x) (term 1 x) (term 2 x) (term 3 x) (term 4 x) (term 5 x) (term 6 x) (term 7 x)
    ∙ ap (mul a) (bits_all x h)

abbrev pub padd8 : (l0 l1 l2 l3 l4 l5 l6 l7 : List ℕ) → List ℕ
padd8 l0 l1 l2 l3 l4 l5 l6 l7 = padd (padd (padd (padd l0 l1) l2) l3) (padd (padd (padd l4 l5) l6) l7)

list_sum : (a : ℕ) (l : List ℕ) → Bytes l
    → padd8 (pscale (mul 1 a) (bits_at 0 l)) (pscale (mul 2 a) (bits_at 1 l)) (pscale (mul 4 a) (bits_at 2 l)) (pscale (mul 8 a) (bits_at 3 l))
    (pscale (mul 16 a) (bits_at 4 l)) (pscale (mul 32 a) (bits_at 5 l)) (pscale (mul 64 a) (bits_at 6 l)) (pscale (mul 128 a) (bits_at 7 l))
    ≡ pscale a l
unfolding padd pscale bits_at
list_sum a [] h = refl
list_sum a (x ∷ l) h = ap₂ ◌∷◌ (cell_sum a x h.0) (list_sum a l h.1)

-- ---- the doubles

-- what is doubled time and again is each time twice as large a multiple
pub multiples : {A : Type 0} (cells : A → List ℕ) (c0 c1 c2 c3 c4 c5 c6 c7 : A) → Doubled cells c0 c1 c2 c3 c4 c5 c6 c7
    → (cells c1 ≡ pscale 2 (cells c0)) × (cells c2 ≡ pscale 4 (cells c0)) × (cells c3 ≡ pscale 8 (cells c0)) × (cells c4 ≡ pscale 16 (cells c0))
    × (cells c5 ≡ pscale 32 (cells c0)) × (cells c6 ≡ pscale 64 (cells c0)) × (cells c7 ≡ pscale 128 (cells c0))
unfolding mul mul_bits double add
multiples cells c0 c1 c2 c3 c4 c5 c6 c7 e =
    let l : List ℕ = cells c0 in
    let m2 : cells c2 ≡ pscale 4 l = e.1 ∙ ap (pscale 2) e.0 ∙ pscale-mul 2 2 l in
    let m3 : cells c3 ≡ pscale 8 l = e.2 ∙ ap (pscale 2) m2 ∙ pscale-mul 2 4 l in
    let m4 : cells c4 ≡ pscale 16 l = e.3 ∙ ap (pscale 2) m3 ∙ pscale-mul 2 8 l in
    let m5 : cells c5 ≡ pscale 32 l = e.4 ∙ ap (pscale 2) m4 ∙ pscale-mul 2 16 l in
    let m6 : cells c6 ≡ pscale 64 l = e.5 ∙ ap (pscale 2) m5 ∙ pscale-mul 2 32 l in
    let m7 : cells c7 ≡ pscale 128 l = e.6 ∙ ap (pscale 2) m6 ∙ pscale-mul 2 64 l in
    (e.0, m2, m3, m4, m5, m6, m7)

abbrev pub one_cell : ℕ → List ℕ
one_cell c = c ∷ []

pub first_cell : (m a c : ℕ) → one_cell c ≡ pscale m (one_cell a) → c ≡ mul m a
unfolding pscale
first_cell m a c e = ap (λ (l : List ℕ). get_or l 0 0) e

-- the doubles of a byte
pub byte_doubles : (a c1 c2 c3 c4 c5 c6 c7 : ℕ) → a < 256 → Doubled one_cell a c1 c2 c3 c4 c5 c6 c7
    → (a ≡ mul 1 a) × (c1 ≡ mul 2 a) × (c2 ≡ mul 4 a) × (c3 ≡ mul 8 a) × (c4 ≡ mul 16 a) × (c5 ≡ mul 32 a) × (c6 ≡ mul 64 a) × (c7 ≡ mul 128 a)
byte_doubles a c1 c2 c3 c4 c5 c6 c7 h e =
    let m = multiples one_cell a c1 c2 c3 c4 c5 c6 c7 e in
    (sym (one-mul a h), first_cell 2 a c1 m.0, first_cell 4 a c2 m.1, first_cell 8 a c3 m.2, first_cell 16 a c4 m.3, first_cell 32 a c5 m.4, first_cell 64 a c6 m.5, first_cell 128 a c7 m.6)

-- the words of eight planes, added: a times the word
pub planes_sum : (w a c1 c2 c3 c4 c5 c6 c7 p0 p1 p2 p3 p4 p5 p6 p7 : ℕ) → a < 256 → Doubled one_cell a c1 c2 c3 c4 c5 c6 c7
    → bytes_from 8 0 p0 ≡ pscale a (bits_at 0 (bytes_from 8 0 w))
    → bytes_from 8 0 p1 ≡ pscale c1 (bits_at 1 (bytes_from 8 0 w))
    → bytes_from 8 0 p2 ≡ pscale c2 (bits_at 2 (bytes_from 8 0 w))
    → bytes_from 8 0 p3 ≡ pscale c3 (bits_at 3 (bytes_from 8 0 w))
    → bytes_from 8 0 p4 ≡ pscale c4 (bits_at 4 (bytes_from 8 0 w))
    → bytes_from 8 0 p5 ≡ pscale c5 (bits_at 5 (bytes_from 8 0 w))
    → bytes_from 8 0 p6 ≡ pscale c6 (bits_at 6 (bytes_from 8 0 w))
    → bytes_from 8 0 p7 ≡ pscale c7 (bits_at 7 (bytes_from 8 0 w))
    → bytes_from 8 0 (bit_xor (bit_xor (bit_xor (bit_xor p0 p1) p2) p3) (bit_xor (bit_xor (bit_xor p4 p5) p6) p7)) ≡ pscale a (bytes_from 8 0 w)
planes_sum w a c1 c2 c3 c4 c5 c6 c7 p0 p1 p2 p3 p4 p5 p6 p7 h d h0 h1 h2 h3 h4 h5 h6 h7 =
    let e = byte_doubles a c1 c2 c3 c4 c5 c6 c7 h d in
    word_sum _ _ (word_sum _ _ (word_sum _ _ (word_sum p0 p1 (h0 ∙ on 0 e.0) (h1 ∙ on 1 e.1)) (h2 ∙ on 2 e.2)) (h3 ∙ on 3 e.3))
    (word_sum _ _ (word_sum _ _ (word_sum p4 p5 (h4 ∙ on 4 e.4) (h5 ∙ on 5 e.5)) (h6 ∙ on 6 e.6)) (h7 ∙ on 7 e.7))
    ∙ list_sum a (bytes_from 8 0 w) (word_bytes 8 0 w)
  where
    on : (k : ℕ) {c m : ℕ} → c ≡ m → pscale c (bits_at k (bytes_from 8 0 w)) ≡ pscale m (bits_at k (bytes_from 8 0 w))
    on k q = ap (λ (v : ℕ). pscale v (bits_at k (bytes_from 8 0 w))) q

-- a blank word has no bits
pub blank_scaled : (a w : ℕ) → w ≡ 0 → bytes_from 8 0 0 ≡ pscale a (bytes_from 8 0 w)
unfolding byte pscale
blank_scaled a w e = sym (ap (λ (v : ℕ). pscale a (bytes_from 8 0 v)) e ∙ same8 _ _ _ _ _ _ _ _ _ _ _ _ _ _ _ _ z z z z z z z z)
  where
    z : mul a 0 ≡ 0
    z = mul-zero a
