-- Maps of words that keep sums: two that agree at the 64 powers of two agree at every word. So each fact on the cells of a shifted or doubled
-- word is a computed test at the powers of two.
use mathlib.Core.Path.{◌≡◌, refl, sym, ap, ap₂, ◌∙◌}
use mathlib.Core.Bool.{Bool}
use Prim.Native.Nat.{ℕ, suc, ◌+◌, ◌*◌, ◌/◌, ◌%◌, ◌^◌, ◌<◌, min}
use native.Mathlib.Nat.{add-zero, mod-eq_of_lt}
use native.Mathlib.Omega.{arith}
use lib.Arith.{bin_ind}
use lib.Pow.{pow_pos}
use lib.Dec.{T, eqb, eqb→eq}
use lib.Bits.{bit_xor, bit_and, differ, and_step, xor_shr, xor_mod, xor_block}
use Rattle.field.proofs.Product.{mul-add}
use Rattle.field.proofs.Sum.{Additive, agree_below, bit-lt, low_differ, add_self, add_zero_r, add_swap}
use Rattle.field.specs.Field.{add, mul, mul_bits, double}
use Rattle.lists.proofs.Test.{all, all-at, equal_bits}
use Rattle.words.specs.Word.{byte}

unfoldable pub agree_b : (ℕ → ℕ) → (ℕ → ℕ) → ℕ → Bool
agree_b f g i = eqb (f (2 ^ i)) (g (2 ^ i))

-- a family of pairs of maps, tested at the powers of two
pub family : (f g : ℕ → ℕ → ℕ) → ((k : ℕ) → Additive (f k)) → ((k : ℕ) → Additive (g k)) → (n : ℕ)
    → T (all (λ k. all (agree_b (f k) (g k)) 64) n) → (k : ℕ) → k < n → (w : ℕ) → w < 2 ^ 64 → f k w ≡ g k w
unfolding agree_b
family f g hf hg n t k hk w h =
    agree_below (f k) (g k) (hf k) (hg k) 64 (λ i hi. eqb→eq _ _ (all-at (agree_b (f k) (g k)) 64 (all-at (λ j. all (agree_b (f j) (g j)) 64) n t k hk) i hi)) w h

-- ---- the maps

pub byte-add : (k : ℕ) → Additive (λ w. byte w k)
unfolding byte add
byte-add k a b = ap (λ (x : ℕ). x % 2 ^ 8) (xor_shr a b (8 * k)) ∙ xor_mod (a / 2 ^ (8 * k)) (b / 2 ^ (8 * k)) 8

abbrev pub shl : ℕ → ℕ → ℕ
shl k w = (w * 2 ^ k) % 2 ^ 64

abbrev pub shr : ℕ → ℕ → ℕ
shr k w = w / 2 ^ k

shl-add : (k : ℕ) → Additive (shl k)
unfolding add
shl-add k a b = ap (λ (x : ℕ). x % 2 ^ 64) step ∙ xor_mod (a * 2 ^ k) (b * 2 ^ k) 64
  where
    step : bit_xor a b * 2 ^ k ≡ bit_xor (a * 2 ^ k) (b * 2 ^ k)
    step =
        sym (add-zero (bit_xor a b * 2 ^ k))
        ∙ sym (xor_block k a b 0 0 (pow_pos k) (pow_pos k))
        ∙ ap₂ bit_xor (add-zero (a * 2 ^ k)) (add-zero (b * 2 ^ k))

pub shr-add : (k : ℕ) → Additive (shr k)
unfolding add
shr-add k a b = xor_shr a b k

bit-and : (x y z : ℕ) → x < 2 → y < 2 → z < 2 → min (differ x y) z ≡ bit_xor (min x z) (min y z)
bit-and = equal_bits (λ x y z. min (differ x y) z) (λ x y z. bit_xor (min x z) (min y z)) tt

min-lt : (x y : ℕ) → x < 2 → min x y < 2
min-lt x y h = omega (arith, native.Mathlib.Nat.min-le_left x y)

pub and-add : (m : ℕ) → Additive (λ w. bit_and w m)
unfolding add
and-add m a b = law a b m
  where
    law : (a b m : ℕ) → bit_and (bit_xor a b) m ≡ bit_xor (bit_and a m) (bit_and b m)
    law a =
        bin_ind (λ (n : ℕ). (b m : ℕ) → bit_and (bit_xor n b) m ≡ bit_xor (bit_and n m) (bit_and b m)) (λ b m. refl)
        (λ n ih b m.
        and_step (bit_xor n b) m
        ∙ ap₂ (λ (x y : ℕ). x * 2 + y)
        (ap (λ (x : ℕ). bit_and x (m / 2)) (xor_shr n b 1) ∙ ih (b / 2) (m / 2))
        (ap (λ (x : ℕ). min x (m % 2)) (low_differ n b)
        ∙ bit-and (n % 2) (b % 2) (m % 2) (bit-lt n) (bit-lt b) (bit-lt m))
        ∙ sym (xor_block 1 (bit_and (n / 2) (m / 2)) (bit_and (b / 2) (m / 2)) (min (n % 2) (m % 2)) (min (b % 2) (m % 2))
        (min-lt (n % 2) (m % 2) (bit-lt n)) (min-lt (b % 2) (m % 2) (bit-lt b)))
        ∙ sym (ap₂ bit_xor (and_step n m) (and_step b m))) a

none-add : Additive (λ w. 0)
none-add a b = sym (add_self 0)

pub after : (f g : ℕ → ℕ) → Additive f → Additive g → Additive (λ w. f (g w))
after f g hf hg a b = ap f (hg a b) ∙ hf (g a) (g b)

pub sum-add : (f g : ℕ → ℕ) → Additive f → Additive g → Additive (λ w. add (f w) (g w))
sum-add f g hf hg a b = ap₂ add (hf a b) (hg a b) ∙ add_swap (f a) (f b) (g a) (g b)

-- ---- a word moved up by a cell

up_low : (w : ℕ) → w < 2 ^ 64 → byte (shl 8 w) 0 ≡ 0
unfolding byte agree_b
up_low w h = family (λ k v. byte (shl 8 v) 0) (λ k v. 0) (λ k. after (λ v. byte v 0) (shl 8) (byte-add 0) (shl-add 8)) (λ k. none-add) 1 tt 0 (omega arith) w h

up_rest : (k : ℕ) → k < 7 → (w : ℕ) → w < 2 ^ 64 → byte (shl 8 w) (suc k) ≡ byte w k
unfolding byte agree_b
up_rest = family (λ k v. byte (shl 8 v) (suc k)) (λ k v. byte v k) (λ k. after (λ v. byte v (suc k)) (shl 8) (byte-add (suc k)) (shl-add 8)) byte-add 7 tt

carry_low : (w : ℕ) → w < 2 ^ 64 → byte (shr 56 w) 0 ≡ byte w 7
unfolding byte agree_b
carry_low w h = family (λ k v. byte (shr 56 v) 0) (λ k v. byte v 7) (λ k. after (λ v. byte v 0) (shr 56) (byte-add 0) (shr-add 56)) (λ k. byte-add 7) 1 tt 0 (omega arith) w h

carry_rest : (k : ℕ) → k < 7 → (w : ℕ) → w < 2 ^ 64 → byte (shr 56 w) (suc k) ≡ 0
unfolding byte agree_b
carry_rest = family (λ k v. byte (shr 56 v) (suc k)) (λ k v. 0) (λ k. after (λ v. byte v (suc k)) (shr 56) (byte-add (suc k)) (shr-add 56)) (λ k. none-add) 7 tt

pub byte_low : (x : ℕ) → x < 256 → byte x 0 ≡ x
unfolding byte
byte_low x h = ap (λ (k : ℕ). k % 256) (native.Mathlib.Nat.div-one x) ∙ mod-eq_of_lt h

pub up_first : (w v : ℕ) → w < 2 ^ 64 → v < 2 ^ 64 → byte (bit_xor (shl 8 w) (shr 56 v)) 0 ≡ byte v 7
unfolding add
up_first w v hw hv = byte-add 0 (shl 8 w) (shr 56 v) ∙ ap₂ bit_xor (up_low w hw) (carry_low v hv)

pub up_next : (k : ℕ) → k < 7 → (w v : ℕ) → w < 2 ^ 64 → v < 2 ^ 64 → byte (bit_xor (shl 8 w) (shr 56 v)) (suc k) ≡ byte w k
unfolding add
up_next k hk w v hw hv = byte-add (suc k) (shl 8 w) (shr 56 v) ∙ ap₂ bit_xor (up_rest k hk w hw) (carry_rest k hk v hv) ∙ add_zero_r (byte w k)

-- ---- a word moved down by a cell

down_rest : (k : ℕ) → k < 7 → (w : ℕ) → w < 2 ^ 64 → byte (shr 8 w) k ≡ byte w (suc k)
unfolding byte agree_b
down_rest = family (λ k v. byte (shr 8 v) k) (λ k v. byte v (suc k)) (λ k. after (λ v. byte v k) (shr 8) (byte-add k) (shr-add 8)) (λ k. byte-add (suc k)) 7 tt

down_top : (w : ℕ) → w < 2 ^ 64 → byte (shr 8 w) 7 ≡ 0
unfolding byte agree_b
down_top w h = family (λ k v. byte (shr 8 v) 7) (λ k v. 0) (λ k. after (λ v. byte v 7) (shr 8) (byte-add 7) (shr-add 8)) (λ k. none-add) 1 tt 0 (omega arith) w h

bring_rest : (k : ℕ) → k < 7 → (w : ℕ) → w < 2 ^ 64 → byte (shl 56 w) k ≡ 0
unfolding byte agree_b
bring_rest = family (λ k v. byte (shl 56 v) k) (λ k v. 0) (λ k. after (λ v. byte v k) (shl 56) (byte-add k) (shl-add 56)) (λ k. none-add) 7 tt

pub bring_top : (w : ℕ) → w < 2 ^ 64 → byte (shl 56 w) 7 ≡ byte w 0
unfolding byte agree_b
bring_top w h = family (λ k v. byte (shl 56 v) 7) (λ k v. byte v 0) (λ k. after (λ v. byte v 7) (shl 56) (byte-add 7) (shl-add 56)) (λ k. byte-add 0) 1 tt 0 (omega arith) w h

-- a byte that is moved to the top loses no bit
pub shl-byte : (c : ℕ) → c < 256 → shl 56 c ≡ c * 2 ^ 56
shl-byte c h = mod-eq_of_lt (omega arith)

pub down_last : (w v : ℕ) → w < 2 ^ 64 → v < 2 ^ 64 → byte (bit_xor (shr 8 w) (shl 56 v)) 7 ≡ byte v 0
unfolding add
down_last w v hw hv = byte-add 7 (shr 8 w) (shl 56 v) ∙ ap₂ bit_xor (down_top w hw) (bring_top v hv)

pub down_next : (k : ℕ) → k < 7 → (w v : ℕ) → w < 2 ^ 64 → v < 2 ^ 64 → byte (bit_xor (shr 8 w) (shl 56 v)) k ≡ byte w (suc k)
unfolding add
down_next k hk w v hw hv = byte-add k (shr 8 w) (shl 56 v) ∙ ap₂ bit_xor (down_rest k hk w hw) (bring_rest k hk v hv) ∙ add_zero_r (byte w (suc k))

-- ---- each cell of a word doubled

abbrev pub high : ℕ → ℕ
high w = bit_and (shr 7 w) 0x0101010101010101

unfoldable pub dbl : ℕ → ℕ
dbl w = add (add (add (add (shl 1 (bit_and w 0x7f7f7f7f7f7f7f7f)) (high w)) (shl 2 (high w))) (shl 3 (high w))) (shl 4 (high w))

high-add : Additive high
high-add = after (λ v. bit_and v 0x0101010101010101) (shr 7) (and-add 0x0101010101010101) (shr-add 7)

dbl-add : Additive dbl
unfolding dbl
dbl-add =
    sum-add _ _
    (sum-add _ _
    (sum-add _ _ (sum-add _ _ (after (shl 1) (λ v. bit_and v 0x7f7f7f7f7f7f7f7f) (shl-add 1) (and-add 0x7f7f7f7f7f7f7f7f)) high-add) (after (shl 2) high (shl-add 2) high-add))
    (after (shl 3) high (shl-add 3) high-add))
    (after (shl 4) high (shl-add 4) high-add)

dbl_test : T (all (λ k. all (agree_b (λ v. byte (dbl v) k) (λ v. mul 2 (byte v k))) 64) 8)
unfolding byte agree_b dbl mul mul_bits double add
dbl_test = tt

pub dbl-byte : (k : ℕ) → k < 8 → (w : ℕ) → w < 2 ^ 64 → byte (dbl w) k ≡ mul 2 (byte w k)
dbl-byte =
    family (λ k v. byte (dbl v) k) (λ k v. mul 2 (byte v k)) (λ k. after (λ v. byte v k) dbl (byte-add k) dbl-add)
    (λ k. after (mul 2) (λ v. byte v k) (mul-add 2) (byte-add k)) 8 dbl_test
