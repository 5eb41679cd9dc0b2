-- What the word operations do to the eight cells of a word: each is a byte, exclusive or adds them, a shift moves them, and the doubled word has
-- twice each.
use mathlib.Core.Path.{◌≡◌, refl, sym, ap, ap₂, ◌∙◌}
use mathlib.Core.List.{List, [], ◌∷◌}
use Prim.Native.Nat.{ℕ, zero, suc, ◌*◌, ◌/◌, ◌^◌, ◌<◌}
use native.Mathlib.Nat.{mod-lt}
use native.Mathlib.Omega.{arith}
use lib.Bits.{bit_xor}
use Rattle.lists.specs.Bytes.{Bytes}
use Rattle.field.specs.Field.{add, mul}
use Rattle.code.specs.Poly.{padd, pscale}
use Rattle.words.specs.Word.{byte, bytes_from}
use Rattle.words.specs.Cells.{shift_up, shift_down}
use Rattle.words.proofs.Linear.{shl, shr, dbl, byte-add, byte_low, up_first, up_next, down_last, down_next, bring_top, shl-byte, dbl-byte}

pub byte-lt : (w k : ℕ) → byte w k < 256
unfolding byte
byte-lt w k = mod-lt (w / 2 ^ (8 * k)) (omega arith)

pub word_bytes : (n k w : ℕ) → Bytes (bytes_from n k w)
word_bytes zero k w = tt
word_bytes (suc n) k w = (byte-lt w k, word_bytes n (suc k) w)

-- so are the cells of a word moved down
pub down_bytes : (w above : ℕ) → Bytes (shift_down (bytes_from 8 0 w) (byte above 0))
unfolding shift_down
down_bytes w above = (byte-lt w 1, (byte-lt w 2, (byte-lt w 3, (byte-lt w 4, (byte-lt w 5, (byte-lt w 6, (byte-lt w 7, (byte-lt above 0, tt))))))))

-- a byte as the lowest and as the highest cell of a word
pub bottom_cell : (c w : ℕ) → c < 256 → w ≡ c → byte w 0 ≡ c
bottom_cell c w h e = ap (λ (x : ℕ). byte x 0) e ∙ byte_low c h

pub top_cell : (c w : ℕ) → c < 256 → w ≡ c * 2 ^ 56 → byte w 7 ≡ c
top_cell c w h e = ap (λ (x : ℕ). byte x 7) (e ∙ sym (shl-byte c h)) ∙ bring_top c (omega arith) ∙ byte_low c h

xored : (k v w : ℕ) → byte (bit_xor v w) k ≡ add (byte v k) (byte w k)
unfolding add
xored k v w = byte-add k v w

pub word-xor : (n k v w : ℕ) → bytes_from n k (bit_xor v w) ≡ padd (bytes_from n k v) (bytes_from n k w)
unfolding padd
word-xor zero k v w = refl
word-xor (suc n) k v w = ap₂ ◌∷◌ (xored k v w) (word-xor n (suc k) v w)

-- of two words whose cells are known
pub word_sum : (v w : ℕ) {p q : List ℕ} → bytes_from 8 0 v ≡ p → bytes_from 8 0 w ≡ q → bytes_from 8 0 (bit_xor v w) ≡ padd p q
word_sum v w ev ew = word-xor 8 0 v w ∙ ap₂ padd ev ew

abbrev eight : (x0 x1 x2 x3 x4 x5 x6 x7 : ℕ) → List ℕ
eight x0 x1 x2 x3 x4 x5 x6 x7 = x0 ∷ x1 ∷ x2 ∷ x3 ∷ x4 ∷ x5 ∷ x6 ∷ x7 ∷ []

pub same8 : (x0 x1 x2 x3 x4 x5 x6 x7 y0 y1 y2 y3 y4 y5 y6 y7 : ℕ) → x0 ≡ y0 → x1 ≡ y1 → x2 ≡ y2 → x3 ≡ y3 → x4 ≡ y4 → x5 ≡ y5 → x6 ≡ y6 → x7 ≡ y7
    → eight x0 x1 x2 x3 x4 x5 x6 x7 ≡ eight y0 y1 y2 y3 y4 y5 y6 y7
same8 x0 x1 x2 x3 x4 x5 x6 x7 y0 y1 y2 y3 y4 y5 y6 y7 e0 e1 e2 e3 e4 e5 e6 e7 =
    ap₂ ◌∷◌ e0 (ap₂ ◌∷◌ e1 (ap₂ ◌∷◌ e2 (ap₂ ◌∷◌ e3 (ap₂ ◌∷◌ e4 (ap₂ ◌∷◌ e5 (ap₂ ◌∷◌ e6 (ap₂ ◌∷◌ e7 refl)))))))

pub word_up : (w v : ℕ) → w < 2 ^ 64 → v < 2 ^ 64 → bytes_from 8 0 (bit_xor (shl 8 w) (shr 56 v)) ≡ shift_up (byte v 7) (bytes_from 8 0 w)
unfolding shift_up
word_up w v hw hv =
    let n : (k : ℕ) → k < 7 → byte (bit_xor (shl 8 w) (shr 56 v)) (suc k) ≡ byte w k = λ k h. up_next k h w v hw hv in
    same8 _ _ _ _ _ _ _ _ _ _ _ _ _ _ _ _ (up_first w v hw hv) (n 0 (omega arith)) (n 1 (omega arith)) (n 2 (omega arith)) (n 3 (omega arith)) (n 4 (omega arith)) (n 5 (omega arith)) (n 6 (omega arith))

pub word_down : (w v : ℕ) → w < 2 ^ 64 → v < 2 ^ 64 → bytes_from 8 0 (bit_xor (shr 8 w) (shl 56 v)) ≡ shift_down (bytes_from 8 0 w) (byte v 0)
unfolding shift_down
word_down w v hw hv =
    let n : (k : ℕ) → k < 7 → byte (bit_xor (shr 8 w) (shl 56 v)) k ≡ byte w (suc k) = λ k h. down_next k h w v hw hv in
    same8 _ _ _ _ _ _ _ _ _ _ _ _ _ _ _ _ (n 0 (omega arith)) (n 1 (omega arith)) (n 2 (omega arith)) (n 3 (omega arith)) (n 4 (omega arith)) (n 5 (omega arith)) (n 6 (omega arith)) (down_last w v hw hv)

pub word_twice : (w : ℕ) → w < 2 ^ 64 → bytes_from 8 0 (dbl w) ≡ pscale 2 (bytes_from 8 0 w)
unfolding pscale
word_twice w h =
    let n : (k : ℕ) → k < 8 → byte (dbl w) k ≡ mul 2 (byte w k) = λ k hk. dbl-byte k hk w h in
    same8 _ _ _ _ _ _ _ _ _ _ _ _ _ _ _ _ (n 0 (omega arith)) (n 1 (omega arith)) (n 2 (omega arith)) (n 3 (omega arith)) (n 4 (omega arith)) (n 5 (omega arith)) (n 6 (omega arith)) (n 7 (omega arith))
