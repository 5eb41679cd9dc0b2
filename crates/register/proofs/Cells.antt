-- What the functions over eight words do to the list of cells: each is settled word by word, and the words meet at the cell that passes on.
use mathlib.Core.Path.{◌≡◌, refl, sym, ap, ap₂, ◌∙◌}
use mathlib.Core.List.{List, [], ◌∷◌, ◌++◌}
use Prim.Native.Nat.{ℕ, ◌%◌, ◌^◌, ◌<◌}
use native.Mathlib.Nat.{mod-eq_of_lt}
use native.Mathlib.Omega.{arith}
use lib.Bits.{bit_xor}
use lib.ListN.{length, get_or, take}
use Rattle.field.specs.Field.{add}
use Rattle.field.proofs.Sum.{add-lt}
use Rattle.lists.specs.Bytes.{Bytes}
use Rattle.lists.proofs.Bytes.{append-bytes}
use Rattle.code.specs.Poly.{padd, pscale}
use Rattle.words.specs.Word.{byte, bytes_from}
use Rattle.words.specs.Cells.{shift_up, shift_down}
use Rattle.words.proofs.Linear.{shr}
use Rattle.words.proofs.Words.{word_bytes, word-xor}
use Rattle.register.specs.Words.{unpack, words, cells, EachWord, EachWithAbove}
use Rattle.register.specs.declared.Register.{Register}

abbrev pub cat8 : (a b c d e f g h : List ℕ) → List ℕ
cat8 a b c d e f g h = a ++ (b ++ (c ++ (d ++ (e ++ (f ++ (g ++ (h ++ [])))))))

pub cong8 : {a b c d e f g h a' b' c' d' e' f' g' h' : List ℕ} → a ≡ a' → b ≡ b' → c ≡ c' → d ≡ d' → e ≡ e' → f ≡ f' → g ≡ g' → h ≡ h'
    → cat8 a b c d e f g h ≡ cat8 a' b' c' d' e' f' g' h'
cong8 p q r s t u v w = ap₂ ◌++◌ p (ap₂ ◌++◌ q (ap₂ ◌++◌ r (ap₂ ◌++◌ s (ap₂ ◌++◌ t (ap₂ ◌++◌ u (ap₂ ◌++◌ v (ap₂ ◌++◌ w refl)))))))

pub cells-add : (x y z : Register) → z.w0 ≡ bit_xor x.w0 y.w0 → z.w1 ≡ bit_xor x.w1 y.w1 → z.w2 ≡ bit_xor x.w2 y.w2 → z.w3 ≡ bit_xor x.w3 y.w3
    → z.w4 ≡ bit_xor x.w4 y.w4 → z.w5 ≡ bit_xor x.w5 y.w5 → z.w6 ≡ bit_xor x.w6 y.w6 → z.w7 ≡ bit_xor x.w7 y.w7
    → cells z ≡ padd (cells x) (cells y)
unfolding cells padd
cells-add x y z ea eb ec ed ee ef eg eh = cong8 (w _ _ _ ea) (w _ _ _ eb) (w _ _ _ ec) (w _ _ _ ed) (w _ _ _ ee) (w _ _ _ ef) (w _ _ _ eg) (w _ _ _ eh)
  where
    w : (p q r : ℕ) → r ≡ bit_xor p q → bytes_from 8 0 r ≡ padd (bytes_from 8 0 p) (bytes_from 8 0 q)
    w p q r e = ap (bytes_from 8 0) e ∙ word-xor 8 0 p q

pub cells_up : (x z : Register) (c : ℕ) → bytes_from 8 0 z.w0 ≡ shift_up c (bytes_from 8 0 x.w0) → bytes_from 8 0 z.w1 ≡ shift_up (byte x.w0 7) (bytes_from 8 0 x.w1)
    → bytes_from 8 0 z.w2 ≡ shift_up (byte x.w1 7) (bytes_from 8 0 x.w2) → bytes_from 8 0 z.w3 ≡ shift_up (byte x.w2 7) (bytes_from 8 0 x.w3)
    → bytes_from 8 0 z.w4 ≡ shift_up (byte x.w3 7) (bytes_from 8 0 x.w4) → bytes_from 8 0 z.w5 ≡ shift_up (byte x.w4 7) (bytes_from 8 0 x.w5)
    → bytes_from 8 0 z.w6 ≡ shift_up (byte x.w5 7) (bytes_from 8 0 x.w6) → bytes_from 8 0 z.w7 ≡ shift_up (byte x.w6 7) (bytes_from 8 0 x.w7)
    → cells z ≡ shift_up c (cells x)
unfolding cells shift_up byte
cells_up x z c p q r s t u v w = cong8 p q r s t u v w

-- every cell down by one: the words meet at the cell that passes down, and t gives the last
pub cells_down : (x z : Register) (c t : ℕ) → byte t 0 ≡ c
    → EachWithAbove (λ w above r. bytes_from 8 0 r ≡ shift_down (bytes_from 8 0 w) (byte above 0)) x t z
    → cells z ≡ shift_down (cells x) c
unfolding cells shift_down byte
cells_down x z c t e h = cong8 h.0 h.1 h.2 h.3 h.4 h.5 h.6 (h.7 ∙ ap (shift_down (bytes_from 8 0 x.w7)) e)

-- a sum with a multiple of what stands a cell above
pub cells-rooted : (x z : Register) (a t c : ℕ) → byte t 0 ≡ c
    → EachWithAbove (λ w above r. bytes_from 8 0 r ≡ padd (bytes_from 8 0 w) (pscale a (shift_down (bytes_from 8 0 w) (byte above 0)))) x t z
    → cells z ≡ padd (cells x) (pscale a (shift_down (cells x) c))
unfolding cells shift_down padd pscale
cells-rooted x z a t c e h =
    cong8 h.0 h.1 h.2 h.3 h.4 h.5 h.6 (h.7 ∙ ap (λ (k : ℕ). padd (bytes_from 8 0 x.w7) (pscale a (shift_down (bytes_from 8 0 x.w7) k))) e)

pub cells_scaled : (k : ℕ) (x z : Register) → EachWord (λ w r. bytes_from 8 0 r ≡ pscale k (bytes_from 8 0 w)) x z → cells z ≡ pscale k (cells x)
unfolding cells pscale
cells_scaled k x z h = cong8 h.0 h.1 h.2 h.3 h.4 h.5 h.6 h.7

pub cells_bottom : (x : Register) → x.w0 % 256 ≡ get_or (cells x) 0 0
unfolding cells byte
cells_bottom x = ap (λ (k : ℕ). k % 256) (sym (native.Mathlib.Nat.div-one x.w0))

cells_top : (x : Register) → x.w7 < 2 ^ 64 → shr 56 x.w7 ≡ get_or (cells x) 63 0
unfolding cells byte
cells_top x h = sym (mod-eq_of_lt (omega arith))

pub feedback_is : (x : Register) (c : ℕ) → x.w7 < 2 ^ 64 → bit_xor (shr 56 x.w7) c ≡ add (get_or (cells x) 63 0) c
unfolding add
feedback_is x c h = ap (λ (t : ℕ). bit_xor t c) (cells_top x h)

pub feedback_below_is : (a b c : ℕ) → b ≡ a → bit_xor b c ≡ add a c
unfolding add
feedback_below_is a b c e = ap (λ (t : ℕ). bit_xor t c) e

unpack-bytes : (ws : List ℕ) → Bytes (unpack ws)
unpack-bytes [] = tt
unpack-bytes (w ∷ ws) = append-bytes (bytes_from 8 0 w) (unpack ws) (word_bytes 8 0 w) (unpack-bytes ws)

pub cells-bytes : (x : Register) → Bytes (cells x)
unfolding cells
cells-bytes x = unpack-bytes (words x)

pub cells-length : (x : Register) → length (cells x) ≡ 64
unfolding cells
cells-length x = refl

pub take_cells : (x : Register) → take 64 (cells x) ≡ cells x
unfolding cells
take_cells x = refl
