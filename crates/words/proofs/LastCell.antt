-- The extent of a list of cells: the cells from it on are zero and the one below is not, and that fixes it. In a word the leading zeros say which
-- cell is the last.
use mathlib.Core.Path.{◌≡◌, sym, ap, ◌∙◌, subst}
use mathlib.Core.Logic.{◌≢◌, ⊎_elim}
use mathlib.Core.List.{List}
use Prim.Native.Nat.{ℕ, zero, suc, ◌+◌, ◌-◌, ◌*◌, ◌/◌, ◌%◌, ◌^◌, ◌≤◌, ◌<◌}
use native.Mathlib.Nat.{zero-add, suc-add, add-suc, add-zero, eq-or-lt_of_le, mod-eq_of_lt, le_trans, le_of_eq, le_of_suc-le-suc, pow-suc}
use native.Mathlib.Omega.{arith}
use lib.Count.{count_leading_zeros, leading_length, leading_top}
use lib.Pow.{pow_mono, shr_lt, shr_mono, shl-shr}
use lib.ListN.{length, get_or, get_or-eq_default}
use Rattle.lists.proofs.Test.{lt-or_ge}
use Rattle.code.specs.Run.{ZeroFrom}
use Rattle.code.specs.Search.{extent}
use Rattle.code.proofs.Search.{extent-zero, extent-least}
use Rattle.words.specs.Word.{byte, bytes_from}
use Rattle.words.specs.Cells.{pad_to}
use Rattle.words.proofs.Pad.{pad_same}

-- ---- what fixes the extent

pub extent_unique : (R : List ℕ) (e : ℕ) → ZeroFrom e R → (0 < e → get_or R (e - 1) 0 ≢ 0) → extent R ≡ e
extent_unique R e z n =
    ⊎_elim (λ l. absurd (n (omega arith) (extent-zero R (e - 1) (omega arith)))) (λ l. let u : extent R ≤ e = extent-least R e z in omega arith) (lt-or_ge (extent R) e)

-- the cell below the extent is not zero
pub extent-last : (R : List ℕ) → 0 < extent R → get_or R (extent R - 1) 0 ≢ 0
extent-last R p q =
    let u : extent R ≤ extent R - 1 = extent-least R (extent R - 1) below in absurd (omega arith)
  where
    below : ZeroFrom (extent R - 1) R
    below k h = ⊎_elim (λ e. ap (λ (i : ℕ). get_or R i 0) (sym e) ∙ q) (λ l. extent-zero R k (omega arith)) (eq-or-lt_of_le h)

-- zeros above do not count
pub extent_pad : (n : ℕ) (R : List ℕ) → length R ≤ n → extent (pad_to n R) ≡ extent R
extent_pad n R h =
    extent_unique (pad_to n R) (extent R) (λ k l. pad_same n R h k ∙ extent-zero R k l)
    (λ p q. extent-last R p (sym (pad_same n R h (extent R - 1)) ∙ q))

-- ---- a word

bytes-at : (n j k w : ℕ) → k < n → get_or (bytes_from n j w) k 0 ≡ byte w (j + k)
bytes-at zero j k w h = absurd (omega arith)
bytes-at (suc n) j zero w h = ap (byte w) (sym (add-zero j))
bytes-at (suc n) j (suc k) w h = bytes-at n (suc j) k w (le_of_suc-le-suc h) ∙ ap (byte w) (suc-add j k ∙ sym (add-suc j k))

pub byte_at : (k w : ℕ) → k < 8 → get_or (bytes_from 8 0 w) k 0 ≡ byte w k
byte_at k w h = bytes-at 8 0 k w h ∙ ap (byte w) (zero-add k)

pub byte_above : (k m w : ℕ) → w < 2 ^ m → m ≤ 8 * k → byte w k ≡ 0
unfolding byte
byte_above k m w h l =
    let small : w < 2 ^ (0 + 8 * k) = subst (λ (i : ℕ). w < 2 ^ i) (sym (zero-add (8 * k))) (le_trans h (pow_mono l)) in
    ap (λ (v : ℕ). v % 2 ^ 8) (lib.Arith.lt-one (shr_lt 0 (8 * k) small))

byte_last : (k m w : ℕ) → w < 2 ^ m → 2 ^ m ≤ 2 * w + 1 → m ≤ 8 + 8 * k → 8 * k < m → byte w k ≢ 0
unfolding byte
byte_last k m w h l above below e =
    let P : ℕ = 2 ^ (8 * k) in
    let q : ℕ = w / 2 ^ (8 * k) in
    let small : q < 2 ^ 8 = shr_lt 8 (8 * k) (le_trans h (pow_mono above)) in
    let double : 2 ^ suc (8 * k) ≤ 2 * w + 1 = le_trans (pow_mono below) l in
    let s : 2 ^ suc (8 * k) ≡ 2 ^ (8 * k) * 2 = pow-suc 2 (8 * k) in
    let large : 2 ^ (8 * k) ≤ w = omega arith in
    let one : 1 ≤ q = le_trans (le_of_eq (sym (shl-shr 1 (8 * k)) ∙ ap (λ (v : ℕ). v / 2 ^ (8 * k)) (native.Mathlib.Nat.one-mul (2 ^ (8 * k))))) (shr_mono (8 * k) large) in
    let z : q ≡ 0 = sym (mod-eq_of_lt small) ∙ e in
    omega arith

pub word-extent_law : (w : ℕ) → w < 2 ^ 64 → 8 - count_leading_zeros 64 w / 8 ≡ extent (bytes_from 8 0 w)
word-extent_law w h = sym (extent_unique (bytes_from 8 0 w) (8 - count_leading_zeros 64 w / 8) above last)
  where
    m : ℕ
    m = (leading_length 64 w h).0

    sum : count_leading_zeros 64 w + m ≡ 64
    sum = (leading_length 64 w h).1

    above : ZeroFrom (8 - count_leading_zeros 64 w / 8) (bytes_from 8 0 w)
    above k l =
        ⊎_elim (λ s. byte_at k w s ∙ byte_above k m w (leading_length 64 w h).2 (omega (arith, sum)))
        (λ s. get_or-eq_default (bytes_from 8 0 w) 0 s) (lt-or_ge k 8)

    last : 0 < 8 - count_leading_zeros 64 w / 8 → get_or (bytes_from 8 0 w) (8 - count_leading_zeros 64 w / 8 - 1) 0 ≢ 0
    last p e =
        let k : ℕ = 8 - count_leading_zeros 64 w / 8 - 1 in
        byte_last k m w (leading_length 64 w h).2 (leading_length 64 w h).3 (omega (arith, sum)) (omega (arith, sum))
        (sym (byte_at k w (omega arith)) ∙ e)

pub word_positive : (w : ℕ) → 0 < w → w < 2 ^ 64 → 0 < extent (bytes_from 8 0 w)
word_positive w p h =
    let t : count_leading_zeros 64 w + suc (leading_top 64 w p h).0 ≡ 64 = (leading_top 64 w p h).1 in
    omega (arith, word-extent_law w h)
