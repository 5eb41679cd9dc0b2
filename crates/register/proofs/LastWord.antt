-- The extent of a register, by its highest word that is not zero: the words above it count nothing, and each word below it eight cells.
use mathlib.Core.Path.{◌≡◌, refl, sym, ap, ◌∙◌}
use mathlib.Core.List.{List, [], ◌∷◌, ◌++◌}
use Prim.Native.Nat.{ℕ, zero, suc, ◌+◌, ◌-◌, ◌*◌, ◌^◌, ◌<◌}
use native.Mathlib.Nat.{zero-add, suc-add, le_of_suc-le-suc}
use native.Mathlib.Omega.{arith}
use lib.Dec.{eqb}
use lib.ListN.{length, get_or}
use Rattle.lists.specs.Choice.{pick}
use Rattle.code.specs.Run.{ZeroFrom}
use Rattle.code.specs.Search.{extent}
use Rattle.code.proofs.Search.{extent-zero}
use Rattle.words.specs.Word.{byte, bytes_from}
use Rattle.words.proofs.LastCell.{extent_unique, extent-last, word_positive}
use Rattle.register.specs.Words.{unpack}

extent-cons : (x : ℕ) (c : List ℕ) → 0 < extent c → extent (x ∷ c) ≡ suc (extent c)
extent-cons x c p = extent_unique (x ∷ c) (suc (extent c)) above (λ q e. extent-last c p (sym (at (extent c) p) ∙ e))
  where
    above : ZeroFrom (suc (extent c)) (x ∷ c)
    above zero h = absurd (omega arith)
    above (suc k) h = extent-zero c k (le_of_suc-le-suc h)

    at : (e : ℕ) → 0 < e → get_or (x ∷ c) (suc e - 1) 0 ≡ get_or c (e - 1) 0
    at zero q = absurd (omega arith)
    at (suc e) q =
        let u : suc (suc e) - 1 ≡ suc e = omega arith in
        let v : suc e - 1 ≡ e = omega arith in
        rw (u, v)

extent-high : (p q : List ℕ) → 0 < extent q → extent (p ++ q) ≡ length p + extent q
extent-high [] q h = sym (zero-add (extent q))
extent-high (x ∷ p) q h =
    let e : extent (p ++ q) ≡ length p + extent q = extent-high p q h in
    extent-cons x (p ++ q) (omega arith) ∙ ap suc e ∙ sym (suc-add (length p) (extent q))

extent_low : (p q : List ℕ) → extent q ≡ 0 → extent (p ++ q) ≡ extent p
unfolding extent
extent_low [] q h = h
extent_low (x ∷ p) q h = ap (λ (e : ℕ). pick (eqb e 0) (pick (eqb x 0) 0 1) (suc e)) (extent_low p q h)

abbrev Zeros : List ℕ → Type 0
Zeros [] = Unit {0}
Zeros (w ∷ ws) = (w ≡ 0) × Zeros ws

zero-words : (ws : List ℕ) → Zeros ws → extent (unpack ws) ≡ 0
unfolding extent byte
zero-words [] h = refl
zero-words (w ∷ ws) h = extent_low (bytes_from 8 0 w) (unpack ws) (zero-words ws h.1) ∙ ap (λ (v : ℕ). extent (bytes_from 8 0 v)) h.0

-- the words below the highest that is not zero count eight cells each
pub extent-words : (ws : List ℕ) (w : ℕ) (zs : List ℕ) → 0 < w → w < 2 ^ 64 → Zeros zs → extent (unpack (ws ++ w ∷ zs)) ≡ 8 * length ws + extent (bytes_from 8 0 w)
extent-words [] w zs p h z = extent_low (bytes_from 8 0 w) (unpack zs) (zero-words zs z) ∙ sym (zero-add (extent (bytes_from 8 0 w)))
extent-words (v ∷ ws) w zs p h z =
    let e : extent (unpack (ws ++ w ∷ zs)) ≡ 8 * length ws + extent (bytes_from 8 0 w) = extent-words ws w zs p h z in
    let s : 0 < extent (bytes_from 8 0 w) = word_positive w p h in
    extent-high (bytes_from 8 0 v) (unpack (ws ++ w ∷ zs)) (omega arith) ∙ omega arith

-- no word above the lowest
pub extent_lowest : (w : ℕ) (zs : List ℕ) → Zeros zs → extent (unpack (w ∷ zs)) ≡ extent (bytes_from 8 0 w)
extent_lowest w zs z = extent_low (bytes_from 8 0 w) (unpack zs) (zero-words zs z)
