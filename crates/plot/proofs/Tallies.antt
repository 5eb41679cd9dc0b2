-- The tally lines in bytes, one after the other as a loop takes them; and those of the record that a cursor stands at are read where they lie in the payload.
use Prim.Native.Nat.{ℕ, zero, suc, ◌+◌, ◌*◌, ◌-◌, ◌<◌, ◌≤◌}
use native.Mathlib.Omega.{arith}
use native.Mathlib.Nat.{le_refl}
use mathlib.Core.Path.{◌≡◌, refl, sym, ap, ◌∙◌}
use mathlib.Core.List.{List, [], ◌∷◌, ◌++◌}
use Rattle.std.specs.Prelude.{Some, Ok}
use lib.ListN.{length, take, drop, take-append-drop}
use lib.Seq.{drop-drop}
use Rattle.plot.specs.declared.Line.{Line}
use Rattle.plot.specs.declared.Record.{Record}
use Rattle.plot.specs.Layout.{header_length, line_of, tallies, tallies_of}
use Rattle.plot.specs.Grammar.{step_at}
use Rattle.plot.proofs.Cases.{bounds, past_header}
use Rattle.plot.proofs.Accepts.{here, lines-here, count_here}

-- k lines of which i are passed
module _ (k i : ℕ) (s : List ℕ) (from : ℕ) where
  pub tallies_done : k ≤ i → tallies (k - i) (drop (from + i * 3) s) ≡ []
  unfolding tallies
  tallies_done h =
      let z : k - i ≡ 0 = omega arith in
      rw z

  pub tallies-next : i < k → tallies (k - i) (drop (from + i * 3) s) ≡ line_of (drop (from + i * 3) s) ∷ tallies (k - (i + 1)) (drop (from + (i + 1) * 3) s)
  unfolding tallies
  tallies-next h =
      let l : k - i ≡ suc (k - (i + 1)) = omega arith in
      let z : from + i * 3 + 3 ≡ from + (i + 1) * 3 = omega arith in
      rw (l, drop-drop 3 (from + i * 3) s, z)

pub tallies-first : (k : ℕ) (s : List ℕ) (from : ℕ) → tallies k (drop from s) ≡ tallies (k - 0) (drop (from + 0 * 3) s)
tallies-first k s from =
    let z : k - 0 ≡ k = omega arith in
    let y : from + 0 * 3 ≡ from = omega arith in
    rw (z, y)

-- lines are read from their own bytes
tallies_prefix : (k : ℕ) (l r : List ℕ) → k * 3 ≤ length l → tallies k (l ++ r) ≡ tallies k l
unfolding tallies
tallies_prefix zero l r h = refl
tallies_prefix (suc k) [] r h = absurd (let z : suc k * 3 ≤ 0 = h in omega arith)
tallies_prefix (suc k) (x ∷ []) r h = absurd (let z : suc k * 3 ≤ 1 = h in omega arith)
tallies_prefix (suc k) (x ∷ y ∷ []) r h = absurd (let z : suc k * 3 ≤ 2 = h in omega arith)
tallies_prefix (suc k) (x ∷ y ∷ z ∷ l) r h =
    let g : suc k * 3 ≤ suc (suc (suc (length l))) = h in
    ap (λ (ls : List Line). record { species = x; class = y; count = z } ∷ ls) (tallies_prefix k l r (omega arith))

-- the record at the place `at`
pub tallies-here : (s : List ℕ) (at last : ℕ) (rec : Record) (e : step_at at (drop at s) ≡ Ok (Some rec))
    → tallies_of (here at last (drop at s) rec e) ≡ tallies rec.count (drop rec.lines s)
tallies-here s at last rec e =
    let d = drop header_length (drop at s) in
    let k = lines-here at last (drop at s) rec e in
    ap (λ (n : ℕ). tallies n (take (rec.count * 3) d)) (count_here at last (drop at s) rec e)
    ∙ sym (tallies_prefix rec.count (take (rec.count * 3) d) (drop (rec.count * 3) d) (rw k (le_refl _)))
    ∙ ap (tallies rec.count) (take-append-drop (rec.count * 3) d ∙ past_header at rec.lines s (bounds s at last 0 rec e).lines_at)
