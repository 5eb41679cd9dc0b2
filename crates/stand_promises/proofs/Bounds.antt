-- How much an accepted payload can add: a cell grows by at most 85 for each byte of its records, and each record has five bytes or more. So no sum of 32 bits overflows, and a table
-- begun empty stays under the limit. And how much all cells within the limit are together, which 64 bits hold.
use mathlib.Core.Path.{◌≡◌}
use mathlib.Core.List.{List, [], ◌∷◌}
use Prim.Native.Nat.{ℕ, ◌+◌, ◌*◌, ◌<◌, ◌≤◌}
use native.Mathlib.Omega.{arith}
use lib.ListN.{length, get_or, length-append}
use Rattle.std.proofs.lemmas.List.Sums.{sum_by-le}
use Rattle.std.proofs.lemmas.List.Elements.{All-from_get_or}
use Rattle.plot.specs.Layout.{Plot, lines_of, record_of, bytes_of, tallies_of}
use Rattle.plot.specs.Grammar.{Plots, reading}
use Rattle.plot.proofs.Entries.{reading-reads}
use Rattle.plot_promises.specs.Canonical.{Rising}
use Rattle.plot_promises.proofs.Sound.{reading-sound}
use Rattle.stand.specs.Table.{plus_lines, plus_plots, most, row_total, table_total}
use Rattle.stand.specs.Bounds.{AtMost}
use Rattle.stand.proofs.Sums.{row_total-le}
use Rattle.stand.proofs.Cells.{at-most_up, lines-most}

plots-most : (rows : List ℕ) (ps : List Plot) (last : ℕ) → Rising last ps → (m : ℕ) (t : List (List ℕ)) → AtMost m t → AtMost (m + length (bytes_of ps) * 85) (plus_plots rows ps t)
unfolding plus_plots
plots-most rows [] last r m t a = at-most_up m (m + 0 * 85) t (omega arith) a
plots-most rows (p ∷ ps) last r m t a =
    let u = plus_lines rows (tallies_of p) t in
    let n : lines_of p * 3 ≡ length p.lines = r.0.threes in
    let k : m + lines_of p * 255 + length (bytes_of ps) * 85 ≤ m + length (bytes_of (p ∷ ps)) * 85 = omega (arith, length-append (record_of p) (bytes_of ps)) in
    at-most_up (m + lines_of p * 255 + length (bytes_of ps) * 85) (m + length (bytes_of (p ∷ ps)) * 85) (plus_plots rows ps u) k
    (plots-most rows ps p.number r.2 (m + lines_of p * 255) u (lines-most rows (lines_of p) p.lines m t r.0.hold.ranges a))

-- the plots of a payload
pub payload-most : (rows s : List ℕ) (ps : List Plot) (end : ℕ) → reading s ≡ Plots ps end → (m : ℕ) (t : List (List ℕ)) → AtMost m t → AtMost (m + 344080) (plus_plots rows ps t)
payload-most rows s ps end q m t a =
    let n : length s ≤ 4048 = (reading-reads s ps end q).0 in
    let k : length (bytes_of ps) ≤ length s = (reading-sound s ps end q).fits in
    at-most_up (m + length (bytes_of ps) * 85) (m + 344080) (plus_plots rows ps t) (omega arith) (plots-most rows ps 0 (reading-sound s ps end q).rising m t a)

-- all cells of a table with rows of twenty
pub total-most : (t : List (List ℕ)) → ((i : ℕ) → i < length t → length (get_or t i []) ≡ 20) → AtMost most t → table_total t ≤ length t * (20 * most)
total-most t s a =
    sum_by-le row_total (20 * most) t (All-from_get_or (λ (row : List ℕ). row_total row ≤ 20 * most) t [] (λ i h. rw (s i h) at (row_total-le most (get_or t i []) (a i))))
