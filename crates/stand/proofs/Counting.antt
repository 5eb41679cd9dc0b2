-- A table as the loops fill it: a line of a record, a record of an accepted payload, and the plots after it. What is left to count is the same from turn to turn.
use Prim.Native.Nat.{ℕ, suc, zero-le, ◌+◌, ◌*◌, ◌-◌, ◌/◌, ◌<◌, ◌≤◌}
use native.Mathlib.Omega.{arith}
use mathlib.Core.Path.{◌≡◌, refl, sym, ap, subst, ◌∙◌}
use mathlib.Core.List.{List, [], ◌∷◌, ◌++◌}
use Rattle.std.specs.Prelude.{Some, Ok}
use lib.ListN.{length, take, drop, length-append}
use lib.Seq.{drop_at}
use Rattle.plot.specs.Layout.{Plot, no_line, line_of, record_of, bytes_of, tallies}
use Rattle.plot.specs.Grammar.{step_at, Parsed, Plots, read_from, reading}
use Rattle.plot.specs.declared.Record.{Record}
use Rattle.plot.proofs.Lines.{all_held}
use Rattle.plot.proofs.Cases.{bounds, past_header, check_here}
use Rattle.plot.proofs.Records.{Holding}
use Rattle.plot.proofs.Entries.{reading-reads, reading-lies, go}
use Rattle.plot_promises.specs.Lines.{line_at, InRanges}
use Rattle.plot_promises.proofs.Lines.{lines_hold_iff, line_after}
use Rattle.stand.specs.Table.{plus_line, plus_lines, plus_plots, plots_in}

-- a line is read from its own bytes
first-is : (bytes rest : List ℕ) → length bytes ≡ 3 → line_of (bytes ++ rest) ≡ line_of bytes
first-is [] rest h = absurd (let z : 0 ≡ 3 = h in omega arith)
first-is (x ∷ []) rest h = absurd (let z : 1 ≡ 3 = h in omega arith)
first-is (x ∷ y ∷ []) rest h = absurd (let z : 2 ≡ 3 = h in omega arith)
first-is (x ∷ y ∷ z ∷ bytes) rest h = refl

-- the bytes of a line and those of the lines after it
module _ (bytes rest : List ℕ) where
  lines-more : length bytes ≡ 3 → length (bytes ++ rest) / 3 ≡ suc (length rest / 3)
  lines-more h = omega (arith, length-append bytes rest)

  rest-is : length bytes ≡ 3 → drop 3 (bytes ++ rest) ≡ rest
  rest-is h = drop_at bytes rest 3 h

  pub count_first : length bytes ≡ 3 → (rows : List ℕ) (t : List (List ℕ))
      → plus_lines rows (tallies (length (bytes ++ rest) / 3) (bytes ++ rest)) t ≡ plus_lines rows (tallies (length rest / 3) rest) (plus_line rows (line_of bytes) t)
  unfolding plus_lines tallies
  count_first h rows t = rw (lines-more h, first-is bytes rest h, rest-is h)

  pub first_in : length bytes ≡ 3 → ((i : ℕ) → i < length (bytes ++ rest) / 3 → InRanges (line_at (bytes ++ rest) i)) → InRanges (line_of bytes)
  first_in h r = subst InRanges (first-is bytes rest h) (r 0 (omega (arith, lines-more h)))

  pub rest_in : length bytes ≡ 3 → ((i : ℕ) → i < length (bytes ++ rest) / 3 → InRanges (line_at (bytes ++ rest) i)) → (i : ℕ) → i < length rest / 3 → InRanges (line_at rest i)
  rest_in h r i l =
      subst InRanges (sym (line_after (bytes ++ rest) i) ∙ ap (λ (s : List ℕ). line_at s i) (rest-is h)) (r (suc i) (omega (arith, lines-more h)))

pub count_none : (rows rest : List ℕ) (t : List (List ℕ)) → length rest < 3 → plus_lines rows (tallies (length rest / 3) rest) t ≡ t
unfolding plus_lines tallies
count_none rows rest t h =
    let z : length rest / 3 ≡ 0 = omega arith in
    rw z

-- the lines of a record of the payload s, as a part of it
abbrev pub lines_of_record : List ℕ → Record → List ℕ
lines_of_record s rec = take (rec.next.at - rec.lines) (drop rec.lines s)

-- those of a record whose checks all hold are in their ranges
pub record_ranges : (s : List ℕ) (at last : ℕ) (rec : Record) → Holding at last (drop at s) rec → (i : ℕ) → i < length (lines_of_record s rec) / 3
    → InRanges (line_at (lines_of_record s rec) i)
record_ranges s at last rec h =
    let l = lines_of_record s rec in
    let held = all_held no_line (length l / 3) l (sym (check_here s at last 0 rec h.stands) ∙ h.lines) in
    ((lines_hold_iff (length l / 3) l).0 held).ranges

-- a record of an accepted payload, and the plots after it
module _ (s : List ℕ) (at last f : ℕ) (rec : Record) (e : step_at at (drop at s) ≡ Ok (Some rec)) (h : length s ≤ at + f)
    (ps : List Plot) (end : ℕ) (q : read_from f at last (drop at s) ≡ Plots ps end) where
  abbrev rest : List Plot
  rest = (go s at last f rec e h ps end q).rest

  lines-same : take (rec.count * 3) (drop 5 (drop at s)) ≡ lines_of_record s rec
  lines-same =
      let b = bounds s at last f rec e in
      let from : at + 5 ≡ rec.lines = b.lines_at in
      let past : at + (5 + rec.count * 3) ≡ rec.next.at = b.past in
      let z : rec.count * 3 ≡ rec.next.at - rec.lines = omega arith in
      rw (past_header at rec.lines s from, z)

  pub record_next : (rows : List ℕ) (t : List (List ℕ))
      → plus_plots rows ps t ≡ plus_plots rows rest (plus_lines rows (tallies (length (lines_of_record s rec) / 3) (lines_of_record s rec)) t)
  unfolding plus_plots
  record_next rows t =
      ap (λ (qs : List Plot). plus_plots rows qs t) (go s at last f rec e h ps end q).is
      ∙ ap (λ (l : List ℕ). plus_plots rows rest (plus_lines rows (tallies (length l / 3) l) t)) lines-same

  pub record_one : length ps ≡ suc (length rest)
  record_one = ap length (go s at last f rec e h ps end q).is

pub no_record : (rows : List ℕ) (ps : List Plot) (t : List (List ℕ)) → ps ≡ [] → plus_plots rows ps t ≡ t
unfolding plus_plots
no_record rows ps t e = rw e

pub read-plots : (q : Parsed) (ps : List Plot) (end : ℕ) → q ≡ Plots ps end → plots_in q ≡ ps
unfolding plots_in
read-plots q ps end e = rw e

-- an accepted payload has few records: each takes five bytes or more
plots_fit : (ps : List Plot) → length ps * 5 ≤ length (bytes_of ps)
plots_fit [] = zero-le
plots_fit (p ∷ ps) =
    let i : length ps * 5 ≤ length (bytes_of ps) = plots_fit ps in
    omega (arith, length-append (record_of p) (bytes_of ps))

pub records_few : (s : List ℕ) (ps : List Plot) (end : ℕ) → reading s ≡ Plots ps end → length (plots_in (reading s)) ≤ 1000
records_few s ps end q =
    let n : length s ≤ 4048 = (reading-reads s ps end q).0 in
    let k : length (bytes_of ps) ≤ length s = (reading-lies s ps end q).fits in
    omega (arith, plots_fit ps, ap length (read-plots _ _ _ q))
