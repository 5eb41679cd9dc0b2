-- How long the texts are: a number below 10^d has at most d digits, and a text is as long as its pieces together.
use Prim.Native.Nat.{ℕ, zero, suc, zero-le, suc-le-suc, ◌+◌, ◌*◌, ◌/◌, ◌%◌, ◌^◌, ◌<◌, ◌≤◌, min}
use native.Mathlib.Omega.{arith}
use native.Mathlib.Nat.{pow-suc, div-lt_iff_lt-mul}
use mathlib.Core.Path.{◌≡◌, refl, sym, subst}
use mathlib.Core.List.{List, [], ◌∷◌}
use lib.ListN.{length, drop, length-append}
use lib.Dec.{ltb, lit<}
use borrow.Author.Tests.{lt-ltb}
use Rattle.lists.specs.Bytes.{Bytes}
use Rattle.lists.proofs.Test.{pick_of}
use Rattle.plot.specs.Layout.{Plot, line_of, lines_of}
use Rattle.plot_promises.specs.Lines.{line_at, InRanges}
use Rattle.plot.specs.Grammar.{Parsed, Plots, Stopped, reading, longest}
use Rattle.plot.specs.Numbers.{number_of, place_of}
use Rattle.plot_promises.specs.Canonical.{Rising}
use Rattle.plot.specs.declared.Line.{Line}
use Rattle.plot_promises.proofs.Lines.{line_after}
use Rattle.plot_promises.proofs.Sound.{reading-sound}
use Rattle.plot_promises.proofs.Ranges.{TwoBytes, line_count, read-numbers, read_count, number-most, place_within}
use Rattle.listing_text.specs.Text.{digits, decimal, field, comma, newline, line_text, lines_text, plots_text, refusal_text, listing_text, longest_text}

-- a number
digits-length : (d f n : ℕ) → n < 10 ^ suc d → length (digits f n) ≤ suc d
unfolding digits
digits-length d zero n h = suc-le-suc zero-le
digits-length zero (suc f) n h = rw (lt-ltb n 10 h) (suc-le-suc zero-le)
digits-length (suc d) (suc f) n h =
    let k : n / 10 < 10 ^ suc d = (div-lt_iff_lt-mul {k = 10} (lit< tt)).1 (rw pow-suc at h) in
    let i : length (digits f (n / 10)) ≤ suc d = digits-length d f (n / 10) k in
    pick_of (λ (t : List ℕ). length t ≤ suc (suc d)) (ltb n 10) _ _ (suc-le-suc zero-le)
    (omega (arith, length-append (digits f (n / 10)) ((48 + n % 10) ∷ [])))

pub decimal-length : (d n : ℕ) → n < 10 ^ suc d → length (decimal n) ≤ suc d
unfolding decimal
decimal-length d n h = digits-length d n n h

pub field-length : (d n end : ℕ) → n < 10 ^ suc d → length (field n end) ≤ suc (suc d)
unfolding field
field-length d n end h = omega (arith, decimal-length d n h, length-append (decimal n) (end ∷ []))

-- a line of numbers in their ranges, as long as `65535,99,200,255` with its end
line_length : (plot : ℕ) (line : Line) → plot < 65536 → InRanges line → length (line_text plot line) ≤ 17
unfolding line_text
line_length plot line h r =
    let species : line.species ≤ 99 = r.species.1 in
    let class : line.class ≤ 200 = r.class.1 in
    let count : line.count ≤ 255 = r.count.1 in
    let a : length (field plot comma) ≤ 6 = field-length 4 plot comma (omega arith) in
    let b : length (field line.species comma) ≤ 3 = field-length 1 line.species comma (omega arith) in
    let c : length (field line.class comma) ≤ 4 = field-length 2 line.class comma (omega arith) in
    let d : length (field line.count newline) ≤ 4 = field-length 2 line.count newline (omega arith) in
    simp length-append (omega arith)

lines-length : (plot k : ℕ) (s : List ℕ) → plot < 65536 → ((i : ℕ) → i < k → InRanges (line_at s i)) → length (lines_text plot k s) ≤ k * 17
unfolding lines_text
lines-length plot zero s h r = zero-le
lines-length plot (suc k) s h r =
    let a : length (line_text plot (line_of s)) ≤ 17 = line_length plot (line_of s) h (r 0 (suc-le-suc zero-le)) in
    let i : length (lines_text plot k (drop 3 s)) ≤ k * 17 = lines-length plot k (drop 3 s) h (λ i l. subst InRanges (sym (line_after s i)) (r (suc i) (suc-le-suc l))) in
    simp length-append (omega arith)

plots-length : (last : ℕ) (ps : List Plot) → Rising last ps → TwoBytes ps → length (plots_text ps) ≤ line_count ps * 17
unfolding plots_text
plots-length last [] r b = zero-le
plots-length last (p ∷ ps) r b =
    let a : length (lines_text p.number (lines_of p) p.lines) ≤ lines_of p * 17 = lines-length p.number (lines_of p) p.lines b.0 r.0.hold.ranges in
    let i : length (plots_text ps) ≤ line_count ps * 17 = plots-length p.number ps r.2 b.1 in
    simp length-append (omega arith)

-- a refusal
pub refusal_length : (number place : ℕ) → number < 1000 → place < 10000 → length (refusal_text number place) ≤ longest_text
unfolding refusal_text
refusal_length number place h k =
    let a : length (field number comma) ≤ 4 = field-length 2 number comma h in
    let b : length (field place newline) ≤ 5 = field-length 3 place newline k in
    simp length-append (omega arith)

-- the answer for a payload of bytes
pub listing_length : (changed : ℕ) (s : List ℕ) → changed < 100 → Bytes s → length (listing_text changed (reading s)) ≤ longest_text
unfolding listing_text
listing_length changed s h b = by_reading (reading s) refl
  where
    by_reading : (q : Parsed) → reading s ≡ q → length (listing_text changed q) ≤ longest_text
    by_reading (Plots ps end) q =
        let a : length (field changed newline) ≤ 3 = field-length 1 changed newline h in
        let i : length (plots_text ps) ≤ line_count ps * 17 = plots-length 0 ps (reading-sound s ps end q).rising (read-numbers s ps end q b) in
        let k : line_count ps * 3 ≤ longest = read_count s ps end q in
        let j : line_count ps ≤ longest / 3 = omega arith in
        simp length-append (omega arith)
    by_reading (Stopped r) q =
        let n : number_of r ≤ 10 = number-most r in
        let k : place_of r ≤ min (length s) longest = place_within s r q in
        refusal_length (number_of r) (place_of r) (omega arith) (omega arith)
