-- How large the numbers of a reading are: a plot's number has two bytes, a line takes three bytes of the payload, and a refusal's place lies within it.
use Prim.Native.Nat.{ℕ, zero-le, ◌+◌, ◌*◌, ◌<◌, ◌≤◌, min}
use native.Mathlib.Omega.{arith}
use native.Mathlib.Nat.{div-lt_iff_lt-mul}
use mathlib.Core.Path.{◌≡◌, refl, ap, subst, ◌∙◌}
use mathlib.Core.Logic.{⊎_elim}
use mathlib.Core.List.{List, [], ◌∷◌, ◌++◌, append_assoc}
use lib.ListN.{length, drop, length-append}
use lib.Seq.{drop_at}
use lib.Dec.{lit<}
use Rattle.lists.specs.Bytes.{Bytes}
use Rattle.lists.proofs.Bytes.{get_or_byte, drop-bytes}
use Rattle.lists.proofs.Test.{lt-or_ge}
use Rattle.plot.specs.declared.Refusal.{Refusal}
use Rattle.plot.specs.declared.Refusal.TheVariants.{WrongLength, BadMark, CutShort, BadTally, PlotOrder, NoSuchPlot, Full}
use Rattle.plot.specs.Layout.{Plot, lines_of, record_of, bytes_of}
use Rattle.plot.specs.Grammar.{Plots, Stopped, longest, reading}
use Rattle.plot.specs.Numbers.{number_of, place_of}
use Rattle.plot_promises.specs.Canonical.{Rising}
use Rattle.plot.proofs.Entries.{reading-reads}
use Rattle.plot_promises.proofs.Sound.{reading-sound}
use Rattle.plot_promises.proofs.Checking.{stops_in, stops_long}

-- plots whose numbers have two bytes
abbrev pub TwoBytes : List Plot → Type 0
TwoBytes [] = Unit
TwoBytes (p ∷ ps) = (p.number < 65536) × TwoBytes ps

two_bytes : (ps : List Plot) (t : List ℕ) → Bytes (bytes_of ps ++ t) → TwoBytes ps
two_bytes [] t b = tt
two_bytes (p ∷ ps) t b =
    let k = length (record_of p) in
    let rest : drop k (record_of p ++ bytes_of ps ++ t) ≡ bytes_of ps ++ t = ap (drop k) (append_assoc (record_of p) (bytes_of ps) t) ∙ drop_at (record_of p) (bytes_of ps ++ t) k refl in
    ((div-lt_iff_lt-mul {k = 256} (lit< tt)).0 (get_or_byte (bytes_of (p ∷ ps) ++ t) 3 b), two_bytes ps t (subst Bytes rest (drop-bytes k (bytes_of (p ∷ ps) ++ t) b)))

-- the number of lines of plots
abbrev pub line_count : List Plot → ℕ
line_count [] = 0
line_count (p ∷ ps) = lines_of p + line_count ps

lines_fit : (last : ℕ) (ps : List Plot) → Rising last ps → line_count ps * 3 ≤ length (bytes_of ps)
lines_fit last [] r = zero-le
lines_fit last (p ∷ ps) r =
    let t : lines_of p * 3 ≡ length p.lines = r.0.threes in
    let i : line_count ps * 3 ≤ length (bytes_of ps) = lines_fit p.number ps r.2 in
    omega (arith, length-append (record_of p) (bytes_of ps))

-- an accepted payload
module _ (s : List ℕ) (ps : List Plot) (end : ℕ) (q : reading s ≡ Plots ps end) where
  pub read-numbers : Bytes s → TwoBytes ps
  read-numbers b = two_bytes ps _ (rw ((reading-sound s ps end q).form b) at b)

  pub read_count : line_count ps * 3 ≤ longest
  read_count =
      let n : length s ≤ longest = (reading-reads s ps end q).0 in
      let k : length (bytes_of ps) ≤ length s = (reading-sound s ps end q).fits in
      let l : line_count ps * 3 ≤ length (bytes_of ps) = lines_fit 0 ps (reading-sound s ps end q).rising in
      omega arith

-- a refusal: its number
pub number-most : (r : Refusal) → number_of r ≤ 10
number-most WrongLength = omega arith
number-most (BadMark place) = omega arith
number-most (CutShort place) = omega arith
number-most (BadTally place line) = omega arith
number-most (PlotOrder place) = omega arith
number-most NoSuchPlot = omega arith
number-most (Full place) = omega arith

-- and its place
pub place_within : (s : List ℕ) (r : Refusal) → reading s ≡ Stopped r → place_of r ≤ min (length s) longest
place_within s r q =
    ⊎_elim
    (λ l. let z : place_of r ≡ 0 = ap place_of (stops_long s r q l) in omega arith)
    (λ l.
    let i = stops_in s r q l in
    let f : length (bytes_of i.plots) ≤ length s = i.fronts.fits in
    let e : 0 + length (bytes_of i.plots) ≡ place_of r = i.begins in
    omega arith)
    (lt-or_ge longest (length s))
