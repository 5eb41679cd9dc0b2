-- What a reading says of the payload: the records of plots that hold and rise stand from its first byte on, and then zeros, or a fault where it stopped.
-- By induction on the steps of the reading, a record at a time.
use Prim.Native.Nat.{ℕ, zero, suc, zero-le, suc-le-suc, ◌+◌, ◌*◌, ◌-◌, ◌<◌, ◌≤◌}
use native.Mathlib.Omega.{arith}
use native.Mathlib.Nat.{not-suc-le-zero, le_refl, add-zero}
use mathlib.Core.Path.{◌≡◌, refl, sym, ap, subst, ◌∙◌}
use mathlib.Core.List.{List, [], ◌∷◌, ◌++◌, append_assoc}
use Rattle.std.specs.Prelude.{Some, Ok}
use lib.ListN.{length, take, drop, get_or, replicate, length-append, length-drop, take-append-drop}
use lib.Seq.{take-append-add, drop-drop}
use Rattle.plot.specs.declared.Record.{Record}
use Rattle.plot.specs.declared.Refusal.{Refusal}
use Rattle.lists.specs.Bytes.{Bytes}
use Rattle.lists.proofs.Bytes.{get_or_byte, drop-bytes}
use Rattle.plot.specs.Layout.{Plot, mark, header_length, record_length, no_line, lines_check, lines_of, record_of, bytes_of}
use Rattle.plot.specs.Grammar.{step_at, Parsed, Plots, Stopped, onto, read_from, reading}
use Rattle.plot_promises.specs.Checks.{Zeros, RecordFault}
use Rattle.plot.specs.Answers.{last_number}
use Rattle.plot.specs.Numbers.{number_of, place_of}
use Rattle.plot_promises.specs.Canonical.{PlotHolds, Rising}
use Rattle.plot_promises.specs.Figures.{BadLineHere}
use Rattle.plot.proofs.Lists.{front_five, low_byte, high_byte}
use Rattle.plot_promises.proofs.Lines.{lines_hold_iff}
use Rattle.plot_promises.proofs.Refusals.{LineOf}
use Rattle.plot_promises.proofs.Place.{agree_iff}
use Rattle.plot_promises.proofs.Turn.{TurnIs, ends, stops, goes_on, turn_is}
use Rattle.plot.proofs.Cases.{Whole, whole}
use Rattle.plot.proofs.Lines.{all_held, check_prefix}
use Rattle.plot.proofs.Accepts.{here, lines-here, count_here, length-here}
use Rattle.plot.proofs.Entries.{reading-reads}

module _ (at last : ℕ) (s : List ℕ) (rec : Record) (e : step_at at s ≡ Ok (Some rec)) where
  w : Whole at s rec
  w = whole at s rec e

  room : record_length rec.count ≤ length s
  room = w.fits

  counted : lines_of (here at last s rec e) ≡ rec.count
  counted = count_here at last s rec e

  lined : length (take (rec.count * 3) (drop header_length s)) ≡ rec.count * 3
  lined = lines-here at last s rec e

  holds-here : lines_check no_line 0 rec.count (drop header_length s) ≡ Ok tt → PlotHolds (here at last s rec e)
  holds-here g =
      let n : length (drop header_length s) ≡ length s - header_length = length-drop header_length s in
      let lines = take (rec.count * 3) (drop header_length s) in
      record {
        threes = ap (λ (k : ℕ). k * 3) counted ∙ sym lined;
        few = rw counted w.few;
        some = λ z. w.some (w.numbered ∙ z);
        hold =
            rw counted
            ((lines_hold_iff rec.count lines).0
            (all_held no_line rec.count lines
            (sym (check_prefix rec.count no_line 0 lines (drop (rec.count * 3) (drop header_length s)) (rw lined (le_refl _)))
            ∙ ap (lines_check no_line 0 rec.count) (take-append-drop (rec.count * 3) (drop header_length s)) ∙ g)));
      }

  -- the record is written as it stands
  pub record_here_lem : Bytes s → record_of (here at last s rec e) ≡ take (record_length rec.count) s
  record_here_lem b =
      let r : record_length rec.count ≤ length s = room in
      let h : 5 ≤ length s = omega arith in
      let m = (agree_iff mark s).0 w.marked in
      let m₀ : get_or s 0 0 ≡ 0x50 = m 0 (omega arith) (suc-le-suc zero-le) in
      let m₁ : get_or s 1 0 ≡ 0x4C = m 1 (omega arith) (suc-le-suc (suc-le-suc zero-le)) in
      let low : get_or s 2 0 < 256 = get_or_byte s 2 b in
      let body = take (rec.count * 3) (drop 5 s) in
      let written : record_of (here at last s rec e) ≡ (get_or s 0 0 ∷ get_or s 1 0 ∷ get_or s 2 0 ∷ get_or s 3 0 ∷ get_or s 4 0 ∷ []) ++ body =
      rw (m₀, m₁, ← w.numbered, low_byte (get_or s 2 0) (get_or s 3 0) low, high_byte (get_or s 2 0) (get_or s 3 0) low, counted, w.counted) refl in
      written ∙ sym (ap (take (record_length rec.count)) (front_five s h) ∙ take-append-add (get_or s 0 0 ∷ get_or s 1 0 ∷ get_or s 2 0 ∷ get_or s 3 0 ∷ get_or s 4 0 ∷ []) (drop 5 s) (rec.count * 3))

zeros_are : (s : List ℕ) → Zeros s → s ≡ replicate (length s) 0
zeros_are [] h = refl
zeros_are (x ∷ s) h =
    let e : x ≡ 0 = h 0 (suc-le-suc zero-le) in
    rw e (ap (λ (t : List ℕ). 0 ∷ t) (zeros_are s (λ i l. h (suc i) (suc-le-suc l))))

-- the records of plots that hold and rise stand at the front of s
pub record Fronts (last : ℕ) (s : List ℕ) (ps : List Plot) : Type 0 where
  pub rising : Rising last ps
  pub fits : length (bytes_of ps) ≤ length s
  pub form : Bytes s → s ≡ bytes_of ps ++ drop (length (bytes_of ps)) s

fronts-none : (last : ℕ) (s : List ℕ) → Fronts last s []
fronts-none last s = record { rising = tt; fits = zero-le; form = λ b. refl }

-- a record before them
module _ (at last : ℕ) (s : List ℕ) (rec : Record) (e : step_at at s ≡ Ok (Some rec)) (ps : List Plot) where
  abbrev plot : Plot
  plot = here at last s rec e

  sizes : length (bytes_of (plot ∷ ps)) ≡ record_length rec.count + length (bytes_of ps)
  sizes = length-append (record_of plot) (bytes_of ps) ∙ ap (λ (n : ℕ). n + length (bytes_of ps)) (length-here at last s rec e)

  rest-after : drop (length (bytes_of ps)) (drop (record_length rec.count) s) ≡ drop (length (bytes_of (plot ∷ ps))) s
  rest-after = drop-drop (length (bytes_of ps)) (record_length rec.count) s ∙ ap (λ (n : ℕ). drop n s) (sym sizes)

  fronts-more : lines_check no_line 0 rec.count (drop header_length s) ≡ Ok tt → last < rec.next.last → Fronts rec.next.last (drop (record_length rec.count) s) ps → Fronts last s (plot ∷ ps)
  fronts-more g rise i =
      let l : length (drop (record_length rec.count) s) ≡ length s - record_length rec.count = length-drop (record_length rec.count) s in
      let r : record_length rec.count ≤ length s = (whole at s rec e).fits in
      let j : length (bytes_of ps) ≤ length (drop (record_length rec.count) s) = i.fits in
      record {
        rising = (holds-here at last s rec e g, rise, i.rising);
        fits = omega (arith, sizes);
        form = λ b.
            sym (take-append-drop (record_length rec.count) s)
            ∙ ap (λ (u : List ℕ). take (record_length rec.count) s ++ u) (i.form (drop-bytes (record_length rec.count) s b))
            ∙ ap (λ (u : List ℕ). u ++ (bytes_of ps ++ drop (length (bytes_of ps)) (drop (record_length rec.count) s))) (sym (record_here_lem at last s rec e b))
            ∙ sym (append_assoc (record_of plot) (bytes_of ps) (drop (length (bytes_of ps)) (drop (record_length rec.count) s)))
            ∙ ap (λ (u : List ℕ). bytes_of (plot ∷ ps) ++ u) rest-after;
      }

-- what a reading from the place `at` on says of the bytes there
pub record Ends (at last : ℕ) (s : List ℕ) (ps : List Plot) (end : ℕ) : Type 0 where
  pub fronts : Fronts last s ps
  pub ends : at + length (bytes_of ps) ≡ end
  pub zeros : Zeros (drop (length (bytes_of ps)) s)

pub record Stops (at last : ℕ) (s : List ℕ) (r : Refusal) : Type 0 where
  pub plots : List Plot
  pub fronts : Fronts last s plots
  pub begins : at + length (bytes_of plots) ≡ place_of r
  pub fault : RecordFault (last_number last plots) (drop (length (bytes_of plots)) s) (number_of r)
  pub line : LineOf (BadLineHere (drop (length (bytes_of plots)) s)) r

abbrev pub ReadIs : ℕ → ℕ → List ℕ → Parsed → Type 0
ReadIs at last s (Plots ps end) = Ends at last s ps end
ReadIs at last s (Stopped r) = Stops at last s r

stops-here : (at last : ℕ) (s : List ℕ) (r : Refusal) → place_of r ≡ at → LineOf (BadLineHere s) r → RecordFault last s (number_of r) → Stops at last s r
stops-here at last s r p l h = record { plots = []; fronts = fronts-none last s; begins = add-zero at ∙ sym p; fault = h; line = l }

-- a record whose lines hold and whose number rises, before what is read after it
module _ (at last : ℕ) (s : List ℕ) (rec : Record) (e : step_at at s ≡ Ok (Some rec))
    (g : lines_check no_line 0 rec.count (drop header_length s) ≡ Ok tt) (rise : last < rec.next.last) where
  goes_past : (m : ℕ) (ps : List Plot) → rec.next.at + length (bytes_of ps) ≡ m → at + length (bytes_of (here at last s rec e ∷ ps)) ≡ m
  goes_past m ps h =
      let p : at + record_length rec.count ≡ rec.next.at = (whole at s rec e).past in
      let z : length (bytes_of (here at last s rec e ∷ ps)) ≡ record_length rec.count + length (bytes_of ps) = sizes at last s rec e ps in
      omega arith

  read_more : (q : Parsed) → ReadIs rec.next.at rec.next.last (drop (record_length rec.count) s) q → ReadIs at last s (onto (here at last s rec e) q)
  read_more (Plots ps end) i = record {
    fronts = fronts-more at last s rec e ps g rise i.fronts;
    ends = goes_past end ps i.ends;
    zeros = subst Zeros (rest-after at last s rec e ps) i.zeros;
  }
  read_more (Stopped r) i = record {
    plots = here at last s rec e ∷ i.plots;
    fronts = fronts-more at last s rec e i.plots g rise i.fronts;
    begins = goes_past (place_of r) i.plots i.begins;
    fault = subst (λ (t : List ℕ). RecordFault (last_number rec.next.last i.plots) t (number_of r)) (rest-after at last s rec e i.plots) i.fault;
    line = subst (λ (t : List ℕ). LineOf (BadLineHere t) r) (rest-after at last s rec e i.plots) i.line;
  }

abbrev Steps : ℕ → Type 0
Steps f = (at last : ℕ) (s : List ℕ) → length s ≤ f → ReadIs at last s (read_from f at last s)

turn : (f : ℕ) → Steps f → (at last : ℕ) (s : List ℕ) → length s ≤ suc f → TurnIs f at last s → ReadIs at last s (read_from (suc f) at last s)
turn f ih at last s h (ends z q) = subst (ReadIs at last s) (sym q) (record { fronts = fronts-none last s; ends = add-zero at; zeros = z })
turn f ih at last s h (stops r q p l k) = subst (ReadIs at last s) (sym q) (stops-here at last s r p l k)
turn f ih at last s h (goes_on z rec e g rise a q) =
    let l : length (drop (record_length rec.count) s) ≡ length s - record_length rec.count = length-drop (record_length rec.count) s in
    let rest = drop (record_length rec.count) s in
    subst (ReadIs at last s) (sym q)
    (read_more at last s rec e g rise (read_from f rec.next.at rec.next.last rest) (ih rec.next.at rec.next.last rest (omega arith)))

pub read_is : (f : ℕ) → Steps f
unfolding read_from
read_is zero at last s h = record { fronts = fronts-none last s; ends = add-zero at; zeros = λ i l. absurd (let y : i < 0 = omega arith in not-suc-le-zero y) }
read_is (suc f) at last s h = turn f (read_is f) at last s h (turn_is f at last s h)

-- the records of plots, then zeros up to the size
abbrev pub payload_of : ℕ → List Plot → List ℕ
payload_of size ps = bytes_of ps ++ replicate (size - length (bytes_of ps)) 0

pub record Sound (s : List ℕ) (ps : List Plot) (end : ℕ) : Type 0 where
  pub rising : Rising 0 ps
  pub ends : length (bytes_of ps) ≡ end
  pub fits : length (bytes_of ps) ≤ length s
  pub form : Bytes s → s ≡ payload_of (length s) ps

pub reading-sound : (s : List ℕ) (ps : List Plot) (end : ℕ) → reading s ≡ Plots ps end → Sound s ps end
reading-sound s ps end q =
    let i : Ends 0 0 s ps end = subst (ReadIs 0 0 s) (reading-reads s ps end q).1 (read_is (length s) 0 0 s (le_refl _)) in
    let rest = drop (length (bytes_of ps)) s in
    let e : 0 + length (bytes_of ps) ≡ end = i.ends in
    record {
      rising = i.fronts.rising;
      ends = omega arith;
      fits = i.fronts.fits;
      form = λ b.
          i.fronts.form b
          ∙ ap (λ (t : List ℕ). bytes_of ps ++ t) (zeros_are rest i.zeros ∙ ap (λ (n : ℕ). replicate n 0) (length-drop (length (bytes_of ps)) s));
    }
