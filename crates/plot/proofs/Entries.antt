-- What the entries on a payload answer, from an accepted or a stopped reading: where a plot lies, and where one may be added.
-- A turn of the search follows the reading by one record; all that is found lies within the payload.
use Prim.Native.Nat.{ℕ, ◌+◌, ◌-◌, ◌%◌, ◌<◌, ◌≤◌}
use native.Mathlib.Omega.{arith}
use native.Mathlib.Nat.{le_refl}
use mathlib.Core.Path.{◌≡◌, refl, sym, ap, ◌∙◌}
use mathlib.Core.Bool.{true, not}
use mathlib.Core.List.{List, [], ◌∷◌, ◌++◌}
use lib.ListN.{length, take, drop, length-append}
use lib.Seq.{drop-drop}
use lib.Dec.{leb, ltb, eqb}
use borrow.Author.Tests.{le-ltb, lt-ltb, le-leb, lt-leb, eq-eqb, ne_eqb, ltb-false, leb-false, eqb-true, eqb-false, not-false}
use Rattle.std.specs.Prelude.{Some, Ok, Err}
use Rattle.plot.specs.declared.BadLine.{BadLine}
use Rattle.plot.specs.declared.Cursor.{Cursor}
use Rattle.plot.specs.declared.Place.{Place}
use Rattle.plot.specs.declared.Record.{Record}
use Rattle.plot.specs.declared.Refusal.{Refusal}
use Rattle.plot.specs.declared.Refusal.TheVariants.{PlotOrder, NoSuchPlot, Full}
use Rattle.lists.proofs.Test.{pick_of}
use Rattle.plot.specs.Layout.{Plot, record_length, no_line, lines_check, lines_hold, lines_of, record_of, bytes_of}
use Rattle.plot.specs.Grammar.{bad_line, outside_line, step_at, Parsed, Plots, Stopped, read_from, longest, reading}
use Rattle.plot.specs.Answers.{Located, Added, last_number, checked_of, checked, seek, located_of, located, part_of, lines_fit, room_for, added_of, added, payload_after, payload_with}
use Rattle.plot.proofs.Lines.{all_held}
use Rattle.plot.proofs.Cases.{pick_out, bounds}
use Rattle.plot.proofs.Records.{after_out}
use Rattle.plot.proofs.Accepts.{not_stopped, here, Accepts, accepts, length-here, Lies, lies}

-- an accepted payload is short enough, and its records lie within it
pub reading-reads : (s : List ℕ) (ps : List Plot) (end : ℕ) → reading s ≡ Plots ps end → (length s ≤ longest) × (read_from (length s) 0 0 s ≡ Plots ps end)
unfolding reading
reading-reads s ps end q =
    let p = pick_out (ltb longest (length s)) _ _ _ q (λ z. not_stopped _ _ _ _ refl z) in
    (ltb-false _ _ p.0, p.1)

pub reading-lies : (s : List ℕ) (ps : List Plot) (end : ℕ) → reading s ≡ Plots ps end → Lies 0 s ps end
reading-lies s ps end q = lies (length s) 0 0 s ps end (le_refl _) (reading-reads s ps end q).1

-- the check tells the reading
checked_is : (last : ℕ) (q : Parsed) (c : Cursor) → checked_of last q ≡ Ok c → (ps : List Plot) × (q ≡ Plots ps c.at) × (last_number last ps ≡ c.last)
unfolding checked_of
checked_is last (Plots ps end) c h =
    let e : record { at = end; last = last_number last ps } ≡ c = cc in
    (ps, ap (λ (d : Cursor). Plots ps d.at) e, ap (λ (d : Cursor). d.last) e)
checked_is last (Stopped r) c h = absurd (cc)

pub checked_accepted : (s : List ℕ) (c : Cursor) → checked s ≡ Ok c → (ps : List Plot) × (reading s ≡ Plots ps c.at) × (last_number 0 ps ≡ c.last)
checked_accepted s c h = checked_is 0 (reading s) c h

refused_is : (last : ℕ) (q : Parsed) (r : Refusal) → checked_of last q ≡ Err r → q ≡ Stopped r
unfolding checked_of
refused_is last (Plots ps end) r h = absurd (cc)
refused_is last (Stopped r') r h =
    let e : r' ≡ r = cc in
    ap Stopped e

pub checked_refused : (s : List ℕ) (r : Refusal) → checked s ≡ Err r → reading s ≡ Stopped r
checked_refused s r h = refused_is 0 (reading s) r h

-- the search in plots
module _ (n at : ℕ) where
  pub seek-none : (ps : List Plot) → ps ≡ [] → Err NoSuchPlot ≡ seek n at ps
  unfolding seek
  seek-none ps e = rw e

  module _ (ps : List Plot) (p : Plot) (rest : List Plot) (e : ps ≡ p ∷ rest) (next : ℕ) (size : at + length (record_of p) ≡ next) where
    pub seek-here : p.number ≡ n → Ok (record { start = at; length = next - at }) ≡ seek n at ps
    unfolding seek
    seek-here h =
        let z : next - at ≡ length (record_of p) = omega arith in
        rw (e, z, eq-eqb _ _ h)

    pub seek_on : (p.number ≡ n → ⊥) → seek n at ps ≡ seek n next rest
    unfolding seek
    seek_on h = rw (e, ne_eqb _ _ h, size)

-- a turn of the search in an accepted payload
module _ (s : List ℕ) (at last f : ℕ) (rec : Record) (e : step_at at (drop at s) ≡ Ok (Some rec)) (h : length s ≤ at + f)
    (ps : List Plot) (end : ℕ) (q : read_from f at last (drop at s) ≡ Plots ps end) where
  pub go : Accepts at last (drop at s) rec e f ps end
  go =
      let b = bounds s at last f rec e in
      let p : at + record_length rec.count ≡ rec.next.at = b.past in
      let i : rec.next.at ≤ length s = b.inside in
      accepts at last (drop at s) rec e f (omega arith) ps end q

  pub go_reads : read_from (f - 1) rec.next.at rec.next.last (drop rec.next.at s) ≡ Plots go.rest end
  go_reads =
      ap (read_from (f - 1) rec.next.at rec.next.last) (sym (drop-drop (record_length rec.count) at s ∙ ap (λ (n : ℕ). drop n s) (bounds s at last f rec e).past))
      ∙ go.reads

  go_size : at + length (record_of (here at last (drop at s) rec e)) ≡ rec.next.at
  go_size = ap (λ (n : ℕ). at + n) (length-here at last (drop at s) rec e) ∙ (bounds s at last f rec e).past

  pub go_here : (n : ℕ) → rec.next.last ≡ n → Ok (record { start = at; length = rec.next.at - at }) ≡ seek n at ps
  go_here n g = seek-here n at ps _ _ go.is rec.next.at go_size g

  pub go_on : (n : ℕ) → (rec.next.last ≡ n → ⊥) → seek n at ps ≡ seek n rec.next.at go.rest
  go_on n g = seek_on n at ps _ _ go.is rec.next.at go_size g

-- what is found lies within
abbrev pub Within : ℕ → Located → Type 0
Within size (Ok place) = place.start + place.length ≤ size
Within size (Err r) = Unit

pub within-seek : (n at size : ℕ) (ps : List Plot) → at + length (bytes_of ps) ≤ size → Within size (seek n at ps)
unfolding seek
within-seek n at size [] h = tt
within-seek n at size (p ∷ ps) h =
    let l : length (record_of p ++ bytes_of ps) ≡ length (record_of p) + length (bytes_of ps) = length-append (record_of p) (bytes_of ps) in
    pick_of (Within size) (eqb p.number n) (Ok (record { start = at; length = length (record_of p) })) (seek n (at + length (record_of p)) ps) (omega arith)
    (within-seek n (at + length (record_of p)) size ps (omega arith))

within-read : (n : ℕ) (s : List ℕ) (q : Parsed) → reading s ≡ q → Within (length s) (located_of n q)
unfolding located_of
within-read n s (Plots ps end) e =
    let i : length (bytes_of ps) ≤ length s = (reading-lies s ps end e).fits in
    within-seek n 0 (length s) ps (omega arith)
within-read n s (Stopped r) e = tt

pub located-within : (n : ℕ) (s : List ℕ) (place : Place) → located n s ≡ Ok place → place.start + place.length ≤ length s
located-within n s place e = rw e at (within-read n s (reading s) refl)

pub located_stopped : (n : ℕ) (s : List ℕ) (r : Refusal) → reading s ≡ Stopped r → Err r ≡ located n s
unfolding located_of
located_stopped n s r e = rw e

pub located-plots : (n : ℕ) (s : List ℕ) (ps : List Plot) (end : ℕ) → reading s ≡ Plots ps end → located n s ≡ seek n 0 ps
unfolding located_of
located-plots n s ps end e = rw e

-- the part that is handed out
pub part-found : (l : Located) (s : List ℕ) (place : Place) → l ≡ Ok place → take (place.start + place.length - place.start) (drop place.start s) ≡ part_of l s
unfolding part_of
part-found l s place e =
    let z : place.start + place.length - place.start ≡ place.length = omega arith in
    rw (e, z)

pub part-refused : (l : Located) (s : List ℕ) (r : Refusal) → l ≡ Err r → [] ≡ part_of l s
unfolding part_of
part-refused l s r e = rw e

-- where a plot may be added: the checks in turn
module _ (size end last : ℕ) (p : Plot) where
  pub add_long : 120 < length p.lines → Err (outside_line end) ≡ room_for size end last p
  unfolding room_for
  add_long h = rw (lt-ltb _ _ h)

  module _ (h1 : length p.lines ≤ 120) where
    pub add_odd : (length p.lines % 3 ≡ 0 → ⊥) → Err (outside_line end) ≡ room_for size end last p
    unfolding room_for
    add_odd h = rw (le-ltb _ _ h1, ne_eqb _ _ h)

    module _ (h2 : length p.lines % 3 ≡ 0) where
      pub add-zero-plot : p.number ≡ 0 → Err (outside_line end) ≡ room_for size end last p
      unfolding room_for
      add-zero-plot h = rw (le-ltb _ _ h1, eq-eqb (length p.lines % 3) 0 h2, eq-eqb p.number 0 h)

      module _ (h3 : p.number ≡ 0 → ⊥) where
        pub add-lines : (bad : BadLine) → lines_check no_line 0 (lines_of p) p.lines ≡ Err bad → Err (bad_line end bad) ≡ room_for size end last p
        unfolding room_for
        add-lines bad h = rw (le-ltb _ _ h1, eq-eqb (length p.lines % 3) 0 h2, ne_eqb p.number 0 h3, h)

        module _ (h4 : lines_check no_line 0 (lines_of p) p.lines ≡ Ok tt) where
          pub add_order : p.number ≤ last → Err (PlotOrder end) ≡ room_for size end last p
          unfolding room_for
          add_order h = rw (le-ltb _ _ h1, eq-eqb (length p.lines % 3) 0 h2, ne_eqb p.number 0 h3, h4, le-leb _ _ h)

          module _ (h5 : last < p.number) where
            pub add_full : size - end < 5 + length p.lines → Err (Full end) ≡ room_for size end last p
            unfolding room_for
            add_full h =
                let k : size - end < length (record_of p) = omega arith in
                rw (le-ltb _ _ h1, eq-eqb (length p.lines % 3) 0 h2, ne_eqb p.number 0 h3, h4, lt-leb _ _ h5, lt-ltb (size - end) (length (record_of p)) k)

            pub add-here : 5 + length p.lines ≤ size - end → Ok end ≡ room_for size end last p
            unfolding room_for
            add-here h =
                let k : length (record_of p) ≤ size - end = omega arith in
                rw (le-ltb _ _ h1, eq-eqb (length p.lines % 3) 0 h2, ne_eqb p.number 0 h3, h4, lt-leb _ _ h5, le-ltb (size - end) (length (record_of p)) k)

pub no_plots : (ps : List Plot) (end at : ℕ) → Plots ps end ≡ Plots [] at → ps ≡ []
no_plots ps end at e = cc

-- what holds where a plot is added
pub record Taken (s : List ℕ) (p : Plot) (start : ℕ) : Type 0 where
  pub plots : List Plot
  pub reads : reading s ≡ Plots plots start
  pub short : length p.lines ≤ 120
  pub thirds : length p.lines % 3 ≡ 0
  pub some : p.number ≡ 0 → ⊥
  pub check : lines_check no_line 0 (lines_of p) p.lines ≡ Ok tt
  pub hold : lines_hold no_line (lines_of p) p.lines ≡ true
  pub rise : last_number 0 plots < p.number
  pub space : start + length (record_of p) ≤ length s

module _ (s : List ℕ) (p : Plot) (start : ℕ) where
  at_place : (ps : List Plot) (end : ℕ) → reading s ≡ Plots ps end → room_for (length s) end (last_number 0 ps) p ≡ Ok start → Taken s p start
  unfolding room_for
  at_place ps end q e =
      let p1 = pick_out (not (lines_fit p.lines)) _ _ _ e (λ z. differ _ z) in
      let p2 = pick_out (eqb p.number 0) _ _ _ p1.1 (λ z. differ _ z) in
      let p3 = after_out end (lines_check no_line 0 (lines_of p) p.lines) _ _ p2.1 in
      let p4 = pick_out (leb p.number (last_number 0 ps)) _ _ _ p3.1 (λ z. differ _ z) in
      let p5 = pick_out (ltb (length s - end) (length (record_of p))) _ _ _ p4.1 (λ z. differ _ z) in
      let same : ◌≡◌ {A = Added} (Ok end) (Ok start) = p5.1 in
      let end_is : end ≡ start = cc same in
      let fit = pick_out (ltb 120 (length p.lines)) _ _ _ (not-false _ p1.0) (λ z. cc) in
      let j : length (bytes_of ps) ≤ length s = (reading-lies s ps end q).fits in
      let k : 0 + length (bytes_of ps) ≡ end = (reading-lies s ps end q).ends in
      let room : length (record_of p) ≤ length s - end = ltb-false _ _ p5.0 in
      record {
        plots = ps;
        reads = q ∙ ap (λ (n : ℕ). Plots ps n) end_is;
        short = ltb-false _ _ fit.0;
        thirds = eqb-true _ _ fit.1;
        some = eqb-false _ _ p2.0;
        check = p3.0;
        hold = all_held no_line (lines_of p) p.lines p3.0;
        rise = leb-false _ _ p4.0;
        space = omega arith;
      }
    where
      differ : (r : Refusal) → Err r ≡ Ok start → ⊥
      differ r z = cc

  by_reading : (q : Parsed) → reading s ≡ q → added_of s p q ≡ Ok start → Taken s p start
  unfolding added_of
  by_reading (Plots ps end) q e = at_place ps end q e
  by_reading (Stopped r) q e = absurd (cc)

  pub taken : added p s ≡ Ok start → Taken s p start
  taken e = by_reading (reading s) refl e

  -- the record in its place
  pub put_in : (r : List ℕ) → r ≡ record_of p → added p s ≡ Ok start → (k : ℕ) → k ≡ 5 + length p.lines
      → take start s ++ (r ++ drop k (drop start s)) ≡ payload_with p s
  unfolding payload_after
  put_in r e a k z =
      let l : k ≡ length (record_of p) = omega arith in
      rw (a, e, drop-drop k start s, l)

pub left_as_was : (s : List ℕ) (p : Plot) (r : Refusal) → added p s ≡ Err r → s ≡ payload_with p s
unfolding payload_after
left_as_was s p r e = rw e

pub added-plots : (s : List ℕ) (p : Plot) (ps : List Plot) (end last : ℕ) → reading s ≡ Plots ps end → last_number 0 ps ≡ last → room_for (length s) end last p ≡ added p s
unfolding added_of
added-plots s p ps end last q e = rw (q, e)

pub added_stopped : (s : List ℕ) (p : Plot) (r : Refusal) → reading s ≡ Stopped r → Err r ≡ added p s
unfolding added_of
added_stopped s p r e = rw e

pub end-within : (s : List ℕ) (ps : List Plot) (end : ℕ) → reading s ≡ Plots ps end → end ≤ length s
end-within s ps end q =
    let j : length (bytes_of ps) ≤ length s = (reading-lies s ps end q).fits in
    let k : 0 + length (bytes_of ps) ≡ end = (reading-lies s ps end q).ends in
    omega arith
