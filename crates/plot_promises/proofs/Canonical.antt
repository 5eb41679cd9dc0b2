-- The statements of specs/Canonical.antt. What is read is sound, what is written is read back (Sound, Complete); adding a plot to the payload of
-- plots gives the payload of one plot more, so that both directions follow by induction on the plots.
use Prim.Native.Nat.{ℕ, zero, suc, zero-le, ◌+◌, ◌*◌, ◌-◌, ◌%◌, ◌<◌, ◌≤◌}
use native.Mathlib.Omega.{arith}
use native.Mathlib.Nat.{div-add-mod', mul-mod_left, sub-zero, add-zero, zero-add}
use mathlib.Core.Path.{◌≡◌, refl, sym, ap, subst, ◌∙◌}
use mathlib.Core.List.{List, [], ◌∷◌, ◌++◌, append_assoc, append-nil}
use Rattle.std.specs.Prelude.{Ok, Err}
use lib.ListN.{length, take, drop, replicate, length-append, length-replicate}
use lib.Seq.{take_at, drop-append-add, append_snoc}
use lib.Dec.{eqb}
use borrow.Author.Tests.{eq-eqb, ne_eqb}
use Rattle.lists.specs.Choice.{pick}
use Rattle.lists.specs.Bytes.{Bytes}
use Rattle.plot.specs.Layout.{Plot, lines_of, record_of, bytes_of}
use Rattle.plot_promises.specs.Lines.{LinesHold}
use Rattle.plot.specs.Grammar.{Plots, longest, reading}
use Rattle.plot.specs.Answers.{Located, Added, last_number, seek, located, part_of, asked, added, payload_after, payload_with}
use Rattle.plot.specs.Numbers.{number_of, place_of, located_number, located_start, located_length, added_start}
use Rattle.plot_promises.specs.Canonical.{RecordBytes, PlotHolds, Rising, Contains, PlotsUnique, AllAdded, NotAdded, add_then, add_all, WrittenAsRead, ReadAsWritten, AcceptedForm, FoundAt, AddedIsFound}
use Rattle.plot.proofs.Lists.{low_byte, high_byte, part-front, part_middle}
use Rattle.plot_promises.proofs.Lines.{held_check, lines_hold_iff}
use Rattle.plot_promises.proofs.Sound.{payload_of, reading-sound}
use Rattle.plot_promises.proofs.Complete.{payload-length, reading_complete}
use Rattle.plot.proofs.Entries.{reading-reads, taken, added-plots, add-here, located-plots, Within, within-seek}
use Rattle.plot_promises.proofs.Refusals.{number_some, added-at}

pub record_bytes : RecordBytes
record_bytes = record {
  bytes = λ low high lines h. rw (low_byte low high h, high_byte low high h) refl;
  line = λ x y z rest. (refl, refl, refl);
}

-- plots in a row
pub bytes-append : (ps qs : List Plot) → bytes_of (ps ++ qs) ≡ bytes_of ps ++ bytes_of qs
bytes-append [] qs = refl
bytes-append (p ∷ ps) qs = ap (λ (t : List ℕ). record_of p ++ t) (bytes-append ps qs) ∙ sym (append_assoc (record_of p) (bytes_of ps) (bytes_of qs))

bytes_snoc : (ps : List Plot) (p : Plot) → bytes_of (ps ++ p ∷ []) ≡ bytes_of ps ++ record_of p
bytes_snoc ps p = bytes-append ps (p ∷ []) ∙ ap (λ (t : List ℕ). bytes_of ps ++ t) (append-nil (record_of p))

size_snoc : (ps : List Plot) (p : Plot) → length (bytes_of (ps ++ p ∷ [])) ≡ length (bytes_of ps) + length (record_of p)
size_snoc ps p = ap length (bytes_snoc ps p) ∙ length-append (bytes_of ps) (record_of p)

rising-before : (last : ℕ) (ps qs : List Plot) → Rising last (ps ++ qs) → Rising last ps
rising-before last [] qs r = tt
rising-before last (p ∷ ps) qs r = (r.0, r.1, rising-before p.number ps qs r.2)

pub rising-at : (last : ℕ) (ps : List Plot) (p : Plot) (qs : List Plot) → Rising last (ps ++ p ∷ qs) → PlotHolds p × (last_number last ps < p.number)
rising-at last [] p qs r = (r.0, r.1)
rising-at last (x ∷ ps) p qs r = rising-at x.number ps p qs r.2

rising_snoc : (last : ℕ) (ps : List Plot) (p : Plot) → Rising last ps → PlotHolds p → last_number last ps < p.number → Rising last (ps ++ p ∷ [])
rising_snoc last [] p r h l = (h, l, tt)
rising_snoc last (x ∷ ps) p r h l = (r.0, r.1, rising_snoc x.number ps p r.2 h l)

-- what the checks of an added plot say is what holds of a plot
pub holds_of : (p : Plot) → length p.lines ≤ 120 → length p.lines % 3 ≡ 0 → (p.number ≡ 0 → ⊥) → LinesHold (lines_of p) p.lines → PlotHolds p
holds_of p s t n h =
    let d : lines_of p * 3 + length p.lines % 3 ≡ length p.lines = div-add-mod' (length p.lines) 3 in
    record { threes = omega arith; few = omega arith; some = n; hold = h }

thirds_of : (p : Plot) → PlotHolds p → length p.lines % 3 ≡ 0
thirds_of p h = ap (λ (n : ℕ). n % 3) (sym h.threes) ∙ mul-mod_left (lines_of p) 3

short_of : (p : Plot) → PlotHolds p → length p.lines ≤ 120
short_of p h =
    let t : lines_of p * 3 ≡ length p.lines = h.threes in
    let f : lines_of p ≤ 40 = h.few in
    omega arith

drop-replicate : (k n : ℕ) → drop {A = ℕ} k (replicate n 0) ≡ replicate (n - k) 0
drop-replicate zero n = ap (λ (m : ℕ). replicate m 0) (sym (sub-zero n))
drop-replicate (suc k) zero =
    let z : 0 - suc k ≡ 0 = omega arith in
    rw z
drop-replicate (suc k) (suc n) =
    let z : suc n - suc k ≡ n - k = omega arith in
    rw z (drop-replicate k n)

-- one plot more
module _ (size : ℕ) (ps : List Plot) (p : Plot) (r : Rising 0 (ps ++ p ∷ [])) (fits : length (bytes_of (ps ++ p ∷ [])) ≤ size) (l : size ≤ longest) where
  abbrev before : List ℕ
  before = payload_of size ps

  room : length (bytes_of ps) + length (record_of p) ≤ size
  room = rw size_snoc at fits

  less : length (bytes_of ps) ≤ size
  less = omega (arith, room)

  reads_before : reading before ≡ Plots ps (length (bytes_of ps))
  reads_before = reading_complete size ps less l (rising-before 0 ps (p ∷ []) r)

  pub add-one-more : added p before ≡ Ok (length (bytes_of ps))
  add-one-more =
      let h = rising-at 0 ps p [] r in
      let n : length before ≡ size = payload-length size ps less in
      let b : length (bytes_of ps) + length (record_of p) ≤ size = room in
      sym (add-here (length before) (length (bytes_of ps)) (last_number 0 ps) p (short_of p h.0) (thirds_of p h.0) h.0.some (held_check _ _ _ ((lines_hold_iff _ _).1 h.0.hold)) h.1 (omega arith)
      ∙ added-plots before p ps (length (bytes_of ps)) (last_number 0 ps) reads_before refl)

  pub write_one-more : payload_with p before ≡ payload_of size (ps ++ p ∷ [])
  unfolding payload_after
  write_one-more =
      let e = length (bytes_of ps) in
      let k = length (record_of p) in
      let zeros : List ℕ = replicate (size - e) 0 in
      let m : size - e - k ≡ size - length (bytes_of (ps ++ p ∷ [])) = omega (arith, size_snoc ps p) in
      rw (add-one-more, take_at (bytes_of ps) zeros e refl, drop-append-add (bytes_of ps) zeros k, drop-replicate k (size - e), m)
      (sym (append_assoc (bytes_of ps) (record_of p) (replicate (size - length (bytes_of (ps ++ p ∷ []))) 0))
      ∙ ap (λ (t : List ℕ). t ++ replicate (size - length (bytes_of (ps ++ p ∷ []))) 0) (sym (bytes_snoc ps p)))

-- plots added in turn to the payload of plots
write_all : (size : ℕ) (ps qs : List Plot) → Rising 0 (ps ++ qs) → length (bytes_of (ps ++ qs)) ≤ size → size ≤ longest → add_all qs (payload_of size ps) ≡ AllAdded (payload_of size (ps ++ qs))
unfolding add_all
write_all size ps [] r f l = ap (λ (xs : List Plot). AllAdded (payload_of size xs)) (sym (append-nil ps))
write_all size ps (p ∷ qs) r f l =
    let e : ps ++ (p ∷ []) ++ qs ≡ ps ++ p ∷ qs = append_snoc ps p qs in
    let r' : Rising 0 (ps ++ (p ∷ []) ++ qs) = rw e r in
    let f' : length (bytes_of (ps ++ (p ∷ []) ++ qs)) ≤ size = rw e f in
    let r'' = rising-before 0 (ps ++ p ∷ []) qs r' in
    let f'' : length (bytes_of (ps ++ p ∷ [])) ≤ size = omega (arith, f', ap length (bytes-append (ps ++ p ∷ []) qs), length-append (bytes_of (ps ++ p ∷ [])) (bytes_of qs)) in
    ap (λ (a : Added). add_then (add_all qs) a (payload_with p (payload_of size ps))) (add-one-more size ps p r'' f'' l)
    ∙ ap (add_all qs) (write_one-more size ps p r'' f'' l)
    ∙ write_all size (ps ++ p ∷ []) qs r' f' l
    ∙ ap (λ (xs : List Plot). AllAdded (payload_of size xs)) e

no_bytes_yet : (size : ℕ) → replicate size 0 ≡ payload_of size []
no_bytes_yet size = ap (λ (n : ℕ). replicate n 0) (sym (sub-zero size))

-- a payload that contains plots is the payload of its length of them, and the other way round
module _ (s : List ℕ) (ps : List Plot) (c : Contains s ps) where
  contains-length : length s ≡ length (bytes_of ps) + c.zeros
  contains-length =
      let z : length {A = ℕ} (replicate c.zeros 0) ≡ c.zeros = length-replicate c.zeros 0 in
      ap length c.form ∙ length-append (bytes_of ps) (replicate c.zeros 0) ∙ ap (λ (n : ℕ). length (bytes_of ps) + n) z

  pub contains-fits : length (bytes_of ps) ≤ length s
  contains-fits = omega (arith, contains-length)

  pub contains_form : s ≡ payload_of (length s) ps
  contains_form =
      let z : c.zeros ≡ length s - length (bytes_of ps) = omega (arith, contains-length) in
      c.form ∙ ap (λ (n : ℕ). bytes_of ps ++ replicate n 0) z

  pub contains-reads : reading s ≡ Plots ps (length (bytes_of ps))
  contains-reads = ap reading contains_form ∙ reading_complete (length s) ps contains-fits c.short c.rising

pub plots_unique : PlotsUnique
plots_unique s ps qs a b =
    let e : Plots ps (length (bytes_of ps)) ≡ Plots qs (length (bytes_of qs)) = sym (contains-reads s ps a) ∙ contains-reads s qs b in
    cc

pub contains_of : (size : ℕ) (ps : List Plot) → size ≤ longest → Rising 0 ps → length (bytes_of ps) ≤ size → Contains (payload_of size ps) ps
contains_of size ps l r f = record { short = rw (payload-length size ps f) l; rising = r; zeros = size - length (bytes_of ps); form = refl }

pub written_as_read : WrittenAsRead
written_as_read s ps c =
    ap (add_all ps) (no_bytes_yet (length s)) ∙ write_all (length s) [] ps c.rising (contains-fits s ps c) c.short ∙ ap AllAdded (sym (contains_form s ps c))

pub reading-contains : (s : List ℕ) (ps : List Plot) (end : ℕ) → Bytes s → reading s ≡ Plots ps end → Contains s ps
reading-contains s ps end b q =
    let i = reading-sound s ps end q in
    subst (λ (t : List ℕ). Contains t ps) (sym (i.form b)) (contains_of (length s) ps (reading-reads s ps end q).0 i.rising i.fits)

-- an added plot makes the plots one more
pub more-plots : (size : ℕ) (ps : List Plot) (p : Plot) (start : ℕ) → Rising 0 ps → length (bytes_of ps) ≤ size → size ≤ longest → added p (payload_of size ps) ≡ Ok start
    → Rising 0 (ps ++ p ∷ []) × (length (bytes_of (ps ++ p ∷ [])) ≤ size) × (start ≡ length (bytes_of ps))
more-plots size ps p start r f l e =
    let t = taken (payload_of size ps) p start e in
    let same : Plots t.plots start ≡ Plots ps (length (bytes_of ps)) = sym t.reads ∙ reading_complete size ps f l r in
    let ps-is : t.plots ≡ ps = cc same in
    let start_is : start ≡ length (bytes_of ps) = cc same in
    let n : length (payload_of size ps) ≡ size = payload-length size ps f in
    let rise : last_number 0 ps < p.number = rw ps-is at t.rise in
    let space : start + length (record_of p) ≤ length (payload_of size ps) = t.space in
    (rising_snoc 0 ps p r (holds_of p t.short t.thirds t.some ((lines_hold_iff _ _).0 t.hold)) rise, omega (arith, size_snoc ps p), start_is)

-- what adding qs in turn has written after ps
abbrev ReadsOn : ℕ → List Plot → Type 0
ReadsOn size qs =
    (ps : List Plot) (s : List ℕ) → Rising 0 ps → length (bytes_of ps) ≤ size → add_all qs (payload_of size ps) ≡ AllAdded s
    → Contains s (ps ++ qs)

read_more : (size : ℕ) (p : Plot) (qs ps : List Plot) (s : List ℕ) → size ≤ longest → ReadsOn size qs → Rising 0 ps → length (bytes_of ps) ≤ size
    → (a : Added) → added p (payload_of size ps) ≡ a → add_then (add_all qs) a (payload_with p (payload_of size ps)) ≡ AllAdded s
    → Contains s (ps ++ p ∷ qs)
read_more size p qs ps s l ih r f (Ok start) e h =
    let m = more-plots size ps p start r f l e in
    subst (Contains s) (append_snoc ps p qs) (ih (ps ++ p ∷ []) s m.0 m.1 (ap (add_all qs) (sym (write_one-more size ps p m.0 m.1 l)) ∙ h))
read_more size p qs ps s l ih r f (Err x) e h =
    let not-all : NotAdded (number_of x) (place_of x) ≡ AllAdded s = rw (ne_eqb (number_of x) 0 (number_some x)) at h in
    absurd (let y : ◌≡◌ {A = ℕ} 0 1 = cc not-all in omega arith)

read_all : (size : ℕ) (qs : List Plot) → size ≤ longest → ReadsOn size qs
unfolding add_all
read_all size [] l ps s r f h =
    let e : payload_of size ps ≡ s = cc h in
    subst (Contains s) (sym (append-nil ps)) (subst (λ (t : List ℕ). Contains t ps) e (contains_of size ps l r f))
read_all size (p ∷ qs) l ps s r f h = read_more size p qs ps s l (read_all size qs l) r f (added p (payload_of size ps)) refl h

pub read_as_written : ReadAsWritten
read_as_written size ps s l h = read_all size ps l [] s tt zero-le (ap (add_all ps) (sym (no_bytes_yet size)) ∙ h)

pub accepted_form : AcceptedForm
accepted_form s ps b = (reading-contains s ps _ b, contains-reads s ps)

-- the search for a plot among rising plots
rising_under : (last : ℕ) (ps : List Plot) (p : Plot) (qs : List Plot) → Rising last (ps ++ p ∷ qs) → last < p.number
rising_under last [] p qs r = r.1
rising_under last (x ∷ ps) p qs r =
    let a : last < x.number = r.1 in
    let b : x.number < p.number = rising_under x.number ps p qs r.2 in
    omega arith

seek_finds : (at last : ℕ) (ps : List Plot) (p : Plot) (qs : List Plot) → Rising last (ps ++ p ∷ qs)
    → seek p.number at (ps ++ p ∷ qs) ≡ Ok (record { start = at + length (bytes_of ps); length = length (record_of p) })
unfolding seek
seek_finds at last [] p qs r = rw (eq-eqb p.number p.number refl, add-zero)
seek_finds at last (x ∷ ps) p qs r =
    let u : x.number < p.number = rising_under x.number ps p qs r.2 in
    let n : x.number ≡ p.number → ⊥ = λ e. omega arith in
    let m : at + length (record_of x) + length (bytes_of ps) ≡ at + length (record_of x ++ bytes_of ps) = omega (arith, length-append (record_of x) (bytes_of ps)) in
    rw (ne_eqb x.number p.number n)
    (seek_finds (at + length (record_of x)) x.number ps p qs r.2 ∙ ap (λ (k : ℕ). Ok (record { start = k; length = length (record_of p) })) m)

seek_others : (n at : ℕ) (ps : List Plot) (p : Plot) → (p.number ≡ n → ⊥) → seek n at (ps ++ p ∷ []) ≡ seek n at ps
unfolding seek
seek_others n at [] p h = rw (ne_eqb p.number n h)
seek_others n at (x ∷ ps) p h = ap (λ (l : Located). pick (eqb x.number n) (Ok (record { start = at; length = length (record_of x) })) l) (seek_others n (at + length (record_of x)) ps p h)

-- in the payload of plots
module _ (size : ℕ) (ps : List Plot) (p : Plot) (qs : List Plot) (r : Rising 0 (ps ++ p ∷ qs)) (f : length (bytes_of (ps ++ p ∷ qs)) ≤ size) (l : size ≤ longest) where
  pub located-payload : located p.number (payload_of size (ps ++ p ∷ qs)) ≡ Ok (record { start = length (bytes_of ps); length = length (record_of p) })
  located-payload =
      located-plots p.number (payload_of size (ps ++ p ∷ qs)) (ps ++ p ∷ qs) _ (reading_complete size (ps ++ p ∷ qs) f l r)
      ∙ seek_finds 0 0 ps p qs r
      ∙ ap (λ (k : ℕ). Ok (record { start = k; length = length (record_of p) })) (zero-add (length (bytes_of ps)))

  pub asked-payload : asked p.number (payload_of size (ps ++ p ∷ qs)) ≡ record_of p
  unfolding part_of
  asked-payload =
      let zeros : List ℕ = replicate (size - length (bytes_of (ps ++ p ∷ qs))) 0 in
      rw located-payload
      (ap (λ (t : List ℕ). take (length (record_of p)) (drop (length (bytes_of ps)) (t ++ zeros))) (bytes-append ps (p ∷ qs))
      ∙ ap (λ (t : List ℕ). take (length (record_of p)) (drop (length (bytes_of ps)) t)) (append_assoc (bytes_of ps) (record_of p ++ bytes_of qs) zeros)
      ∙ ap (λ (t : List ℕ). take (length (record_of p)) (drop (length (bytes_of ps)) (bytes_of ps ++ t))) (append_assoc (record_of p) (bytes_of qs) zeros)
      ∙ part_middle (bytes_of ps) (record_of p) (bytes_of qs ++ zeros))

  pub found-payload : FoundAt p.number (payload_of size (ps ++ p ∷ qs)) (length (bytes_of ps)) (record_of p)
  found-payload = record { number = ap located_number located-payload; start = ap located_start located-payload; size = ap located_length located-payload; part = asked-payload }

-- a part within common first bytes is common
same-part : (found : Located) (x y z : List ℕ) → Within (length x) found → part_of found (x ++ y) ≡ part_of found (x ++ z)
unfolding part_of
same-part (Ok place) x y z w = part-front place.start place.length x y w ∙ sym (part-front place.start place.length x z w)
same-part (Err r) x y z w = refl

module _ (size : ℕ) (ps : List Plot) (p : Plot) (r : Rising 0 (ps ++ p ∷ [])) (f : length (bytes_of (ps ++ p ∷ [])) ≤ size) (l : size ≤ longest)
    (n : ℕ) (h : p.number ≡ n → ⊥) where
  located_other : located n (payload_of size (ps ++ p ∷ [])) ≡ located n (payload_of size ps)
  located_other =
      located-plots n _ (ps ++ p ∷ []) _ (reading_complete size (ps ++ p ∷ []) f l r)
      ∙ seek_others n 0 ps p h
      ∙ sym (located-plots n _ ps _ (reads_before size ps p r f l))

  asked_other : asked n (payload_of size (ps ++ p ∷ [])) ≡ asked n (payload_of size ps)
  asked_other =
      let k = size - length (bytes_of (ps ++ p ∷ [])) in
      let zeros : List ℕ = replicate k 0 in
      let found = located-plots n _ ps _ (reads_before size ps p r f l) in
      let w : Within (length (bytes_of ps)) (seek n 0 ps) = within-seek n 0 (length (bytes_of ps)) ps (omega arith) in
      ap (λ (t : Located). part_of t (payload_of size (ps ++ p ∷ []))) (located_other ∙ found)
      ∙ ap (λ (t : List ℕ). part_of (seek n 0 ps) (t ++ zeros)) (bytes_snoc ps p)
      ∙ ap (part_of (seek n 0 ps)) (append_assoc (bytes_of ps) (record_of p) zeros)
      ∙ same-part (seek n 0 ps) (bytes_of ps) (record_of p ++ zeros) (replicate (size - length (bytes_of ps)) 0) w
      ∙ ap (λ (t : Located). part_of t (payload_of size ps)) (sym found)

pub added_is_found : AddedIsFound
added_is_found s p b z =
    let start = added_start (added p s) in
    let e : added p s ≡ Ok start = added-at (added p s) z in
    let t = taken s p start e in
    let i = reading-sound s t.plots start t.reads in
    let l = (reading-reads s t.plots start t.reads).0 in
    let s-is = i.form b in
    let m = more-plots (length s) t.plots p start i.rising i.fits l (ap (added p) (sym s-is) ∙ e) in
    let new : payload_with p s ≡ payload_of (length s) (t.plots ++ p ∷ []) = ap (payload_with p) s-is ∙ write_one-more (length s) t.plots p m.0 m.1 l in (
      subst (λ (x : List ℕ). FoundAt p.number x start (record_of p)) (sym new)
          (subst (λ (k : ℕ). FoundAt p.number (payload_of (length s) (t.plots ++ p ∷ [])) k (record_of p)) (sym m.2) (found-payload (length s) t.plots p [] m.0 m.1 l)),
      (λ n h. (
        ap (located n) new ∙ located_other (length s) t.plots p m.0 m.1 l n h ∙ sym (ap (located n) s-is),
        ap (asked n) new ∙ asked_other (length s) t.plots p m.0 m.1 l n h ∙ sym (ap (asked n) s-is),
      )),
    )
