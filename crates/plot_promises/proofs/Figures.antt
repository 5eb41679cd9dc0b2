-- Figure and line's index beside number 7, exactly when (Figures): where a reading or an adding stops in a line, it tells that line and its first bad value; where a
-- line fails, it stops there. The check of a payload and the companion of asking tell the same refusal.
use mathlib.Core.Path.{◌≡◌, refl, sym, ap, subst, ◌∙◌}
use mathlib.Core.Logic.{◌⊎◌, ◌≢◌, inl, inr, ⊎_elim}
use mathlib.Core.List.{List, [], ◌∷◌}
use Prim.Native.Nat.{ℕ, ◌+◌}
use Rattle.std.specs.Prelude.{Some, None, Ok, Err}
use lib.ListN.{length}
use lib.Dec.{eqb}
use Rattle.lists.specs.Bytes.{Bytes}
use Rattle.lists.proofs.Test.{pick_of}
use Rattle.plot.specs.declared.Refusal.{Refusal}
use Rattle.plot.specs.Layout.{Plot, lines_of, record_of}
use Rattle.plot.specs.Grammar.{record_at, Parsed, Plots, Stopped, reading}
use Rattle.plot.specs.Answers.{Located, Added, checked, seek, located, added}
use Rattle.plot.specs.Numbers.{number_of, place_of, figure_of, index_of, payload_number, payload_place, payload_figure, payload_index, located_number, located_place, located_figure, located_index, added_number, added_place, added_figure, added_index}
use Rattle.plot.proofs.Records.{late-end, late_record}
use Rattle.plot.proofs.Entries.{located-plots, located_stopped, added_stopped}
use Rattle.plot_promises.specs.Canonical.{Contains}
use Rattle.plot_promises.specs.Refusals.{end_of}
use Rattle.plot_promises.specs.Figures.{BadLineHere, BadLineAt, BadLentHere, BadLineAdded, FigureExactly, Figures}
use Rattle.plot_promises.proofs.Refusals.{Tells, LineOf, in_line, in_none}
use Rattle.plot_promises.proofs.FirstBad.{bad_some, bad_index, bad_figure, hold_no_first}
use Rattle.plot_promises.proofs.Place.{record_here}
use Rattle.plot_promises.proofs.Turn.{RecordIs, nothing, fault, holds, record_is}
use Rattle.plot_promises.proofs.Stepping.{stepping_no_line}
use Rattle.plot_promises.proofs.Canonical.{reading-contains}
use Rattle.plot_promises.proofs.Checking.{checks-plots, checks_stopped, stopped_line, line_stops}
use Rattle.plot_promises.proofs.Adding.{AddedIs, refused, accepted, added_is}

-- an answer that tells the line which fails where it tells one, and tells it wherever one fails
module _ (Bad : ℕ → ℕ → ℕ → Type 0) (number place figure index : ℕ) where
  abbrev TellsLine : Type 0
  TellsLine = (number ≡ 7) × Bad place figure index

  abbrev Told : ℕ → ℕ → ℕ → Type 0
  Told p f i = (number ≡ 7) × (place ≡ p) × (figure ≡ f) × (index ≡ i)

  module _ (sound : TellsLine ⊎ ((figure ≡ 0) × (index ≡ 0))) (complete : (p f i : ℕ) → Bad p f i → (f ≢ 0) × Told p f i) where
    told_bad : (p f i : ℕ) → f ≢ 0 → Told p f i → Bad p f i
    told_bad p f i z t =
        ⊎_elim
        (λ a. subst (λ (k : ℕ). Bad k f i) t.1 (subst (λ (k : ℕ). Bad place k i) t.2 (subst (Bad place figure) t.3 a.1)))
        (λ o. absurd (z (sym t.2 ∙ o.0)))
        sound

    pub figure_exactly : FigureExactly Bad number place figure index
    figure_exactly = record {
      inside = λ p f i z. (told_bad p f i z, λ b. (complete p f i b).1);
      outside = (
        (λ h p f i b. let c = complete p f i b in c.0 (sym c.1.2 ∙ h.0)),
        (λ never. ⊎_elim (λ a. absurd (never _ _ _ a.1)) (λ o. o) sound),
      );
    }

-- numbers that are those of a refusal
abbrev Same : ℕ → ℕ → ℕ → ℕ → Refusal → Type 0
Same number place figure index r = (number ≡ number_of r) × (place ≡ place_of r) × (figure ≡ figure_of r) × (index ≡ index_of r)

told_by : (number place figure index : ℕ) (r : Refusal) (p f i : ℕ) → Same number place figure index r → Tells r p f i
    → (number ≡ 7) × (place ≡ p) × (figure ≡ f) × (index ≡ i)
told_by number place figure index r p f i s t = (s.0 ∙ t.0, s.1 ∙ t.1, s.2 ∙ t.2, s.3 ∙ t.3)

-- a line that fails in the payload has a figure
at_some : (s : List ℕ) (p f i : ℕ) → BadLineAt s p f i → f ≢ 0
at_some s p f i b = bad_some _ _ f i b.here.1

-- a refusal of the payload, told by numbers that are those of it
module _ (s : List ℕ) (b : Bytes s) (number place figure index : ℕ) where
  stopped_told : (r : Refusal) → reading s ≡ Stopped r → Same number place figure index r
      → TellsLine (BadLineAt s) number place figure index ⊎ ((figure ≡ 0) × (index ≡ 0))
  stopped_told r q e =
      ⊎_elim
      (λ a. inl (e.0 ∙ a.0, rw (e.1, e.2, e.3) a.1))
      (λ o. inr (e.2 ∙ o.0, e.3 ∙ o.1))
      (stopped_line s r q b)

  module _ (stopped : (r : Refusal) → reading s ≡ Stopped r → Same number place figure index r)
      (plots : (ps : List Plot) (end : ℕ) → reading s ≡ Plots ps end → (figure ≡ 0) × (index ≡ 0)) where
    reads : (q : Parsed) → reading s ≡ q → TellsLine (BadLineAt s) number place figure index ⊎ ((figure ≡ 0) × (index ≡ 0))
    reads (Plots ps end) q = inr (plots ps end q)
    reads (Stopped r) q = stopped_told r q (stopped r q)

    pub payload-figure : FigureExactly (BadLineAt s) number place figure index
    payload-figure =
        figure_exactly (BadLineAt s) number place figure index (reads (reading s) refl)
        (λ p f i x.
        let r = line_stops s p f i x in
        (at_some s p f i x, told_by number place figure index r.0 p f i (stopped r.0 r.1) r.2))

checking_figure : (s : List ℕ) → Bytes s → FigureExactly (BadLineAt s) (payload_number (checked s)) (payload_place (checked s)) (payload_figure (checked s)) (payload_index (checked s))
checking_figure s b =
    payload-figure s b _ _ _ _
    (λ r q. let e = checks_stopped s r q in (ap payload_number e, ap payload_place e, ap payload_figure e, ap payload_index e))
    (λ ps end q. let e = checks-plots s ps end q in (ap payload_figure e, ap payload_index e))

-- a search among plots names no line
seek_no_line : (n at : ℕ) (ps : List Plot) → (located_figure (seek n at ps) ≡ 0) × (located_index (seek n at ps) ≡ 0)
unfolding seek
seek_no_line n at [] = (refl, refl)
seek_no_line n at (p ∷ ps) =
    pick_of (λ (a : Located). (located_figure a ≡ 0) × (located_index a ≡ 0)) (eqb p.number n) (Ok (record { start = at; length = length (record_of p) })) (seek n (at + length (record_of p)) ps) (refl, refl)
    (seek_no_line n (at + length (record_of p)) ps)

asking_figure : (n : ℕ) (s : List ℕ) → Bytes s
    → FigureExactly (BadLineAt s) (located_number (located n s)) (located_place (located n s)) (located_figure (located n s)) (located_index (located n s))
asking_figure n s b =
    payload-figure s b _ _ _ _
    (λ r q. let e = sym (located_stopped n s r q) in (ap located_number e, ap located_place e, ap located_figure e, ap located_index e))
    (λ ps end q. let e = located-plots n s ps end q in (ap located_figure e ∙ (seek_no_line n 0 ps).0, ap located_index e ∙ (seek_no_line n 0 ps).1))

-- adding a plot
module _ (p : Plot) (s : List ℕ) (b : Bytes s) where
  abbrev a : Added
  a = added p s

  abbrev Sound : Type 0
  Sound = TellsLine (BadLineAdded p s) (added_number a) (added_place a) (added_figure a) (added_index a) ⊎ ((added_figure a ≡ 0) × (added_index a ≡ 0))

  same : (r : Refusal) → a ≡ Err r → Same (added_number a) (added_place a) (added_figure a) (added_index a) r
  same r e = (ap added_number e, ap added_place e, ap added_figure e, ap added_index e)

  -- to plots that the payload contains
  module _ (plots : List Plot) (c : Contains s plots) where
    room_sound : AddedIs p s plots c → Sound
    room_sound (refused k f r e h (in_line n x)) =
        inl (
          ap added_number e ∙ n,
          inr (record { plots = plots; contains = c; begins = ap added_place e ∙ h.place_is; line = rw (ap added_figure e, ap added_index e) x }),
        )
    room_sound (refused k f r e h (in_none o never)) = inr (ap added_figure e ∙ o.0, ap added_index e ∙ o.1)
    room_sound (accepted f e) = inr (ap added_figure e, ap added_index e)

    room_complete : (place f i : ℕ) → place ≡ end_of plots → BadLentHere p f i → AddedIs p s plots c
        → Told (BadLineAdded p s) (added_number a) (added_place a) (added_figure a) (added_index a) place f i
    room_complete place f i y x (refused k g r e h (in_line m w)) =
        told_by _ _ _ _ r place f i (same r e) (m, h.place_is ∙ sym y, bad_figure _ _ _ _ _ _ w.1 x.1, bad_index _ _ _ _ _ _ w.1 x.1)
    room_complete place f i y x (refused k g r e h (in_none o never)) = absurd (never f i x)
    room_complete place f i y x (accepted g e) = absurd (hold_no_first p.lines (lines_of p) g.1.1.0 f i x.1)

  adding_sound : (q : Parsed) → reading s ≡ q → Sound
  adding_sound (Plots ps end) q = let c = reading-contains s ps end b q in room_sound ps c (added_is p s ps c)
  adding_sound (Stopped r) q =
      ⊎_elim (λ h. inl (h.0, inl h.1)) inr (stopped_told s b (added_number a) (added_place a) (added_figure a) (added_index a) r q (same r (sym (added_stopped s p r q))))

  adding_complete : (place f i : ℕ) → BadLineAdded p s place f i
      → (f ≢ 0) × Told (BadLineAdded p s) (added_number a) (added_place a) (added_figure a) (added_index a) place f i
  adding_complete place f i (inl x) =
      let r = line_stops s place f i x in
      (at_some s place f i x, told_by _ _ _ _ r.0 place f i (same r.0 (sym (added_stopped s p r.0 r.1))) r.2)
  adding_complete place f i (inr x) =
      (bad_some _ _ f i x.line.1, room_complete x.plots x.contains place f i x.begins x.line (added_is p s x.plots x.contains))

  pub adding_figure : FigureExactly (BadLineAdded p s) (added_number a) (added_place a) (added_figure a) (added_index a)
  adding_figure = figure_exactly (BadLineAdded p s) _ _ _ _ (adding_sound (reading s) refl) adding_complete

-- a record with every check of it made
module _ (at last : ℕ) (s : List ℕ) (r : Refusal) where
  abbrev BadHere : ℕ → ℕ → ℕ → Type 0
  BadHere place figure index = (place ≡ at) × BadLineHere s figure index

  abbrev RecordFigure : Type 0
  RecordFigure = FigureExactly BadHere (number_of r) (place_of r) (figure_of r) (index_of r)

  by_line : place_of r ≡ at → LineOf (BadLineHere s) r → RecordFigure
  by_line p (in_line n x) =
      figure_exactly BadHere (number_of r) (place_of r) (figure_of r) (index_of r) (inl (n, (p, x)))
      (λ k f i b. (bad_some _ _ f i b.1.1, (n, p ∙ sym b.0, bad_figure _ _ _ _ _ _ x.1 b.1.1, bad_index _ _ _ _ _ _ x.1 b.1.1)))
  by_line p (in_none o never) = figure_exactly BadHere (number_of r) (place_of r) (figure_of r) (index_of r) (inr o) (λ k f i b. absurd (never f i b.1))

  by_record : record_at at last s ≡ Err r → RecordIs at last s → RecordFigure
  by_record q (nothing z e) = absurd (let same : Ok None ≡ Err r = late-end at last s e ∙ q in cc)
  by_record q (fault r' e p l y) =
      let is : r' ≡ r = cc in
      by_line (subst (λ (x : Refusal). place_of x ≡ at) is p) (subst (LineOf (BadLineHere s)) is l)
  by_record q (holds z a e g o) = absurd (let same : Ok (Some (record_here at s)) ≡ Err r = late_record at last s (record_here at s) e g o ∙ q in cc)

  moving_figure : record_at at last s ≡ Err r → RecordFigure
  moving_figure q = by_record q (record_is at last s)

pub figures : Figures
figures = record { stepping = stepping_no_line; moving = moving_figure; checking = checking_figure; asking = asking_figure; adding = adding_figure }
