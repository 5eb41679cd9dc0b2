-- Adding a plot, exactly when (AddingExactly): on a payload that contains plots the checks of an added plot decide, in their order; an accepted one makes the
-- plots one more and changes no other byte. On a payload that is refused it is the payload's own refusal.
use mathlib.Core.Path.{◌≡◌, refl, sym, ap, subst, ◌∙◌}
use mathlib.Core.Logic.{◌⊎◌, ◌↔◌, ◌≢◌, inl, inr, ⊎_elim}
use mathlib.Core.Bool.{Bool, true, false}
use mathlib.Core.List.{List, [], ◌∷◌, ◌++◌}
use Prim.Native.Nat.{ℕ, ◌+◌, ◌-◌, ◌%◌, ◌<◌, ◌≤◌}
use native.Mathlib.Omega.{arith}
use Rattle.std.specs.Prelude.{Result, Ok, Err}
use lib.ListN.{length, take, drop, get_or, length-append, length-drop, get_or-append}
use lib.Seq.{length-take-le, get_or-take, get_or-drop, get_or-append-add}
use lib.Dec.{ltb, eqb}
use borrow.Author.Tests.{le-ltb, eq-eqb, ltb-true, ltb-false, eqb-true}
use Rattle.lists.specs.Choice.{pick}
use Rattle.lists.proofs.Test.{true_false}
use Rattle.plot.specs.declared.Refusal.{Refusal}
use Rattle.plot.specs.declared.Refusal.TheVariants.{PlotOrder, Full}
use Rattle.plot.specs.declared.BadLine.{BadLine}
use Rattle.plot.specs.Layout.{Plot, no_line, lines_check, lines_of, record_of, bytes_of}
use Rattle.plot.specs.Grammar.{bad_line, outside_line, after_lines}
use Rattle.plot_promises.specs.Checks.{Check, FirstFails, NoneFails, lent_checks, room_checks, add_checks}
use Rattle.plot_promises.specs.Figures.{BadLentHere}
use Rattle.plot.specs.Answers.{Added, last_number, lines_fit, room_for, added, payload_after, payload_with}
use Rattle.plot.specs.Numbers.{payload_number, payload_place, added_number, added_place, added_start}
use Rattle.plot_promises.specs.Canonical.{Contains}
use Rattle.plot_promises.specs.Refusals.{AddingTo, AddingExactly}
use Rattle.plot_promises.proofs.Checks.{first_one, not-both, first-before, first-after, all_after, Tested, unless_true, unless_most, unless_zero, choice, chosen}
use Rattle.plot_promises.proofs.Lines.{lines_hold_iff}
use Rattle.plot.proofs.Lines.{all_held}
use Rattle.plot_promises.proofs.FirstBad.{found_first, hold_no_first}
use Rattle.plot_promises.proofs.Refusals.{Refuses, LineOf, in_line, in_none, AnswerRefuses, refuse, number_some, added-at, refused_as, place_unset, value_unset}
use Rattle.plot.proofs.Entries.{taken, added-plots, added_stopped, left_as_was}
use Rattle.plot_promises.proofs.Canonical.{contains-fits, contains_form, contains-reads, contains_of, more-plots, write_one-more}
use Rattle.plot_promises.proofs.Checking.{checks_stopped, stopped_of}

-- the length of the lent lines
fit_iff : (lines : List ℕ) → (lines_fit lines ≡ true) ↔ ((length lines ≤ 120) × (length lines % 3 ≡ 0))
fit_iff lines = (by_test (ltb 120 (length lines)) refl, λ h. rw (le-ltb 120 (length lines) h.0, eq-eqb (length lines % 3) 0 h.1))
  where
    by_test : (t : Bool) → ltb 120 (length lines) ≡ t → pick t false (eqb (length lines % 3) 0) ≡ true → (length lines ≤ 120) × (length lines % 3 ≡ 0)
    by_test true e h = absurd (true_false h refl)
    by_test false e h = (ltb-false _ _ e, eqb-true _ _ h)

-- the checks of an added plot, with their tests
module _ (size end last : ℕ) (p : Plot) (inside : end ≤ size) where
  abbrev AddRefuses : Added → ℕ → Type 0
  AddRefuses = AnswerRefuses end

  -- before the lines, and after them
  abbrev lent_tests : List (Tested AddRefuses)
  lent_tests =
      unless_true AddRefuses 7 (Err (outside_line end)) (refuse end (outside_line end) refl (refl, refl)) (lines_fit p.lines) _ (fit_iff p.lines)
      ∷ unless_zero AddRefuses 7 (Err (outside_line end)) (refuse end (outside_line end) refl (refl, refl)) p.number
      ∷ []

  abbrev last_tests : List (Tested AddRefuses)
  last_tests =
      unless_most AddRefuses 8 (Err (PlotOrder end)) (refuse end (PlotOrder end) refl (refl, refl)) p.number last
      ∷ record {
        number = 10;
        holds = end + length (record_of p) ≤ size;
        test = ltb (size - end) (length (record_of p));
        answer = Err (Full end);
        answers = refuse end (Full end) refl (refl, refl);
        fails = λ e h. let l : size - end < length (record_of p) = ltb-true _ _ e in omega arith;
        passes = λ e. let l : length (record_of p) ≤ size - end = ltb-false _ _ e in omega arith;
      }
      ∷ []

  abbrev found : Result Unit BadLine
  found = lines_check no_line 0 (lines_of p) p.lines

  pub data RoomIs : Type 0 where
    refused_by : (k : ℕ) → FirstFails (add_checks size end last p) k → (r : Refusal) → room_for size end last p ≡ Err r → Refuses end r k → LineOf (BadLentHere p) r → RoomIs
    taken_at : NoneFails (add_checks size end last p) → room_for size end last p ≡ Ok end → RoomIs

  abbrev more : List Check
  more = room_checks size end last p

  abbrev rest : Added
  rest = after_lines end found (choice AddRefuses last_tests (Ok end))

  -- past the checks before the lines
  module _ (n : NoneFails (lent_checks p)) (e : room_for size end last p ≡ rest) where
    in_lines : (bad : BadLine) → found ≡ Err bad → RoomIs
    in_lines bad g =
        let b = found_first p.lines (lines_of p) bad g in
        refused_by 7 (first-after (lent_checks p) more 7 n (inl ((λ h. hold_no_first p.lines (lines_of p) h _ _ b), refl))) (bad_line end bad)
        (e ∙ rw g refl) (record { number_is = refl; place_is = refl }) (in_line refl (n, b))

    past_lines : found ≡ Ok tt → RoomIs
    past_lines g =
        let h = (lines_hold_iff (lines_of p) p.lines).0 (all_held no_line (lines_of p) p.lines g) in
        let e' : room_for size end last p ≡ choice AddRefuses last_tests (Ok end) = e ∙ rw g refl in
        ⊎_elim
        (λ a.
        refused_by a.0 (first-after (lent_checks p) more a.0 n (inr (h, a.1))) a.2.0 (e' ∙ a.2.1) a.2.2
        (in_none a.2.3 (λ f i x. hold_no_first p.lines (lines_of p) h f i x.1)))
        (λ a. taken_at (all_after (lent_checks p) more n (h, a.0)) (e' ∙ a.1))
        (chosen AddRefuses last_tests (Ok end))

    by_lines : (c : Result Unit BadLine) → found ≡ c → RoomIs
    by_lines (Ok u) g = past_lines g
    by_lines (Err bad) g = in_lines bad g

  pub room_is : RoomIs
  unfolding room_for
  room_is =
      ⊎_elim
      (λ a.
      refused_by a.0 (first-before (lent_checks p) more a.0 a.1) a.2.0 a.2.1 a.2.2
      (in_none a.2.3 (λ f i x. not-both (lent_checks p) a.0 a.1 x.0)))
      (λ a. by_lines a.0 a.1 found refl)
      (chosen AddRefuses lent_tests rest)

-- a record in its place changes no other byte
module _ (s w : List ℕ) (a : ℕ) (fits : a + length w ≤ length s) where
  abbrev put : List ℕ
  put = take a s ++ (w ++ drop (a + length w) s)

  front : length (take a s) ≡ a
  front = length-take-le a s (omega arith)

  pub put-length : length put ≡ length s
  put-length =
      let d : length (drop (a + length w) s) ≡ length s - (a + length w) = length-drop (a + length w) s in
      omega (arith, length-append (take a s) (w ++ drop (a + length w) s), length-append w (drop (a + length w) s), front)

  pub put_others : (i : ℕ) → (i < a) ⊎ (a + length w ≤ i) → get_or put i 0 ≡ get_or s i 0
  put_others i (inl l) = get_or-append (take a s) (w ++ drop (a + length w) s) 0 i (rw front l) ∙ get_or-take a s i 0 l
  put_others i (inr l) =
      let j = i - (a + length w) in
      let z : length (take a s) + (length w + j) ≡ i = omega (arith, front) in
      let y : a + length w + j ≡ i = omega arith in
      ap (λ (k : ℕ). get_or put k 0) (sym z)
      ∙ get_or-append-add (take a s) (w ++ drop (a + length w) s) (length w + j) 0
      ∙ get_or-append-add w (drop (a + length w) s) j 0
      ∙ get_or-drop (a + length w) s j 0
      ∙ ap (λ (k : ℕ). get_or s k 0) y

-- on a payload that contains plots
module _ (p : Plot) (s : List ℕ) (plots : List Plot) (c : Contains s plots) where
  abbrev end : ℕ
  end = length (bytes_of plots)

  abbrev checks : List Check
  checks = add_checks (length s) end (last_number 0 plots) p

  pub data AddedIs : Type 0 where
    refused : (k : ℕ) → FirstFails checks k → (r : Refusal) → added p s ≡ Err r → Refuses end r k
        → LineOf (BadLentHere p) r → AddedIs
    accepted : NoneFails checks → added p s ≡ Ok end → AddedIs

  pub added_is : AddedIs
  added_is = by_room (room_is (length s) end (last_number 0 plots) p (contains-fits s plots c))
    where
      same : room_for (length s) end (last_number 0 plots) p ≡ added p s
      same = added-plots s p plots end (last_number 0 plots) (contains-reads s plots c) refl

      by_room : RoomIs (length s) end (last_number 0 plots) p (contains-fits s plots c) → AddedIs
      by_room (refused_by k f r e h l) = refused k f r (sym same ∙ e) h l
      by_room (taken_at f e) = accepted f (sym same ∙ e)

  refused-first : (number place : ℕ) → number ≢ 0 → AddedIs → added_number (added p s) ≡ number → added_place (added p s) ≡ place → FirstFails checks number × (place ≡ end)
  refused-first number place z (refused k f r e h l) a b =
      (subst (FirstFails checks) (sym h.number_is ∙ sym (ap added_number e) ∙ a) f, sym b ∙ ap added_place e ∙ h.place_is)
  refused-first number place z (accepted f e) a b = absurd (z (sym a ∙ ap added_number e))

  first-refused : (number place : ℕ) → AddedIs → FirstFails checks number → place ≡ end → (added_number (added p s) ≡ number) × (added_place (added p s) ≡ place)
  first-refused number place (refused k f r e h l) a b = (ap added_number e ∙ h.number_is ∙ first_one checks k number f a, ap added_place e ∙ h.place_is ∙ sym b)
  first-refused number place (accepted f e) a b = absurd (not-both checks number a f)

  accepted_all : (start : ℕ) → AddedIs → added_number (added p s) ≡ 0 → added_start (added p s) ≡ start → NoneFails checks × (start ≡ end)
  accepted_all start (refused k f r e h l) a b = absurd (number_some r (sym (ap added_number e) ∙ a))
  accepted_all start (accepted f e) a b = (f, sym b ∙ ap added_start e)

  all_accepted : (start : ℕ) → AddedIs → NoneFails checks → start ≡ end → (added_number (added p s) ≡ 0) × (added_start (added p s) ≡ start)
  all_accepted start (refused k f r e h l) a b = absurd (not-both checks k f a)
  all_accepted start (accepted f e) a b = (ap added_number e, ap added_start e ∙ sym b)

  -- the payload with one plot more
  one_more : added_number (added p s) ≡ 0 → Contains (payload_with p s) (plots ++ p ∷ [])
  one_more z =
      let e : added p s ≡ Ok (added_start (added p s)) = added-at (added p s) z in
      let is = contains_form s plots c in
      let m = more-plots (length s) plots p (added_start (added p s)) c.rising (contains-fits s plots c) c.short (ap (added p) (sym is) ∙ e) in
      subst (λ (t : List ℕ). Contains t (plots ++ p ∷ [])) (sym (ap (payload_with p) is ∙ write_one-more (length s) plots p m.0 m.1 c.short))
      (contains_of (length s) (plots ++ p ∷ []) c.short m.0 m.1)

  abbrev Kept : List ℕ → Type 0
  Kept t = (length t ≡ length s) × ((i : ℕ) → (i < end) ⊎ (end + length (record_of p) ≤ i) → get_or t i 0 ≡ get_or s i 0)

  kept : AddedIs → Kept (payload_with p s)
  unfolding payload_after
  kept (refused k f r e h l) = rw e (refl, λ i o. refl)
  kept (accepted f e) =
      let t = taken s p end e in
      rw e (put-length s (record_of p) end t.space, put_others s (record_of p) end t.space)

  pub adding_to : AddingTo p s plots
  adding_to = record {
    refused = λ number place z. ((λ h. refused-first number place z added_is h.0 h.1), λ h. first-refused number place added_is h.0 h.1);
    accepted = λ start. ((λ h. accepted_all start added_is h.0 h.1), λ h. all_accepted start added_is h.0 h.1);
    written = one_more;
    others = (kept added_is).1;
    size = (kept added_is).0;
  }

pub adding_exactly : (p : Plot) (s : List ℕ) → AddingExactly p s
adding_exactly p s = record {
  payload = λ h.
      let r = stopped_of s h in
      let e = sym (added_stopped s p r.0 r.1) in
      let k = checks_stopped s r.0 r.1 in
      (ap added_number e ∙ sym (ap payload_number k), ap added_place e ∙ sym (ap payload_place k));
  plot = λ plots c. adding_to p s plots c;
  unchanged = λ h.
      let r = refused_as (added p s) h in
      sym (left_as_was s p r.0 r.1);
  unset = (place_unset (added p s), value_unset _ (added p s));
}
