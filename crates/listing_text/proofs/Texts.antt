-- The texts line by line and plot by plot, as the loops write them: a line of a payload's record, and a record of an accepted payload.
use Prim.Native.Nat.{ℕ, suc, ◌+◌, ◌*◌, ◌-◌, ◌/◌, ◌≤◌, ◌<◌}
use native.Mathlib.Omega.{arith}
use mathlib.Core.Path.{◌≡◌, refl, sym, ap, ap₂, ◌∙◌}
use mathlib.Core.List.{List, [], ◌∷◌, ◌++◌, append-nil}
use Rattle.std.specs.Prelude.{Some, None, Ok, Err}
use lib.ListN.{length, take, drop, length-drop}
use Rattle.plot.specs.Layout.{Plot, header_length, record_length, line_of}
use Rattle.plot.specs.Grammar.{Step, step_at, Parsed, Plots, Stopped, read_from}
use Rattle.plot.specs.Numbers.{number_of, place_of}
use Rattle.plot.specs.declared.Refusal.{Refusal}
use Rattle.plot.specs.declared.Record.{Record}
use Rattle.plot.proofs.Accepts.{here, not_stopped}
use Rattle.plot.proofs.Cases.{read-end, read-refused, past_header, bounds, lines_here}
use Rattle.plot.proofs.Entries.{no_plots, go}
use Rattle.listing_text.specs.Text.{newline, field, header, mended, line_text, lines_text, plots_text, plot_lines, refusal_text, listing_text}

-- the first line, which has three bytes, and those after it; where there are fewer bytes there is none
pub lines_first : (plot : ℕ) (bytes rest : List ℕ) → length bytes ≡ 3
    → lines_text plot (length (bytes ++ rest) / 3) (bytes ++ rest) ≡ line_text plot (line_of bytes) ++ lines_text plot (length rest / 3) rest
unfolding lines_text
lines_first plot [] rest h = absurd (let z : 0 ≡ 3 = h in omega arith)
lines_first plot (x ∷ []) rest h = absurd (let z : ◌≡◌ {A = ℕ} 1 3 = h in omega arith)
lines_first plot (x ∷ y ∷ []) rest h = absurd (let z : ◌≡◌ {A = ℕ} 2 3 = h in omega arith)
lines_first plot (x ∷ y ∷ z ∷ []) rest h =
    let n : suc (suc (suc (length rest))) / 3 ≡ suc (length rest / 3) = omega arith in
    rw n refl
lines_first plot (x ∷ y ∷ z ∷ u ∷ bytes) rest h = absurd (let k : suc (suc (suc (suc (length bytes)))) ≡ 3 = h in omega arith)

pub lines_short : (plot : ℕ) (s : List ℕ) → length s < 3 → lines_text plot (length s / 3) s ≡ []
unfolding lines_text
lines_short plot s h =
    let z : length s / 3 ≡ 0 = omega arith in
    rw z

-- a record of an accepted payload, and the plots after it
module _ (s : List ℕ) (at last f : ℕ) (rec : Record) (e : step_at at (drop at s) ≡ Ok (Some rec)) (h : length s ≤ at + f)
    (ps : List Plot) (end : ℕ) (q : read_from f at last (drop at s) ≡ Plots ps end) where
  abbrev rest : List Plot
  rest = (go s at last f rec e h ps end q).rest

  abbrev lines : List ℕ
  lines = lines_here s at last f rec e

  lines_are : (here at last (drop at s) rec e).lines ≡ lines
  lines_are =
      let b = bounds s at last f rec e in
      let from : at + header_length ≡ rec.lines = b.lines_at in
      let past : at + record_length rec.count ≡ rec.next.at = b.past in
      let z : rec.count * 3 ≡ rec.next.at - rec.lines = omega arith in
      ap₂ take z (past_header at rec.lines s from)

  pub plots-next : plots_text ps ≡ lines_text rec.next.last (length lines / 3) lines ++ plots_text rest
  unfolding plots_text
  plots-next =
      ap plots_text (go s at last f rec e h ps end q).is
      ∙ ap (λ (t : List ℕ). lines_text rec.next.last (length t / 3) t ++ plots_text rest) lines_are

-- what stands at the place is no record: there are no more plots
pub plots_end : (s : List ℕ) (at last f : ℕ) → length s ≤ at + f → ((rec : Record) → step_at at (drop at s) ≡ Ok (Some rec) → ⊥)
    → (ps : List Plot) (end : ℕ) → read_from f at last (drop at s) ≡ Plots ps end → ps ≡ []
plots_end s at last f h none ps end q = by_step (step_at at (drop at s)) refl
  where
    by_step : (a : Step) → step_at at (drop at s) ≡ a → ps ≡ []
    by_step (Ok (Some rec)) e = absurd (none rec e)
    by_step (Ok None) e = no_plots _ _ _ (sym q ∙ read-end _ _ _ _ e)
    by_step (Err r) e =
        let l : length (drop at s) ≡ length s - at = length-drop at s in
        absurd (not_stopped _ _ _ _ (read-refused _ _ _ _ _ (omega arith) e) q)

-- and the text is what was put
pub text_done : (q : Parsed) (done : List ℕ) (ps : List Plot) → plot_lines q ≡ done ++ plots_text ps → ps ≡ [] → done ≡ plot_lines q
unfolding plots_text
text_done q done ps e none = sym (e ∙ rw none (append-nil done))

pub read-plots : (q : Parsed) (ps : List Plot) (end : ℕ) → q ≡ Plots ps end → plot_lines q ≡ plots_text ps
unfolding plot_lines
read-plots q ps end e = rw e

pub listing_plots : (changed : ℕ) (q : Parsed) (ps : List Plot) (end : ℕ) → q ≡ Plots ps end
    → header ++ (plot_lines q ++ (mended ++ field changed newline)) ≡ listing_text changed q
unfolding listing_text plot_lines
listing_plots changed q ps end e = rw e

pub listing_stopped : (changed : ℕ) (q : Parsed) (r : Refusal) → q ≡ Stopped r → refusal_text (number_of r) (place_of r) ≡ listing_text changed q
unfolding listing_text
listing_stopped changed q r e = rw e
