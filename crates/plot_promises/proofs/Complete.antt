-- Records as written are read back: from plots that hold and rise the reading goes on to what stands after them, and gives those plots if that is zeros, or
-- stops there. By induction on the plots: each record passes every check of its step.
use Prim.Native.Nat.{ℕ, zero, suc, ◌+◌, ◌*◌, ◌-◌, ◌<◌, ◌≤◌}
use native.Mathlib.Omega.{arith}
use native.Mathlib.Nat.{mod-add-div', add-zero, zero-add}
use mathlib.Core.Path.{◌≡◌, refl, sym, ap, ◌∙◌}
use mathlib.Core.Bool.{true}
use mathlib.Core.List.{List, [], ◌∷◌, ◌++◌, append_assoc}
use Rattle.std.specs.Prelude.{Some, None, Ok}
use lib.ListN.{length, drop, replicate, length-append, length-replicate}
use lib.Seq.{take_at, drop_at}
use Rattle.plot.specs.declared.Cursor.{Cursor}
use Rattle.plot.specs.declared.Refusal.{Refusal}
use Rattle.plot.specs.declared.Record.{Record}
use Rattle.plot.specs.Layout.{Plot, mark, header_length, plot_of, record_length, no_line, lines_check, lines_of, record_of, bytes_of}
use Rattle.plot.specs.Grammar.{all_zero, agree, head_at, step_at, Parsed, Plots, Stopped, onto, read_from, longest, reading}
use Rattle.plot.specs.Answers.{last_number}
use Rattle.plot_promises.specs.Canonical.{PlotHolds, Rising}
use Rattle.plot.proofs.Cases.{head_record, read-end, read_on, reading-short}
use Rattle.plot.proofs.Lines.{check_prefix}
use Rattle.plot_promises.proofs.Lines.{held_check, lines_hold_iff}
use Rattle.plot_promises.proofs.Sound.{payload_of}

all-zeros : (n : ℕ) → all_zero (replicate n 0) ≡ true
unfolding all_zero
all-zeros zero = refl
all-zeros (suc n) = all-zeros n

step-zeros : (at n : ℕ) → step_at at (replicate n 0) ≡ Ok None
unfolding step_at all_zero
step-zeros at zero = refl
step-zeros at (suc n) = rw (all-zeros n)

-- a record as written, with anything after it
module _ (at : ℕ) (p : Plot) (h : PlotHolds p) (rest : List ℕ) where
  abbrev after : Cursor
  after = record { at = at + record_length (lines_of p); last = p.number }

  abbrev written : Record
  written = record { lines = at + header_length; count = lines_of p; next = after }

  size : length (record_of p) ≡ record_length (lines_of p)
  size =
      let t : lines_of p * 3 ≡ length p.lines = h.threes in
      omega arith

  long : record_length (lines_of p) ≤ length (record_of p ++ rest)
  long = omega (arith, size, length-append (record_of p) rest)

  number : plot_of (record_of p ++ rest) ≡ p.number
  number = mod-add-div' p.number 256

  marked : agree mark (record_of p ++ rest) ≡ true
  unfolding agree
  marked = refl

  first : head_at at (record_of p ++ rest) ≡ step_at at (record_of p ++ rest)
  unfolding step_at
  first = refl

  pub step-written : step_at at (record_of p ++ rest) ≡ Ok (Some written)
  step-written =
      sym first
      ∙ sym (head_record at (record_of p ++ rest) marked (omega (arith, long)) h.few long (λ z. h.some (sym number ∙ z)))
      ∙ ap (λ (n : ℕ). Ok (Some (record { lines = at + header_length; count = lines_of p; next = record { at = at + record_length (lines_of p); last = n } }))) number

  lines-written : lines_check no_line 0 (lines_of p) (p.lines ++ rest) ≡ Ok tt
  lines-written =
      let t : lines_of p * 3 ≡ length p.lines = h.threes in
      check_prefix (lines_of p) no_line 0 p.lines rest (omega arith) ∙ held_check no_line (lines_of p) p.lines ((lines_hold_iff (lines_of p) p.lines).1 h.hold)

  pub read-written : (f last : ℕ) → 0 < f → last < p.number
      → read_from f at last (record_of p ++ rest) ≡ onto p (read_from (f - 1) (at + length (record_of p)) p.number rest)
  read-written f last g r =
      read_on at last (record_of p ++ rest) written step-written lines-written f g r
      ∙ ap (λ (l : List ℕ). onto (record { number = p.number; lines = l }) (read_from (f - 1) (at + record_length (lines_of p)) p.number (drop (record_length (lines_of p)) (record_of p ++ rest))))
      (take_at p.lines rest (lines_of p * 3) (sym h.threes))
      ∙ ap (λ (t : List ℕ). onto p (read_from (f - 1) (at + record_length (lines_of p)) p.number t)) (drop_at (record_of p) rest (record_length (lines_of p)) size)
      ∙ ap (λ (n : ℕ). onto p (read_from (f - 1) (at + n) p.number rest)) (sym size)

-- plots before the plots of a reading
abbrev onto_all : List Plot → Parsed → Parsed
onto_all [] q = q
onto_all (p ∷ ps) q = onto p (onto_all ps q)

all-plots : (ps : List Plot) (end : ℕ) → onto_all ps (Plots [] end) ≡ Plots ps end
all-plots [] end = refl
all-plots (p ∷ ps) end = ap (onto p) (all-plots ps end)

all_stopped : (ps : List Plot) (r : Refusal) → onto_all ps (Stopped r) ≡ Stopped r
all_stopped [] r = refl
all_stopped (p ∷ ps) r = ap (onto p) (all_stopped ps r)

-- the reading goes on after these records, with steps enough
module _ (rest : List ℕ) where
  pub record GoesOn (ps : List Plot) (f at last : ℕ) : Type 0 where
    pub steps : ℕ
    pub enough : length rest ≤ steps
    pub reads : read_from f at last (bytes_of ps ++ rest) ≡ onto_all ps (read_from steps (at + length (bytes_of ps)) (last_number last ps) rest)

  pub past_plots : (ps : List Plot) (f at last : ℕ) → Rising last ps → length (bytes_of ps) + length rest ≤ f → GoesOn ps f at last
  past_plots [] f at last r h =
      let g : 0 + length rest ≤ f = h in
      record { steps = f; enough = omega arith; reads = ap (λ (n : ℕ). read_from f n last rest) (sym (add-zero at)) }
  past_plots (p ∷ ps) f at last r h =
      let n : length (record_of p ++ bytes_of ps) ≡ length (record_of p) + length (bytes_of ps) = length-append (record_of p) (bytes_of ps) in
      let g : length (record_of p ++ bytes_of ps) + length rest ≤ f = h in
      let e : at + length (record_of p) + length (bytes_of ps) ≡ at + length (record_of p ++ bytes_of ps) = omega arith in
      let i : GoesOn ps (f - 1) (at + length (record_of p)) p.number = past_plots ps (f - 1) (at + length (record_of p)) p.number r.2 (omega arith) in
      record {
        steps = i.steps;
        enough = i.enough;
        reads =
            ap (read_from f at last) (append_assoc (record_of p) (bytes_of ps) rest)
            ∙ read-written at p r.0 (bytes_of ps ++ rest) f last (omega arith) r.1
            ∙ ap (onto p) i.reads
            ∙ ap (λ (k : ℕ). onto_all (p ∷ ps) (read_from i.steps k (last_number p.number ps) rest)) e;
      }

-- a payload of plots: its length, and its reading
module _ (size : ℕ) (ps : List Plot) (fits : length (bytes_of ps) ≤ size) where
  abbrev zeros : ℕ
  zeros = size - length (bytes_of ps)

  zeros-length : length {A = ℕ} (replicate zeros 0) ≡ zeros
  zeros-length = length-replicate zeros 0

  pub payload-length : length (payload_of size ps) ≡ size
  payload-length = omega (arith, zeros-length, length-append (bytes_of ps) (replicate zeros 0))

  pub reading_complete : size ≤ longest → Rising 0 ps → reading (payload_of size ps) ≡ Plots ps (length (bytes_of ps))
  reading_complete l r =
      let g = past_plots (replicate zeros 0) ps (length (payload_of size ps)) 0 0 r (omega (arith, payload-length, zeros-length)) in
      reading-short (payload_of size ps) (rw payload-length l)
      ∙ g.reads
      ∙ ap (onto_all ps) (read-end _ _ (replicate zeros 0) g.steps (step-zeros _ zeros))
      ∙ all-plots ps (0 + length (bytes_of ps))
      ∙ ap (Plots ps) (zero-add (length (bytes_of ps)))

-- plots, then bytes at which the reading stops
pub stops_past : (P : Refusal → Type 0) (ps : List Plot) (rest : List ℕ) → length (bytes_of ps ++ rest) ≤ longest → Rising 0 ps
    → ((f : ℕ) → length rest ≤ f → (r : Refusal) × (read_from f (length (bytes_of ps)) (last_number 0 ps) rest ≡ Stopped r) × P r)
    → (r : Refusal) × (reading (bytes_of ps ++ rest) ≡ Stopped r) × P r
stops_past P ps rest l r x =
    let s = bytes_of ps ++ rest in
    let g = past_plots rest ps (length s) 0 0 r (omega (arith, length-append (bytes_of ps) rest)) in
    let y = x g.steps g.enough in
    let z : read_from g.steps (0 + length (bytes_of ps)) (last_number 0 ps) rest ≡ Stopped y.0 =
    ap (λ (n : ℕ). read_from g.steps n (last_number 0 ps) rest) (zero-add (length (bytes_of ps))) ∙ y.1 in
    (y.0, reading-short s l ∙ g.reads ∙ ap (onto_all ps) z ∙ all_stopped ps y.0, y.2)
