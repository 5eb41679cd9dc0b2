-- What the search's state says is the verdict; and the shifted remainder in a register, by steps back from the remainder or in two parts.
use Rattle.lists.proofs.Test.{true_false}
use mathlib.Core.Path.{◌≡◌, refl, sym, ap, ap₂, ◌∙◌}
use mathlib.Core.Bool.{Bool, true, false}
use Rattle.std.specs.Prelude.{Ok, Err, is_err}
use mathlib.Core.List.{List}
use Prim.Native.Nat.{ℕ, ◌-◌, ◌≤◌, ◌<◌}
use native.Mathlib.Omega.{arith}
use lib.Dec.{eqb}
use lib.ListN.{length, take, drop, replicate, length-drop}
use lib.Seq.{length-take-le, take_all}
use Rattle.lists.specs.Choice.{pick}
use Rattle.code.specs.Run.{ZeroFrom, back_steps, shifted_remainder}
use Rattle.code.specs.Code.{generator, remainder, weight}
use Rattle.code.specs.Search.{extent}
use Rattle.code.proofs.Generator.{generator-length}
use Rattle.code.proofs.Division.{remainder-length}
use Rattle.code.specs.Poly.{padd}
use Rattle.code.proofs.Shifted.{back_steps-length}
use Rattle.code.proofs.Split.{back_fed, shifted_parts}
use Rattle.register.specs.Register.{back_generator, feeds_back}
use Rattle.register.proofs.Backward.{divided_back}
use Rattle.lists.specs.Bytes.{Bytes}
use Rattle.words.specs.Cells.{pad_to}
use Rattle.words.proofs.Pad.{take_pad, pad_sum, weight_pad}
use Rattle.words.proofs.LastCell.{extent_pad}
use Rattle.register.specs.Words.{cells}
use Rattle.register.specs.declared.Register.{Register}
use Rattle.register.proofs.Cells.{cells-length}
use Rattle.profile.specs.Profile.{InRange}
use Rattle.block.specs.Block.{run_verdict, decided, judged, look_answer, look_error}
use Rattle.block.specs.Found.{decided_by, Searched, JudgedFrom}
use Rattle.profile.specs.declared.Profile.{Profile}
use Rattle.block.specs.declared.search.Found.{Found}
use Rattle.block.specs.declared.numbers.Correction.TheVariants.{Run}
use Rattle.block.specs.declared.numbers.Refusal.TheVariants.{Uncorrectable, Ambiguous, Sparse}
use Rattle.block.specs.declared.Judgement.{Judgement}
use Rattle.block.specs.Numbers.{Verdict, verdict_start}
use Rattle.profile.specs.Profile.{in_range}
use Rattle.profile.proofs.Ranges.{in_range_lem}
use Rattle.block.proofs.Steps.{low_cells_of}
use Rattle.block.proofs.Entries.{remainder-cells, verdict-from, look_rest, error-rest}

-- ---- the start of what the search's state decides

refused_start : (w : Verdict) → is_err w ≡ true → verdict_start w ≡ 0
refused_start (Ok c) e = absurd (true_false e refl)
refused_start (Err r) e = refl

run_start : (long again few : Bool) (s f : ℕ) (w : Verdict) → w ≡ pick long (Err Uncorrectable) (pick again (Err Ambiguous) (pick few (Err Sparse) (Ok (Run s f)))) → is_err w ≡ false
    → verdict_start w ≡ s
run_start true again few s f w q e = absurd (true_false (ap is_err q) e)
run_start false true few s f w q e = absurd (true_false (ap is_err q) e)
run_start false false true s f w q e = absurd (true_false (ap is_err q) e)
run_start false false false s f w q e = ap verdict_start q

accepted_start : (p : Profile) (k : Found) (w : Verdict) → w ≡ decided_by p k → is_err w ≡ false → verdict_start w ≡ k.start
unfolding decided_by
accepted_start p k w q e = run_start _ _ _ _ _ w q e

-- ---- the verdict, from a register of which the lowest r cells are the remainder

module _ (p : Profile) (v : InRange p) (rest : Register) (z : ZeroFrom p.r (cells rest)) where
  abbrev C : List ℕ
  C = cells rest

  abbrev R : List ℕ
  R = take p.r C

  same-extent : extent C ≡ extent R
  same-extent =
      let lR : length R ≡ p.r = length-take-le p.r C (omega (arith, v.r_most, cells-length rest)) in
      ap extent (low_cells_of p.r C (cells-length rest) v.r_most z) ∙ extent_pad 64 R (omega (arith, v.r_most))

  -- at start 0 the shifted remainder is the remainder
  unshifted : C ≡ pad_to 64 (back_steps 0 (generator p.b p.r) R)
  unfolding back_steps
  unshifted = low_cells_of p.r C (cells-length rest) v.r_most z

  pub judged_clean : eqb (extent C) 0 ≡ true → JudgedFrom p R (record { verdict = Ok (Run 0 0); error = rest })
  unfolding judged
  judged_clean t = record { verdict = rw (← same-extent, t); error = unshifted }

  -- else it is what the search's state decides: the run that was found changes as many cells as the register at its start has that are not zero
  module _ (wrong : eqb (extent C) 0 ≡ false) (k : Found) (s : Searched p R k) where
    same-weight : weight (cells k.error) ≡ weight (back_steps k.start (generator p.b p.r) R)
    same-weight =
        let lR : length R ≡ p.r = length-take-le p.r C (omega (arith, v.r_most, cells-length rest)) in
        let S : List ℕ = back_steps k.start (generator p.b p.r) R in
        let lS : length S ≡ p.r = back_steps-length k.start p.r (generator p.b p.r) R (generator-length p.b p.r) lR in
        ap weight s.error ∙ weight_pad 64 S (omega (arith, v.r_most))

    says : decided_by p k ≡ judged p R
    unfolding judged decided run_verdict decided_by
    says = rw (← same-extent, wrong, ← s.best, same-weight)

    -- with the remainder beside a refusal, and the error that was found beside an accepted run
    pub judged_refused : (w : Verdict) → w ≡ decided_by p k → is_err w ≡ true → JudgedFrom p R (record { verdict = w; error = rest })
    judged_refused w q e = record {
      verdict = q ∙ says;
      error = unshifted ∙ ap (λ (i : ℕ). pad_to 64 (back_steps i (generator p.b p.r) R)) (sym (refused_start w e));
    }

    pub judged_accepted : (w : Verdict) → w ≡ decided_by p k → is_err w ≡ false → JudgedFrom p R (record { verdict = w; error = k.error })
    judged_accepted w q e = record {
      verdict = q ∙ says;
      error = s.error ∙ ap (λ (i : ℕ). pad_to 64 (back_steps i (generator p.b p.r) R)) (sym (accepted_start p k w q e));
    }

-- ---- a register E of which the lowest r cells are the shifted remainder at s

module _ (p : Profile) (v : InRange p) (y : List ℕ) (s : ℕ) where
  abbrev S : List ℕ
  S = shifted_remainder p.b p.r s y

  shifted_length : length S ≡ p.r
  unfolding shifted_remainder
  shifted_length = back_steps-length s p.r _ _ (generator-length p.b p.r) (remainder-length p.r p.b y)

  pub shifted_extent : (E : List ℕ) → E ≡ pad_to 64 S → extent E ≡ extent S
  shifted_extent E e = ap extent e ∙ extent_pad 64 S (omega (arith, shifted_length, v.r_most))

  pub shifted_take : (f : ℕ) (E : List ℕ) → E ≡ pad_to 64 S → f < p.r → take f E ≡ take f S
  shifted_take f E e l = ap (take f) e ∙ take_pad f 64 S (omega (arith, shifted_length)) (omega (arith, shifted_length, v.r_most))

-- ---- the shifted remainder

-- from the register of the remainder, as the search has it
pub shifted_from : (p : Profile) (y R E : List ℕ) (s : ℕ) → R ≡ remainder p.r (generator p.b p.r) y → E ≡ pad_to 64 (back_steps s (generator p.b p.r) R)
    → E ≡ pad_to 64 (shifted_remainder p.b p.r s y)
unfolding shifted_remainder
shifted_from p y R E s eR e = e ∙ ap (λ (u : List ℕ). pad_to 64 (back_steps s (generator p.b p.r) u)) eR

-- and from its two parts: the cells above and those below
pub shifted_law : (p : Profile) (v : InRange p) (y : List ℕ) (s : ℕ) → Bytes y → s ≤ length y → (G B A Z : List ℕ)
    → G ≡ pad_to 64 (back_generator (generator p.b p.r))
    → B ≡ feeds_back G (replicate 64 0) (take s y)
    → A ≡ pad_to 64 (remainder p.r (generator p.b p.r) (take (length y - s) (drop s y)))
    → Z ≡ padd A B → Z ≡ pad_to 64 (shifted_remainder p.b p.r s y)
shifted_law p v y s hy l G B A Z eG eB eA eZ =
    let g : List ℕ = generator p.b p.r in
    let whole : take (length y - s) (drop s y) ≡ drop s y = take_all (length y - s) (drop s y) (omega (arith, length-drop s y)) in
    let low : B ≡ pad_to 64 (back_fed g (replicate p.r 0) (take s y)) = divided_back p.b p.r (omega (arith, v.r_least)) v.r_most G B (take s y) eG eB in
    eZ ∙ ap₂ padd (eA ∙ ap (λ (u : List ℕ). pad_to 64 (remainder p.r g u)) whole) low ∙ pad_sum 64 _ _
    ∙ ap (pad_to 64) (shifted_parts p.b p.r s y (omega (arith, v.r_least)) (omega (arith, v.r_most)) hy l)

-- ---- a look, from the register C of the remainder

pub looked : (p : Profile) (y C : List ℕ) (z : Judgement) → in_range p ≡ true → length y ≡ p.n → C ≡ pad_to 64 (remainder p.r (generator p.b p.r) y) → JudgedFrom p (take p.r C) z
    → (z.verdict ≡ look_answer p y) × (cells z.error ≡ look_error p y)
looked p y C z t l e j =
    let R = (remainder-cells p ((in_range_lem p).0 t) y C e).1 in
    let q = verdict-from p y _ _ R j.verdict in (
      look_rest p y t l _ q,
      error-rest p y t l _ (shifted_from p y _ _ _ R j.error ∙ ap (λ (w : Verdict). pad_to 64 (shifted_remainder p.b p.r (verdict_start w) y)) q),
    )
