-- The cases of an entry, over plain values: refusal 1, refusal 2, and what the register gives for an accepted block.
use mathlib.Core.Path.{◌≡◌, refl, sym, ap, ap₂, ◌∙◌}
use mathlib.Core.Bool.{Bool, true, false}
use Rattle.std.specs.Prelude.{Ok, Err}
use mathlib.Core.List.{List, [], ◌++◌}
use Prim.Native.Nat.{ℕ, ◌+◌, ◌-◌, ◌≤◌, ◌<◌, min, zero-le}
use native.Mathlib.Nat.{min-eq_left, min-eq_right, le_of_eq}
use mathlib.Core.Logic.{⊎_elim}
use Rattle.lists.proofs.Test.{lt-or_ge, both_true}
use native.Mathlib.Omega.{arith}
use lib.Dec.{eqb}
use lib.ListN.{length, get_or, take, drop, replicate, take-append-drop, length-drop, drop_of_length-le}
use lib.Seq.{length-take-le, take_all, take_at, get_or-append-add}
use borrow.Author.Tests.{eqb-true, eq-eqb, ne_eqb, le-leb}
use Rattle.lists.specs.Choice.{pick, both}
use Rattle.lists.specs.Bytes.{Bytes}
use Rattle.code.specs.Poly.{padd}
use Rattle.code.specs.Code.{generator, remainder}
use Rattle.code.specs.Run.{ZeroFrom, shifted_remainder}
use Rattle.block.specs.Numbers.{Verdict, verdict_start}
use Rattle.code.specs.Search.{extent}
use Rattle.lists.proofs.Bytes.{take-bytes, drop-bytes}
use Rattle.code.proofs.Poly.{get_or_zeros, padd-zeros}
use Rattle.code.proofs.Division.{remainder-length}
use Rattle.code.proofs.Split.{remainder-short}
use Rattle.words.specs.Cells.{pad_to}
use Rattle.register.specs.Register.{on_top, feeds, monic_of, back_generator}
use Rattle.words.proofs.Pad.{pad_length, pad_more, pad_zeros, pad_sum, pad_is}
use Rattle.register.proofs.Align.{drop_top}
use Rattle.register.proofs.Forward.{feeds_top}
use Rattle.register.proofs.Generator.{monic_generator}
use Rattle.words.proofs.LastCell.{extent_pad}
use Rattle.register.proofs.Remainder.{remainder-feeds, check-cells}
use Rattle.profile.specs.Profile.{InRange, in_range, message_length}
use Rattle.block.specs.Block.{check_cells, encode, is_clean, judged, verdict, filled, read_remainder, check_answer, write_fits, write_answer, write_leaves, correct_fits, correct_answer, correct_leaves, look_answer, look_error}
use Rattle.block.specs.Found.{generator_on_top, shifted_at}
use Rattle.block.specs.declared.numbers.Refusal.TheVariants as refusals
use Rattle.profile.specs.declared.Profile.{Profile}
use Rattle.profile.proofs.Refusing.{refuse_one, refuse_two, accept}
use Rattle.block.proofs.Encoding.{check-length}

-- ---- lengths

pub both_right_length : (a b m n : ℕ) → a ≡ m → b ≡ n → both (eqb a m) (eqb b n) ≡ true
both_right_length a b m n e f = rw (eq-eqb a m e, eq-eqb b n f)

-- ---- what the register gives

module _ (p : Profile) (v : InRange p) where
  whole : min p.r 64 ≡ p.r
  whole = min-eq_left v.r_most

  -- the generator for division is made with all of its r cells
  pub generator_law : (G : List ℕ) → G ≡ on_top (min p.r 64) (take (min p.r 64) (generator p.b (min p.r 64))) → G ≡ generator_on_top p
  generator_law G e = e ∙ ap (λ (k : ℕ). on_top k (take k (generator p.b k))) whole

  -- and gives that of the step back
  pub back_generator_law : (G B : List ℕ) → G ≡ generator_on_top p → B ≡ pad_to 64 (back_generator (monic_of (min p.r 64) G)) → B ≡ pad_to 64 (back_generator (generator p.b p.r))
  back_generator_law G B eG eB =
      eB
      ∙ ap₂ (λ (k : ℕ) (u : List ℕ). pad_to 64 (back_generator (monic_of k u))) whole eG
      ∙ ap (λ (g : List ℕ). pad_to 64 (back_generator g)) (monic_generator p.b p.r)

  pub checks_law : (m G X Z : List ℕ) → Bytes m → G ≡ generator_on_top p → X ≡ feeds 64 G m → Z ≡ pad_to 64 (drop (64 - min p.r 64) X) → Z ≡ pad_to 64 (check_cells p.b p.r m)
  unfolding check_cells
  checks_law m G X Z h eG eX eZ =
      let g : List ℕ = generator p.b p.r in
      eZ ∙ ap₂ (λ (k : ℕ) (u : List ℕ). pad_to 64 (drop (64 - k) u)) whole (eX ∙ ap (λ (u : List ℕ). feeds 64 u m) eG ∙ feeds_top p.r g m v.r_most)
      ∙ ap (pad_to 64) (drop_top p.r (feeds p.r g m) ∙ sym (check-cells p.b p.r (omega (arith, v.r_least)) m (omega (arith, v.r_most)) h))

  -- the lowest cells, r of them where there are as many, plus the check cells of those above
  module _ (y Z L C : List ℕ) (h : Bytes y) where
    long_law : p.r ≤ length y → L ≡ pad_to 64 (take p.r y) → C ≡ pad_to 64 (check_cells p.b p.r (take (length y - p.r) (drop p.r y)))
        → Z ≡ padd L C → Z ≡ pad_to 64 (remainder p.r (generator p.b p.r) y)
    unfolding check_cells
    long_law l eL eC eZ =
        let r : ℕ = p.r in
        let g : List ℕ = generator p.b r in
        let pos : 0 < r = omega (arith, v.r_least) in
        let low : length (take r y) ≡ r = length-take-le r y l in
        let whole : take (length y - r) (drop r y) ≡ drop r y = take_all (length y - r) (drop r y) (omega (arith, length-drop r y)) in
        eZ ∙ ap₂ padd eL (eC ∙ ap (λ (m : List ℕ). pad_to 64 (check_cells p.b r m)) whole) ∙ pad_sum 64 (take r y) _
        ∙ ap (pad_to 64)
        (ap (padd (take r y)) (check-cells p.b r pos (drop r y) (omega (arith, v.r_most)) (drop-bytes r y h))
        ∙ sym (remainder-feeds p.b r pos (drop r y) (take r y) (omega (arith, v.r_most)) low (take-bytes r y h) (drop-bytes r y h))
        ∙ ap (remainder r g) (take-append-drop r y))

    short_law : length y ≤ p.r → L ≡ pad_to 64 (take (length y) y) → C ≡ pad_to 64 (check_cells p.b p.r (take (length y - length y) (drop (length y) y)))
        → Z ≡ padd L C → Z ≡ pad_to 64 (remainder p.r (generator p.b p.r) y)
    unfolding check_cells
    short_law l eL eC eZ =
        let r : ℕ = p.r in
        let none : drop (length y) y ≡ [] = drop_of_length-le y (le_of_eq refl) in
        let zeros : C ≡ replicate 64 0 =
        eC ∙ ap (λ (m : List ℕ). pad_to 64 (check_cells p.b r (take (length y - length y) m))) none
        ∙ ap (λ (m : List ℕ). pad_to 64 (check_cells p.b r m)) (take_all (length y - length y) [] zero-le)
        ∙ ap (pad_to 64) (check-cells p.b r (omega (arith, v.r_least)) [] (omega (arith, v.r_most)) tt)
        ∙ unfold feeds in pad_zeros 64 r in
        eZ ∙ ap₂ padd (eL ∙ ap (pad_to 64) (take_all (length y) y (le_of_eq refl))) zeros ∙ padd-zeros (pad_to 64 y) 64 (le_of_eq (sym (pad_length 64 y)))
        ∙ sym (pad_more 64 (r - length y) y) ∙ ap (pad_to 64) (sym (remainder-short p.b r y (omega (arith, v.r_most)) h l))

    pub remainder_law : (k : ℕ) → k ≡ min p.r (length y) → L ≡ pad_to 64 (take k y) → C ≡ pad_to 64 (check_cells p.b p.r (take (length y - k) (drop k y)))
        → Z ≡ padd L C → Z ≡ pad_to 64 (remainder p.r (generator p.b p.r) y)
    remainder_law k e eL eC eZ =
        ⊎_elim
        (λ l. let q : k ≡ length y = e ∙ min-eq_right (let m : length y ≤ p.r = omega arith in m) in short_law (omega arith) (rw q at eL) (rw q at eC) eZ)
        (λ l. let q : k ≡ p.r = e ∙ min-eq_left l in long_law l (rw q at eL) (rw q at eC) eZ)
        (lt-or_ge (length y) p.r)

  rem_short : (y : List ℕ) → length (remainder p.r (generator p.b p.r) y) ≤ 64
  rem_short y = omega (arith, remainder-length p.r p.b y, v.r_most)

  -- a block is clean exactly if the register of its remainder is zero
  pub zero_clean : (y Z : List ℕ) (t : Bool) → Z ≡ pad_to 64 (remainder p.r (generator p.b p.r) y) → t ≡ eqb (extent Z) 0 → t ≡ is_clean p.b p.r y
  unfolding is_clean
  zero_clean y Z t eZ q = q ∙ ap (λ (k : ℕ). eqb k 0) (ap extent eZ ∙ extent_pad 64 (remainder p.r (generator p.b p.r) y) (rem_short y))

  -- the written block is the check cells and the message
  pub encode_law : (m C : List ℕ) → C ≡ pad_to 64 (check_cells p.b p.r m) → take p.r C ++ m ≡ encode p.b p.r m
  unfolding encode
  encode_law m C e =
      let l : length (check_cells p.b p.r m) ≡ p.r = check-length p.b p.r m in
      ap (λ (u : List ℕ). u ++ m) (ap (take p.r) (e ∙ pad_is 64 (check_cells p.b p.r m) (omega (arith, v.r_most))) ∙ take_at (check_cells p.b p.r m) _ p.r l)

  -- the register of a remainder holds it in its lowest r cells
  pub remainder-cells : (y Z : List ℕ) → Z ≡ pad_to 64 (remainder p.r (generator p.b p.r) y)
      → (ZeroFrom p.r Z) × (take p.r Z ≡ remainder p.r (generator p.b p.r) y)
  remainder-cells y Z e =
      let R : List ℕ = remainder p.r (generator p.b p.r) y in
      let l : length R ≡ p.r = remainder-length p.r p.b y in
      let q : Z ≡ R ++ replicate (64 - length R) 0 = e ∙ pad_is 64 R (rem_short y) in (
        (λ k m.
            let i : length R + (k - p.r) ≡ k = omega arith in
            ap₂ (λ (c : List ℕ) (j : ℕ). get_or c j 0) q (sym i) ∙ get_or-append-add R (replicate (64 - length R) 0) (k - p.r) 0 ∙ get_or_zeros (64 - length R) (k - p.r)),
        ap (take p.r) q ∙ take_at R _ p.r l,
      )

-- ---- the remainder

module _ (p : Profile) (y : List ℕ) where
  pub remainder-rest : in_range p ≡ true → length y ≡ p.n → (Z : List ℕ) → Z ≡ pad_to 64 (remainder p.r (generator p.b p.r) y) → Z ≡ read_remainder p y
  unfolding read_remainder
  remainder-rest v h Z e = e ∙ accept p _ _ _ _ v (eq-eqb _ _ h)

-- ---- the checker

module _ (p : Profile) (y : List ℕ) where
  pub check-rest : in_range p ≡ true → length y ≡ p.n → (a : Bool) → is_clean p.b p.r y ≡ a → Ok a ≡ check_answer p y
  unfolding check_answer
  check-rest v h a e = ap (λ (b : Bool). Ok b) (sym e) ∙ accept p _ _ _ _ v (eq-eqb _ _ h)

-- ---- the writer

module _ (p : Profile) (m out : List ℕ) where
  pub write_done : in_range p ≡ true → write_fits p m out ≡ true → ((Ok tt) ≡ write_answer p m out) × (encode p.b p.r m ≡ write_leaves p m out)
  unfolding write_answer write_leaves
  write_done v f = (accept p _ _ _ _ v f, accept p _ _ _ _ v f)

  pub write_fits_lem : length m ≡ message_length p → length out ≡ p.n → write_fits p m out ≡ true
  unfolding write_fits
  write_fits_lem e f = both_right_length _ _ _ _ e f

-- ---- the look

module _ (p : Profile) (y : List ℕ) where
  pub look_one : in_range p ≡ false → (Err refusals.BadProfile) ≡ look_answer p y
  unfolding look_answer
  look_one e = refuse_one p _ _ _ _ e

  pub look_two : in_range p ≡ true → (length y ≡ p.n → ⊥) → (Err refusals.WrongLength) ≡ look_answer p y
  unfolding look_answer
  look_two v h = refuse_two p _ _ _ _ v (ne_eqb _ _ h)

  pub look_rest : in_range p ≡ true → length y ≡ p.n → (a : Verdict) → a ≡ verdict p y → a ≡ look_answer p y
  unfolding look_answer
  look_rest v h a e = e ∙ accept p _ _ _ _ v (eq-eqb _ _ h)

  pub error-rest : in_range p ≡ true → length y ≡ p.n → (E : List ℕ) → E ≡ pad_to 64 (shifted_remainder p.b p.r (verdict_start (verdict p y)) y) → E ≡ look_error p y
  unfolding look_error
  error-rest v h E q = q ∙ accept p _ _ _ _ v (eq-eqb _ _ h)

  module _ (v : in_range p ≡ true) (h : length y ≡ p.n) (s : ℕ) (E : List ℕ) where
    pub at_rest : s ≤ p.n → E ≡ pad_to 64 (shifted_remainder p.b p.r s y) → E ≡ shifted_at p y s
    unfolding shifted_at
    at_rest l q =
        q ∙ ap (λ (b : Bool). pick b (pad_to 64 (shifted_remainder p.b p.r s y)) (replicate 64 0)) (sym (le-leb s p.n l)) ∙ accept p _ _ _ _ v (eq-eqb _ _ h)

-- the verdict is judged from the register of the remainder
pub verdict-from : (p : Profile) (y R : List ℕ) (a : Verdict) → R ≡ remainder p.r (generator p.b p.r) y → a ≡ judged p R → a ≡ verdict p y
unfolding verdict
verdict-from p y R a e q = q ∙ ap (judged p) e

-- ---- the corrector

-- the test of the lengths reads n of the profile
pub same-fits : (p q : Profile) (y out : List ℕ) → p.n ≡ q.n → correct_fits p y out ≡ correct_fits q y out
unfolding correct_fits
same-fits p q y out e = rw e

module _ (p : Profile) (y out : List ℕ) where
  pub correct_rest : in_range p ≡ true → correct_fits p y out ≡ true → (a : Verdict) (o : List ℕ) → a ≡ verdict p y → o ≡ filled p y out (verdict p y)
      → (a ≡ correct_answer p y out) × (o ≡ correct_leaves p y out)
  unfolding correct_leaves
  correct_rest v f a o ea eo =
      let q : verdict p y ≡ correct_answer p y out = unfold correct_answer in accept p (correct_fits p y out) (Err refusals.BadProfile) (Err refusals.WrongLength) (verdict p y) v f in
      (ea ∙ q, eo ∙ ap (filled p y out) q)

  pub correct_fits_lem : length y ≡ p.n → length out ≡ p.n → correct_fits p y out ≡ true
  unfolding correct_fits
  correct_fits_lem e f = both_right_length _ _ _ _ e f

  pub read_right : correct_fits p y out ≡ true → length y ≡ p.n
  unfolding correct_fits
  read_right w = eqb-true _ _ (both_true (eqb (length y) p.n) (eqb (length out) p.n) w).0
