-- Which answers are refusals, told by the number: no refusal has the number 0. And what it is for an answer to be the refusal of a number at a place, and to name a
-- line or none.
use Prim.Native.Nat.{ℕ}
use native.Mathlib.Omega.{arith}
use mathlib.Core.Path.{◌≡◌, refl}
use mathlib.Core.Logic.{◌≢◌}
use Rattle.std.specs.Prelude.{Result, Ok, Err}
use Rattle.answers.specs.Numbers.{or_zero, value_or_zero}
use Rattle.plot.specs.declared.Refusal.{Refusal}
use Rattle.plot.specs.declared.Refusal.TheVariants.{WrongLength, BadMark, CutShort, BadTally, PlotOrder, NoSuchPlot, Full}
use Rattle.plot.specs.Answers.{Added}
use Rattle.plot.specs.Numbers.{number_of, place_of, figure_of, index_of, added_number, added_start}

pub number_some : (r : Refusal) → number_of r ≢ 0
number_some WrongLength e = omega arith
number_some (BadMark place) e = omega arith
number_some (CutShort place) e = omega arith
number_some (BadTally place line) e = omega arith
number_some (PlotOrder place) e = omega arith
number_some NoSuchPlot e = omega arith
number_some (Full place) e = omega arith

-- an answer that is accepted with a value of the type A, or refused
module _ {A : Type 0} where
  pub refused_as : (a : Result A Refusal) → or_zero number_of a ≢ 0 → (r : Refusal) × (a ≡ Err r)
  refused_as (Ok x) h = absurd (h refl)
  refused_as (Err r) h = (r, refl)

  -- a value that an answer does not have is 0
  pub place_unset : (a : Result A Refusal) → or_zero number_of a ≡ 0 → or_zero place_of a ≡ 0
  place_unset (Ok x) e = refl
  place_unset (Err r) e = absurd (number_some r e)

  pub value_unset : (f : A → ℕ) (a : Result A Refusal) → or_zero number_of a ≢ 0 → value_or_zero f a ≡ 0
  value_unset f (Ok x) h = absurd (h refl)
  value_unset f (Err r) h = refl

pub added-at : (a : Added) → added_number a ≡ 0 → a ≡ Ok (added_start a)
added-at (Ok start) e = refl
added-at (Err r) e = absurd (number_some r e)

pub record Refuses (at : ℕ) (r : Refusal) (number : ℕ) : Type 0 where
  pub number_is : number_of r ≡ number
  pub place_is : place_of r ≡ at

-- a refusal that names no line
abbrev pub NoLine : Refusal → Type 0
NoLine r = (figure_of r ≡ 0) × (index_of r ≡ 0)

-- a bad tally at a place, with its figure and its line
abbrev pub Tells : Refusal → ℕ → ℕ → ℕ → Type 0
Tells r place figure index = (number_of r ≡ 7) × (place_of r ≡ place) × (figure_of r ≡ figure) × (index_of r ≡ index)

-- where the fault of a refusal lies: in a line, which fails as `Bad` says, or in none
pub data LineOf (Bad : ℕ → ℕ → Type 0) (r : Refusal) : Type 0 where
  in_line : number_of r ≡ 7 → Bad (figure_of r) (index_of r) → LineOf Bad r
  in_none : NoLine r → ((f i : ℕ) → Bad f i → ⊥) → LineOf Bad r

-- an answer is a refusal here, that names no line
module _ {A : Type 0} (at : ℕ) where
  abbrev pub AnswerRefuses : Result A Refusal → ℕ → Type 0
  AnswerRefuses a number = (r : Refusal) × (a ≡ Err r) × Refuses at r number × NoLine r

  pub refuse : (r : Refusal) → place_of r ≡ at → NoLine r → AnswerRefuses (Err r) (number_of r)
  refuse r e o = (r, refl, record { number_is = refl; place_is = e }, o)
