-- A fill's cases over plain values: the span, each refusal, and what is done. Each law gives the answer and what the second buffer holds. A fill by cells that
-- are the shifted remainder is the fill.
use mathlib.Core.Path.{◌≡◌, refl, sym, ap, ◌∙◌}
use mathlib.Core.Logic.{◌↔◌}
use mathlib.Core.Bool.{Bool, true, false}
use Rattle.std.specs.Prelude.{Ok, Err}
use mathlib.Core.List.{List}
use Prim.Native.Nat.{ℕ, ◌+◌, ◌≤◌, ◌<◌}
use native.Mathlib.Omega.{arith}
use lib.Dec.{leb, ltb}
use lib.ListN.{take}
use Rattle.code.specs.Run.{shifted_remainder, added_at}
use Rattle.code.specs.Search.{extent}
use Rattle.words.specs.Cells.{pad_to}
use borrow.Author.Tests.{lt-ltb, le-leb, ltb-true, leb-true}
use Rattle.lists.specs.Choice.{pick}
use Rattle.lists.proofs.Test.{both_true}
use Rattle.profile.specs.Profile.{InRange, in_range}
use Rattle.profile.specs.Refusals.{refusing}
use Rattle.profile.proofs.Refusing.{refuse_one, refuse_two, accept}
use Rattle.block.specs.Block.{correct_fits, is_span, is_within, run_word, filling, fill_answer, fill_leaves, fill_by_answer, fill_by_leaves}
use Rattle.profile.specs.declared.Profile.{Profile}
use Rattle.profile.proofs.Ranges.{in_range_lem}
use Rattle.block.specs.Found.{shifted_at}
use Rattle.block.proofs.Entries.{at_rest, read_right}
use Rattle.block.proofs.Outcome.{shifted_extent, shifted_take}
use Rattle.block.specs.Numbers.{Filled}
use Rattle.block.specs.declared.numbers.FillRefusal.TheVariants as fills

-- ---- the span

module _ (p : Profile) (s f : ℕ) where
  pub span_iff : (is_span p s f ≡ true) ↔ ((s + f ≤ p.n) × (f < p.r))
  unfolding is_span
  span_iff = (
    λ t. let z = both_true (leb (s + f) p.n) (ltb f p.r) t in (leb-true _ _ z.0, ltb-true _ _ z.1),
    λ z. rw (le-leb _ _ z.0, lt-ltb _ _ z.1),
  )

-- ---- the entries

by_tests : {A : Type 0} (valid fits within t u : Bool) (one two span none a b : A) → (valid ≡ true → fits ≡ true → within ≡ true → (t ≡ u) × (a ≡ b))
    → pick valid (pick fits (pick within (pick t a none) span) two) one ≡ pick valid (pick fits (pick within (pick u b none) span) two) one
by_tests true true true t u one two span none a b h = let z = h refl refl refl in rw (z.0, z.1)
by_tests true true false t u one two span none a b h = refl
by_tests true false within t u one two span none a b h = refl
by_tests false fits within t u one two span none a b h = refl

module _ (p : Profile) (y : List ℕ) (s f : ℕ) (out : List ℕ) where
  -- a refusal 1 or 2, for any five values
  refused-one : {A : Type 0} (w : Bool) (one two span none done : A) → in_range p ≡ false → one ≡ filling p y s f out w one two span none done
  unfolding filling
  refused-one w one two span none done e = refuse_one p _ _ _ _ e

  refused-two : {A : Type 0} (w : Bool) (one two span none done : A) → in_range p ≡ true → correct_fits p y out ≡ false → two ≡ filling p y s f out w one two span none done
  unfolding filling
  refused-two w one two span none done v e = refuse_two p _ _ _ _ v e

  -- past them
  past_two : {A : Type 0} (w : Bool) (one two span none done : A) → in_range p ≡ true → correct_fits p y out ≡ true → (x : Bool) → is_span p s f ≡ x
      → pick x (pick w done none) span ≡ filling p y s f out w one two span none done
  unfolding filling
  past_two w one two span none done v e x q = ap (λ (b : Bool). pick b (pick w done none) span) (sym q) ∙ accept p _ _ _ _ v e

  -- the fill
  pub fill_one : in_range p ≡ false → ((Err fills.BadProfile) ≡ fill_answer p y s f out) × (out ≡ fill_leaves p y s f out)
  unfolding fill_answer fill_leaves
  fill_one e = (refused-one _ _ _ _ _ _ e, refused-one _ _ _ _ _ _ e)

  module _ (v : in_range p ≡ true) where
    pub fill_two : correct_fits p y out ≡ false → ((Err fills.WrongLength) ≡ fill_answer p y s f out) × (out ≡ fill_leaves p y s f out)
    unfolding fill_answer fill_leaves
    fill_two w = (refused-two _ _ _ _ _ _ v w, refused-two _ _ _ _ _ _ v w)

    module _ (w : correct_fits p y out ≡ true) where
      pub fill_span : is_span p s f ≡ false → ((Err fills.BadSpan) ≡ fill_answer p y s f out) × (out ≡ fill_leaves p y s f out)
      unfolding fill_answer fill_leaves
      fill_span e = (past_two _ _ _ _ _ _ v w false e, past_two _ _ _ _ _ _ v w false e)

      pub fill_rest : is_span p s f ≡ true → (a : Filled) (o : List ℕ) → a ≡ pick (is_within p y s f) (Ok tt) (Err fills.NoCodeword) → o ≡ pick (is_within p y s f) (run_word p y s f) out
          → (a ≡ fill_answer p y s f out) × (o ≡ fill_leaves p y s f out)
      unfolding fill_answer fill_leaves
      fill_rest e a o ea eo = (ea ∙ past_two _ _ _ _ _ _ v w true e, eo ∙ past_two _ _ _ _ _ _ v w true e)

  -- ---- a fill by cells E that are the shifted remainder is the fill

  -- what a fill answers reads of its test and of what is done only where no refusal comes before
  same_filling : {A : Type 0} (t u : Bool) (one two span none a b : A)
      → (in_range p ≡ true → correct_fits p y out ≡ true → is_span p s f ≡ true → (t ≡ u) × (a ≡ b))
      → filling p y s f out t one two span none a ≡ filling p y s f out u one two span none b
  unfolding filling refusing
  same_filling t u one two span none a b h = by_tests (in_range p) (correct_fits p y out) (is_span p s f) t u one two span none a b h

  module _ (E : List ℕ) (e : in_range p ≡ true → correct_fits p y out ≡ true → is_span p s f ≡ true → E ≡ pad_to 64 (shifted_remainder p.b p.r s y)) where
    done_alike : in_range p ≡ true → correct_fits p y out ≡ true → is_span p s f ≡ true → (leb (extent E) f ≡ is_within p y s f) × (added_at s (take f E) y ≡ run_word p y s f)
    unfolding is_within
    done_alike v w x =
        let q = e v w x in
        let r : InRange p = (in_range_lem p).0 v in (
          ap (λ (k : ℕ). leb k f) (shifted_extent p r y s E q),
          ap (λ (u : List ℕ). added_at s u y) (shifted_take p r y s f E q ((span_iff p s f).0 x).1),
        )

    pub by_shifted : (fill_by_answer p y s f E out ≡ fill_answer p y s f out) × (fill_by_leaves p y s f E out ≡ fill_leaves p y s f out)
    unfolding fill_by_answer fill_answer fill_by_leaves fill_leaves
    by_shifted = (
      same_filling _ _ _ _ _ _ _ _ (λ v w x. ((done_alike v w x).0, refl)),
      same_filling _ _ _ _ _ _ _ _ done_alike,
    )

  -- as the fill makes them at its start
  pub fill_is_by : (fill_by_answer p y s f (shifted_at p y s) out ≡ fill_answer p y s f out) × (fill_by_leaves p y s f (shifted_at p y s) out ≡ fill_leaves p y s f out)
  fill_is_by = by_shifted (shifted_at p y s) (λ v w x. sym (at_rest p y v (read_right p y out w) s _ (let z = (span_iff p s f).0 x in omega (arith, z.0)) refl))
