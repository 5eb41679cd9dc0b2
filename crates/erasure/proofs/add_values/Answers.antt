-- A value more is laid at each step, until no place or no value is left.
use mathlib.Core.Path.{◌≡◌, ap₂}
use mathlib.Core.List.{List}
use mathlib.Core.Logic.{⊎_elim, inl, inr}
use Prim.Native.Nat.{ℕ}
use Rattle.words.specs.Word.{bytes_from}
use Rattle.products.proofs.Values.{word_is}
use Rattle.erasure.specs.Filling.{laid_at}
use Rattle.erasure.proofs.Laying.{lay_next, lay_done}
use Rattle.erasure.proofs.add_values.Goals as goal

pub loop-place-init : goal.loop-place-init
loop-place-init c =
    let a = c.into_iter-place-iterator.result.a.rest.now in
    let b = c.into_iter-place-iterator.result.b.rest.now in
    let v : b ≡ bytes_from 8 0 c.args.v = cc (word_is c.args.v) in
    let p : a ≡ c.args.places.now = cc in
    ap₂ (λ (E vs : List ℕ). laid_at E vs c.args.cells.now) p v

pub loop-place-preserved : goal.loop-place-preserved
loop-place-preserved c = lay_next _ _ _ _ _ _ _ _ _ c.in-Some.ensures.steps.0 c.in-Some.ensures.steps.1 c.add_at.ensures c.loop-place.invariant

pub returns : goal.returns
returns c = lay_done _ _ _ _ (⊎_elim (λ u. inl u.1.0) (λ u. inr u.1.0) c.in-None.ensures.steps) c.loop-place.invariant
