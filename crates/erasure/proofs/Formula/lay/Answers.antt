-- Eight values more are laid at each step, until no place is left.
use mathlib.Core.Path.{ap, ap₂, ◌∙◌}
use mathlib.Core.List.{List, map}
use mathlib.Core.Logic.{⊎_elim, inl, inr}
use Prim.Native.Nat.{ℕ, min}
use native.Mathlib.Omega.{arith}
use lib.ListN.{length, length-drop, length-map}
use Rattle.words.specs.Word.{bytes_from}
use Rattle.words.specs.Cells.{pad_to}
use Rattle.erasure.specs.Filling.{quotient_at, laid_at}
use Rattle.erasure.proofs.Laying.{front_is, lay_more, lay_done}
use Rattle.erasure.proofs.Formula.lay.Goals as goal

pub loop-eight-preserved : goal.loop-eight-preserved
loop-eight-preserved c =
    let q = c.args.self.now in
    let f = quotient_at q.b q.derivative.now q.evaluator.now in
    let l = c.loop-eight in
    let s = c.in-Some.ensures.steps in
    let v = l.invariant in
    let E = l.eight-iterator.a.rest.now in
    let p = l.eight-iterator.b.rest.now in
    let eight = front_is 8 E _ _ s.0.1.0 (s.0.1.1 ∙ ap (λ (k : ℕ). min k (length E)) v.sizes.0) in
    let x = front_is 8 p _ _ s.1.1.0 (s.1.1.1 ∙ ap (λ (k : ℕ). min k (length p)) v.sizes.1) in
    record {
      sizes = (s.0.0 ∙ v.sizes.0, s.1.0 ∙ v.sizes.1);
      fit = omega (arith, v.fit, ap length eight.1, ap length x.1, length-drop 8 E, length-drop 8 p);
      laid =
          ap₂ (λ (E p : List ℕ). laid_at E (map f p) c.add_values.new.cells) eight.1 x.1
          ∙ lay_more f E p _ _ l.cells _ _ v.fit (c.load_word.ensures ∙ ap (pad_to 8) x.0) c.values_at-v.ensures
          (c.add_values.ensures ∙ ap (λ (D : List ℕ). laid_at D (bytes_from 8 0 c.values_at-v.result) l.cells) eight.0) v.laid;
    }

pub returns : goal.returns
returns c =
    let l = c.loop-eight in
    lay_done _ _ l.cells _ (⊎_elim (λ u. inl u.1.1.0) (λ u. inr (length-map _ _ ∙ u.1.1.0)) c.in-None.ensures.steps) l.invariant.laid
