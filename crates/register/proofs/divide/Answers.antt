use mathlib.Core.Path.{◌≡◌, sym, ap, ap₂, ◌∙◌}
use mathlib.Core.List.{List, [], ◌∷◌, ◌++◌, append_assoc}
use Prim.Native.Nat.{ℕ}
use Rattle.register.specs.Words.{cells}
use Rattle.register.specs.Register.{feed, feeds}
use Rattle.register.specs.declared.Register.{Register}
use Rattle.std.proofs.lemmas.List.{append-nil}
use Rattle.register.proofs.Forward.{feed_law, feeds_none, feeds_cons, all_taken}
use Rattle.register.proofs.divide.Goals as goal

pub loop-c-init : goal.loop-c-init
loop-c-init c =
    let e : c.into_iter-c-iterator.result.iter.rest.now ≡ c.args.input.now = cc c.iter.ensures.rest in
    ([], sym (append-nil _ ∙ e), c.blank-x.ensures ∙ sym (feeds_none 64 _))

pub loop-c-preserved : goal.loop-c-preserved
loop-c-preserved c =
    let l = c.loop-c in
    let p : Register = c.of-multiples.result.register in
    let x : ℕ = c.in-Some.c.now in (
      x ∷ l.invariant.0,
      l.invariant.1 ∙ ap (λ (r : List ℕ). r ++ l.invariant.0) c.in-Some.ensures.steps ∙ append_assoc _ (x ∷ []) l.invariant.0,
      feed_law p (cells l.x) _ _ x _ c.feedback.ensures c.shift_up.ensures c.add_to-x.ensures
          ∙ ap (feed 64 (cells p) x) l.invariant.2
          ∙ feeds_cons 64 (cells p) x l.invariant.0,
    )

pub returns : goal.returns
returns c =
    let l = c.loop-c in
    l.invariant.2 ∙ ap₂ (feeds 64) (ap cells c.of-multiples.ensures) (sym (all_taken c.args.input.now _ l.invariant.0 l.invariant.1 c.in-None.ensures.steps.0))
