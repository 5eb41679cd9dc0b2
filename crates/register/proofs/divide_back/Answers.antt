use mathlib.Core.Path.{◌≡◌, sym, ap, ◌∙◌}
use mathlib.Core.List.{List}
use Prim.Native.Nat.{ℕ, ◌+◌}
use native.Mathlib.Omega.{arith}
use lib.ListN.{length, drop, get_or, replicate}
use Rattle.register.specs.Words.{cells}
use Rattle.register.specs.Register.{feed_back, feeds_back}
use Rattle.register.proofs.Backward.{feed_back_law, feeds_back_on, feeds_back_end}
use Rattle.register.proofs.divide_back.Goals as goal

pub loop-c-init : goal.loop-c-init
loop-c-init c = ap (λ (u : List ℕ). feeds_back (cells c.of-multiples.result.register) u c.args.input.now) (sym c.blank-x.ensures)

pub loop-c-preserved : goal.loop-c-preserved
loop-c-preserved c =
    let l = c.loop-c in
    let s : List ℕ = c.args.input.now in
    let G : List ℕ = cells c.of-multiples.result.register in
    l.invariant
    ∙ feeds_back_on G (cells l.x) s l.c-index c.loop-c-test.true
    ∙ ap (λ (u : List ℕ). feeds_back G u (drop (l.c-index + 1) s))
    (sym (feed_back_law G (cells l.x) _ _ (get_or s l.c-index 0) _ c.feedback_below.ensures c.shift_down.ensures c.add_to-x.ensures))

pub returns : goal.returns
returns c =
    let l = c.loop-c in
    let s : List ℕ = c.args.input.now in
    let G : List ℕ = cells c.of-multiples.result.register in
    let e : l.c-index ≡ length s = omega (arith, c.loop-c-test.false) in
    sym (ap (λ (u : List ℕ). feeds_back u (replicate 64 0) s) (sym (ap cells c.of-multiples.ensures)) ∙ l.invariant ∙ feeds_back_end G (cells l.x) s l.c-index e)
