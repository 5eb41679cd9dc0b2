use mathlib.Core.Path.{◌≡◌, sym, ap, ◌∙◌}
use Prim.Native.Nat.{ℕ, ◌*◌}
use native.Mathlib.Nat.{mul-zero}
use native.Mathlib.Omega.{arith}
use lib.ListN.{drop}
use Rattle.words.specs.Cells.{pad_to}
use Rattle.register.specs.Words.{cells}
use Rattle.register.proofs.Cells.{cells-length}
use Rattle.register.proofs.Moves.{lower-none, lower-more}
use Rattle.register.proofs.lower.repeated.Goals as goal

pub loop-init : goal.loop-init
loop-init g c =
    let z : 0 ≡ g.size * 0 = sym (mul-zero g.size) in
    lower-none c.args.x ∙ ap (λ (k : ℕ). pad_to 64 (drop k (cells c.args.x))) z

pub loop-preserved : goal.loop-preserved
loop-preserved g c =
    lower-more g.size _ _ _ c.loop.counter (cells-length c.args.x) c.loop.invariant (c.requires.1.1 _ _ c.step-rest.ensures)

pub returns : goal.returns
returns g c =
    let e : c.loop.counter ≡ c.args.n = omega arith in
    rw e at c.loop.invariant
