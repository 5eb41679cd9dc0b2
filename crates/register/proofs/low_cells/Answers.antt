use mathlib.Core.Path.{refl, sym, ◌∙◌}
use mathlib.Core.List.{List}
use Prim.Native.Nat.{ℕ, ◌<◌}
use native.Mathlib.Omega.{arith}
use lib.ListN.{length-set}
use Rattle.register.specs.Words.{cells, words, unpack}
use Rattle.register.proofs.Cells.{cells-length}
use Rattle.register.proofs.Moves.{cell_of_lem, out_more, out_all}
use Rattle.register.proofs.low_cells.Goals as goal

pub loop-i-preserved : goal.loop-i-preserved
loop-i-preserved c =
    let l = c.loop-i in
    let ws : List ℕ = words c.args.x in
    let h : l.i < 64 = omega arith in (
      omega (arith, length-set l.out l.i c.cell_at.result),
      out_more (unpack ws) l.out c.cell_at.result l.i refl h l.invariant.0 l.invariant.1 (c.cell_at.ensures ∙ sym (cell_of_lem ws l.i h)),
    )

pub returns : goal.returns
unfolding cells
returns c =
    out_all (cells c.args.x) _ c.loop-i.i (cells-length c.args.x) c.loop-i.invariant.0 (omega arith)
    c.loop-i.invariant.1
