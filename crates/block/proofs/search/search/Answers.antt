use Prim.Native.Nat.{ℕ, ◌%◌, ◌/◌}
use native.Mathlib.Omega.{arith}
use mathlib.Core.Path.{◌≡◌, refl, ap, ◌∙◌}
use mathlib.Core.List.{List}
use lib.ListN.{length, take}
use lib.Seq.{length-take-le}
use Rattle.code.specs.Code.{generator}
use Rattle.code.proofs.Generator.{generator-length}
use Rattle.code.proofs.Shifted.{back_steps-length}
use Rattle.code.specs.Run.{back_steps}
use Rattle.register.specs.Words.{cells}
use Rattle.register.proofs.Cells.{cells-length}
use Rattle.register.proofs.Backward.{step_back_law}
use Rattle.block.proofs.Entries.{back_generator_law}
use Rattle.block.proofs.Steps.{searching-start, searching-next, low_cells_of}
use Rattle.block.proofs.search.search.Goals as goal

pub starts-init : goal.starts-init
starts-init c =
    let code = c.args.code.now in
    searching-start code.profile _ _ _ (low_cells_of _ _ (cells-length c.args.first) code.in_range.r_most c.requires) refl

pub starts-preserved : goal.starts-preserved
starts-preserved c =
    let l = c.starts in
    let code = c.args.code.now in
    let p = code.profile in
    let v = code.in_range in
    let R : List ℕ = take p.r (cells c.args.first) in
    let G : List ℕ = generator p.b p.r in
    let lR : length R ≡ p.r = length-take-le p.r (cells c.args.first) (omega (arith, v.r_most, cells-length c.args.first)) in
    let lS : length (back_steps l.s G R) ≡ p.r = back_steps-length l.s p.r G R (generator-length p.b p.r) lR in
    searching-next p R l.s l.rest c.add_to-rest.result l.found c.improved-found.result lR v.r_most l.invariant c.improved-found.ensures
    (step_back_law p.b p.r (back_steps l.s G R) (cells l.rest) (cells c.of-multiples.result.register) _ _ c.bottom.result (omega (arith, v.r_most)) l.invariant.shifted
    (ap cells c.of-multiples.ensures ∙ back_generator_law p v _ _ code.on_top c.generator_bottom.ensures)
    c.bottom.ensures
    c.shift_down.ensures
    c.add_to-rest.ensures)
