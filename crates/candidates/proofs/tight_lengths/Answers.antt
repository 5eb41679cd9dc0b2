use mathlib.Core.Path.{◌≡◌, refl, ap, ◌∙◌}
use mathlib.Core.List.{List}
use Prim.Native.Nat.{ℕ, ◌≤◌}
use native.Mathlib.Nat.{not-suc-le-zero}
use native.Mathlib.Omega.{arith}
use lib.ListN.{length, take, length-set}
use lib.Seq.{length-take-le}
use Rattle.code.specs.Code.{generator}
use Rattle.code.specs.Run.{back_steps}
use Rattle.code.proofs.Generator.{generator-length}
use Rattle.code.proofs.Shifted.{back_steps-length}
use Rattle.register.specs.Words.{cells}
use Rattle.register.proofs.Cells.{cells-length}
use Rattle.register.proofs.Backward.{step_back_law}
use Rattle.block.proofs.Entries.{generator_law, back_generator_law}
use Rattle.block.proofs.Steps.{low_cells_of}
use Rattle.candidates.proofs.Steps.{tight_le, tight_here, kept_next, shifted_next, shifted_none}
use Rattle.candidates.proofs.tight_lengths.Goals as goal

pub loop-s-init : goal.loop-s-init
loop-s-init c =
    let x = c.args.first in
    record {
      shifted = shifted_none c.args.p _ _ (low_cells_of _ _ (cells-length x) c.requires.in_range.r_most c.requires.zero_from);
      room = refl;
      kept = λ i l. absurd (not-suc-le-zero l);
    }

pub overflow_cast-lengths : goal.overflow_cast-lengths
overflow_cast-lengths c =
    let l = c.loop-s in
    let m : c.tight_length.result ≤ length (cells l.rest) = tight_le _ _ _ _ c.tight_length.ensures in
    omega (arith, cells-length l.rest)

pub loop-s-preserved : goal.loop-s-preserved
loop-s-preserved c =
    let l = c.loop-s in
    let i = l.invariant in
    let p = c.args.p in
    let v = c.requires.in_range in
    let R : List ℕ = take p.r (cells c.args.first) in
    let G : List ℕ = generator p.b p.r in
    let lR : length R ≡ p.r = length-take-le p.r (cells c.args.first) (omega (arith, v.r_most, cells-length c.args.first)) in
    let lS : length (back_steps l.s G R) ≡ p.r = back_steps-length l.s p.r G R (generator-length p.b p.r) lR in
    let small : length (back_steps l.s G R) ≤ 64 = omega (arith, v.r_most) in
    record {
      shifted = shifted_next p R l.s _
          (step_back_law p.b p.r (back_steps l.s G R) (cells l.rest) (cells c.of-multiples.result.register) _ _ c.bottom.result small i.shifted
          (ap cells c.of-multiples.ensures ∙ back_generator_law p v _ _ (generator_law p v _ c.generator_top-top.ensures) c.generator_bottom.ensures)
          c.bottom.ensures
          c.shift_down.ensures
          c.add_to-rest.ensures);
      room = simp length-set i.room;
      kept = kept_next p R l.s c.tight_length.result l.lengths (omega (arith, v.n_most, i.room)) i.kept (tight_here p R l.s c.tight_length.result (cells l.rest) small i.shifted c.tight_length.ensures);
    }
