-- The first cells, turned round, are the locator.
use mathlib.Core.Path.{◌≡◌, ap, ◌∙◌}
use mathlib.Core.List.{List}
use Prim.Native.Nat.{ℕ, ◌+◌}
use native.Mathlib.Omega.{arith}
use lib.ListN.{length, drop, length-append, length-drop, length-take}
use lib.Seq.{take_at}
use Rattle.register.proofs.Cells.{cells-length}
use Rattle.locator.specs.Locator.{mirrored}
use Rattle.locator.proofs.States.{mirrored-is}
use Rattle.locator.proofs.locator_cells.Goals as goal

pub returns : goal.returns
returns c =
    let m = c.args.size + 1 in
    let C : List ℕ = c.low_cells-out.result in
    let l : length C ≡ 64 = ap length c.low_cells-out.ensures ∙ cells-length c.args.connection in
    let k : length c.reverse.new.self ≡ m = omega (arith, c.reverse.ensures.len, length-take m C, c.requires) in (
      take_at _ _ m k ∙ c.reverse.ensures.after ∙ mirrored-is c.args.size C (omega (arith, c.requires)) ∙ ap (mirrored c.args.size) c.low_cells-out.ensures,
      omega (arith, length-append c.reverse.new.self (drop m C), length-drop m C, c.requires),
    )
