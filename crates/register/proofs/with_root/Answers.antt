-- Word by word; the words meet at the cell that passes down.
use native.Mathlib.Omega.{arith}
use Rattle.std.proofs.Common.{rules, ◌≡◌}
use Rattle.code.specs.Poly.{padd, pscale}
use Rattle.words.specs.Word.{byte, bytes_from}
use Rattle.words.specs.Cells.{shift_down}
use Rattle.words.proofs.Words.{bottom_cell}
use Rattle.register.specs.Words.{EachWithAbove}
use Rattle.register.proofs.Cells.{cells-rooted}
use Rattle.register.proofs.with_root.Goals as goal

pub returns : goal.returns
returns c =
    let a = c.args.d.now.c0 in
    let h : EachWithAbove (λ w above r. bytes_from 8 0 r ≡ padd (bytes_from 8 0 w) (pscale a (shift_down (bytes_from 8 0 w) (byte above 0)))) c.args.g c.at_bottom.result c.map_with_above.result
    = search rules in
    cells-rooted c.args.g c.map_with_above.result a c.at_bottom.result 1 (bottom_cell 1 _ (omega arith) c.at_bottom.ensures) h
