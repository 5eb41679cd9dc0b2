-- Word by word, with the doubles made once.
use Rattle.std.proofs.Common.{rules}
use Rattle.register.specs.Words.{EachWord}
use Rattle.code.specs.Poly.{pscale}
use Rattle.words.specs.Word.{bytes_from}
use Rattle.std.proofs.Common.{◌≡◌}
use Rattle.register.proofs.Cells.{cells_scaled}
use Rattle.register.proofs.scale.Goals as goal

pub returns : goal.returns
returns c =
    let h : EachWord (λ w r. bytes_from 8 0 r ≡ pscale c.of-d.result.c0 (bytes_from 8 0 w)) c.args.x c.map.result = search rules in
    rw (← c.of-d.ensures) (cells_scaled _ c.args.x c.map.result h)
