-- A multiple of a word; α^8 is 29.
use mathlib.Core.Path.{sym, ap, ◌∙◌}
use Prim.Native.Nat.{ℕ}
use Rattle.code.specs.Poly.{pscale}
use Rattle.words.specs.Word.{bytes_from}
use Rattle.products.proofs.Points.{alpha-eight}
use Rattle.products.proofs.next_points.Goals as goal

pub returns : goal.returns
returns c = c.word_scale.ensures ∙ ap (λ (k : ℕ). pscale k (bytes_from 8 0 c.args.x)) (c.of.ensures ∙ sym alpha-eight)
