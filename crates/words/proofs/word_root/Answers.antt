-- The word and the multiple of the moved word, added.
use mathlib.Core.Path.{ap, ◌∙◌}
use Rattle.code.specs.Poly.{padd, pscale}
use Rattle.words.specs.Word.{bytes_from}
use Rattle.words.proofs.Words.{word-xor}
use Rattle.words.proofs.word_root.Goals as goal

pub returns : goal.returns
returns c = word-xor 8 0 _ _ ∙ ap (padd (bytes_from 8 0 _)) (c.word_scale.ensures ∙ ap (pscale _) c.word_down.ensures)
