-- The products of the words, added, and then the cells of the sum.
use mathlib.Core.Path.{◌∙◌}
use Rattle.products.proofs.Total.{dot_law}
use Rattle.products.proofs.dot.Goals as goal

pub returns : goal.returns
returns c = c.sum_of_cells.ensures ∙ dot_law _ _ _ _ _ _ _ _ _ _ c.word_times.ensures c.word_times-2.ensures c.word_times-3.ensures c.word_times-4.ensures c.word_times-5.ensures c.word_times-6.ensures c.word_times-7.ensures c.word_times-8.ensures
