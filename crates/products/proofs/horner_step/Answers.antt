-- A product and a sum.
use Rattle.words.proofs.Words.{word_sum}
use Rattle.products.proofs.horner_step.Goals as goal

pub returns : goal.returns
returns c = word_sum _ _ c.spread.ensures c.times_doubles.ensures
