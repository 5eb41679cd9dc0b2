-- The doubles of the one word, chosen by the bits of the other; a blank word has none.
use Rattle.products.proofs.Product.{blank_times}
use Rattle.products.proofs.word_times.Goals as goal

pub returns-then-a-eq0 : goal.returns-then-a-eq0
returns-then-a-eq0 c = blank_times _ _ c.if-a-eq0.true

pub returns : goal.returns
returns c = rw (← c.of.ensures) c.times_doubles.ensures
