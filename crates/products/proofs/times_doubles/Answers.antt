-- What the eight bits choose is added.
use Rattle.products.proofs.Product.{chosen_sum}
use Rattle.products.proofs.times_doubles.Goals as goal

pub returns : goal.returns
returns c =
    chosen_sum c.args.v _ _ _ _ _ _ _ _ _ _ _ _ _ _ _ _ c.args.d.now.doubled c.chosen.ensures c.chosen-2.ensures c.chosen-3.ensures c.chosen-4.ensures
    c.chosen-5.ensures c.chosen-6.ensures c.chosen-7.ensures c.chosen-8.ensures
