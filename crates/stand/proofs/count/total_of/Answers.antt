use native.Mathlib.Omega.{arith}
use Rattle.std.proofs.Common.{rules, tests}
use Rattle.std.proofs.lemmas.Iterator.{YieldsList-from_slice}
use Rattle.std.proofs.lemmas.Iterator.Adapters.{fits_from_length, at_most_from_yields_List}
use Rattle.stand.proofs.count.total_of.Goals as goal

pub sum-requires-clause-fits : goal.sum-requires-clause-fits
sum-requires-clause-fits c =
    fits_from_length _ _ 17 _ (at_most_from_yields_List (YieldsList-from_slice c.args.table.now cc) (omega (arith, c.told-table))) c.map.ensures.closure (omega arith) (λ x r q k. search (rules, tests))
