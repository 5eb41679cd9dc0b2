use Prim.Native.Nat.{◌≤◌}
use native.Mathlib.Omega.{arith}
use mathlib.Core.Path.{◌≡◌}
use Rattle.std.proofs.Common.{rules, tests}
use Rattle.std.proofs.lemmas.Iterator.{YieldsList-from_slice}
use Rattle.std.proofs.lemmas.Iterator.Adapters.{fits_from_length, at_most_from_yields_List}
use Rattle.stand.specs.Table.{row_total}
use Rattle.stand.proofs.Sums.{row_total-le}
use Rattle.stand.proofs.count.row_total.Goals as goal

pub sum-requires-clause-fits : goal.sum-requires-clause-fits
sum-requires-clause-fits c =
    fits_from_length _ _ 20 _ (at_most_from_yields_List (YieldsList-from_slice c.args.row.now cc) (omega (arith, c.told-row))) c.map.ensures.closure (omega arith) (λ x r q k. search (rules, tests))

pub returns-clause-bound : goal.returns-clause-bound
returns-clause-bound c =
    let v : c.sum.result ≡ row_total c.args.row.now = search rules in
    omega (arith, c.told-row, row_total-le 4294967295 c.args.row.now (λ j. omega (arith, c.fits-row j)))
