-- The checksum stays below 65,521, so that 31 times it and a byte do not overflow.
use Rattle.std.proofs.Common.{◌<◌}
use Rattle.field_products.proofs.checksum.Given as goal

abbrev pub invariant-loop-y : goal.invariant-loop-y
invariant-loop-y g l = l.sum < 65521
