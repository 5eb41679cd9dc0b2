-- The register holds the remainder in its lowest r cells, and the syndromes of those are the block's.
use Rattle.std.proofs.Common.{take, ap, arith}
use Rattle.lists.proofs.Bytes.{bytes_of}
use Rattle.spots.proofs.Correcting.{syndromes_of}
use Rattle.spots.proofs.correct_cells.Goals as goal

pub correct_located-requires-clause-syndromes_value : goal.correct_located-requires-clause-syndromes_value
correct_located-requires-clause-syndromes_value c =
    syndromes_of c.args.p c.requires.in_range c.args.read.now c.requires.read_len.0 (bytes_of c.args.read.now (λ i. omega (arith, c.type_inv.read i))) _ _ _ c.requires.rest_value
    (ap (take c.args.p.r) c.low_cells-low.ensures) c.syndromes-syndromes.ensures
