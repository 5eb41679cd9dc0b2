-- The rows of the register doubled four times.
use Rattle.register.proofs.Multiples.{high_rows_law}
use Rattle.register.proofs.high_rows.Goals as goal

pub returns : goal.returns
returns c = λ d n h. high_rows_law _ _ _ _ _ _ n h c.twice.ensures c.twice-2.ensures c.twice-3.ensures c.twice-4.ensures (c.rows.ensures d n h)
