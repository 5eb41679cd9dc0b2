use Rattle.std.proofs.Common.{sym, arith}
use Rattle.listing_text.proofs.Fill.{decimal-one, decimal-more}
use Rattle.listing_text.proofs.Puts.{puts_then, puts_as}
use Rattle.listing_text.proofs.writer.Writer.+put_decimal.Goals.{then-has_more, else-has_more}
use Rattle.listing_text.proofs.writer.Writer.+put_decimal.Goals as goal

pub returns : goal.returns
returns t c =
    elim c.if-has_more.branch [
      | then-has_more w ↦ puts_as (sym (decimal-more c.args.n (omega arith))) (puts_then (rw w.self-is w.put_decimal.ensures) c.put.ensures)
      | else-has_more w ↦ puts_as (sym (decimal-one c.args.n (omega arith))) (rw w.self-is at c.put.ensures)
    ]
