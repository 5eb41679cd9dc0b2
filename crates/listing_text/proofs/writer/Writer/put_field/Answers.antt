-- The digits, then the byte after them.
use Rattle.listing_text.specs.Text.{field}
use Rattle.listing_text.proofs.Puts.{puts_then}
use Rattle.listing_text.proofs.writer.Writer.put_field.Goals as goal

pub returns : goal.returns
unfolding field
returns c = puts_then c.put_decimal.ensures c.put.ensures
