-- The digits before the last, by a call with a tenth of the number, and then the last digit. The measure is the number.
use Rattle.listing_text.proofs.writer.Writer.+put_decimal.Given as goal

abbrev pub decreases-put_decimal : goal.decreases-put_decimal
decreases-put_decimal l = l.n
