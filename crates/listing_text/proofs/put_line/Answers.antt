-- Four numbers, each with the byte after it.
use Rattle.listing_text.specs.Text.{line_text}
use Rattle.listing_text.proofs.Puts.{puts_then}
use Rattle.listing_text.proofs.put_line.Goals as goal

pub returns : goal.returns
unfolding line_text
returns c =
    puts_then (rw c.from.ensures at c.put_field.ensures)
    (puts_then (rw c.from-2.ensures at c.put_field-2.ensures)
    (puts_then (rw c.from-3.ensures at c.put_field-3.ensures) (rw c.from-4.ensures at c.put_field-4.ensures)))
