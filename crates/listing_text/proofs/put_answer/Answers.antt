-- Header, lines, the word and the number in turn.
use Rattle.listing_text.proofs.Puts.{puts_then, puts_as}
use Rattle.listing_text.proofs.Texts.{listing_plots}
use Rattle.listing_text.proofs.put_answer.Goals as goal

pub returns : goal.returns
returns c =
    puts_as (listing_plots c.args.changed _ _ _ c.requires.2)
    (puts_then c.put_text.ensures (puts_then c.put_plots.ensures (puts_then c.put_text-2.ensures c.put_field.ensures)))
