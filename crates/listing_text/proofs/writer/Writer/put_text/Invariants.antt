-- The bytes before the index are put.
use Rattle.std.proofs.Common.{take}
use Rattle.listing_text.specs.Puts.{Puts}
use Rattle.listing_text.proofs.writer.Writer.put_text.Given as goal

abbrev pub invariant-loop-b : goal.invariant-loop-b
invariant-loop-b l = Puts (take l.b-index l.text) l.initial.self l.self
