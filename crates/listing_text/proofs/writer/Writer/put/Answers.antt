-- A byte where there is room, and else nothing.
use Rattle.std.proofs.Common.{refl, ◌∙◌}
use Rattle.listing_text.proofs.Fill.{put_room, put-none, put_one}
use Rattle.listing_text.proofs.writer.Writer.put.Goals as goal

pub returns-then-self : goal.returns-then-self
returns-then-self c = record { same = refl; puts = put_room _ _ _ c.if-self.true ∙ put_one _ _ }

pub returns-else-self : goal.returns-else-self
returns-else-self c = record { same = refl; puts = put-none _ _ _ c.if-self.false ∙ put_one _ _ }
