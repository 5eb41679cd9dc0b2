-- `candidates::put` meets its contract: the two bytes are put in their place.
use Rattle.candidates.proofs.Laying.{put_law}
use Rattle.candidates.proofs.put.Goals as goal

pub returns : goal.returns
returns c = put_law _ _ _ _ _ c.copy_from_slice.ensures.after
