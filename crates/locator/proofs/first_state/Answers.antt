-- The register with 1 as its lowest cell.
use Rattle.locator.proofs.States.{first_law}
use Rattle.locator.proofs.first_state.Goals as goal

pub returns : goal.returns
returns c = first_law _ _ c.blank.ensures c.push_bottom-one.ensures
