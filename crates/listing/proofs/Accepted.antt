-- The lister's answer to a sheet that is accepted: the text of its payload, and that text's lines.
use mathlib.Core.Path.{ap₂, refl, ◌∙◌}
use mathlib.Core.List.{List}
use Prim.Native.Nat.{ℕ}
use Rattle.plot_promises.proofs.Canonical.{contains-reads}
use Rattle.listing_text.specs.Text.{listing_text}
use Rattle.listing_text.proofs.Meaning.{accepted_text}
use Rattle.listing.specs.Accepted.{ListAccepted}
use Rattle.listing.proofs.Refusals.{listed-payload}

pub list_accepted : (input : List ℕ) → ListAccepted input
list_accepted input h words a ps c = listed-payload input h words a ∙ ap₂ listing_text refl (contains-reads _ ps c) ∙ (accepted_text _ ps).text _
