-- What the reader answers on the lister's own buffers, and what the sheet's theorems say of that answer.
use mathlib.Core.List.{List}
use Prim.Native.Nat.{ℕ}
use Rattle.profile.specs.Profile.{InRange}
use Rattle.profile.specs.declared.Profile.{Profile}
use Rattle.sheet.specs.declared.Mode.TheVariants.{Burst}
use Rattle.sheet.specs.Sheet.{read_answer}
use Rattle.sheet.specs.Buffers.{Lent}
use Rattle.sheet.specs.Theorems.{Results, ReadRefusals}
use Rattle.sheet.specs.Numbers.{Reading}
use Rattle.sheet.proofs.Theorems.{read-results}
use Rattle.sheet.proofs.Refusals.{sheet_refusals}
use Rattle.listing.specs.Listing.{scratch_buffer, payload_buffer}

module _ (p : Profile) (sheet : List ℕ) where
  abbrev pub answer : Reading
  answer = read_answer Burst p sheet (scratch_buffer p) (payload_buffer p)

  pub refusals : ReadRefusals Burst p sheet (scratch_buffer p) (payload_buffer p)
  refusals = (sheet_refusals p).reads Burst sheet (scratch_buffer p) (payload_buffer p)

  -- a sheet of D × n bytes under a profile in range
  pub results : InRange p → Lent p sheet (scratch_buffer p) (payload_buffer p) → Results Burst p sheet (scratch_buffer p) (payload_buffer p)
  results v h = read-results Burst p sheet (scratch_buffer p) (payload_buffer p) v h
