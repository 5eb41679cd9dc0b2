-- The plot lister's answer to the bytes of its standard input (L1, L2): "the bytes n, r, b, L, D, then the sheet. Fewer than five bytes is
-- refusal 1, a sheet of other than D × n bytes 2." The scratch and the payload buffer of the sheet reader are the lister's own, and zero.
use Rattle.std.specs.Prelude.{Result, Ok, Err, List, ℕ, ◌*◌, ltb, length, get_or, drop, replicate}
use Rattle.lists.specs.Choice.{pick}
use Rattle.profile.specs.Profile.{in_range, message_length}
use Rattle.profile.specs.declared.Profile.{Profile}
use Rattle.profile.specs.declared.refusals.Refusal.{Refusal}
use Rattle.profile.specs.declared.refusals.Refusal.TheVariants.{BadProfile}
use Rattle.sheet.specs.declared.Mode.TheVariants.{Burst}
use Rattle.sheet.specs.Sheet.{read_answer, read_payload}
use Rattle.sheet.specs.Numbers.{Reading, refusal_number, refusal_place}
use Rattle.plot.specs.Grammar.{reading}
use Rattle.listing_text.specs.Text.{refusal_text, listing_text}

-- L1: "the bytes n, r, b, L, D"
abbrev pub input_profile : List ℕ → Profile
input_profile input = record { n = get_or input 0 0; r = get_or input 1 0; b = get_or input 2 0; limit = get_or input 3 0; depth = get_or input 4 0 }

-- "Fewer than five bytes is refusal 1", and so is a number outside its range
abbrev pub profile_in : List ℕ → Result Profile Refusal
profile_in input = pick (ltb (length input) 5) (Err BadProfile) (pick (in_range (input_profile input)) (Ok (input_profile input)) (Err BadProfile))

-- L2: the text for a sheet that was read, with the payload that came back
unfoldable pub sheet_answer_text : Reading → List ℕ → List ℕ
sheet_answer_text (Err r) payload = refusal_text (refusal_number r) (refusal_place r)
sheet_answer_text (Ok changed) payload = listing_text changed (reading payload)

-- the reader's buffers, zero
abbrev pub scratch_buffer : Profile → List ℕ
scratch_buffer p = replicate p.n 0

abbrev pub payload_buffer : Profile → List ℕ
payload_buffer p = replicate (p.depth * message_length p) 0

unfoldable pub sheet_text : Profile → List ℕ → List ℕ
sheet_text p sheet = sheet_answer_text (read_answer Burst p sheet (scratch_buffer p) (payload_buffer p)) (read_payload Burst p sheet (scratch_buffer p) (payload_buffer p))

-- L1: the whole answer
unfoldable pub listed : List ℕ → List ℕ
listed input = pick (ltb (length input) 5) (refusal_text 1 0) (sheet_text (input_profile input) (drop 5 input))
