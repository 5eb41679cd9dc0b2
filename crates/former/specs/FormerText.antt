-- The lister's answer (L1, L2) as it was before document 02's Note 2, from the former reading of a payload. Each definition has the former text; how a number, a line and
-- the plots are printed did not change, and comes from crates/listing_text and crates/listing. The sheet is read by today's reader, which is the former one but for the length
-- of its scratch (LessScratch.antt) and for the rule of Note 7 in its verdicts.
use Rattle.std.specs.Prelude.{Ok, Err, List, ◌++◌, ℕ, ltb, length, drop}
use Rattle.lists.specs.Choice.{pick}
use Rattle.profile.specs.declared.Profile.{Profile}
use Rattle.sheet.specs.declared.Mode.TheVariants.{Burst}
use Rattle.sheet.specs.Sheet.{read_answer, read_payload}
use Rattle.sheet.specs.Numbers.{Reading, refusal_number, refusal_place}
use Rattle.listing_text.specs.Text.{header, mended, field, newline, plots_text, refusal_text}
use Rattle.listing.specs.Listing.{input_profile, scratch_buffer, payload_buffer}
use Rattle.former.specs.Former.{Former, accepted, refused, PlotsRead, former_reading}

-- the answer for a payload, of a sheet with `changed` blocks changed (L2); "A refusal prints only `refused,number,place`."
unfoldable pub former_listing_text : ℕ → Former PlotsRead → List ℕ
former_listing_text changed (accepted read) = header ++ (plots_text read.plots ++ (mended ++ field changed newline))
former_listing_text changed (refused number place) = refusal_text number place

-- the answer for a sheet that was read, with the payload that came back (L2)
unfoldable pub former_sheet_answer_text : Reading → List ℕ → List ℕ
former_sheet_answer_text (Err r) payload = refusal_text (refusal_number r) (refusal_place r)
former_sheet_answer_text (Ok changed) payload = former_listing_text changed (former_reading payload)

unfoldable pub former_sheet_text : Profile → List ℕ → List ℕ
former_sheet_text p sheet =
    former_sheet_answer_text (read_answer Burst p sheet (scratch_buffer p) (payload_buffer p)) (read_payload Burst p sheet (scratch_buffer p) (payload_buffer p))

-- the whole answer to the bytes of the standard input (L1)
unfoldable pub former_listed : List ℕ → List ℕ
former_listed input = pick (ltb (length input) 5) (refusal_text 1 0) (former_sheet_text (input_profile input) (drop 5 input))
