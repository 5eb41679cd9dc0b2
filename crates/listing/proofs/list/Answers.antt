-- Either way out is a case of the definition: there is no profile in range, or a sheet is read.
use Rattle.std.proofs.Common.{sym, ap, ◌∙◌, ℕ, ◌-◌, length, take, drop}
use Rattle.profile.specs.declared.Profile.{Profile}
use Rattle.listing_text.specs.Text.{refusal_text}
use Rattle.listing.specs.Listing.{sheet_text}
use Rattle.listing.proofs.Cases.{profile_accepted, profile_refused, listed-sheet}
use Rattle.listing.proofs.list.Goals as goal

pub list_sheet-requires : goal.list_sheet-requires
list_sheet-requires c = (profile_accepted _ _ (sym c.profile_of.ensures ∙ c.in-Ok.is)).1

pub returns-in-Ok : goal.returns-in-Ok
returns-in-Ok c =
    let s = c.args.input.now in
    let a = profile_accepted _ _ (sym c.profile_of.ensures ∙ c.in-Ok.is) in
    let e = ap (λ (p : Profile). sheet_text p (take (length s - 5) (drop 5 s))) (sym a.2) ∙ listed-sheet s a.0 in
    rw (← e) c.list_sheet.ensures

pub returns-in-Err : goal.returns-in-Err
returns-in-Err c =
    let e = ap (λ (n : ℕ). refusal_text n c.place.result) c.number.ensures ∙ ap (refusal_text _) c.place.ensures
    ∙ profile_refused c.args.input.now _ (sym c.profile_of.ensures ∙ c.in-Err.is) in
    rw (← e) c.write_refusal.ensures
