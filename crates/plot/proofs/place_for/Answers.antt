-- The payload's own refusal, or the checks of the plot at the end of its records.
use mathlib.Core.Path.{◌≡◌, sym, ◌∙◌}
use Rattle.std.specs.Prelude.{Err}
use Rattle.std.proofs.Common.{rules}
use Rattle.plot.proofs.Entries.{checked_accepted, checked_refused, added-plots, added_stopped, end-within}
use Rattle.plot.proofs.place_for.Goals as goal

pub returns-in_err-c : goal.returns-in_err-c
returns-in_err-c c =
    let told : c.from_residual.result ≡ Err c.in_err-c.field-0.0 = search rules in
    told ∙ added_stopped _ _ _ (checked_refused _ _ (sym c.in_err-c.ensures))

pub room-requires : goal.room-requires
room-requires c = end-within _ _ _ (checked_accepted _ _ (sym c.in_ok-c.ensures)).1

pub returns : goal.returns
returns c =
    let a = checked_accepted _ _ (sym c.in_ok-c.ensures) in
    c.room.ensures ∙ added-plots _ _ _ _ _ a.1 a.2
