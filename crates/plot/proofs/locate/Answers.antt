-- After the payload's own check: the search in its plots, or its refusal.
use mathlib.Core.Path.{◌≡◌, sym, ◌∙◌}
use Rattle.std.specs.Prelude.{Err}
use Rattle.std.proofs.Common.{rules}
use Rattle.plot.proofs.Entries.{checked_accepted, checked_refused, located_stopped}
use Rattle.plot.proofs.locate.Goals as goal

pub search-requires : goal.search-requires
search-requires c =
    let a = checked_accepted _ _ (sym c.in_ok-check.ensures) in
    (a.0, _, a.1)

pub returns-in_err-check : goal.returns-in_err-check
returns-in_err-check c =
    let told : c.from_residual.result ≡ Err c.in_err-check.field-0.0 = search rules in
    told ∙ located_stopped _ _ _ (checked_refused _ _ (sym c.in_err-check.ensures))
