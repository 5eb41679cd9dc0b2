-- What is located lies within the payload; the part begins there, or is empty and begins where the payload does.
use native.Mathlib.Omega.{arith}
use mathlib.Core.Path.{sym, ◌∙◌}
use Rattle.plot.proofs.Entries.{located-within, part-found, part-refused}
use Rattle.plot.proofs.ask.Goals as goal

pub overflow_add-result : goal.overflow_add-result
overflow_add-result c = omega (arith, located-within _ _ _ (sym c.locate.ensures ∙ c.in-Ok.is))

pub slice_bounds-result-end : goal.slice_bounds-result-end
slice_bounds-result-end c = omega (arith, located-within _ _ _ (sym c.locate.ensures ∙ c.in-Ok.is))

pub returns-in-Ok-clause-result_value : goal.returns-in-Ok-clause-result_value
returns-in-Ok-clause-result_value c = part-found _ _ _ (sym c.locate.ensures ∙ c.in-Ok.is)

pub returns-in-Err-clause-result_value : goal.returns-in-Err-clause-result_value
returns-in-Err-clause-result_value c = part-refused _ c.args.payload.now _ (sym c.locate.ensures ∙ c.in-Err.is)
