-- `candidates::list` meets its contract: each return is a case of the definitions.
use mathlib.Core.Path.{sym, ap, ◌∙◌}
use Prim.Native.Nat.{ℕ}
use native.Mathlib.Omega.{arith}
use Rattle.std.specs.Prelude.{Ok}
use Rattle.std.proofs.lemmas.Result.{err_from_is_err_and}
use borrow.Author.Tests.{eqb-true}
use Rattle.profile.specs.Profile.{InRange}
use Rattle.profile.proofs.Ranges.{in_range_lem}
use Rattle.profile.proofs.Refusing.{admitted}
use Rattle.candidates.proofs.Entries.{list_refused, list_two, list_done, list_fits_lem, pairs_wrong}
use Rattle.candidates.proofs.list.Goals as goal

pub returns-in_err-admit : goal.returns-in_err-admit
returns-in_err-admit c =
    let whole = list_refused _ _ c.args.pairs.now _ (sym c.admit.ensures ∙ c.in_err-admit.was) in
    let p = err_from_is_err_and c.from_residual.result c.from_residual.ensures.1 in
    record { value = rw (p.1, p.2) whole.0; pairs_after = whole.1 }

pub overflow_mul-p : goal.overflow_mul-p
overflow_mul-p c =
    let v : InRange c.args.p = (in_range_lem _).0 (admitted _ _ _ (sym c.admit.ensures ∙ c.in_ok-admit.was)).0 in
    omega (arith, v.n_most)

pub returns-then-pairs-p : goal.returns-then-pairs-p
returns-then-pairs-p c =
    let whole = list_two _ _ _ (admitted _ _ _ (sym c.admit.ensures ∙ c.in_ok-admit.was)).0 (pairs_wrong _ _ _ c.if-pairs-p.true) in
    record { value = whole.0; pairs_after = whole.1 }

pub put_list-requires : goal.put_list-requires
put_list-requires c =
    let a = admitted _ _ _ (sym c.admit.ensures ∙ c.in_ok-admit.was) in
    record { in_range = (in_range_lem _).0 a.0; fits = (eqb-true _ _ a.1, c.if-pairs-p.false) }

pub returns : goal.returns
returns c =
    let a = admitted _ _ _ (sym c.admit.ensures ∙ c.in_ok-admit.was) in
    let d = list_done _ _ _ a.0 (list_fits_lem _ _ _ (eqb-true _ _ a.1) c.if-pairs-p.false) in
    record { value = ap (λ (k : ℕ). Ok k) c.put_list.ensures.value ∙ d.0; pairs_after = c.put_list.ensures.pairs_after ∙ d.1 }
