-- `candidates::tight_length` meets its contract: each of its four ways is a case of `tight_from`.
use native.Mathlib.Omega.{arith}
use Rattle.code.proofs.Search.{extent-le}
use Rattle.register.specs.Words.{cells}
use Rattle.register.proofs.Cells.{cells-length}
use Rattle.candidates.proofs.Steps.{first-zero, too_long, past_end, tight_found}
use Rattle.candidates.proofs.tight_length.Goals as goal
use Rattle.candidates.proofs.tight_length.Goals.{then-is_unchanged-via-then-is_unchanged, then-is_unchanged-via-else-is_unchanged+then-p-e, then-is_unchanged-via-else-is_unchanged+else-p-e+then-p-s}

pub overflow_add-s : goal.overflow_add-s
overflow_add-s c =
    omega (arith, c.extent-e.ensures, extent-le (cells c.args.error), cells-length c.args.error, c.requires)

pub returns-then-is_unchanged : goal.returns-then-is_unchanged
returns-then-is_unchanged c =
    let e = c.extent-e.ensures in
    let f = c.bottom-is_unchanged.ensures in
    elim c.then-is_unchanged.branch [
      | then-is_unchanged-via-then-is_unchanged w ↦ first-zero _ _ _ _ e _ f w.if-is_unchanged.true
      | then-is_unchanged-via-else-is_unchanged+then-p-e w ↦ too_long _ _ _ _ e _ f w.if-is_unchanged.false w.if-p-e.true
      | then-is_unchanged-via-else-is_unchanged+else-p-e+then-p-s w ↦ past_end _ _ _ _ e _ f w.if-is_unchanged.false w.if-p-e.false w.if-p-s.true
    ]

pub returns : goal.returns
returns c =
    tight_found _ _ _ _ c.extent-e.ensures _ c.bottom-is_unchanged.ensures c.if-is_unchanged.false c.if-p-e.false c.if-p-s.false
