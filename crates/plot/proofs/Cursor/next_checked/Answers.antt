-- The checks before the lines, then the lines as a part of the payload, then the rise.
use native.Mathlib.Omega.{arith}
use mathlib.Core.Path.{◌≡◌, sym, ◌∙◌}
use Rattle.std.specs.Prelude.{Some, None, Ok, Err}
use Rattle.std.proofs.Common.{rules}
use lib.ListN.{drop}
use Rattle.plot.specs.Grammar.{step_at}
use Rattle.plot.proofs.Cases.{bounds, check_here}
use Rattle.plot.proofs.Records.{late-end, late-refused, late-lines, late_order, late_record}
use Rattle.plot.proofs.Cursor.next_checked.Goals as goal

pub returns-in_err-found : goal.returns-in_err-found
returns-in_err-found c =
    let told : c.from_residual.result ≡ Err c.in_err-found.field-0.0 = search rules in
    told ∙ late-refused _ _ _ _ (sym c.in_err-found.ensures)

pub returns-in_default : goal.returns-in_default
returns-in_default c =
    let end_is : step_at c.args.self.at (drop c.args.self.at c.args.payload.now) ≡ Ok None = cc (c.in_ok-found.ensures) in
    late-end _ _ _ end_is

-- `step_is` is the record that the cursor stands at
pub slice_bounds-check_lines-count : goal.slice_bounds-check_lines-count
slice_bounds-check_lines-count c =
    let step_is : step_at c.args.self.at (drop c.args.self.at c.args.payload.now) ≡ Ok (Some c.in-Some.found) = cc (c.in_ok-found.ensures) in
    omega (arith, bounds _ _ 0 0 _ step_is)

pub slice_bounds-check_lines-start : goal.slice_bounds-check_lines-start
slice_bounds-check_lines-start c =
    let step_is : step_at c.args.self.at (drop c.args.self.at c.args.payload.now) ≡ Ok (Some c.in-Some.found) = cc (c.in_ok-found.ensures) in
    omega (arith, bounds _ _ 0 0 _ step_is)

pub slice_bounds-check_lines-end : goal.slice_bounds-check_lines-end
slice_bounds-check_lines-end c =
    let step_is : step_at c.args.self.at (drop c.args.self.at c.args.payload.now) ≡ Ok (Some c.in-Some.found) = cc (c.in_ok-found.ensures) in
    omega (arith, bounds _ _ 0 0 _ step_is)

pub returns-in-Err : goal.returns-in-Err
returns-in-Err c =
    let step_is : step_at c.args.self.at (drop c.args.self.at c.args.payload.now) ≡ Ok (Some c.in-Some.found) = cc (c.in_ok-found.ensures) in
    late-lines _ _ _ _ step_is _ (check_here _ _ 0 0 _ step_is ∙ sym c.in-Err.ensures)

pub returns-then-found-self : goal.returns-then-found-self
returns-then-found-self c =
    let step_is : step_at c.args.self.at (drop c.args.self.at c.args.payload.now) ≡ Ok (Some c.in-Some.found) = cc (c.in_ok-found.ensures) in
    late_order _ _ _ _ step_is (check_here _ _ 0 0 _ step_is ∙ sym c.check_lines.ensures ∙ c.in_default-check_lines.is) c.if-found-self.true

pub returns : goal.returns
returns c =
    let step_is : step_at c.args.self.at (drop c.args.self.at c.args.payload.now) ≡ Ok (Some c.in-Some.found) = cc (c.in_ok-found.ensures) in
    late_record _ _ _ _ step_is (check_here _ _ 0 0 _ step_is ∙ sym c.check_lines.ensures ∙ c.in_default-check_lines.is) c.if-found-self.false
