-- The search follows the reading, a record a turn.
use Prim.Native.Nat.{◌+◌, ◌-◌, ◌≤◌}
use native.Mathlib.Omega.{arith}
use mathlib.Core.Path.{◌≡◌, sym, ◌∙◌}
use Rattle.std.specs.Prelude.{Some, None, Ok}
use lib.ListN.{length, drop, length-drop}
use Rattle.plot.specs.Grammar.{step_at}
use Rattle.plot.proofs.Cases.{bounds, read-end, read-refused}
use Rattle.plot.proofs.Accepts.{not_stopped}
use Rattle.plot.proofs.Entries.{no_plots, reading-reads, located-plots, seek-none, go, go_reads, go_here, go_on}
use Rattle.plot.proofs.search.Goals as goal

pub loop-found-init : goal.loop-found-init
loop-found-init c =
    let s = c.args.payload.now in
    let p = c.requires in
    (length s, p.0, p.1, omega arith, (reading-reads s _ _ p.2).1, located-plots _ s _ _ p.2)

pub returns-in_err-found : goal.returns-in_err-found
returns-in_err-found c =
    let i = c.loop-found.invariant in
    let s = c.args.payload.now in
    let l : length (drop c.loop-found.c.at s) ≡ length s - c.loop-found.c.at = length-drop c.loop-found.c.at s in
    let h : length s ≤ c.loop-found.c.at + i.0 = i.3 in
    absurd (not_stopped _ _ _ _ (read-refused _ _ _ _ _ (omega arith) (sym c.in_err-found.ensures)) i.4)

-- `step_is` is the record that the cursor stands at
pub overflow_sub-result : goal.overflow_sub-result
overflow_sub-result c =
    let step_is : step_at c.loop-found.c.at (drop c.loop-found.c.at c.args.payload.now) ≡ Ok (Some c.in-Some.found) = cc (c.in_ok-found.ensures) in
    omega (arith, bounds _ _ 0 0 _ step_is)

pub returns-then-found-plot : goal.returns-then-found-plot
returns-then-found-plot c =
    let step_is : step_at c.loop-found.c.at (drop c.loop-found.c.at c.args.payload.now) ≡ Ok (Some c.in-Some.found) = cc (c.in_ok-found.ensures) in
    let i = c.loop-found.invariant in
    go_here _ _ _ _ _ step_is i.3 _ _ i.4 _ c.if-found-plot.true ∙ sym i.5

pub loop-found-smaller : goal.loop-found-smaller
loop-found-smaller c =
    let step_is : step_at c.loop-found.c.at (drop c.loop-found.c.at c.args.payload.now) ≡ Ok (Some c.in-Some.found) = cc (c.in_ok-found.ensures) in
    omega (arith, bounds _ _ 0 0 _ step_is)

pub loop-found-preserved : goal.loop-found-preserved
loop-found-preserved c =
    let step_is : step_at c.loop-found.c.at (drop c.loop-found.c.at c.args.payload.now) ≡ Ok (Some c.in-Some.found) = cc (c.in_ok-found.ensures) in
    let i = c.loop-found.invariant in (
      i.0 - 1,
      (go _ _ _ _ _ step_is i.3 _ _ i.4).rest,
      i.2,
      omega (arith, bounds _ _ 0 0 _ step_is),
      go_reads _ _ _ _ _ step_is i.3 _ _ i.4,
      i.5 ∙ go_on _ _ _ _ _ step_is i.3 _ _ i.4 _ c.if-found-plot.false,
    )

pub returns : goal.returns
returns c =
    let i = c.loop-found.invariant in
    let end_is : step_at c.loop-found.c.at (drop c.loop-found.c.at c.args.payload.now) ≡ Ok None = cc (c.in_ok-found.ensures) in
    seek-none _ _ _ (no_plots _ _ _ (sym i.4 ∙ read-end _ _ _ _ end_is)) ∙ sym i.5
