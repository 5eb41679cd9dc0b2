-- A state that is refused is left. Else the records are counted into a copy of the table as they are checked: where all are accepted the copy is the new table, and where one is refused the table was not written.
use Prim.Native.Nat.{ℕ}
use native.Mathlib.Omega.{arith}
use mathlib.Core.Path.{◌≡◌, sym, ap, ◌∙◌}
use mathlib.Core.List.{List}
use Rattle.std.specs.Prelude.{Ok, Err}
use Rattle.std.proofs.Common.{rules}
use Rattle.plot.specs.Grammar.{reading}
use Rattle.stand.specs.declared.TableRefusal.TheVariants.{Payload}
use Rattle.stand.specs.Table.{plus_plots, plots_in}
use Rattle.stand.specs.Answers.{with_more_records}
use Rattle.stand.proofs.Counting.{records_few}
use Rattle.stand.proofs.Entries.{open_of, add-plots, add_stopped, add-refused, left-table, left_tract, new-table, new_tract, listed_few}
use Rattle.stand.proofs.add.Goals as goal

pub returns-in_err-judge : goal.returns-in_err-judge
returns-in_err-judge c =
    let t = c.args.table.now in
    let tract = c.args.tract.now in
    let s = c.args.payload.now in
    let is : c.from_residual.result ≡ Err c.in_err-judge.field-0.0 = search rules in
    let e = add-refused t tract s _ (sym c.in_err-judge.ensures) in
    record { value = is ∙ sym e; table_after = left-table t tract s _ e; tract_after = left_tract t tract s _ e }

-- the state is not refused
pub of-rows-requires : goal.of-rows-requires
of-rows-requires c = listed_few c.args.tract.now (open_of _ _ _ (Ok tt) (sym c.in_ok-judge.ensures)).listed

pub count_records-requires : goal.count_records-requires
count_records-requires c =
    let h = open_of _ _ _ (Ok tt) (sym c.in_ok-judge.ensures) in
    record { short = h.short; cells = h.within.cells }

-- the payload is refused
pub returns-in_err-records : goal.returns-in_err-records
returns-in_err-records c =
    let t = c.args.table.now in
    let tract = c.args.tract.now in
    let s = c.args.payload.now in
    let r = c.in_err-records.field-0.0 in
    let is : c.from_residual-in_err-records.result ≡ Err (Payload r) = search rules in
    let e = add_stopped t tract s (open_of _ _ _ (Ok tt) (sym c.in_ok-judge.ensures)) r c.in_err-records.ensures.refused in
    record { value = is ∙ e; table_after = left-table t tract s _ (sym e); tract_after = left_tract t tract s _ (sym e) }

-- and it is accepted
pub overflow_add-tract : goal.overflow_add-tract
overflow_add-tract c =
    let h = open_of _ _ _ (Ok tt) (sym c.in_ok-judge.ensures) in
    omega (arith, h.few)

pub overflow_add-tract-2 : goal.overflow_add-tract-2
overflow_add-tract-2 c =
    let h = open_of _ _ _ (Ok tt) (sym c.in_ok-judge.ensures) in
    let k = c.in_ok-records.ensures.accepted in
    omega (arith, h.within.records, k.count, records_few _ _ _ k.reads.2)

pub returns : goal.returns
returns c =
    let t = c.args.table.now in
    let tract = c.args.tract.now in
    let s = c.args.payload.now in
    let k = c.in_ok-records.ensures.accepted in
    let e = add-plots t tract s (open_of _ _ _ (Ok tt) (sym c.in_ok-judge.ensures)) _ _ k.reads.2 in
    record {
      value = e;
      table_after = k.table ∙ ap (λ (rows : List ℕ). plus_plots rows (plots_in (reading s)) t) c.of-rows.ensures ∙ new-table t tract s (sym e);
      tract_after = ap (with_more_records tract) k.count ∙ new_tract t tract s (sym e);
    }
