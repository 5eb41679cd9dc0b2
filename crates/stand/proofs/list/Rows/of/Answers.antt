use Prim.Native.Nat.{ℕ, suc, ◌-◌, ◌<◌, ◌≤◌}
use native.Mathlib.Omega.{arith}
use mathlib.Core.Path.{◌≡◌, refl, sym, ap, subst, ◌∙◌}
use mathlib.Core.List.{List}
use lib.ListN.{length, get_or, set, drop, length-set, length-take}
use Rattle.stand.specs.declared.Tract.{Tract}
use Rattle.stand.specs.Table.{row_from, rows_of, list_of}
use Rattle.stand.specs.Bounds.{RowsFit}
use Rattle.stand.proofs.Rows.{rows_turn, rows_start, rows_end, rows_fit}
use Rattle.stand.proofs.list.Rows.of.Goals as goal

pub loop-i-init : goal.loop-i-init
loop-i-init c =
    let t = c.args.tract.now in
    record { long = refl; made = rows_start t.species t.listed (omega (arith, c.requires)) }

pub loop-i-preserved : goal.loop-i-preserved
loop-i-preserved c =
    let l = c.loop-i in
    let t = c.args.tract.now in
    let i = l.i - 1 in
    let is : (x : ℕ) → x < 256 → get_or l.by_species x 0 ≡ row_from (suc i) (drop (suc i) (list_of t)) x =
    let z : suc i ≡ l.i = omega arith in
    rw z l.invariant.made in
    let turn = rows_turn t.species t.listed i l.by_species (omega arith) (omega arith) l.invariant.long is (omega arith) in
    record { long = length-set l.by_species _ i ∙ l.invariant.long; made = λ x k. ap (λ (y : ℕ). get_or (set l.by_species y i) x 0) c.from.ensures ∙ turn x k }

-- before the first place stands every species
all-made : (t : Tract) (i : ℕ) (rows : List ℕ) → i ≤ 0 → length rows ≡ 256 → ((x : ℕ) → x < 256 → get_or rows x 0 ≡ row_from i (drop i (list_of t)) x) → rows ≡ rows_of (list_of t)
all-made t i rows h long made =
    let z : i ≡ 0 = omega arith in
    rows_end (list_of t) rows long (rw z at made)

pub invariant_of-result : goal.invariant_of-result
invariant_of-result c =
    let l = c.loop-i in
    let t = c.args.tract.now in
    let few : length (list_of t) ≤ 16 = omega (arith, length-take t.listed t.species, c.requires) in
    record { in_table = subst RowsFit (sym (all-made t l.i l.by_species c.loop-i-test.false l.invariant.long l.invariant.made)) (rows_fit (list_of t) few) }

pub returns : goal.returns
returns c =
    let l = c.loop-i in
    all-made c.args.tract.now l.i l.by_species c.loop-i-test.false l.invariant.long l.invariant.made
