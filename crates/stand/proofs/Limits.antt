-- The test of the limit: it holds exactly if no cell is above 400,000,000, and with both counters alike. By induction along the rows and the table.
use Prim.Native.Nat.{ℕ, zero, suc, zero-le, ◌≤◌}
use mathlib.Core.Path.{◌≡◌, refl}
use mathlib.Core.Logic.{◌↔◌}
use mathlib.Core.Bool.{true, ◌&&◌}
use mathlib.Core.List.{List, [], ◌∷◌}
use lib.ListN.{get_or}
use lib.Dec.{leb}
use borrow.Author.Tests.{leb-true, le-leb}
use Rattle.std.proofs.lemmas.Bool.{and_parts, and_from}
use Rattle.stand.specs.declared.Tract.{Tract}
use Rattle.stand.specs.Table.{most, row_holds, cells_hold, limits_hold}
use Rattle.stand.specs.Bounds.{AtMost}

row_within : (row : List ℕ) → row_holds row ≡ true → (j : ℕ) → get_or row j 0 ≤ most
row_within [] h j = zero-le
row_within (x ∷ row) h zero = leb-true x most (and_parts (leb x most) (row_holds row) h).0
row_within (x ∷ row) h (suc j) = row_within row (and_parts (leb x most) (row_holds row) h).1 j

row_under : (row : List ℕ) → ((j : ℕ) → get_or row j 0 ≤ most) → row_holds row ≡ true
row_under [] h = refl
row_under (x ∷ row) h = and_from (leb x most) (row_holds row) (le-leb x most (h 0)) (row_under row (λ j. h (suc j)))

cells-within : (t : List (List ℕ)) → cells_hold t ≡ true → AtMost most t
cells-within [] h i j = zero-le
cells-within (row ∷ t) h zero j = row_within row (and_parts (row_holds row) (cells_hold t) h).0 j
cells-within (row ∷ t) h (suc i) j = cells-within t (and_parts (row_holds row) (cells_hold t) h).1 i j

cells_under : (t : List (List ℕ)) → AtMost most t → cells_hold t ≡ true
cells_under [] h = refl
cells_under (row ∷ t) h = and_from (row_holds row) (cells_hold t) (row_under row (h 0)) (cells_under t (λ i. h (suc i)))

-- what the test says of a state
pub record Within (t : List (List ℕ)) (tract : Tract) : Type 0 where
  pub payloads : tract.payloads ≤ most
  pub records : tract.records ≤ most
  pub cells : AtMost most t

pub limits_iff : (t : List (List ℕ)) (tract : Tract) → (limits_hold t tract ≡ true) ↔ Within t tract
limits_iff t tract = (
  (λ h.
      let a = and_parts (leb tract.payloads most && leb tract.records most) (cells_hold t) h in
      let b = and_parts (leb tract.payloads most) (leb tract.records most) a.0 in
      record { payloads = leb-true _ _ b.0; records = leb-true _ _ b.1; cells = cells-within t a.1 }),
  (λ w. and_from _ _ (and_from _ _ (le-leb _ _ w.payloads) (le-leb _ _ w.records)) (cells_under t w.cells)),
)
