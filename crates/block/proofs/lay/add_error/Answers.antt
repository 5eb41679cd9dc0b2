use Prim.Native.Nat.{ℕ, ◌≤◌, ◌<◌}
use native.Mathlib.Omega.{arith}
use mathlib.Core.Path.{◌≡◌, sym, ap, ap₂, ◌∙◌}
use mathlib.Core.List.{List}
use lib.Bits.{bit_xor}
use lib.ListN.{length, get_or, set, take}
use Rattle.code.specs.Poly.{padd}
use Rattle.lists.proofs.Fill.{fill_more, fill_old, fill_all}
use Rattle.block.proofs.Steps.{sum-length, sum_cell}
use Rattle.block.proofs.lay.add_error.Goals as goal

pub cells-preserved : goal.cells-preserved
cells-preserved c =
    let l = c.cells in
    let part₀ : List ℕ = c.args.part.now in
    let error : List ℕ = c.args.error in
    let sum : List ℕ = padd part₀ (take (length part₀) error) in
    let here : l.i < length part₀ = omega arith in
    let old : get_or l.part l.i 0 ≡ get_or part₀ l.i 0 =
    ap (λ (p : List ℕ). get_or p l.i 0) l.invariant ∙ fill_old l.i sum part₀ 0 (omega (arith, sum-length part₀ error)) in
    let new : get_or sum l.i 0 ≡ bit_xor (get_or l.part l.i 0) (get_or error l.i 0) =
    sum_cell part₀ error l.i here ∙ ap (λ (v : ℕ). bit_xor v (get_or error l.i 0)) (sym old) in
    ap₂ (λ (p : List ℕ) (v : ℕ). set p l.i v) l.invariant (sym new) ∙ fill_more l.i sum part₀ 0 here (omega (arith, sum-length part₀ error))

pub returns : goal.returns
returns c =
    let l = c.cells in
    let part₀ : List ℕ = c.args.part.now in
    let sum : List ℕ = padd part₀ (take (length part₀) c.args.error) in
    let h : length part₀ ≤ l.i = omega arith in
    l.invariant ∙ fill_all l.i sum part₀ (omega (arith, sum-length part₀ c.args.error)) h
