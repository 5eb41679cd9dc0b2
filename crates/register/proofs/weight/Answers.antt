-- Each cell that is counted adds 1 to the weight.
use Rattle.std.proofs.Common.{◌≡◌, ◌∙◌, refl, sym, ap, ℕ, ◌+◌, zero, suc, List, ◌∷◌, cond, not, nat_eq, count_by, zero-add, ne_eqb}
use Rattle.std.proofs.lemmas.List.Recursion.{is_count_by}
use native.Mathlib.Omega.{arith}
use Rattle.code.specs.Code.{weight}
use Rattle.register.proofs.weight.Goals as goal

step : (x : ℕ) (l : List ℕ) → weight (x ∷ l) ≡ cond (not (nat_eq x 0)) (1 + weight l) (weight l)
unfolding weight
step zero l = zero-add (weight l)
step (suc x) l = rw (ne_eqb (suc x) 0 (λ e. absurd (omega (arith, e))))

counted : (l : List ℕ) → weight l ≡ count_by (λ x. not (nat_eq x 0)) l
unfolding weight
counted = is_count_by weight (λ x. not (nat_eq x 0)) refl step

pub returns : goal.returns
returns c = c.nonzero_count.ensures ∙ sym (counted c.low_cells.result) ∙ ap weight c.low_cells.ensures
