-- Whole words first, and then the cells that are left.
use mathlib.Core.Path.{ap, ◌∙◌}
use Prim.Native.Nat.{ℕ, ◌-◌}
use lib.ListN.{drop}
use Rattle.words.specs.Cells.{pad_to}
use Rattle.register.specs.Words.{cells}
use Rattle.register.proofs.Moves.{lowered_law}
use Rattle.register.proofs.lowered.Goals as goal

pub returns : goal.returns
returns c =
    lowered_law c.args.x _ _ (64 - c.min-n.result) c.lower_words.ensures c.lower_cells.ensures
    ∙ ap (λ (k : ℕ). pad_to 64 (drop (64 - k) (cells c.args.x))) c.min-n.ensures
