-- `Code::remainder` meets its contract: the remainder of cells is the lowest r of them plus the check cells of those above.
use Rattle.std.proofs.Common.{rules}
use Prim.Native.Nat.{ℕ}
use mathlib.Core.List.{List}
use Rattle.lists.proofs.Bytes.{bytes_of}
use Rattle.block.proofs.Entries.{remainder_law}
use Rattle.block.proofs.division.Code.remainder.Goals as goal

pub returns : goal.returns
returns c =
    let y : List ℕ = c.args.read.now in
    remainder_law c.args.self.now.profile c.args.self.now.in_range y _ _ _ (bytes_of y (λ i. search rules)) _ c.min-low.ensures
    c.load.ensures c.checks-checks.ensures c.add.ensures
