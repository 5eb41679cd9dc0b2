-- `Code::shifted` meets its contract: the cells from the start on, divided as ever, and those below it, divided backwards, make the shifted remainder.
use Rattle.std.proofs.Common.{rules}
use Prim.Native.Nat.{ℕ}
use mathlib.Core.List.{List}
use Rattle.lists.proofs.Bytes.{bytes_of}
use Rattle.block.proofs.Entries.{back_generator_law}
use Rattle.block.proofs.Outcome.{shifted_law}
use Rattle.block.proofs.division.Code.shifted.Goals as goal

pub returns : goal.returns
returns c =
    let y : List ℕ = c.args.read.now in
    let self = c.args.self.now in
    shifted_law self.profile self.in_range y c.args.start (bytes_of y (λ i. search rules)) c.requires _ _ _ _
    (back_generator_law self.profile self.in_range _ _ self.on_top c.generator_bottom-back.ensures) c.divide_back-below.ensures c.remainder.ensures c.add.ensures
