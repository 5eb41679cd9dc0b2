-- `Code::checks` meets its contract: what the register leaves of the message is the remainder of the message above r zeros.
use Rattle.std.proofs.Common.{rules}
use Prim.Native.Nat.{ℕ}
use mathlib.Core.List.{List}
use Rattle.lists.proofs.Bytes.{bytes_of}
use Rattle.block.proofs.Entries.{checks_law}
use Rattle.block.proofs.division.Code.checks.Goals as goal

pub returns : goal.returns
returns c =
    let m : List ℕ = c.args.message.now in
    checks_law _ c.args.self.now.in_range m _ _ _ (bytes_of m (λ i. search rules))
    c.args.self.now.on_top c.divide.ensures c.lowered.ensures
