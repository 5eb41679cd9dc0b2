-- `block::fill` meets its contract: it is the fill by the shifted remainder at its start.
use Rattle.std.proofs.Common.{rules}
use Rattle.block.proofs.Filling.{fill_is_by}
use Rattle.block.proofs.fill.Goals as goal

pub returns-clause-value : goal.returns-clause-value
returns-clause-value c = let same = fill_is_by c.args.p c.args.read.now c.args.start c.args.length c.args.out.now in search rules

pub returns-clause-out_after : goal.returns-clause-out_after
returns-clause-out_after c = let same = fill_is_by c.args.p c.args.read.now c.args.start c.args.length c.args.out.now in search rules
