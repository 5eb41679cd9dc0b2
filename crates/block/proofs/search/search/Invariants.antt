-- `block::search::search` meets its contract. The invariant: before start s the register is the shifted remainder by s, and what was found is what the
-- definition finds among the starts below s.
use lib.ListN.{take}
use Rattle.register.specs.Words.{cells}
use Rattle.block.specs.Found.{Searching}
use Rattle.block.proofs.search.search.Given as goal

abbrev pub invariant-starts : goal.invariant-starts
invariant-starts l = Searching l.code.profile (take l.code.profile.r (cells l.initial.rest)) l.s l.rest l.found
