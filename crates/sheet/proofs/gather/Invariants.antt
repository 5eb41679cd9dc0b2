-- The cells before i are those of the block and the others are as they were; at the end there are no others.
use Rattle.std.proofs.Common.{◌≡◌, ◌++◌, length, take, drop}
use Rattle.sheet.specs.Sheet.{block_of}
use Rattle.sheet.proofs.gather.Given as goal

abbrev pub invariant-loop-i : goal.invariant-loop-i
invariant-loop-i l = l.out ≡ take l.i (block_of l.depth (length l.initial.out) l.sheet l.d) ++ drop l.i l.initial.out
