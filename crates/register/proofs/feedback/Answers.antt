-- The highest eight bits of the highest word, and the cell, added.
use native.Mathlib.Omega.{arith}
use Rattle.register.proofs.Cells.{feedback_is}
use Rattle.register.proofs.feedback.Goals as goal

pub returns : goal.returns
returns c = feedback_is c.args.x c.args.c (omega arith)
