-- The cells of a word shifted by eight bits, with the lowest eight bits of another on top.
use native.Mathlib.Omega.{arith}
use Rattle.words.proofs.Words.{word_down}
use Rattle.words.proofs.word_down.Goals as goal

pub returns : goal.returns
returns c = word_down _ _ (omega arith) (omega arith)
