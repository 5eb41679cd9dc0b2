-- The cells of a word shifted by eight bits, with the highest eight bits of another below.
use native.Mathlib.Omega.{arith}
use Rattle.words.proofs.Words.{word_up}
use Rattle.words.proofs.word_up.Goals as goal

pub returns : goal.returns
returns c = word_up _ _ (omega arith) (omega arith)
