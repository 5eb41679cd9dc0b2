-- The leading zeros of a word say which cell is its last.
use native.Mathlib.Omega.{arith}
use lib.Count.{leading_le}
use Rattle.words.proofs.LastCell.{word-extent_law}
use Rattle.words.proofs.word_extent.Goals as goal

pub overflow_cast-result : goal.overflow_cast-result
overflow_cast-result c = omega (arith, leading_le 64 c.args.w)

pub overflow_sub-result : goal.overflow_sub-result
overflow_sub-result c = omega (arith, leading_le 64 c.args.w)

pub returns : goal.returns
returns c = (word-extent_law _ (omega arith), omega arith)
