-- A shift by whole cells and the lowest eight bits; a word has nothing from its 64th bit on.
use native.Mathlib.Omega.{arith}
use mathlib.Core.Path.{refl, sym}
use Rattle.words.specs.Word.{byte}
use Rattle.words.proofs.LastCell.{byte_above}
use Rattle.words.proofs.cell_at.Goals as goal

pub returns-then-k-gt7 : goal.returns-then-k-gt7
returns-then-k-gt7 c = sym (byte_above c.args.k 64 c.args.w (omega arith) (omega arith))

pub overflow_mul-result : goal.overflow_mul-result
overflow_mul-result c = omega arith

pub overflow_shr-result : goal.overflow_shr-result
overflow_shr-result c = omega arith

pub overflow_cast-result : goal.overflow_cast-result
overflow_cast-result c = omega arith

pub returns : goal.returns
unfolding byte
returns c = refl
