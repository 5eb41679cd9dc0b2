-- `candidates::tight_lengths` meets its contract. The invariant: before start s the register is the shifted remainder by s, and the lengths for the starts below s are kept.
use mathlib.Core.Path.{◌≡◌}
use lib.ListN.{length, take}
use Rattle.code.specs.Code.{generator}
use Rattle.code.specs.Run.{back_steps}
use Rattle.words.specs.Cells.{pad_to}
use Rattle.register.specs.Words.{cells}
use Rattle.candidates.proofs.Steps.{Kept}
use Rattle.candidates.proofs.tight_lengths.Given as goal

abbrev pub invariant-loop-s : goal.invariant-loop-s
invariant-loop-s l = record {
  shifted : cells l.rest ≡ pad_to 64 (back_steps l.s (generator l.p.b l.p.r) (take l.p.r (cells l.initial.rest)));
  room : length l.lengths ≡ 255;
  kept : Kept l.p (take l.p.r (cells l.initial.rest)) l.s l.lengths;
}
