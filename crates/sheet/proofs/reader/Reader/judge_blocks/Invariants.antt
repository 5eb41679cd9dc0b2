-- The answer is what is left to answer from block d on; what was found of the blocks before it is kept.
use Rattle.std.proofs.Common.{◌≡◌, ℕ, ◌-◌, ◌≤◌, ◌<◌}
use Rattle.sheet.specs.Sheet.{read_block, answer_from, sheet_answer}
use Rattle.sheet.specs.Steps.{FoundAt}
use Rattle.sheet.proofs.reader.Reader.judge_blocks.Given as goal

abbrev pub invariant-loop-d : goal.invariant-loop-d
invariant-loop-d l = record {
  few : l.changed ≤ l.d;
  answer : sheet_answer l.self.mode l.self.p l.self.sheet.now ≡ answer_from l.self.mode l.self.p l.self.sheet.now (l.self.p.depth - l.d) l.d l.changed;
  found : (i : ℕ) → i < l.d → FoundAt l.self.mode l.self.p (read_block l.self.p l.self.sheet.now i) i l.findings;
}
