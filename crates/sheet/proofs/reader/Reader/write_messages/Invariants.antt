-- The messages of the blocks before d stand one after the other; each turn writes one more, and at the end all stand there.
use Rattle.std.proofs.Common.{◌≡◌, ℕ, ◌*◌, ◌++◌, drop}
use Rattle.sheet.specs.Sheet.{joined, codeword}
use Rattle.sheet.proofs.reader.Reader.write_messages.Given as goal

abbrev pub invariant-loop-d : goal.invariant-loop-d
invariant-loop-d l = l.payload ≡ joined l.d l.k (λ (e : ℕ). drop l.self.p.r (codeword l.self.mode l.self.p l.self.sheet.now e)) ++ drop (l.d * l.k) l.initial.payload
