-- Plots on a sheet (R7, R8; document 02, Note 1): what asking gives on the payload that a sheet reader gives back. It cites the sheet crate's promise and nothing
-- below it, so it would stand if the block search were replaced. proofs/Sheets.antt proves each from that promise.
use Rattle.std.specs.Prelude.{◌≡◌, List, ℕ, ◌*◌, ◌≤◌, length}
use Rattle.sheet.specs.Promise.{Mode, Burst, Spots, Profile, InRange, half, Payload, Lent, write_sheet_leaves, read_answer, read_payload, reading_number, reading_changed, Damaged, FewErrors}
use Rattle.plot.specs.Layout.{Plot}
use Rattle.plot.specs.Grammar.{Plots, reading}
use Rattle.plot.specs.Answers.{located, asked}

-- asking for any plot number gives the same record or the same refusal on both payloads
pub record SameAnswers (written back : List ℕ) : Type 0 where
  pub part : (n : ℕ) → asked n back ≡ asked n written
  pub companion : (n : ℕ) → located n back ≡ located n written

-- R7: "A written sheet reads back as its plots": the sheet that the writer leaves in the buffer `cells` is accepted in every mode with no block changed, and
-- the payload that comes back holds the plots of the one that was written
abbrev pub WrittenReadsAsPlots : Type 0
WrittenReadsAsPlots =
    (mode : Mode) (p : Profile) (m cells : List ℕ) (ps : List Plot) (end : ℕ) (scratch out : List ℕ) → InRange p → Payload p m → length cells ≡ p.depth * p.n
    → Lent p (write_sheet_leaves p m cells) scratch out → reading m ≡ Plots ps end
    → (reading_number (read_answer mode p (write_sheet_leaves p m cells) scratch out) ≡ 0) × (reading_changed (read_answer mode p (write_sheet_leaves p m cells) scratch out) ≡ 0)
    × (reading (read_payload mode p (write_sheet_leaves p m cells) scratch out) ≡ Plots ps end)

-- R8: where L ≥ h, whatever bytes stand in one run of at most D × h cells of a written sheet, the reader accepts it in burst mode, and asking for any plot on
-- what came back gives the same record or the same refusal as on what was written
abbrev pub SameAfterDamage : Type 0
SameAfterDamage =
    (p : Profile) (m cells sheet scratch out : List ℕ) → InRange p → half p ≤ p.limit → Payload p m → length cells ≡ p.depth * p.n
    → Damaged p (write_sheet_leaves p m cells) sheet → Lent p sheet scratch out
    → (reading_number (read_answer Burst p sheet scratch out) ≡ 0) × SameAnswers m (read_payload Burst p sheet scratch out)

-- document 02, Note 1: so it is in spot mode, whatever bytes stand in at most h cells of each block, and whatever L is
abbrev pub SameAfterErrors : Type 0
SameAfterErrors =
    (p : Profile) (m cells sheet scratch out : List ℕ) → InRange p → Payload p m → length cells ≡ p.depth * p.n
    → FewErrors p (write_sheet_leaves p m cells) sheet → Lent p sheet scratch out
    → (reading_number (read_answer Spots p sheet scratch out) ≡ 0) × SameAnswers m (read_payload Spots p sheet scratch out)
