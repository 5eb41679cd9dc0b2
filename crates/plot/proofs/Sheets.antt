-- What the sheet's promise gives back is the payload byte for byte, so every question on it has the same answer.
use mathlib.Core.Path.{◌≡◌, ap, ◌∙◌}
use mathlib.Core.List.{List}
use Prim.Native.Nat.{ℕ}
use Rattle.sheet.specs.Promise.{Mode, Profile, SheetPromise, ReadsBack, read_answer, read_payload, reading_number}
use Rattle.sheet.proofs.Promise.{sheet_promise}
use Rattle.plot.specs.Grammar.{reading}
use Rattle.plot.specs.Answers.{located, asked}
use Rattle.plot.specs.Sheets.{SameAnswers, WrittenReadsAsPlots, SameAfterDamage, SameAfterErrors}

same_answers : (written back : List ℕ) → back ≡ written → SameAnswers written back
same_answers written back e = record { part = λ n. ap (asked n) e; companion = λ n. ap (located n) e }

-- from the promise, whoever proves it
module _ (promise : SheetPromise) where
  reads_as_plots : WrittenReadsAsPlots
  reads_as_plots mode p m cells ps end scratch out v h c l e =
      let r = (promise p m cells v h c).back mode scratch out l in
      (r.number, r.count, ap reading r.payload ∙ e)

  -- a payload that came back has the same answers
  answers_back : (mode : Mode) (p : Profile) (m sheet scratch out : List ℕ) (changed : ℕ) → ReadsBack mode p m sheet changed scratch out
      → (reading_number (read_answer mode p sheet scratch out) ≡ 0) × SameAnswers m (read_payload mode p sheet scratch out)
  answers_back mode p m sheet scratch out changed r = (r.number, same_answers m (read_payload mode p sheet scratch out) r.payload)

  same-damaged : SameAfterDamage
  same-damaged p m cells sheet scratch out v half h c d l = answers_back _ p m sheet scratch out _ ((promise p m cells v h c).damaged sheet scratch out half d l)

  same_few : SameAfterErrors
  same_few p m cells sheet scratch out v h c d l = answers_back _ p m sheet scratch out _ ((promise p m cells v h c).few_errors sheet scratch out d l)

pub written-reads_as_plots : WrittenReadsAsPlots
written-reads_as_plots = reads_as_plots sheet_promise

pub same-after_damage : SameAfterDamage
same-after_damage = same-damaged sheet_promise

pub same-after_errors : SameAfterErrors
same-after_errors = same_few sheet_promise
