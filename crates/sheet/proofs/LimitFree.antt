-- In spot mode two profiles that differ in L alone read every sheet alike: each block's verdict and codeword read n, r and b only, and all else is made
-- of these, of the depth, and of k.
use mathlib.Core.Path.{◌≡◌, refl, ap, ◌∙◌}
use mathlib.Core.Bool.{Bool}
use mathlib.Core.List.{List}
use Prim.Native.Nat.{ℕ, zero, suc, ◌+◌}
use lib.ListN.{length, drop}
use Rattle.profile.specs.Profile.{InRange, message_length}
use Rattle.profile.specs.Refusals.{refusing}
use Rattle.profile.proofs.Refusing.{same-refusing}
use Rattle.profile.specs.declared.Profile.{Profile}
use Rattle.spots.proofs.Answers.{same-verdict, same_word}
use Rattle.sheet.specs.declared.Mode.TheVariants.{Spots}
use Rattle.sheet.specs.Sheet.{read_block, block_verdict, codeword, changed_at, answer_from, sheet_answer, sheet_payload, read_fits, read_answer, read_scratch, read_payload}
use Rattle.sheet.specs.Theorems.{SheetLimitFree}
use Rattle.sheet.proofs.Apart.{same-joined}

module _ (p q : Profile) (sheet : List ℕ) (en : p.n ≡ q.n) (er : p.r ≡ q.r) (eb : p.b ≡ q.b) (ed : p.depth ≡ q.depth) where
  same_block : (d : ℕ) → read_block p sheet d ≡ read_block q sheet d
  unfolding read_block
  same_block d = rw (en, ed)

  verdicts : (d : ℕ) → block_verdict Spots p sheet d ≡ block_verdict Spots q sheet d
  unfolding block_verdict
  verdicts d = rw (same_block d, same-verdict p q (read_block q sheet d) en er eb)

  words : (d : ℕ) → codeword Spots p sheet d ≡ codeword Spots q sheet d
  unfolding codeword
  words d = rw (same_block d, same_word p q (read_block q sheet d) en er eb)

  changed : (d : ℕ) → changed_at Spots p sheet d ≡ changed_at Spots q sheet d
  unfolding changed_at
  changed d = rw (words d, same_block d)

  answers : (left d m : ℕ) → answer_from Spots p sheet left d m ≡ answer_from Spots q sheet left d m
  unfolding answer_from
  answers zero d m = refl
  answers (suc left) d m = rw (verdicts d, changed d, answers left (suc d) (m + changed_at Spots q sheet d))

  payloads : sheet_payload Spots p sheet ≡ sheet_payload Spots q sheet
  unfolding sheet_payload
  payloads = same-joined p.depth (message_length p) _ _ (λ d l. ap (drop p.r) (words d)) ∙ rw (en, er, ed)

  module _ (scratch out : List ℕ) (v : InRange p) (w : InRange q) where
    abbrev fits : Profile → Bool
    fits x = read_fits x (length sheet) (length scratch) (length out)

    fit : fits p ≡ fits q
    unfolding read_fits
    fit = rw (en, er, ed)

    answer : sheet_answer Spots p sheet ≡ sheet_answer Spots q sheet
    unfolding sheet_answer
    answer = answers p.depth 0 0 ∙ ap (λ (D : ℕ). answer_from Spots q sheet D 0 0) ed

    -- answer, scratch and payload are each chosen alike
    alike : {A : Type 0} (one two x y : A) → x ≡ y → refusing p (fits p) one two x ≡ refusing q (fits q) one two y
    alike one two x y e = same-refusing p q (fits p) (fits q) one two x y v w fit e

    read_answer_lem : read_answer Spots p sheet scratch out ≡ read_answer Spots q sheet scratch out
    unfolding read_answer
    read_answer_lem = alike _ _ _ _ answer

    read_scratch_lem : read_scratch Spots p sheet scratch out ≡ read_scratch Spots q sheet scratch out
    unfolding read_scratch
    read_scratch_lem = alike _ _ _ _ refl

    read-payload : read_payload Spots p sheet scratch out ≡ read_payload Spots q sheet scratch out
    unfolding read_payload
    read-payload = alike _ _ _ _ (rw (answer, payloads))

pub sheet_limit_free : SheetLimitFree
sheet_limit_free p q sheet scratch out v w en er eb ed =
    (read_answer_lem p q sheet en er eb ed scratch out v w, read_scratch_lem p q sheet en er eb ed scratch out v w, read-payload p q sheet en er eb ed scratch out v w)
