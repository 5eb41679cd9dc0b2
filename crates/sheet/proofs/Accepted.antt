-- What an accepted sheet gives: a payload of D × k bytes, and no more changed blocks than D. Both follow from the reader's theorems.
use mathlib.Core.Path.{◌≡◌, sym, ap, ◌∙◌}
use mathlib.Core.List.{List}
use Prim.Native.Nat.{ℕ, ◌≤◌, zero-le}
use native.Mathlib.Omega.{arith}
use lib.ListN.{drop}
use Rattle.lists.specs.Choice.{pick}
use Rattle.lists.proofs.Test.{pick_of}
use Rattle.lists.proofs.Bytes.{drop-bytes}
use Rattle.profile.specs.Profile.{InRange, message_length}
use Rattle.profile.specs.declared.Profile.{Profile}
use Rattle.sheet.specs.declared.Mode.{Mode}
use Rattle.std.specs.Prelude.{Ok}
use Rattle.sheet.specs.Sheet.{read_block, differ, read_answer, read_payload}
use Rattle.sheet.specs.Numbers.{reading_number, reading_changed}
use Rattle.sheet.specs.Buffers.{Payload, Lent, differing}
use Rattle.sheet.specs.Theorems.{AllWords, Accepts, Results}
use Rattle.sheet.proofs.Apart.{joined_length, joined_bytes}
use Rattle.sheet.proofs.Modes.{word_of}
use Rattle.lists.proofs.Sum.{small-sum}
use Rattle.sheet.proofs.Theorems.{read-results}

module _ (mode : Mode) (p : Profile) (sheet scratch out : List ℕ) (v : InRange p) (h : Lent p sheet scratch out) (changed : ℕ)
    (q : read_answer mode p sheet scratch out ≡ Ok changed) where
  number : reading_number (read_answer mode p sheet scratch out) ≡ 0
  number = ap reading_number q

  results : Results mode p sheet scratch out
  results = read-results mode p sheet scratch out v h

  abbrev words : ℕ → List ℕ
  words = (results.accepted.0 number).0

  all : AllWords mode p sheet words
  all = (results.accepted.0 number).1

  accepts : Accepts mode p sheet scratch out words
  accepts = results.accepts words all

  pub payload_back : Payload p (read_payload mode p sheet scratch out)
  payload_back =
      rw accepts.payload
      (record {
        count = joined_length p.depth (message_length p) (λ (d : ℕ). drop p.r (words d));
        bytes =
            joined_bytes p.depth (message_length p) (λ (d : ℕ). drop p.r (words d))
            (λ d l. drop-bytes p.r (words d) (word_of mode p (read_block p sheet d) (words d) (all d l)).bytes);
      })

  pub changed-most : changed ≤ p.depth
  changed-most =
      let n : differing p.depth words (read_block p sheet) ≡ changed = sym accepts.changed ∙ ap reading_changed q in
      let m : differing p.depth words (read_block p sheet) ≤ p.depth =
      small-sum p.depth (λ (d : ℕ). pick (differ (words d) (read_block p sheet d)) 1 0) (λ d l. pick_of (λ (n : ℕ). n ≤ 1) (differ (words d) (read_block p sheet d)) 1 0 (omega arith) zero-le) in
      omega arith
