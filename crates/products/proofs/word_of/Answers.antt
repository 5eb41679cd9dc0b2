-- The bytes of the word are those that it is made of.
use mathlib.Core.Path.{◌≡◌, ◌∙◌, refl}
use mathlib.Core.List.{List, [], ◌∷◌}
use Prim.Native.Nat.{ℕ}
use native.Mathlib.Omega.{arith}
use lib.ListN.{length}
use Rattle.std.specs.Int.{from_le_bytes}
use Rattle.std.proofs.Common.{w64}
use Rattle.std.proofs.lemmas.Nat.{le_bytes_8}
use Rattle.lists.specs.Bytes.{Bytes}
use Rattle.lists.proofs.Bytes.{get_or_byte}
use Rattle.words.specs.Word.{bytes_from}
use Rattle.products.proofs.Values.{word_is}
use Rattle.products.proofs.word_of.Goals as goal

bytes_are : (l : List ℕ) (w : ℕ) → length l ≡ 8 → Bytes l → w ≡ from_le_bytes w64 l → bytes_from 8 0 w ≡ l
bytes_are l w n h e = word_is w ∙ le_bytes_8 l w n (λ i. get_or_byte l i h) e

pub returns : goal.returns
returns c =
    let d = c.args.d in
    bytes_are (d.c0 ∷ d.c1 ∷ d.c2 ∷ d.c3 ∷ d.c4 ∷ d.c5 ∷ d.c6 ∷ d.c7 ∷ []) _ refl
    (omega arith, (omega arith, (omega arith, (omega arith, (omega arith, (omega arith, (omega arith, (omega arith, tt)))))))) c.from_le_bytes.ensures
