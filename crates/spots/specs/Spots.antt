-- What correcting a block in spot mode (document 02, Note 1) answers and leaves in its buffers, as equations that compute. Refusal 1 goes before 2, and 2
-- before 11. The verdict is a function of the block's remainder alone, and reads n, r and b of the profile; L has to be in its range, as everywhere, and
-- has no other effect.
use Rattle.std.specs.Prelude.{Ok, Err, List, ℕ, eqb, length, get_or}
use Rattle.lists.specs.Choice.{pick}
use Rattle.code.specs.Code.{generator, remainder}
use Rattle.erasure.specs.Erasure.{syndromes}
use Rattle.locator.specs.Locator.{locations, is_located, candidate}
use Rattle.profile.specs.Profile.{half}
use Rattle.profile.specs.Refusals.{refusing}
use Rattle.block.specs.Block.{correct_fits}
use Rattle.block.specs.Numbers.{Verdict, verdict_number}
use Rattle.profile.specs.declared.Profile.{Profile}
use Rattle.block.specs.declared.numbers.Correction.TheVariants.{Cells}
use Rattle.block.specs.declared.numbers.Refusal.TheVariants.{BadProfile, WrongLength, TooManyErrors}

-- the verdict on a block with the syndromes s: the cells that they point at, of the n, where there are at most h and the locator has no other root
unfoldable pub spot_decided : Profile → List ℕ → Verdict
spot_decided p s = pick (is_located 64 (half p) p.n s) (Ok (Cells (length (locations 64 p.n s)) (get_or (locations 64 p.n s) 0 0))) (Err TooManyErrors)

-- the r syndromes of the n cells y, from the r cells of their remainder
unfoldable pub read_syndromes : Profile → List ℕ → List ℕ
read_syndromes p y = syndromes p.b p.r (remainder p.r (generator p.b p.r) y)

-- the verdict on the n cells y: "the number of cells changed and the lowest of them", or "11 spotted"
unfoldable pub spot_verdict : Profile → List ℕ → Verdict
spot_verdict p y = spot_decided p (read_syndromes p y)

-- the codeword of a block that is corrected
unfoldable pub spot_word : Profile → List ℕ → List ℕ
spot_word p y = candidate p.b p.r 64 y

unfoldable pub spot_answer : Profile → List ℕ → List ℕ → Verdict
spot_answer p y out = refusing p (correct_fits p y out) (Err BadProfile) (Err WrongLength) (spot_verdict p y)

-- the codeword where the block is accepted; after a refusal the second buffer is as it was
unfoldable pub spot_leaves : Profile → List ℕ → List ℕ → List ℕ
spot_leaves p y out = pick (eqb (verdict_number (spot_answer p y out)) 0) (spot_word p y) out
