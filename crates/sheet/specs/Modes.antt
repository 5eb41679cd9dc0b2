-- How the blocks of a sheet are read, by mode: the verdict and the codeword of n cells, and what these mean. In burst mode a block goes to the codeword
-- within the shortest run (document 01, "Runs"), unless that is thin (document 02, Note 7), in spot mode to the codeword that differs in the fewest cells (document 02, Note 1).
use Rattle.std.specs.Prelude.{◌≡◌, ◌⊎◌, List, ℕ}
use Rattle.block.specs.Block.{verdict, corrected}
use Rattle.block.specs.Numbers.{Verdict}
use Rattle.block.specs.Runs.{NoneReached, TwoReached, OneAccepted, OneSparse}
use Rattle.spots.specs.Spots.{spot_verdict, spot_word}
use Rattle.spots.specs.Nearest.{NoneNear, NearestWord}
use Rattle.profile.specs.declared.Profile.{Profile}
use Rattle.sheet.specs.declared.Mode.{Mode}
use Rattle.sheet.specs.declared.Mode.TheVariants.{Burst, Spots}

-- ---- what is answered

abbrev pub verdict_in : Mode → Profile → List ℕ → Verdict
verdict_in Burst p y = verdict p y
verdict_in Spots p y = spot_verdict p y

-- the codeword, where the verdict is no refusal
abbrev pub word_in : Mode → Profile → List ℕ → List ℕ
word_in Burst p y = corrected p y
word_in Spots p y = spot_word p y

-- ---- what it means

-- c is the codeword to which the cells y go: the only one at the least length within L, where the rule lets it, or the nearest within h cells
abbrev pub GoesTo : Mode → Profile → List ℕ → List ℕ → Type 0
GoesTo Burst p y c = (s f : ℕ) × OneAccepted p y s f c
GoesTo Spots p y c = (t j : ℕ) × NearestWord p y t j c

-- the number by which the cells y are refused: 3 torn, 4 tied, 16 thin; 11 spotted
abbrev pub BlockRefusedBy : Mode → Profile → List ℕ → ℕ → Type 0
BlockRefusedBy Burst p y number = ((number ≡ 3) × NoneReached p y) ⊎ (((number ≡ 4) × TwoReached p y) ⊎ ((number ≡ 16) × OneSparse p y))
BlockRefusedBy Spots p y number = (number ≡ 11) × NoneNear p y
