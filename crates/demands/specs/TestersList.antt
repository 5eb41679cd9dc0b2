-- What the customer could not test, and has a list for: "whether a second valid block lay just as near as the one chosen, because nothing lists the valid blocks;
-- 'past repair', for which there is only the reader's word". No demand and no request asks for it. The statements are those of the candidates crate, specs/Promises.antt;
-- proofs/TestersList.antt proves them all.
use Rattle.std.specs.Prelude.{List, ℕ}
use Rattle.profile.specs.declared.Profile.{Profile}
use Rattle.candidates.specs.Promises.{TightIff, ListedIff, EveryListed, ListOrder, StartsDiffer, FillsListed, ListReadOff, ListBesideLook, CandidateRefusals, RoomEnough}

pub record TestersList : Type 0 where
  -- a pair stands in the list exactly when some codeword lies within that run, at most L long, and in no shorter run inside it
  pub listed : ListedIff
  -- that is, when the run goes from the first to the last cell that some codeword changes
  pub tight : TightIff
  -- every codeword within a run of at most L cells is listed, once
  pub every : EveryListed
  -- by length and then start, and no two from the same start
  pub order : ListOrder
  pub starts : StartsDiffer
  -- with the fill of document 02's Note 3 each listed run gives its codeword
  pub filling : FillsListed
  -- it is empty exactly when the block is torn, its first length occurs twice exactly when the block is tied, and otherwise its first entry is the run by which document 01 mends;
  -- and so of what a look answers
  pub read_off : ListReadOff
  pub beside_look : ListBesideLook
  -- refusals 1 and 2 only, and 2 n bytes are enough for every block
  pub refusals : (p : Profile) (y out : List ℕ) → CandidateRefusals p y out
  pub enough : (p : Profile) (y out : List ℕ) → RoomEnough p y out
