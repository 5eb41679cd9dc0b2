-- The promises on the tester's list, of what the entry answers and leaves in its buffer. They speak of all runs and all codewords, and of no search: what a run reaches,
-- torn, tied and mended are of the block crate, specs/Runs.antt, and the contract in src/lib.rt says that the function answers and leaves `list_answer` and `list_leaves`.
-- proofs/Promises.antt proves each.
use Rattle.std.specs.Prelude.{◌≡◌, ◌↔◌, ◌≢◌, ◌⊎◌, List, ℕ, ◌+◌, ◌-◌, ◌*◌, ◌≤◌, ◌<◌, length, get_or, drop}
use Rattle.profile.specs.Profile.{InRange}
use Rattle.profile.specs.Numbers.{early_number, early_place}
use Rattle.profile.specs.Refusals.{EarlyRefusals}
use Rattle.block.specs.Block.{look_answer}
use Rattle.block.specs.Numbers.{verdict_number, verdict_start, verdict_length}
use Rattle.block.specs.Runs.{Cells, Reached, NoneReached, TwoReached, OneReached, SparseRepair}
use Rattle.block.specs.LookAndFill.{Fills}
use Rattle.profile.specs.declared.Profile.{Profile}
use Rattle.candidates.specs.Candidates.{list_answer, list_leaves}
use Rattle.candidates.specs.Numbers.{listed_count}

-- ---- 1. which run stands for a codeword

-- the tight run of the codeword c: it has at most L cells, c lies within it, and c lies in no shorter run inside it; "the block itself, if it is a codeword, by 0 and 0"
pub record TightRun (p : Profile) (y : List ℕ) (s f : ℕ) (c : List ℕ) : Type 0 where
  pub within : f ≤ p.limit
  pub reached : Reached p y s f c
  pub tight : (s' f' : ℕ) → s ≤ s' → s' + f' ≤ s + f → f' < f → Reached p y s' f' c → ⊥
  pub clean : c ≡ y → (s ≡ 0) × (f ≡ 0)

-- the same by its cells, "first to last changed cell": at most L of them, c is what was read in every other cell, and in the first and the last of them it is not
pub record FirstToLast (p : Profile) (y : List ℕ) (s f : ℕ) (c : List ℕ) : Type 0 where
  pub within : f ≤ p.limit
  pub reached : Reached p y s f c
  pub first : 0 < f → get_or y s 0 ≢ get_or c s 0
  pub last : 0 < f → get_or y (s + f - 1) 0 ≢ get_or c (s + f - 1) 0
  pub clean : f ≡ 0 → s ≡ 0

abbrev pub TightIff : Type 0
TightIff = (p : Profile) (y : List ℕ) (s f : ℕ) (c : List ℕ) → InRange p → Cells p y → TightRun p y s f c ↔ FirstToLast p y s f c

-- n read cells, and a lent buffer of 2 n bytes, whatever it held
pub record LentList (p : Profile) (y out : List ℕ) : Type 0 where
  pub cells : Cells p y
  pub pairs : length out ≡ 2 * p.n

module _ (p : Profile) (y out : List ℕ) where
  -- how many runs are listed
  abbrev pub list_count : ℕ
  list_count = listed_count (list_answer p y out)

  -- entry i of the list, the first being 0, has start s and length f
  pub record Entry (i s f : ℕ) : Type 0 where
    pub below : i < list_count
    pub first : get_or (list_leaves p y out) (2 * i) 0 ≡ s
    pub second : get_or (list_leaves p y out) (2 * i + 1) 0 ≡ f

  -- the first length occurs twice
  abbrev pub FirstTwice : Type 0
  FirstTwice = (f s i t : ℕ) × Entry 0 s f × (0 < i) × Entry i t f

  -- c is listed, once: entry `place` is its tight run, and no other entry's run reaches it
  pub record ListedOnce (c : List ℕ) : Type 0 where
    pub place : ℕ
    pub start : ℕ
    pub size : ℕ
    pub entry : Entry place start size
    pub tight : TightRun p y start size c
    pub only : (i s f : ℕ) → Entry i s f → Reached p y s f c → i ≡ place

-- ---- 2. what stands in the list

-- a pair stands in the list exactly when some codeword has it as its tight run
abbrev pub ListedIff : Type 0
ListedIff = (p : Profile) (y out : List ℕ) (s f : ℕ) → InRange p → LentList p y out → ((i : ℕ) × Entry p y out i s f) ↔ ((c : List ℕ) × TightRun p y s f c)

-- every codeword within a run of at most L cells is listed, once
abbrev pub EveryListed : Type 0
EveryListed = (p : Profile) (y out : List ℕ) (s f : ℕ) (c : List ℕ) → InRange p → LentList p y out → f ≤ p.limit → Reached p y s f c → ListedOnce p y out c

-- by length and then start, no pair twice
abbrev pub ListOrder : Type 0
ListOrder = (p : Profile) (y out : List ℕ) (i j s f t e : ℕ) → InRange p → LentList p y out → Entry p y out i s f → Entry p y out j t e → i < j
    → (f < e) ⊎ ((f ≡ e) × (s < t))

-- no two listed runs begin at the same cell
abbrev pub StartsDiffer : Type 0
StartsDiffer = (p : Profile) (y out : List ℕ) (i j s f e : ℕ) → InRange p → LentList p y out → Entry p y out i s f → Entry p y out j s e → i ≡ j

-- with the fill of request 3 each listed run gives its codeword
abbrev pub FillsListed : Type 0
FillsListed = (p : Profile) (y out second : List ℕ) (i s f : ℕ) → InRange p → LentList p y out → length second ≡ p.n → Entry p y out i s f
    → (c : List ℕ) × TightRun p y s f c × Fills p y s f second c

-- ---- 3. torn, tied and mended, read off the list

-- it is empty exactly when the block is torn; its first length occurs twice exactly when the block is tied; otherwise its first entry is the run by which document 01
-- mends, before the rule of document 02's Note 7
pub record ReadOff (p : Profile) (y out : List ℕ) : Type 0 where
  pub none : (list_count p y out ≡ 0) ↔ NoneReached p y
  pub two : FirstTwice p y out ↔ TwoReached p y
  pub one : (s f : ℕ) → (Entry p y out 0 s f × (FirstTwice p y out → ⊥)) ↔ ((c : List ℕ) × OneReached p y s f c)

abbrev pub ListReadOff : Type 0
ListReadOff = (p : Profile) (y out : List ℕ) → InRange p → LentList p y out → ReadOff p y out

-- the same of what a look answers, and so the corrector, by the documents' numbers: 3 torn, 4 tied, 0 mended or clean, 16 thin
pub record BesideLook (p : Profile) (y out : List ℕ) : Type 0 where
  pub none : (list_count p y out ≡ 0) ↔ (verdict_number (look_answer p y) ≡ 3)
  pub two : FirstTwice p y out ↔ (verdict_number (look_answer p y) ≡ 4)
  pub one : verdict_number (look_answer p y) ≡ 0 → Entry p y out 0 (verdict_start (look_answer p y)) (verdict_length (look_answer p y))
  pub sparse : verdict_number (look_answer p y) ≡ 16 → (s f : ℕ) × (c : List ℕ) × Entry p y out 0 s f × OneReached p y s f c × SparseRepair p y s f c

abbrev pub ListBesideLook : Type 0
ListBesideLook = (p : Profile) (y out : List ℕ) → InRange p → LentList p y out → BesideLook p y out

-- ---- 4. of every profile and all buffers: the refusals, and that the buffer is enough

pub record CandidateRefusals (p : Profile) (y out : List ℕ) : Type 0 where
  pub early : EarlyRefusals p ((length y ≡ p.n) × (length out ≡ 2 * p.n)) (early_number (list_answer p y out))
  -- no number but 1 and 2, and an empty list is an answer
  pub others : early_number (list_answer p y out) ≢ 1 → early_number (list_answer p y out) ≢ 2 → early_number (list_answer p y out) ≡ 0
  pub place : early_place (list_answer p y out) ≡ 0
  pub kept : early_number (list_answer p y out) ≢ 0 → (list_leaves p y out ≡ out) × (list_count p y out ≡ 0)

-- no list has more than n runs, so that 2 n bytes hold each; the bytes behind it are as they were
pub record RoomEnough (p : Profile) (y out : List ℕ) : Type 0 where
  pub most : list_count p y out ≤ p.n
  pub same : length (list_leaves p y out) ≡ length out
  pub behind : drop (2 * list_count p y out) (list_leaves p y out) ≡ drop (2 * list_count p y out) out
