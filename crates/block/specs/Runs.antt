-- What the runs of n read cells reach under a profile, in the words of document 01, "Runs" (B6 to B9): torn, tied and mended, each as a relation
-- between the cells, the runs and the codewords; and which of what is mended so is thin (document 02, Note 7; N7a). A run, what it reaches and what a codeword is are defined in the code crate, specs/Code.antt and
-- specs/Run.antt. No entry and no search is named here.
use Rattle.std.specs.Prelude.{◌≡◌, ◌≢◌, ◌⊎◌, List, ℕ, ◌≤◌, ◌<◌, length}
use Rattle.lists.specs.Bytes.{Bytes}
use Rattle.code.specs.Code.{Codeword}
use Rattle.code.specs.Run.{Reaches, changed_in}
use Rattle.profile.specs.Profile.{SparseRun}
use Rattle.profile.specs.declared.Profile.{Profile}

module _ (p : Profile) where
  -- n cells, one byte each
  pub record Cells (y : List ℕ) : Type 0 where
    pub count : length y ≡ p.n
    pub bytes : Bytes y

  -- a codeword of this profile
  abbrev pub Word : List ℕ → Type 0
  Word c = Codeword p.n p.r p.b c

  module _ (y : List ℕ) where
    -- the run (s, f) of the read cells y reaches the codeword c
    abbrev pub Reached : ℕ → ℕ → List ℕ → Type 0
    Reached s f c = Reaches p.n p.r p.b y s f c

    -- no run shorter than f reaches a codeword
    abbrev pub Least : ℕ → Type 0
    Least f = (s' f' : ℕ) (c' : List ℕ) → Reached s' f' c' → f ≤ f'

    -- torn: "Let f be the least length, 0 to L, of a run that reaches some codeword. If there is none, the block is torn."
    abbrev pub NoneReached : Type 0
    NoneReached = (s f : ℕ) (c : List ℕ) → f ≤ p.limit → Reached s f c → ⊥

    -- tied: "If two different codewords are within runs of that length, it is tied."
    pub record TwoReached : Type 0 where
      pub size : ℕ
      pub within : size ≤ p.limit
      pub least : Least size
      pub start₁ : ℕ
      pub start₂ : ℕ
      pub first : List ℕ
      pub second : List ℕ
      pub reached₁ : Reached start₁ size first
      pub reached₂ : Reached start₂ size second
      pub differ : first ≢ second

    -- mended: "Otherwise the codeword is written .. and the result is s and f; a clean block is written too and gives 0 and 0."
    pub record OneReached (s f : ℕ) (c : List ℕ) : Type 0 where
      pub within : f ≤ p.limit
      pub reached : Reached s f c
      pub least : Least f
      pub others : (s' f' : ℕ) (c' : List ℕ) → Reached s' f' c' → c' ≢ c → f < f'
      pub clean : c ≡ y → (s ≡ 0) × (f ≡ 0)

    -- "a repair whose length exceeds half of r is refused unless more than half of its run is changed": changed are the cells of the run in which the codeword is
    -- not the read block
    abbrev pub SparseRepair : ℕ → ℕ → List ℕ → Type 0
    SparseRepair s f c = SparseRun p f (changed_in s f y c)

    -- mended by document 01, and the rule lets it
    abbrev pub OneAccepted : ℕ → ℕ → List ℕ → Type 0
    OneAccepted s f c = OneReached s f c × (SparseRepair s f c → ⊥)

    -- thin: mended by document 01, and the rule does not let it
    abbrev pub OneSparse : Type 0
    OneSparse = (s f : ℕ) × (c : List ℕ) × OneReached s f c × SparseRepair s f c

-- exactly one of the three holds
pub record OneOfThree (p : Profile) (y : List ℕ) : Type 0 where
  pub some : NoneReached p y ⊎ (TwoReached p y ⊎ ((s f : ℕ) × (c : List ℕ) × OneReached p y s f c))
  pub none_two : NoneReached p y → TwoReached p y → ⊥
  pub none_one : (s f : ℕ) (c : List ℕ) → NoneReached p y → OneReached p y s f c → ⊥
  pub two_one : (s f : ℕ) (c : List ℕ) → TwoReached p y → OneReached p y s f c → ⊥
