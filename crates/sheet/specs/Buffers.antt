-- What the writer and the reader are lent, and how changed blocks are counted: the words in which the theorems and the promise are said.
use Rattle.std.specs.Prelude.{◌≡◌, List, ℕ, ◌*◌, length}
use Rattle.lists.specs.Choice.{pick}
use Rattle.lists.specs.Sum.{sum}
use Rattle.lists.specs.Bytes.{Bytes}
use Rattle.profile.specs.Profile.{message_length}
use Rattle.profile.specs.declared.Profile.{Profile}
use Rattle.sheet.specs.Sheet.{differ}

module _ (p : Profile) where
  -- "The payload has D × k bytes."
  pub record Payload (m : List ℕ) : Type 0 where
    pub count : length m ≡ p.depth * message_length p
    pub bytes : Bytes m

  -- "A sheet has D × n cells."
  pub record Sheet (s : List ℕ) : Type 0 where
    pub count : length s ≡ p.depth * p.n
    pub bytes : Bytes s

-- what the reader is lent: a sheet of D × n bytes, a scratch of n (document 02, Note 6), and a payload buffer of D × k
pub record Lent (p : Profile) (sheet scratch out : List ℕ) : Type 0 where
  pub cells : Sheet p sheet
  pub scratch_count : length scratch ≡ p.n
  pub out_count : length out ≡ p.depth * message_length p

-- in how many of n places two tables of lists differ
abbrev pub differing : ℕ → (ℕ → List ℕ) → (ℕ → List ℕ) → ℕ
differing n a b = sum n (λ (d : ℕ). pick (differ (a d) (b d)) 1 0)
