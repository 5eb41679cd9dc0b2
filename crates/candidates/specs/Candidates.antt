-- What listing a block answers and leaves in its buffer, as equations that compute: for each start the length of the tight run from there, the runs of one
-- length after another, and the list. What it means is said without them, in Promises.antt.
use Rattle.std.specs.Prelude.{Bool, Result, Ok, Err, List, [], ◌∷◌, ◌++◌, ℕ, zero, suc, ◌+◌, ◌*◌, eqb, ltb, length, get_or, take, drop}
use Rattle.lists.specs.Choice.{pick, both}
use Rattle.code.specs.Code.{generator, remainder}
use Rattle.code.specs.Run.{back_steps}
use Rattle.code.specs.Search.{extent}
use Rattle.profile.specs.Refusals.{refusing}
use Rattle.block.specs.Block.{is_clean}
use Rattle.profile.specs.declared.Profile.{Profile}
use Rattle.profile.specs.declared.refusals.Refusal.{Refusal}
use Rattle.profile.specs.declared.refusals.Refusal.TheVariants.{BadProfile, WrongLength}

-- a run: `size` cells from `start` on
pub record Run : Type 0 where
  pub start : ℕ
  pub size : ℕ

-- ---- the tight run from a start

-- its length, E being the shifted remainder at s: the extent of E, if the lowest cell of E is not zero, the run has at most L cells and it ends by cell n − 1; and
-- else 0
unfoldable pub tight_from : Profile → ℕ → List ℕ → ℕ
tight_from p s E = pick (eqb (get_or E 0 0) 0) 0 (pick (ltb p.limit (extent E)) 0 (pick (ltb p.n (s + extent E)) 0 (extent E)))

-- the same of a block of which R is the remainder
unfoldable pub tight_length : Profile → List ℕ → ℕ → ℕ
tight_length p R s = tight_from p s (back_steps s (generator p.b p.r) R)

-- ---- the list

-- the runs of f cells from the starts below s, t being the length for each start
unfoldable pub of_length : (ℕ → ℕ) → ℕ → ℕ → List Run
of_length t f zero = []
of_length t f (suc s) = of_length t f s ++ pick (eqb (t s) f) (record { start = s; size = f } ∷ []) []

-- the runs of 1 to f cells from the starts below n: "by length and then start"
unfoldable pub up_to_length : (ℕ → ℕ) → ℕ → ℕ → List Run
up_to_length t n zero = []
up_to_length t n (suc f) = up_to_length t n f ++ of_length t (suc f) n

-- the list of a block: "the block itself, if it is a codeword, by 0 and 0"
unfoldable pub candidates : Profile → List ℕ → List Run
candidates p y =
    pick (is_clean p.b p.r y) (record { start = 0; size = 0 } ∷ [])
    (up_to_length (tight_length p (remainder p.r (generator p.b p.r) y)) p.n p.limit)

-- ---- the buffer

-- start and length of each run, a byte each
unfoldable pub pair_bytes : List Run → List ℕ
pair_bytes [] = []
pair_bytes (x ∷ l) = x.start ∷ x.size ∷ pair_bytes l

-- these laid behind the first k pairs of a buffer
unfoldable pub laid_behind : ℕ → List Run → List ℕ → List ℕ
laid_behind k l out = take (2 * k) out ++ pair_bytes l ++ drop (2 * (k + length l)) out

-- n cells, and a pair for each of them
unfoldable pub list_fits : Profile → List ℕ → List ℕ → Bool
list_fits p y out = both (eqb (length y) p.n) (eqb (length out) (2 * p.n))

unfoldable pub list_answer : Profile → List ℕ → List ℕ → Result ℕ Refusal
list_answer p y out = refusing p (list_fits p y out) (Err BadProfile) (Err WrongLength) (Ok (length (candidates p y)))

unfoldable pub list_leaves : Profile → List ℕ → List ℕ → List ℕ
list_leaves p y out = refusing p (list_fits p y out) out out (laid_behind 0 (candidates p y) out)
