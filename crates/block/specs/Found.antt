-- What the block's private functions say of the generator and of the search's state. No promise cites this.
use Rattle.std.specs.Prelude.{◌≡◌, Ok, Err, List, ℕ, ◌+◌, true, false, eqb, ltb, leb, length, take, replicate}
use Rattle.lists.specs.Choice.{pick}
use Rattle.code.specs.Code.{generator, weight}
use Rattle.code.specs.Run.{back_steps, shifted_remainder}
use Rattle.profile.specs.Refusals.{refusing}
use Rattle.code.specs.Search.{Best, extent, extents, scanned}
use Rattle.register.specs.Words.{cells}
use Rattle.words.specs.Cells.{pad_to}
use Rattle.register.specs.Register.{on_top}
use Rattle.register.specs.declared.Register.{Register}
use Rattle.profile.specs.declared.Profile.{Profile}
use Rattle.block.specs.declared.search.Found.{Found}
use Rattle.block.specs.declared.Judgement.{Judgement}
use Rattle.block.specs.Block.{judged}
use Rattle.profile.specs.Profile.{is_sparse}
use Rattle.block.specs.declared.numbers.Correction.TheVariants.{Run}
use Rattle.block.specs.declared.numbers.Refusal.TheVariants.{Uncorrectable, Ambiguous, Sparse}
use Rattle.block.specs.Numbers.{Verdict, verdict_start}

-- the low r cells of the generator as the highest of 64
abbrev pub generator_on_top : Profile → List ℕ
generator_on_top p = on_top p.r (take p.r (generator p.b p.r))

-- the search's state without the shifted remainder
abbrev pub best_of : Found → Best
best_of k = record { size = k.size; start = k.start; again = k.again }

-- the state after one more start, whose shifted remainder is rest
unfoldable pub improved_by : Found → ℕ → ℕ → Register → Found
improved_by k n s rest =
    pick (leb (s + extent (cells rest)) n)
    (pick (ltb (extent (cells rest)) k.size) (record { size = extent (cells rest); start = s; again = false; error = rest })
    (pick (ltb k.size (extent (cells rest))) k (record { size = k.size; start = k.start; again = true; error = k.error })))
    k

-- the state before start s of a block whose remainder is R: rest is the shifted remainder there
pub record Searching (p : Profile) (R : List ℕ) (s : ℕ) (rest : Register) (k : Found) : Type 0 where
  pub shifted : cells rest ≡ pad_to 64 (back_steps s (generator p.b p.r) R)
  pub best : best_of k ≡ scanned (extents (generator p.b p.r) R) p.n p.limit s
  pub error : cells k.error ≡ pad_to 64 (back_steps k.start (generator p.b p.r) R)

-- the state after all starts
pub record Searched (p : Profile) (R : List ℕ) (k : Found) : Type 0 where
  pub best : best_of k ≡ scanned (extents (generator p.b p.r) R) p.n p.limit p.n
  pub error : cells k.error ≡ pad_to 64 (back_steps k.start (generator p.b p.r) R)

-- the verdict on a block that is not clean, by the state after all starts
unfoldable pub decided_by : Profile → Found → Verdict
decided_by p k =
    pick (ltb p.limit k.size) (Err Uncorrectable)
    (pick k.again (Err Ambiguous) (pick (is_sparse p k.size (weight (cells k.error))) (Err Sparse) (Ok (Run k.start k.size))))

-- what is judged of a block whose remainder is R: the verdict, and the shifted remainder at its start
pub record JudgedFrom (p : Profile) (R : List ℕ) (z : Judgement) : Type 0 where
  pub verdict : z.verdict ≡ judged p R
  pub error : cells z.error ≡ pad_to 64 (back_steps (verdict_start z.verdict) (generator p.b p.r) R)

-- the shifted remainder at s as the lowest r of 64 cells, or zeros where a fill from s is refused before it counts
unfoldable pub shifted_at : Profile → List ℕ → ℕ → List ℕ
shifted_at p y s =
    refusing p (eqb (length y) p.n) (replicate 64 0) (replicate 64 0) (pick (leb s p.n) (pad_to 64 (shifted_remainder p.b p.r s y)) (replicate 64 0))
