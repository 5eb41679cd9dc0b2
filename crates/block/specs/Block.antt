-- What each entry on a block answers and leaves in its buffers, as equations that compute (clauses B4 to B10, E1 to E5; document 02, Notes 3 and 7). Refusal 1
-- goes before 2, and 2 before the rest. The verdict reads the cells and n, r, b, L only, and a fill not even L.
use Rattle.std.specs.Prelude.{Bool, Result, Ok, Err, ⊤, List, [], ◌++◌, ℕ, ◌+◌, eqb, ltb, leb, length, take, replicate}
use Rattle.lists.specs.Choice.{pick, both}
use Rattle.code.specs.Code.{generator, remainder, weight}
use Rattle.code.specs.Run.{back_steps, shifted_remainder, added_at}
use Rattle.code.specs.Search.{Best, extent, extents, scanned}
use Rattle.words.specs.Cells.{pad_to}
use Rattle.profile.specs.Profile.{message_length, is_sparse}
use Rattle.profile.specs.Refusals.{refusing}
use Rattle.block.specs.Numbers.{Verdict, Filled, verdict_start}
use Rattle.profile.specs.declared.Profile.{Profile}
use Rattle.profile.specs.declared.refusals.Refusal.{Refusal as EarlyRefusal}
use Rattle.profile.specs.declared.refusals.Refusal.TheVariants as early
use Rattle.block.specs.declared.numbers.Correction.TheVariants.{Run, Cells}
use Rattle.block.specs.declared.numbers.Refusal.TheVariants as refusals
use Rattle.block.specs.declared.numbers.FillRefusal.TheVariants as fills

-- ---- writing

-- the r check cells of a message: what the message cells, with r zeros below them, leave when divided by the generator
unfoldable pub check_cells : ℕ → ℕ → List ℕ → List ℕ
check_cells b r m = remainder r (generator b r) (replicate r 0 ++ m)

-- the written block: check cells in 0 to r − 1, the message in r to n − 1
unfoldable pub encode : ℕ → ℕ → List ℕ → List ℕ
encode b r m = check_cells b r m ++ m

-- the writer's buffers have k and n bytes
unfoldable pub write_fits : Profile → List ℕ → List ℕ → Bool
write_fits p m out = both (eqb (length m) (message_length p)) (eqb (length out) p.n)

unfoldable pub write_answer : Profile → List ℕ → List ℕ → Result ⊤ EarlyRefusal
write_answer p m out = refusing p (write_fits p m out) (Err early.BadProfile) (Err early.WrongLength) (Ok tt)

unfoldable pub write_leaves : Profile → List ℕ → List ℕ → List ℕ
write_leaves p m out = refusing p (write_fits p m out) out out (encode p.b p.r m)

-- ---- checking

-- the remainder of n read cells, as the lowest r of 64; zeros beside refusals 1 and 2
unfoldable pub read_remainder : Profile → List ℕ → List ℕ
read_remainder p y =
    refusing p (eqb (length y) p.n) (replicate 64 0) (replicate 64 0) (pad_to 64 (remainder p.r (generator p.b p.r) y))

-- "called clean": all r cells of the remainder are zero, which is exactly where all syndromes are (Promises.antt, CleanIff)
unfoldable pub is_clean : ℕ → ℕ → List ℕ → Bool
is_clean b r y = eqb (extent (remainder r (generator b r) y)) 0

unfoldable pub check_answer : Profile → List ℕ → Result Bool EarlyRefusal
check_answer p y = refusing p (eqb (length y) p.n) (Err early.BadProfile) (Err early.WrongLength) (Ok (is_clean p.b p.r y))

-- ---- correcting

-- the run (s, f) that was found in a block of which R is the remainder: refused where it is thin, and else the result. Cells of the shifted remainder
-- at s that are not zero are those that the run's codeword changes
unfoldable pub run_verdict : Profile → List ℕ → ℕ → ℕ → Verdict
run_verdict p R s f = pick (is_sparse p f (weight (back_steps s (generator p.b p.r) R))) (Err refusals.Sparse) (Ok (Run s f))

-- what the search found, as a verdict: torn, tied, or the run
unfoldable pub decided : Profile → List ℕ → Best → Verdict
decided p R k = pick (ltb p.limit k.size) (Err refusals.Uncorrectable) (pick k.again (Err refusals.Ambiguous) (run_verdict p R k.start k.size))

-- the verdict on a block of which R is the remainder
unfoldable pub judged : Profile → List ℕ → Verdict
judged p R =
    pick (eqb (extent R) 0) (Ok (Run 0 0))
    (decided p R (scanned (extents (generator p.b p.r) R) p.n p.limit p.n))

-- the verdict on the n cells y: torn, tied, thin or mended, with "the result s and f"
unfoldable pub verdict : Profile → List ℕ → Verdict
verdict p y = judged p (remainder p.r (generator p.b p.r) y)

-- the codeword within the run (s, f) of the cells y, where there is one: the shifted remainder laid at s
abbrev pub run_word : Profile → List ℕ → ℕ → ℕ → List ℕ
run_word p y s f = added_at s (take f (shifted_remainder p.b p.r s y)) y

-- what a verdict writes over the cells of out: the codeword within the run, where there is one
unfoldable pub filled : Profile → List ℕ → List ℕ → Verdict → List ℕ
filled p y out (Ok (Run s f)) = run_word p y s f
filled p y out (Ok (Cells count lowest)) = out
filled p y out (Err refusal) = out

-- the codeword of a corrected block, "its mended cells"
unfoldable pub corrected : Profile → List ℕ → List ℕ
corrected p y = filled p y [] (verdict p y)

-- both buffers of the corrector have n bytes
unfoldable pub correct_fits : Profile → List ℕ → List ℕ → Bool
correct_fits p y out = both (eqb (length y) p.n) (eqb (length out) p.n)

unfoldable pub correct_answer : Profile → List ℕ → List ℕ → Verdict
correct_answer p y out = refusing p (correct_fits p y out) (Err refusals.BadProfile) (Err refusals.WrongLength) (verdict p y)

unfoldable pub correct_leaves : Profile → List ℕ → List ℕ → List ℕ
correct_leaves p y out = filled p y out (correct_answer p y out)

-- ---- looking

-- "a look, which writes nothing and gives the verdict": it is lent the block alone
unfoldable pub look_answer : Profile → List ℕ → Verdict
look_answer p y = refusing p (eqb (length y) p.n) (Err refusals.BadProfile) (Err refusals.WrongLength) (verdict p y)

-- the shifted remainder at the start of the verdict, as the lowest r of 64 cells, for a fill that follows; zeros beside refusals 1 and 2
unfoldable pub look_error : Profile → List ℕ → List ℕ
look_error p y =
    refusing p (eqb (length y) p.n) (replicate 64 0) (replicate 64 0) (pad_to 64 (shifted_remainder p.b p.r (verdict_start (verdict p y)) y))

-- ---- filling

-- not "start plus length exceeds n or length exceeds r−1"
unfoldable pub is_span : Profile → ℕ → ℕ → Bool
is_span p s f = both (leb (s + f) p.n) (ltb f p.r)

-- what filling the run (s, f) answers, or leaves in the second buffer: by refusal 1, 2, 12 or, where no codeword lies within the run, 3, in this order, or
-- where it is done
unfoldable pub filling : {A : Type 0} → Profile → List ℕ → ℕ → ℕ → List ℕ → Bool → A → A → A → A → A → A
filling p y s f out within one two span none done = refusing p (correct_fits p y out) one two (pick (is_span p s f) (pick within done none) span)

-- whether a codeword lies within the run (s, f), f < r: the cells of the shifted remainder from f on are zero
unfoldable pub is_within : Profile → List ℕ → ℕ → ℕ → Bool
is_within p y s f = leb (extent (shifted_remainder p.b p.r s y)) f

unfoldable pub fill_answer : Profile → List ℕ → ℕ → ℕ → List ℕ → Filled
fill_answer p y s f out = filling p y s f out (is_within p y s f) (Err fills.BadProfile) (Err fills.WrongLength) (Err fills.BadSpan) (Err fills.NoCodeword) (Ok tt)

unfoldable pub fill_leaves : Profile → List ℕ → ℕ → ℕ → List ℕ → List ℕ
fill_leaves p y s f out = filling p y s f out (is_within p y s f) out out out out (run_word p y s f)

-- the same by cells E that are at hand in the place of the shifted remainder
unfoldable pub fill_by_answer : Profile → List ℕ → ℕ → ℕ → List ℕ → List ℕ → Filled
fill_by_answer p y s f E out = filling p y s f out (leb (extent E) f) (Err fills.BadProfile) (Err fills.WrongLength) (Err fills.BadSpan) (Err fills.NoCodeword) (Ok tt)

unfoldable pub fill_by_leaves : Profile → List ℕ → ℕ → ℕ → List ℕ → List ℕ → List ℕ
fill_by_leaves p y s f E out = filling p y s f out (leb (extent E) f) out out out out (added_at s (take f E) y)
