-- The sheet of document 01 (clauses S1 to S6, E1 to E5): how its blocks lie in it, what the writer and the reader answer, and what they
-- leave in every lent buffer. Refusal 1 goes before 2, and 2 before the rest. Blocks are written by the block crate's definition, and
-- read in a mode by those of Modes.antt.
use Rattle.std.specs.Prelude.{Bool, true, false, Result, Ok, Err, ⊤, List, [], ◌∷◌, ℕ, zero, suc, ◌+◌, ◌*◌, ◌/◌, ◌%◌, eqb, length, get_or, take, drop, replicate}
use Rattle.std.specs.Result.{is_ok}
use Rattle.lists.specs.Choice.{pick, both}
use Rattle.profile.specs.Profile.{message_length}
use Rattle.profile.specs.Refusals.{refusing}
use Rattle.block.specs.Block.{encode}
use Rattle.block.specs.Numbers.{Verdict}
use Rattle.profile.specs.declared.Profile.{Profile}
use Rattle.profile.specs.declared.refusals.Refusal.{Refusal as EarlyRefusal}
use Rattle.profile.specs.declared.refusals.Refusal.TheVariants as early
use Rattle.sheet.specs.declared.Mode.{Mode}
use Rattle.sheet.specs.Modes.{verdict_in, word_in}
use Rattle.sheet.specs.Numbers.{Reading}
use Rattle.sheet.specs.declared.Refusal.TheVariants.{BadProfile, WrongLength, Block}

-- ---- where cells and bytes stand

-- the list f 0, f 1, .., f (n − 1)
abbrev pub tab : ℕ → (ℕ → ℕ) → List ℕ
tab zero f = []
tab (suc n) f = f 0 ∷ tab n (λ (i : ℕ). f (suc i))

-- "Sheet cell p is cell p/D (rounded down) of block p mod D", for D × n cells
unfoldable pub interleave : ℕ → ℕ → (ℕ → List ℕ) → List ℕ
interleave D n block = tab (D * n) (λ (p : ℕ). get_or (block (p % D)) (p / D) 0)

-- so cell i of block d is sheet cell i D + d
unfoldable pub block_of : ℕ → ℕ → List ℕ → ℕ → List ℕ
block_of D n sheet d = tab n (λ (i : ℕ). get_or sheet (i * D + d) 0)

-- "Payload byte q is message byte q mod k of block q/k (rounded down)", for D × k bytes
unfoldable pub joined : ℕ → ℕ → (ℕ → List ℕ) → List ℕ
joined D k message = tab (D * k) (λ (q : ℕ). get_or (message (q / k)) (q % k) 0)

-- so the message of block d is the k payload bytes from d k on
unfoldable pub message_of : ℕ → List ℕ → ℕ → List ℕ
message_of k payload d = take k (drop (d * k) payload)

-- ---- writing

-- block d of a written sheet
unfoldable pub written_block : Profile → List ℕ → ℕ → List ℕ
written_block p payload d = encode p.b p.r (message_of (message_length p) payload d)

unfoldable pub written_sheet : Profile → List ℕ → List ℕ
written_sheet p payload = interleave p.depth p.n (written_block p payload)

-- "A sheet has D × n cells." "The payload has D × k bytes."
unfoldable pub write_sheet_fits : Profile → ℕ → ℕ → Bool
write_sheet_fits p payload sheet = both (eqb payload (p.depth * message_length p)) (eqb sheet (p.depth * p.n))

unfoldable pub write_sheet_answer : Profile → List ℕ → List ℕ → Result ⊤ EarlyRefusal
write_sheet_answer p payload sheet = refusing p (write_sheet_fits p (length payload) (length sheet)) (Err early.BadProfile) (Err early.WrongLength) (Ok tt)

unfoldable pub write_sheet_leaves : Profile → List ℕ → List ℕ → List ℕ
write_sheet_leaves p payload sheet = refusing p (write_sheet_fits p (length payload) (length sheet)) sheet sheet (written_sheet p payload)

-- ---- reading

-- the cells read of block d
unfoldable pub read_block : Profile → List ℕ → ℕ → List ℕ
read_block p sheet d = block_of p.depth p.n sheet d

module _ (mode : Mode) (p : Profile) (sheet : List ℕ) where
  -- their verdict in this mode
  unfoldable pub block_verdict : ℕ → Verdict
  block_verdict d = verdict_in mode p (read_block p sheet d)

  -- the codeword of block d, where it has one
  unfoldable pub codeword : ℕ → List ℕ
  codeword d = word_in mode p (read_block p sheet d)

-- the refusal of block d is the sheet's, with its number; where it has a codeword the rest answers
abbrev pub unless_refused : Verdict → ℕ → Reading → Reading
unless_refused (Ok correction) d rest = rest
unless_refused (Err refusal) d rest = Err (Block d (Err refusal))

-- two lists are not the same
unfoldable pub differ : List ℕ → List ℕ → Bool
differ [] [] = false
differ [] (y ∷ d) = true
differ (x ∷ c) [] = true
differ (x ∷ c) (y ∷ d) = pick (eqb x y) (differ c d) true

module _ (mode : Mode) (p : Profile) (sheet : List ℕ) where
  -- "blocks changed, which are those whose codeword isn't the read block": 1 for such a block, and else 0
  unfoldable pub changed_at : ℕ → ℕ
  changed_at d = pick (differ (codeword mode p sheet d) (read_block p sheet d)) 1 0

  -- what is answered where blocks below d have codewords, `changed` of them were changed, and `left` blocks are left: "If a block is
  -- refused, the sheet is refused with the lowest such block's number."
  unfoldable pub answer_from : ℕ → ℕ → ℕ → Reading
  answer_from zero d changed = Ok changed
  answer_from (suc left) d changed = unless_refused (block_verdict mode p sheet d) d (answer_from left (suc d) (changed + changed_at d))

  -- what is answered on D × n cells
  unfoldable pub sheet_answer : Reading
  sheet_answer = answer_from p.depth 0 0

  -- "the payload, which is the message bytes of the codewords of all its blocks"
  unfoldable pub sheet_payload : List ℕ
  sheet_payload = joined p.depth (message_length p) (λ (d : ℕ). drop p.r (codeword mode p sheet d))

-- a sheet of D × n bytes, "a scratch of n bytes instead of D × n" (document 02, Note 6), and a payload buffer of D × k
unfoldable pub read_fits : Profile → ℕ → ℕ → ℕ → Bool
read_fits p sheet scratch payload =
    both (eqb sheet (p.depth * p.n)) (both (eqb scratch p.n) (eqb payload (p.depth * message_length p)))

module _ (mode : Mode) (p : Profile) (sheet scratch payload : List ℕ) where
  abbrev fits : Bool
  fits = read_fits p (length sheet) (length scratch) (length payload)

  unfoldable pub read_answer : Reading
  read_answer = refusing p fits (Err BadProfile) (Err WrongLength) (sheet_answer mode p sheet)

  -- "After every result but refusals 1 and 2 the scratch is all zero"
  unfoldable pub read_scratch : List ℕ
  read_scratch = refusing p fits scratch scratch (replicate (length scratch) 0)

  -- no payload byte changes unless the sheet is accepted
  unfoldable pub read_payload : List ℕ
  read_payload = refusing p fits payload payload (pick (is_ok (sheet_answer mode p sheet)) (sheet_payload mode p sheet) payload)
