-- The reader's two passes. What is judged of a block in the first is kept where later blocks leave it alone, and is found again in the second; a fill by it
-- leaves the block's codeword.
use mathlib.Core.Path.{◌≡◌, refl, sym, ap, ap₂, subst, ◌∙◌}
use mathlib.Core.Logic.{◌≢◌, ⊎_elim}
use mathlib.Core.List.{List}
use Rattle.std.specs.Prelude.{Option, Some, Ok, slice_get, slice_set}
use Prim.Native.Nat.{ℕ, ◌+◌, ◌*◌, ◌≤◌, ◌<◌}
use native.Mathlib.Nat.{eq-or-lt_of_le}
use native.Mathlib.Omega.{arith}
use lib.ListN.{length, drop, replicate}
use borrow.Author.Tests.{eq-eqb, ne_eqb}
use Rattle.lists.specs.Bytes.{Bytes}
use Rattle.lists.proofs.Test.{zero_or}
use Rattle.register.specs.Words.{cells}
use Rattle.register.specs.declared.Register.{Register}
use Rattle.profile.specs.Profile.{InRange, message_length}
use Rattle.block.specs.Block.{look_answer, look_error, fill_by_leaves, fill_leaves}
use Rattle.block.specs.Numbers.{verdict_number, verdict_start, verdict_length, verdict_count}
use Rattle.block.specs.Runs.{Cells}
use Rattle.block.proofs.NumberLaws.{verdict-0}
use Rattle.block.proofs.Answers.{block-leaves}
use Rattle.block.proofs.LookAndFill.{accepted_look, fill_by_look}
use Rattle.spots.specs.Spots.{spot_answer, spot_leaves}
use Rattle.spots.proofs.Answers.{spot-answer, spot-leaves}
use Rattle.profile.specs.declared.Profile.{Profile}
use Rattle.block.specs.declared.Judgement.{Judgement}
use Rattle.block.specs.declared.numbers.Correction.{Correction}
use Rattle.sheet.specs.declared.Mode.{Mode}
use Rattle.sheet.specs.declared.Mode.TheVariants.{Burst, Spots}
use Rattle.sheet.specs.declared.found.Run.{Run}
use Rattle.sheet.specs.declared.found.Findings.{Findings}
use Rattle.sheet.specs.Modes.{verdict_in, word_in}
use Rattle.sheet.specs.Sheet.{block_of, read_block, block_verdict, codeword}
use Rattle.sheet.specs.Steps.{size_of, run_of, Small, error_in, JudgedAs, with_error, Found, FoundAt}
use Rattle.sheet.proofs.Lists.{get-set_same, get-set_other, get-set_is}
use Rattle.sheet.proofs.Apart.{message_cells}
use Rattle.sheet.proofs.Modes.{block_law, look_verdict}
use Rattle.sheet.proofs.Theorems.{block_cells}

-- ---- judging

module _ (p : Profile) (v : InRange p) (y : List ℕ) where
  pub judged-burst : Cells p y → (z : Judgement) → z.verdict ≡ look_answer p y → cells z.error ≡ look_error p y → JudgedAs Burst p y z
  judged-burst h z q e = record { verdict = q ∙ look_verdict p y v h; error = e }

  pub judged-spots : length y ≡ p.n → (word : List ℕ) → length word ≡ p.n → (z : Judgement) → z.verdict ≡ spot_answer p y word → cells z.error ≡ replicate 64 0
      → JudgedAs Spots p y z
  judged-spots h word l z q e = record { verdict = q ∙ spot-answer p v y h word l; error = e }

-- the mode is the one that was matched
pub judged_in : (mode told : Mode) (p : Profile) (y : List ℕ) (z : Judgement) → mode ≡ told → JudgedAs told p y z → JudgedAs mode p y z
judged_in mode told p y z e h = subst (λ (m : Mode). JudgedAs m p y z) (sym e) h

-- cells that were gathered are those of the block
pub gathered_is : (p : Profile) (sheet : List ℕ) (d m : ℕ) (y : List ℕ) → m ≡ p.n → y ≡ block_of p.depth m sheet d → y ≡ read_block p sheet d
unfolding read_block
gathered_is p sheet d m y e q = q ∙ ap (λ (x : ℕ). block_of p.depth x sheet d) e

pub found_at : (mode : Mode) (p : Profile) (y b : List ℕ) (run : Run) (error : Option Register) → y ≡ b → Found mode p b run error → Found mode p y run error
found_at mode p y b run error e h = subst (λ (c : List ℕ). Found mode p c run error) (sym e) h

pub judged-at : (mode : Mode) (p : Profile) (y b : List ℕ) (z : Judgement) → y ≡ b → JudgedAs mode p y z → JudgedAs mode p b z
judged-at mode p y b z e h = subst (λ (c : List ℕ). JudgedAs mode p c z) e h

-- what is judged of block d is its verdict, and has small numbers where it is accepted
module _ (mode : Mode) (p : Profile) (sheet : List ℕ) (d : ℕ) (z : Judgement) (j : JudgedAs mode p (read_block p sheet d) z) where
  pub verdict-at : z.verdict ≡ block_verdict mode p sheet d
  unfolding block_verdict
  verdict-at = j.verdict

  pub small_at : InRange p → Bytes sheet → (c : Correction) → z.verdict ≡ Ok c → Small c
  small_at v h c e =
      let q : verdict_in mode p (read_block p sheet d) ≡ Ok c = sym j.verdict ∙ e in
      let l = (block_law mode p (read_block p sheet d) v (block_cells p sheet d h)).small (ap verdict_number q) in
      let k : (verdict_start (Ok c) < 256) × (verdict_length (Ok c) + verdict_count (Ok c) < 256) = rw q at l in
      record { start = k.0; size = k.1 }

-- ---- keeping

-- the cases of a kept error
module _ (errors : List Register) (d : ℕ) (run : Run) (E : Register) where
  pub error-none : run.size ≡ 0 → errors ≡ with_error errors d run E
  unfolding with_error
  error-none e = rw (eq-eqb run.size 0 e)

  pub error-put : (run.size ≡ 0 → ⊥) → slice_set errors d E ≡ with_error errors d run E
  unfolding with_error
  error-put n = rw (ne_eqb run.size 0 n)

  -- other errors are as they were
  error-other : (e : ℕ) → e ≢ d → slice_get (with_error errors d run E) e ≡ slice_get errors e
  error-other e n =
      ⊎_elim (λ z. ap (λ (u : List Register). slice_get u e) (sym (error-none z)))
      (λ z. ap (λ (u : List Register). slice_get u e) (sym (error-put z)) ∙ get-set_other errors d e E n) (zero_or run.size)

-- what was found of block d, whose cells are judged as they are and accepted, joins what was found of the blocks below
module _ (mode : Mode) (p : Profile) (sheet : List ℕ) (f g : Findings) (d : ℕ) (z : Judgement) (c : Correction) (l : d < length f.runs)
    (j : JudgedAs mode p (read_block p sheet d) z) (q : z.verdict ≡ Ok c)
    (r : g.runs ≡ slice_set f.runs d (run_of c)) (e : g.errors ≡ with_error f.errors d (run_of c) z.error) where
  its_error : (E : Register) → slice_get g.errors d ≡ Some E → size_of c ≢ 0 → cells E ≡ error_in mode p (read_block p sheet d)
  its_error E k n =
      let there : slice_get (slice_set f.errors d z.error) d ≡ Some E = rw (error-put f.errors d (run_of c) z.error n, sym e) k in
      ap cells (get-set_is f.errors d z.error E there) ∙ j.error

  found-new : FoundAt mode p (read_block p sheet d) d g
  found-new = record {
    run = run_of c;
    kept = rw r (get-set_same f.runs d (run_of c) l);
    found = record { correction = c; verdict = sym j.verdict ∙ q; run_is = refl; error_is = its_error };
  }

  found-old : (i : ℕ) → i < d → FoundAt mode p (read_block p sheet i) i f → FoundAt mode p (read_block p sheet i) i g
  found-old i b h = record {
    run = h.run;
    kept = rw (r, get-set_other f.runs d i (run_of c) (λ x. omega arith)) h.kept;
    found = subst (λ (x : Option Register). Found mode p (read_block p sheet i) h.run x) (sym (rw e (error-other f.errors d (run_of c) z.error i (λ x. omega arith)))) h.found;
  }

  pub found-more : ((i : ℕ) → i < d → FoundAt mode p (read_block p sheet i) i f) → (i : ℕ) → i < d + 1 → FoundAt mode p (read_block p sheet i) i g
  found-more h i b =
      ⊎_elim (λ x. rw x found-new) (λ m. found-old i m (h i m)) (eq-or-lt_of_le (let m : i ≤ d = omega arith in m))

-- ---- filling

-- what was found of block d, as it is read again
pub found-of : (mode : Mode) (p : Profile) (y : List ℕ) (d : ℕ) (f : Findings) → FoundAt mode p y d f → (run : Run) → slice_get f.runs d ≡ Some run
    → (error : Option Register) → error ≡ slice_get f.errors d → Found mode p y run error
found-of mode p y d f h run q error e =
    let same : Some h.run ≡ Some run = sym h.kept ∙ q in
    let z : h.run ≡ run = cc in
    rw (sym z, e) h.found

-- an accepted verdict has the number 0
pub found-number : (mode : Mode) (p : Profile) (y : List ℕ) (run : Run) (error : Option Register) → Found mode p y run error → verdict_number (verdict_in mode p y) ≡ 0
found-number mode p y run error g = ap verdict_number g.verdict

module _ (p : Profile) (v : InRange p) (y : List ℕ) (h : Cells p y) (run : Run) (error : Option Register) (g : Found Burst p y run error) (out : List ℕ) (o : length out ≡ p.n) where
  number : verdict_number (verdict_in Burst p y) ≡ 0
  number = found-number Burst p y run error g

  looked : verdict_number (look_answer p y) ≡ 0
  looked = ap verdict_number (look_verdict p y v h) ∙ number

  is-look : Ok g.correction ≡ look_answer p y
  is-look = sym g.verdict ∙ sym (look_verdict p y v h)

  start_is : run.start ≡ verdict_start (look_answer p y)
  start_is = ap (λ (x : Run). x.start) g.run_is ∙ ap verdict_start is-look

  -- a verdict of burst mode counts no cells
  size_is : run.size ≡ verdict_length (look_answer p y)
  size_is =
      let c : verdict_count (Ok g.correction) ≡ 0 = ap verdict_count (sym g.verdict ∙ verdict-0 p y number) in
      let e : size_of g.correction ≡ verdict_length (Ok g.correction) = omega (arith, c) in
      ap (λ (x : Run). x.size) g.run_is ∙ e ∙ ap verdict_length is-look

  -- by the error that was kept
  pub filled_by : (E : Register) → error ≡ Some E → run.size ≢ 0 → (left : List ℕ) → left ≡ fill_by_leaves p y run.start run.size (cells E) out → left ≡ word_in Burst p y
  filled_by E k n left t =
      t ∙ ap₂ (λ (s f : ℕ). fill_by_leaves p y s f (cells E) out) start_is size_is ∙ fill_by_look p y out (cells E) h.bytes o (g.error_is E k n) looked
      ∙ block-leaves p v y h.count out o number

  -- by the block's own cells
  pub filled_again : (left : List ℕ) → left ≡ fill_leaves p y run.start run.size out → left ≡ word_in Burst p y
  filled_again left t =
      t ∙ ap₂ (λ (s f : ℕ). fill_leaves p y s f out) start_is size_is
      ∙ (accepted_look p y out h.bytes o looked).leaves ∙ block-leaves p v y h.count out o number

pub filled-spots : (p : Profile) (v : InRange p) (y : List ℕ) → length y ≡ p.n → verdict_number (verdict_in Spots p y) ≡ 0 → (out left : List ℕ) → length out ≡ p.n
    → left ≡ spot_leaves p y out → left ≡ word_in Spots p y
filled-spots p v y h a out left o t = t ∙ spot-leaves p v y h out o a

-- the mode is the one that was matched
pub filled_in : (mode told : Mode) (p : Profile) (y left : List ℕ) → mode ≡ told → left ≡ word_in told p y → left ≡ word_in mode p y
filled_in mode told p y left e h = subst (λ (m : Mode). left ≡ word_in m p y) (sym e) h

pub found_in : (mode told : Mode) (p : Profile) (y : List ℕ) (run : Run) (error : Option Register) → mode ≡ told → Found mode p y run error → Found told p y run error
found_in mode told p y run error e h = subst (λ (m : Mode). Found m p y run error) e h

-- ---- the message of block d

module _ (mode : Mode) (p : Profile) (v : InRange p) (sheet : List ℕ) (d : ℕ) where
  -- of the codeword that was filled
  pub message_filled : (y left : List ℕ) → y ≡ read_block p sheet d → left ≡ word_in mode p y → drop p.r left ≡ drop p.r (codeword mode p sheet d)
  unfolding codeword
  message_filled y left e q = ap (drop p.r) (q ∙ ap (word_in mode p) e)

  -- of an unchanged block, from the sheet
  pub message_read : Cells p (read_block p sheet d) → (run : Run) (error : Option Register) → Found mode p (read_block p sheet d) run error → run.size ≡ 0 → (left : List ℕ)
      → left ≡ block_of p.depth (message_length p) (drop (p.r * p.depth) sheet) d → left ≡ drop p.r (codeword mode p sheet d)
  unfolding codeword read_block
  message_read h run error g e left t =
      let y : List ℕ = read_block p sheet d in
      let k : p.r + message_length p ≡ p.n = omega (arith, v.r_below) in
      let q : size_of g.correction ≡ 0 = sym (ap (λ (x : Run). x.size) g.run_is) ∙ e in
      let none : verdict_length (verdict_in mode p y) + verdict_count (verdict_in mode p y) ≡ 0 = rw g.verdict q in
      let w : word_in mode p y ≡ y = ((block_law mode p y v h).changed (found-number mode p y run error g)).0 none in
      t ∙ message_cells p.depth p.n p.r (message_length p) sheet d k ∙ ap (drop p.r) (sym w)
