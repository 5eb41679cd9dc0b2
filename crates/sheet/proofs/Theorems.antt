-- The theorems of specs/Theorems.antt. On buffers of the right lengths the entry answers by its blocks; what each block's verdict says is the law on the
-- modes.
use mathlib.Core.Path.{◌≡◌, refl, sym, ap, ◌∙◌}
use mathlib.Core.Logic.{◌≢◌, ◌⊎◌, inl, inr, ⊎_elim}
use mathlib.Core.Bool.{Bool, true, false}
use mathlib.Core.List.{List}
use Rattle.std.specs.Prelude.{Ok, Err}
use Rattle.std.specs.Result.{is_ok}
use Prim.Native.Nat.{ℕ, ◌+◌, ◌*◌, ◌/◌, ◌%◌, ◌<◌}
use native.Mathlib.Omega.{arith}
use lib.ListN.{length, get_or, drop, replicate}
use lib.Seq.{get_or-drop}
use Rattle.lists.specs.Choice.{pick}
use Rattle.lists.specs.Bytes.{Bytes}
use Rattle.profile.specs.Profile.{InRange, message_length}
use Rattle.profile.specs.Numbers.{early_number}
use Rattle.block.specs.Numbers.{verdict_number}
use Rattle.block.specs.Runs.{Cells, Word}
use Rattle.profile.specs.declared.Profile.{Profile}
use Rattle.block.proofs.Encoding.{encode-codeword, encode_message}
use Rattle.sheet.specs.declared.Mode.{Mode}
use Rattle.sheet.specs.declared.Refusal.TheVariants.{Block}
use Rattle.block.specs.declared.numbers.Refusal.{Refusal}
use Rattle.sheet.specs.Sheet.{message_of, interleave, joined, written_block, written_sheet, write_sheet_leaves, read_block, block_verdict, codeword, differ, changed_at, sheet_answer, sheet_payload, read_answer, read_scratch, read_payload}
use Rattle.sheet.specs.Numbers.{Reading, reading_number, reading_place, reading_changed}
use Rattle.sheet.specs.Buffers.{Payload, Sheet, Lent, differing}
use Rattle.sheet.specs.Theorems.{WrittenSheet, WritesSheet, HasWord, RefusedBy, LowestRefused, AllWords, Accepts, ReadResults}
use Rattle.sheet.proofs.Apart.{block_length, block_bytes, message_length_lem, message_bytes, message_below, apart, interleave-length, interleave-bytes, same-joined, places}
use Rattle.sheet.proofs.Lists.{get_or_tab}
use Rattle.sheet.proofs.Modes.{ok_0, number-ok, number-refused, not_ok, BlockLaw, block_law}
use Rattle.sheet.proofs.Entry.{write_rest, read-rest}
use Rattle.sheet.proofs.SheetAnswer.{first_false, all_accepted, first-refused}
use Rattle.lists.proofs.Sum.{same_sum}

-- ---- the written sheet

module _ (p : Profile) (m : List ℕ) (v : InRange p) (h : Payload p m) where
  module _ (d : ℕ) (l : d < p.depth) where
    pub written-word : Word p (written_block p m d)
    unfolding written_block
    written-word =
        encode-codeword p.b p.r (message_of (message_length p) m d) (message_bytes (message_length p) m d h.bytes) p.n v.r_below (omega (arith, v.r_most))
        (message_length_lem p.depth (message_length p) m h.count d l)

    pub written_message : drop p.r (written_block p m d) ≡ message_of (message_length p) m d
    unfolding written_block
    written_message = encode_message p.b p.r (message_of (message_length p) m d)

    pub written_block_lem : read_block p (written_sheet p m) d ≡ written_block p m d
    unfolding read_block written_sheet
    written_block_lem = apart p.depth p.n (written_block p m) d l written-word.cells

  pub written-sheet : Sheet p (written_sheet p m)
  unfolding written_sheet
  written-sheet = record { count = interleave-length p.depth p.n (written_block p m); bytes = interleave-bytes p.depth p.n (written_block p m) (λ d l. (written-word d l).bytes) }

  written_cell : (q : ℕ) → q < p.depth * p.n → get_or (written_sheet p m) q 0 ≡ get_or (written_block p m (q % p.depth)) (q / p.depth) 0
  unfolding written_sheet interleave
  written_cell q l = get_or_tab (p.depth * p.n) _ q l

  written_byte : (q : ℕ) → q < p.depth * message_length p → get_or m q 0 ≡ get_or (written_block p m (q / message_length p)) (p.r + q % message_length p) 0
  written_byte q l =
      let k : ℕ = message_length p in
      sym ((places p.depth).byte k q m l)
      ∙ ap (λ (w : List ℕ). get_or w (q % k) 0) (sym (written_message (q / k) (message_below p.depth k q l)))
      ∙ get_or-drop p.r (written_block p m (q / k)) (q % k) 0

  -- what the writer leaves in a buffer of D × n cells
  module _ (cells : List ℕ) (c : length cells ≡ p.depth * p.n) where
    pub leaves_written : write_sheet_leaves p m cells ≡ written_sheet p m
    leaves_written = (write_rest p m cells v h.count c).1

    pub written-laid : WrittenSheet p m cells
    written-laid = record {
      accepted = ap early_number (write_rest p m cells v h.count c).0;
      count = ap length leaves_written ∙ written-sheet.count;
      blocks = written_block p m;
      laid = record {
        words = written-word;
        cells = λ q l. ap (λ (s : List ℕ). get_or s q 0) leaves_written ∙ written_cell q l;
        bytes = written_byte;
      };
    }

pub writes_sheet : WritesSheet
writes_sheet p m cells v h c = written-laid p m v h cells c

-- ---- the sheet that is read

-- cells of one block
pub block_cells : (p : Profile) (sheet : List ℕ) (d : ℕ) → Bytes sheet → Cells p (read_block p sheet d)
unfolding read_block
block_cells p sheet d h = record { count = block_length p.depth p.n sheet d; bytes = block_bytes p.depth p.n sheet d h }

module _ (mode : Mode) (p : Profile) (sheet : List ℕ) (v : InRange p) (h : Bytes sheet) where
  abbrev fine : ℕ → Bool
  fine d = is_ok (block_verdict mode p sheet d)

  -- what the verdict on block d means
  law : (d : ℕ) → BlockLaw mode p (read_block p sheet d)
  law d = block_law mode p (read_block p sheet d) v (block_cells p sheet d h)

  word-fine : (d : ℕ) (c : List ℕ) → HasWord mode p sheet d c → (fine d ≡ true) × (codeword mode p sheet d ≡ c)
  unfolding block_verdict codeword
  word-fine d c w = let q = ((law d).accepted c).1 w in (number-ok _ q.0, q.1)

  fine-word : (d : ℕ) → fine d ≡ true → HasWord mode p sheet d (codeword mode p sheet d)
  unfolding block_verdict codeword
  fine-word d t = ((law d).accepted (codeword mode p sheet d)).0 (ok_0 _ t, refl)

  refused-number : (d number : ℕ) → RefusedBy mode p sheet d number → (verdict_number (block_verdict mode p sheet d) ≡ number) × (number ≢ 0)
  unfolding block_verdict
  refused-number d number r = ((law d).refused number).1 r

  refused-is : (d number : ℕ) → RefusedBy mode p sheet d number → (e : Refusal) × (block_verdict mode p sheet d ≡ Err e)
  refused-is d number r = let q = refused-number d number r in number-refused _ (λ e. q.1 (sym q.0 ∙ e))

  not-fine-refused : (d : ℕ) → fine d ≡ false → RefusedBy mode p sheet d (verdict_number (block_verdict mode p sheet d))
  unfolding block_verdict
  not-fine-refused d t = ((law d).refused (verdict_number (block_verdict mode p sheet d))).0 (refl, not_ok _ t)

  -- a block is refused, or each has a codeword
  pub one-or-all : ((d number : ℕ) × LowestRefused mode p sheet d number) ⊎ ((words : ℕ → List ℕ) × AllWords mode p sheet words)
  one-or-all =
      ⊎_elim (λ a. inr (codeword mode p sheet, (λ d l. fine-word d (a d l))))
      (λ z. inl (
        z.0,
        verdict_number (block_verdict mode p sheet z.0),
        record { below = z.1; refused = not-fine-refused z.0 z.3; before = λ e l. (codeword mode p sheet e, fine-word e (z.2 e l)) },
      )) (first_false fine p.depth)

  pub lowest_answer : (d number : ℕ) → LowestRefused mode p sheet d number → (reading_number (sheet_answer mode p sheet) ≡ number) × (reading_place (sheet_answer mode p sheet) ≡ d)
  lowest_answer d number o =
      let q = refused-number d number o.refused in
      let r = refused-is d number o.refused in
      let a : sheet_answer mode p sheet ≡ Err (Block d (Err r.0)) = first-refused mode p sheet d r.0 o.below (λ e l. (word-fine e (o.before e l).0 (o.before e l).1).0) r.1 in
      (ap reading_number a ∙ ap verdict_number (sym r.1) ∙ q.0, ap reading_place a)

  module _ (words : ℕ → List ℕ) (a : AllWords mode p sheet words) where
    same-changed : (d : ℕ) → d < p.depth → ◌≡◌ {A = ℕ} (changed_at mode p sheet d) (pick (differ (words d) (read_block p sheet d)) 1 0)
    unfolding changed_at
    same-changed d l = rw (word-fine d (words d) (a d l)).1

    pub words-answer : sheet_answer mode p sheet ≡ Ok (differing p.depth words (read_block p sheet))
    words-answer =
        all_accepted mode p sheet (λ d l. (word-fine d (words d) (a d l)).0)
        ∙ ap (λ (n : ℕ). Ok n) (same_sum p.depth (changed_at mode p sheet) (λ (d : ℕ). pick (differ (words d) (read_block p sheet d)) 1 0) same-changed)

    pub words-payload : sheet_payload mode p sheet ≡ joined p.depth (message_length p) (λ (d : ℕ). drop p.r (words d))
    unfolding sheet_payload
    words-payload =
        same-joined p.depth (message_length p) (λ (d : ℕ). drop p.r (codeword mode p sheet d)) (λ (d : ℕ). drop p.r (words d))
        (λ d l. ap (drop p.r) (word-fine d (words d) (a d l)).1)

-- the entry, where profile and lengths are right
module _ (mode : Mode) (p : Profile) (sheet scratch out : List ℕ) (v : InRange p) (h : Lent p sheet scratch out) where
  abbrev answer : Reading
  answer = read_answer mode p sheet scratch out

  rest : (answer ≡ sheet_answer mode p sheet) × (read_scratch mode p sheet scratch out ≡ replicate (length scratch) 0)
      × (read_payload mode p sheet scratch out ≡ pick (is_ok (sheet_answer mode p sheet)) (sheet_payload mode p sheet) out)
  rest = read-rest mode p sheet scratch out v h.cells.count h.scratch_count h.out_count

  lowest : (d number : ℕ) → LowestRefused mode p sheet d number → (reading_number answer ≡ number) × (reading_place answer ≡ d)
  lowest d number o =
      let q = lowest_answer mode p sheet v h.cells.bytes d number o in
      (ap reading_number rest.0 ∙ q.0, ap reading_place rest.0 ∙ q.1)

  -- the answer itself, and what it says by numbers
  pub read-accepts : (words : ℕ → List ℕ) → AllWords mode p sheet words → (answer ≡ Ok (differing p.depth words (read_block p sheet))) × Accepts mode p sheet scratch out words
  read-accepts words a =
      let q = words-answer mode p sheet v h.cells.bytes words a in
      let e : answer ≡ Ok (differing p.depth words (read_block p sheet)) = rest.0 ∙ q in (
        e,
        record {
          number = ap reading_number e;
          place = ap reading_place e;
          changed = ap reading_changed e;
          payload = rest.2 ∙ rw q (words-payload mode p sheet v h.cells.bytes words a);
        },
      )

  pub all_words : (words : ℕ → List ℕ) → AllWords mode p sheet words → Accepts mode p sheet scratch out words
  all_words words a = (read-accepts words a).1

  refusal_lowest : (d number : ℕ) → number ≢ 0 → (reading_number answer ≡ number) × (reading_place answer ≡ d) → LowestRefused mode p sheet d number
  refusal_lowest d number n q =
      ⊎_elim
      (λ z.
      let k = lowest z.0 z.1 z.2 in
      let i : z.0 ≡ d = sym k.1 ∙ q.1 in
      let j : z.1 ≡ number = sym k.0 ∙ q.0 in
      rw (sym i, sym j) z.2)
      (λ z. absurd (n (sym q.0 ∙ (all_words z.0 z.1).number))) (one-or-all mode p sheet v h.cells.bytes)

  refused_some : (d number : ℕ) → LowestRefused mode p sheet d number → number ≢ 0
  refused_some d number o = (refused-number mode p sheet v h.cells.bytes d number o.refused).1

  accepted_words : reading_number answer ≡ 0 → (words : ℕ → List ℕ) × AllWords mode p sheet words
  accepted_words q = ⊎_elim (λ z. absurd (refused_some z.0 z.1 z.2 (sym (lowest z.0 z.1 z.2).0 ∙ q))) (λ z. z) (one-or-all mode p sheet v h.cells.bytes)

pub read-results : ReadResults
read-results mode p sheet scratch out v h = record {
  some = one-or-all mode p sheet v h.cells.bytes;
  refused = λ d number n. (refusal_lowest mode p sheet scratch out v h d number n, lowest mode p sheet scratch out v h d number);
  accepted = (accepted_words mode p sheet scratch out v h, λ z. (all_words mode p sheet scratch out v h z.0 z.1).number);
  accepts = all_words mode p sheet scratch out v h;
  cleared = (rest mode p sheet scratch out v h).1;
}
