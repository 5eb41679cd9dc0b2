-- The promises of specs/Promises.antt. Where profile and lengths are right the entry answers the verdict, of which Verdicts.antt says what it means;
-- else it answers refusal 1 or 2.
use mathlib.Core.Path.{◌≡◌, refl, sym, ap, ap₂, subst, ◌∙◌}
use mathlib.Core.Logic.{◌↔◌, ◌≢◌, ⊎_elim}
use mathlib.Core.Bool.{Bool, true, false}
use Rattle.std.specs.Prelude.{Result, Ok, Err, ⊤}
use mathlib.Core.List.{List}
use Prim.Native.Nat.{ℕ, ◌≤◌, ◌<◌}
use native.Mathlib.Omega.{arith}
use lib.Dec.{eqb}
use lib.ListN.{length, drop}
use borrow.Author.Tests.{eq-eqb, eqb-true}
use Rattle.lists.specs.Choice.{pick, both}
use Rattle.lists.proofs.Test.{true_or_false, both_true}
use Rattle.code.specs.Code.{syndrome, distance}
use Rattle.code.specs.Run.{changed_in}
use Rattle.code.proofs.Division.{codeword-syndromes, syndromes-codeword}
use Rattle.code.proofs.Changed.{changed_inside, one_cell}
use Rattle.profile.specs.Profile.{InRange, message_length}
use Rattle.block.specs.Block.{encode, is_clean, verdict, corrected, filled, write_fits, write_answer, write_leaves, check_answer, correct_fits, correct_answer, correct_leaves}
use Rattle.block.specs.Numbers.{Verdict, verdict_number, verdict_start, verdict_length, checked_clean}
use Rattle.block.specs.Runs.{Cells, Word, OneAccepted}
use Rattle.block.specs.Promises.{WritesCodeword, CleanIff, LentBlock, UncorrectableIff, AmbiguousIff, Corrects, CorrectedIff, SparseIff, ShortExempt, ThreeExempt, CountsAll, HalfPromise, DepthFree, WriteRefusals, CheckRefusals, CorrectRefusals, BlockRefusals}
use Rattle.profile.specs.declared.Profile.{Profile}
use Rattle.block.specs.declared.numbers.Correction.TheVariants.{Run}
use Rattle.block.specs.declared.numbers.Refusal.TheVariants as refusals
use Rattle.profile.specs.declared.refusals.Refusal.{Refusal as EarlyRefusal}
use Rattle.profile.specs.declared.refusals.Refusal.TheVariants as early
use Rattle.profile.specs.Numbers.{refusal_number, early_number}
use Rattle.answers.proofs.Numbers.{no_place, no_value}
use Rattle.profile.proofs.Sparse.{short_exempt}
use Rattle.profile.proofs.Refusing.{refusing_of, same-refusing, early_of, kept_of}
use Rattle.block.proofs.NumberLaws.{number-3, number-4, number-16, case_of, verdict-0, verdict-late, no_values}
use Rattle.block.proofs.Shortest.{clean_word, word_clean}
use Rattle.block.proofs.Entries.{same-fits}
use Rattle.block.proofs.Encoding.{encode_message, encode-codeword, same_message}
use Rattle.block.proofs.Verdicts.{verdict-none, verdict-two, verdict_sparse, verdict-one, verdict-half, same-verdict, same-filled}
use Rattle.block.proofs.Answers.{write-accepted, block_written, block-checked, block-answer, block-leaves, block-kept}

-- ---- the writer

pub writes_codeword : WritesCodeword
writes_codeword p m out v l h e =
    let c : List ℕ = encode p.b p.r m in
    let q : write_leaves p m out ≡ c = block_written p v m out l e in
    let w : Word p c = encode-codeword p.b p.r m h p.n v.r_below (omega (arith, v.r_most)) l in
    record {
      accepted = ap early_number (write-accepted p v m out l e);
      word = subst (Word p) (sym q) w;
      message = ap (drop p.r) q ∙ encode_message p.b p.r m;
      only = λ d hd i. same_message p.n p.r p.b d c v.n_most hd w (i ∙ sym (encode_message p.b p.r m)) ∙ sym q;
    }

-- ---- the checker

module _ (p : Profile) (y : List ℕ) (v : InRange p) (h : Cells p y) where
  abbrev flag : ℕ
  flag = checked_clean (check_answer p y)

  called : (a : Bool) → is_clean p.b p.r y ≡ a → ◌≡◌ {A = ℕ} flag (pick a 1 0)
  called true q = ap checked_clean (block-checked p v y h.count true q)
  called false q = ap checked_clean (block-checked p v y h.count false q)

  flag_word : (flag ≡ 1) ↔ Word p y
  flag_word = (
    λ q. ⊎_elim (λ t. clean_word p y v h t) (λ t. absurd (let z : flag ≡ 0 = called false t in omega arith)) (true_or_false (is_clean p.b p.r y)),
    λ w. called true (word_clean p y v h w),
  )

  checked_accepted : early_number (check_answer p y) ≡ 0
  checked_accepted =
      ⊎_elim (λ t. ap early_number (block-checked p v y h.count true t)) (λ t. ap early_number (block-checked p v y h.count false t))
      (true_or_false (is_clean p.b p.r y))

  flag_else : flag ≢ 1 → flag ≡ 0
  flag_else n = ⊎_elim (λ t. absurd (n (called true t))) (λ t. called false t) (true_or_false (is_clean p.b p.r y))

  word-syndromes : Word p y ↔ ((i : ℕ) → i < p.r → syndrome p.b i y ≡ 0)
  word-syndromes = (
    codeword-syndromes p.n p.r p.b y,
    syndromes-codeword p.n p.r p.b y v.r_below (omega (arith, v.r_most)) h.count h.bytes,
  )

pub clean_iff : CleanIff
clean_iff p y v h =
    let a = flag_word p y v h in
    let b = word-syndromes p y v h in
    record {
      accepted = checked_accepted p y v h;
      syndromes = (λ q. b.0 (a.0 q), λ s. a.1 (b.1 s));
      codeword = a;
      otherwise = flag_else p y v h;
    }

-- ---- the corrector

module _ (p : Profile) (y out : List ℕ) (v : InRange p) (h : LentBlock p y out) where
  abbrev answer : Verdict
  answer = correct_answer p y out

  is_verdict : answer ≡ verdict p y
  is_verdict = block-answer p v y h.cells.count out h.second

  leaves_word : (s f : ℕ) → verdict p y ≡ Ok (Run s f) → correct_leaves p y out ≡ corrected p y
  leaves_word s f q = block-leaves p v y h.cells.count out h.second (ap verdict_number q)

  corrects_there : (s f : ℕ) (c : List ℕ) → Corrects p y out s f c → OneAccepted p y s f c
  corrects_there s f c k =
      let e : answer ≡ verdict p y = is_verdict in
      let w : verdict p y ≡ Ok (Run s f) = verdict-0 p y (ap verdict_number (sym e) ∙ k.accepted) ∙ ap₂ (λ (i j : ℕ). Ok (Run i j)) (ap verdict_start (sym e) ∙ k.start) (ap verdict_length (sym e) ∙ k.size) in
      (verdict-one p y v h.cells s f c).0 (w, sym (leaves_word s f w) ∙ k.leaves)

  corrects_back : (s f : ℕ) (c : List ℕ) → OneAccepted p y s f c → Corrects p y out s f c
  corrects_back s f c o =
      let q = (verdict-one p y v h.cells s f c).1 o in
      let a : answer ≡ Ok (Run s f) = is_verdict ∙ q.0 in
      record { accepted = ap verdict_number a; start = ap verdict_start a; size = ap verdict_length a; leaves = leaves_word s f q.0 ∙ q.1 }

pub uncorrectable_iff : UncorrectableIff
uncorrectable_iff p y out v h =
    let e = is_verdict p y out v h in
    let k = verdict-none p y v h.cells in
    (λ q. k.0 (sym e ∙ number-3 (correct_answer p y out) q), λ n. ap verdict_number (e ∙ k.1 n))

pub ambiguous_iff : AmbiguousIff
ambiguous_iff p y out v h =
    let e = is_verdict p y out v h in
    let k = verdict-two p y v h.cells in
    (λ q. k.0 (sym e ∙ number-4 (correct_answer p y out) q), λ n. ap verdict_number (e ∙ k.1 n))

pub corrected_iff : CorrectedIff
corrected_iff p y out s f c v h = (corrects_there p y out v h s f c, corrects_back p y out v h s f c)

pub sparse_iff : SparseIff
sparse_iff p y out v h =
    let e = is_verdict p y out v h in
    let k = verdict_sparse p y v h.cells in
    (λ q. k.0 (sym e ∙ number-16 (correct_answer p y out) q), λ n. ap verdict_number (e ∙ k.1 n))

pub short_exempts : ShortExempt
short_exempts p y s f c = short_exempt p f (changed_in s f y c)

pub counts_all : CountsAll
counts_all p y s f c h k = changed_inside s f y c (k.codeword.cells ∙ sym h.count) (λ i l o. k.agree i (omega (arith, h.count)) o)

-- with at most one changed cell a run of one cell would do
pub three_exempts : ThreeExempt
three_exempts p y s f c v h o l z =
    let q : changed_in s f y c ≡ distance y c = counts_all p y s f c h o.reached in
    let k = one_cell y c (o.reached.codeword.cells ∙ sym h.count) (omega (arith, h.count, v.n_least)) (omega (arith, z.few)) in
    let m : f ≤ 1 = o.least k.0 1 c (record { run = omega (arith, k.1, h.count); codeword = o.reached.codeword; agree = λ i j u. k.2 i (omega (arith, h.count)) u }) in
    omega (arith, z.long, v.r_least)

pub half_promise : HalfPromise
half_promise p y out s f c v h l m k =
    let q = verdict-half p y s f c v h.cells l m k in
    (ap verdict_number (is_verdict p y out v h ∙ q.0.2), leaves_word p y out v h q.0.0 q.0.1 q.0.2 ∙ q.1)

module _ (p q : Profile) (y out : List ℕ) (v : InRange p) (w : InRange q) (en : p.n ≡ q.n) (er : p.r ≡ q.r) (eb : p.b ≡ q.b) (el : p.limit ≡ q.limit) where
  same_answer : correct_answer p y out ≡ correct_answer q y out
  unfolding correct_answer
  same_answer =
      same-refusing p q (correct_fits p y out) (correct_fits q y out) (Err refusals.BadProfile) (Err refusals.WrongLength) (verdict p y) (verdict q y) v w
      (same-fits p q y out en) (same-verdict p q y en er eb el)

  same_leaves : correct_leaves p y out ≡ correct_leaves q y out
  unfolding correct_leaves
  same_leaves = same-filled p q y en er eb el out (correct_answer p y out) ∙ ap (filled q y out) same_answer

pub depth_free : DepthFree
depth_free p q y out v w en er eb el = (same_answer p q y out v w en er eb el, same_leaves p q y out v w en er eb el)

-- ---- refusals

-- the test of two lengths is what it says
pub two_lengths : (a b m n : ℕ) → (both (eqb a m) (eqb b n) ≡ true) ↔ ((a ≡ m) × (b ≡ n))
two_lengths a b m n = (
  λ t. let z = both_true (eqb a m) (eqb b n) t in (eqb-true a m z.0, eqb-true b n z.1),
  λ z. rw (eq-eqb a m z.0, eq-eqb b n z.1),
)

module _ (p : Profile) (m out : List ℕ) where
  write_refusals : WriteRefusals p m out
  unfolding write_answer write_leaves write_fits
  write_refusals = record {
    early =
        early_of {A = Result ⊤ EarlyRefusal} p (write_fits p m out) _ (two_lengths (length m) (length out) (message_length p) p.n) early_number (Err early.BadProfile) (Err early.WrongLength) (Ok tt) refl refl
        (λ q. omega arith) (λ q. omega arith);
    place = no_place (write_answer p m out);
    kept = λ n. kept_of {A = Result ⊤ EarlyRefusal} p (write_fits p m out) early_number (Err early.BadProfile) (Err early.WrongLength) (Ok tt) out (encode p.b p.r m) refl n;
  }

module _ (p : Profile) (y : List ℕ) where
  check_refusals : CheckRefusals p y
  unfolding check_answer
  check_refusals = record {
    early =
        early_of {A = Result Bool EarlyRefusal} p (eqb (length y) p.n) (length y ≡ p.n) (eqb-true (length y) p.n, eq-eqb (length y) p.n) early_number (Err early.BadProfile) (Err early.WrongLength)
        (Ok (is_clean p.b p.r y)) refl refl (λ q. omega arith) (λ q. omega arith);
    place = no_place (check_answer p y);
    flag = no_value _ refusal_number (check_answer p y);
  }

module _ (p : Profile) (y out : List ℕ) where
  of_burst : case_of (correct_answer p y out) ≢ 2
  unfolding correct_answer
  of_burst =
      refusing_of p (correct_fits p y out) (Err refusals.BadProfile) (Err refusals.WrongLength) (verdict p y) (λ (w : Verdict). case_of w ≢ 2) (λ q. omega arith) (λ q. omega arith)
      (verdict-late p y).burst

  correct_refusals : CorrectRefusals p y out
  unfolding correct_answer correct_fits
  correct_refusals = record {
    early =
        early_of p (correct_fits p y out) _ (two_lengths (length y) (length out) p.n p.n) verdict_number (Err refusals.BadProfile) (Err refusals.WrongLength) (verdict p y) refl refl
        (verdict-late p y).not_1 (verdict-late p y).not_2;
    place = no_place (correct_answer p y out);
    kept = block-kept p y out;
    run = λ n. let z = no_values (correct_answer p y out) n in (z.start, z.size);
    no_cells = (λ q. of_burst (ap case_of q), λ t j q. of_burst (ap case_of q));
  }

pub block_refusals : (p : Profile) → BlockRefusals p
block_refusals p = record { writes = write_refusals p; checks = check_refusals p; corrects = correct_refusals p }
