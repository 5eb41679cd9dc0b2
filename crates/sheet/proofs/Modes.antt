-- What a block's verdict means in each mode: it is refused by one number, or goes to one codeword, tells whether a cell was changed, and has small numbers. Every theorem on a
-- read sheet follows from `block_law`, and is proved for all modes at once.
use mathlib.Core.Path.{◌≡◌, refl, sym, ap, subst, ◌∙◌}
use mathlib.Core.Logic.{◌↔◌, ◌≢◌, ◌⊎◌, inl, inr, ⊎_elim}
use mathlib.Core.Bool.{true, false}
use mathlib.Core.List.{List}
use Rattle.std.specs.Prelude.{Ok, Err}
use Rattle.std.specs.Result.{is_ok}
use Prim.Native.Nat.{ℕ, ◌+◌, ◌<◌, ◌≤◌}
use native.Mathlib.Omega.{arith}
use Rattle.code.specs.Code.{distance}
use Rattle.code.proofs.Distance.{distance_self, distance-same}
use Rattle.profile.specs.Profile.{InRange, half}
use Rattle.block.specs.Block.{verdict, corrected, look_answer}
use Rattle.block.specs.Numbers.{Verdict, correct_refusal_number, verdict_number, verdict_start, verdict_length, verdict_count, verdict_lowest}
use Rattle.block.specs.Runs.{Cells, Word, Reached, OneReached}
use Rattle.spots.specs.Spots.{spot_verdict, spot_word}
use Rattle.spots.specs.Nearest.{NearestWord}
use Rattle.profile.specs.declared.Profile.{Profile}
use Rattle.block.specs.declared.numbers.Correction.TheVariants as corrections
use Rattle.block.specs.declared.numbers.Refusal.{Refusal}
use Rattle.block.specs.declared.numbers.Refusal.TheVariants.{BadProfile, WrongLength, Uncorrectable, Ambiguous, TooManyErrors, Sparse}
use Rattle.sheet.specs.declared.Mode.{Mode}
use Rattle.sheet.specs.declared.Mode.TheVariants.{Burst, Spots}
use Rattle.block.proofs.Shortest.{empty_run, word_clean}
use Rattle.block.proofs.NumberLaws.{verdict_of, verdict-0, verdict-late}
use Rattle.block.proofs.Verdicts.{clean_one, clean_exempt, verdict-none, verdict-two, verdict_sparse, verdict-one}
use Rattle.block.proofs.Answers.{block-answer}
use Rattle.block.proofs.LookAndFill.{looks_then_fills}
use Rattle.spots.proofs.Verdicts.{spot_none, spot_one, spot_near}
use Rattle.spots.proofs.Answers.{spot_of, spot-late}
use Rattle.sheet.specs.Modes.{verdict_in, word_in, GoesTo, BlockRefusedBy}

-- ---- a verdict has a number exactly where it is a refusal

refusal-some : (e : Refusal) → correct_refusal_number e ≢ 0
refusal-some BadProfile = λ q. omega arith
refusal-some WrongLength = λ q. omega arith
refusal-some Uncorrectable = λ q. omega arith
refusal-some Ambiguous = λ q. omega arith
refusal-some TooManyErrors = λ q. omega arith
refusal-some Sparse = λ q. omega arith

pub ok_0 : (w : Verdict) → is_ok w ≡ true → verdict_number w ≡ 0
ok_0 (Ok c) t = refl
ok_0 (Err e) t = absurd (cc)

pub number-ok : (w : Verdict) → verdict_number w ≡ 0 → is_ok w ≡ true
number-ok (Ok c) q = refl
number-ok (Err e) q = absurd (refusal-some e q)

pub number-refused : (w : Verdict) → verdict_number w ≢ 0 → (e : Refusal) × (w ≡ Err e)
number-refused (Ok c) n = absurd (n refl)
number-refused (Err e) n = (e, refl)

pub not_ok : (w : Verdict) → is_ok w ≡ false → verdict_number w ≢ 0
not_ok (Ok c) t = absurd (cc)
not_ok (Err e) t = refusal-some e

-- the law on the modes
module _ (mode : Mode) (p : Profile) (y : List ℕ) where
  pub record BlockLaw : Type 0 where
    pub refused : (number : ℕ) → ((verdict_number (verdict_in mode p y) ≡ number) × (number ≢ 0)) ↔ BlockRefusedBy mode p y number
    pub accepted : (c : List ℕ) → ((verdict_number (verdict_in mode p y) ≡ 0) × (word_in mode p y ≡ c)) ↔ GoesTo mode p y c
    pub changed : verdict_number (verdict_in mode p y) ≡ 0 → (verdict_length (verdict_in mode p y) + verdict_count (verdict_in mode p y) ≡ 0) ↔ (word_in mode p y ≡ y)
    pub small : verdict_number (verdict_in mode p y) ≡ 0 → (verdict_start (verdict_in mode p y) < 256) × (verdict_length (verdict_in mode p y) + verdict_count (verdict_in mode p y) < 256)

-- ---- burst mode

module _ (p : Profile) (y : List ℕ) where
  burst-refused : verdict_number (verdict p y) ≢ 0 → (verdict p y ≡ Err Uncorrectable) ⊎ ((verdict p y ≡ Err Ambiguous) ⊎ (verdict p y ≡ Err Sparse))
  burst-refused =
      verdict_of (λ (w : Verdict). verdict_number w ≢ 0 → (w ≡ Err Uncorrectable) ⊎ ((w ≡ Err Ambiguous) ⊎ (w ≡ Err Sparse))) (λ n. inl refl) (λ n. inr (inl refl))
      (λ n. inr (inr refl)) (λ s f n. absurd (n refl)) p y

  module _ (v : InRange p) (h : Cells p y) where
    burst-changed : verdict_number (verdict p y) ≡ 0 → (verdict_length (verdict p y) + verdict_count (verdict p y) ≡ 0) ↔ (corrected p y ≡ y)
    burst-changed q =
        let w = verdict-0 p y q in
        let s : ℕ = verdict_start (verdict p y) in
        let f : ℕ = verdict_length (verdict p y) in
        let o : OneReached p y s f (corrected p y) = ((verdict-one p y v h s f (corrected p y)).0 (w, refl)).0 in
        let z : verdict_count (verdict p y) ≡ 0 = ap verdict_count w in (
          λ e. empty_run p.n p.r p.b y s (corrected p y) h.count (subst (λ (x : ℕ). Reached p y s x (corrected p y)) (let k : f ≡ 0 = omega arith in k) o.reached),
          λ e. let k : f ≡ 0 = (o.clean e).1 in omega arith,
        )

    burst-small : verdict_number (verdict p y) ≡ 0 → (verdict_start (verdict p y) < 256) × (verdict_length (verdict p y) + verdict_count (verdict p y) < 256)
    burst-small q =
        let w = verdict-0 p y q in
        let s : ℕ = verdict_start (verdict p y) in
        let f : ℕ = verdict_length (verdict p y) in
        let o : OneReached p y s f (corrected p y) = ((verdict-one p y v h s f (corrected p y)).0 (w, refl)).0 in
        let z : verdict_count (verdict p y) ≡ 0 = ap verdict_count w in
        let run : s + f ≤ p.n = o.reached.run in
        (omega (arith, run, v.n_most), omega (arith, run, v.n_most, z))

    -- a look answers the verdict
    pub look_verdict : look_answer p y ≡ verdict p y
    look_verdict = (looks_then_fills p y y h.bytes h.count).answer ∙ block-answer p v y h.count y h.count

    burst_law : BlockLaw Burst p y
    burst_law = record {
      refused = λ number. (
        λ q. ⊎_elim (λ e. inl (sym q.0 ∙ ap verdict_number e, (verdict-none p y v h).0 e))
            (⊎_elim (λ e. inr (inl (sym q.0 ∙ ap verdict_number e, (verdict-two p y v h).0 e))) (λ e. inr (inr (sym q.0 ∙ ap verdict_number e, (verdict_sparse p y v h).0 e))))
            (burst-refused (λ e. q.1 (sym q.0 ∙ e))),
        λ r. ⊎_elim (λ n. (ap verdict_number ((verdict-none p y v h).1 n.1) ∙ sym n.0, λ e. let k : number ≡ 3 = n.0 in omega arith))
            (⊎_elim (λ z. (ap verdict_number ((verdict-two p y v h).1 z.1) ∙ sym z.0, λ e. let k : number ≡ 4 = z.0 in omega arith))
            (λ z. (ap verdict_number ((verdict_sparse p y v h).1 z.1) ∙ sym z.0, λ e. let k : number ≡ 16 = z.0 in omega arith))) r,
      );
      accepted = λ c. (
        λ q. (verdict_start (verdict p y), verdict_length (verdict p y), (verdict-one p y v h _ _ c).0 (verdict-0 p y q.0, q.1)),
        λ g. let q = (verdict-one p y v h g.0 g.1 c).1 g.2 in (ap verdict_number q.0, q.1),
      );
      changed = burst-changed;
      small = burst-small;
    }

-- ---- spot mode

module _ (p : Profile) (y : List ℕ) where
  spot_refused : verdict_number (spot_verdict p y) ≢ 0 → spot_verdict p y ≡ Err TooManyErrors
  spot_refused = spot_of (λ (w : Verdict). verdict_number w ≢ 0 → w ≡ Err TooManyErrors) (λ n. refl) (λ t j n. absurd (n refl)) p y

  spot_0 : verdict_number (spot_verdict p y) ≡ 0 → spot_verdict p y ≡ Ok (corrections.Cells (verdict_count (spot_verdict p y)) (verdict_lowest (spot_verdict p y)))
  spot_0 =
      spot_of (λ (w : Verdict). verdict_number w ≡ 0 → w ≡ Ok (corrections.Cells (verdict_count w) (verdict_lowest w))) (λ e. absurd (omega arith)) (λ t j e. refl) p y

  module _ (v : InRange p) (h : Cells p y) where
    spot_changed : verdict_number (spot_verdict p y) ≡ 0 → (verdict_length (spot_verdict p y) + verdict_count (spot_verdict p y) ≡ 0) ↔ (spot_word p y ≡ y)
    spot_changed q =
        let w = spot_0 q in
        let c : List ℕ = spot_word p y in
        let t : ℕ = verdict_count (spot_verdict p y) in
        let o : NearestWord p y t (verdict_lowest (spot_verdict p y)) c = (spot_one p y v h t (verdict_lowest (spot_verdict p y)) c).0 (w, refl) in
        let d : distance y c ≡ t = o.count in
        let z : verdict_length (spot_verdict p y) ≡ 0 = ap verdict_length w in (
          λ e. sym (distance-same y c (h.count ∙ sym o.word.cells) (let k : distance y c ≡ 0 = omega arith in k)),
          λ e. let k : distance y c ≡ 0 = ap (distance y) e ∙ distance_self y in omega arith,
        )

    spot_small : verdict_number (spot_verdict p y) ≡ 0 → (verdict_start (spot_verdict p y) < 256) × (verdict_length (spot_verdict p y) + verdict_count (spot_verdict p y) < 256)
    spot_small q =
        let w = spot_0 q in
        let o : NearestWord p y (verdict_count (spot_verdict p y)) (verdict_lowest (spot_verdict p y)) (spot_word p y) = (spot_one p y v h _ _ (spot_word p y)).0 (w, refl) in
        let s : verdict_start (spot_verdict p y) ≡ 0 = ap verdict_start w in
        let z : verdict_length (spot_verdict p y) ≡ 0 = ap verdict_length w in
        let t : verdict_count (spot_verdict p y) ≤ half p = o.within in
        (omega (arith, s), omega (arith, z, t, v.r_most))

    spot_law : BlockLaw Spots p y
    spot_law = record {
      refused = λ number. (
        λ q. let e = spot_refused (λ z. q.1 (sym q.0 ∙ z)) in (sym q.0 ∙ ap verdict_number e, (spot_none p y v h).0 e),
        λ r. (ap verdict_number ((spot_none p y v h).1 r.1) ∙ sym r.0, λ e. let k : number ≡ 11 = r.0 in omega arith),
      );
      accepted = λ c. (
        λ q. (verdict_count (spot_verdict p y), verdict_lowest (spot_verdict p y), (spot_one p y v h _ _ c).0 (spot_0 q.0, q.1)),
        λ g. let q = (spot_one p y v h g.0 g.1 c).1 g.2 in (ap verdict_number q.0, q.1),
      );
      changed = spot_changed;
      small = spot_small;
    }

-- ---- every mode

pub block_law : (mode : Mode) (p : Profile) (y : List ℕ) → InRange p → Cells p y → BlockLaw mode p y
block_law Burst p y v h = burst_law p y v h
block_law Spots p y v h = spot_law p y v h

-- a verdict on cells is neither refusal 1 nor 2
pub late_in : (mode : Mode) (p : Profile) (y : List ℕ) → (verdict_number (verdict_in mode p y) ≢ 1) × (verdict_number (verdict_in mode p y) ≢ 2)
late_in Burst p y = let z = verdict-late p y in (z.not_1, z.not_2)
late_in Spots p y = spot-late p y

-- a block goes to a codeword
pub word_of : (mode : Mode) (p : Profile) (y c : List ℕ) → GoesTo mode p y c → Word p c
word_of Burst p y c g = g.2.0.reached.codeword
word_of Spots p y c g = g.2.word

-- a codeword goes to itself
module _ (p : Profile) (y : List ℕ) (v : InRange p) (w : Word p y) where
  whole : Cells p y
  whole = record { count = w.cells; bytes = w.bytes }

  pub own_word : (mode : Mode) → GoesTo mode p y y
  own_word Burst = (0, 0, (clean_one p y v whole (word_clean p y v whole w), clean_exempt p y y))
  own_word Spots = spot_near p y v whole y (record { word = w; within = let z = distance_self y in omega arith })
