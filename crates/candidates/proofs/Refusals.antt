-- The refusals of listing, and that the buffer is enough, for every profile and all buffers: each answer is one of three cases.
use Rattle.std.specs.Prelude.{Result, Ok, Err}
use mathlib.Core.Path.{◌≡◌, refl, subst}
use mathlib.Core.Logic.{◌≢◌, ⊎_elim}
use mathlib.Core.Bool.{true}
use mathlib.Core.List.{List}
use Prim.Native.Nat.{ℕ, ◌+◌, ◌*◌, ◌≤◌}
use native.Mathlib.Omega.{arith}
use lib.ListN.{length, drop}
use Rattle.lists.proofs.Test.{true_or_false}
use Rattle.profile.specs.Profile.{InRange, in_range}
use Rattle.profile.specs.Numbers.{early_number}
use Rattle.answers.proofs.Numbers.{no_place}
use Rattle.profile.specs.Refusals.{EarlyRefusals}
use Rattle.profile.specs.declared.refusals.Refusal.{Refusal}
use Rattle.profile.specs.declared.refusals.Refusal.TheVariants.{BadProfile, WrongLength}
use Rattle.profile.proofs.Ranges.{in_range_lem}
use Rattle.profile.proofs.Refusing.{early_of}
use Rattle.profile.specs.declared.Profile.{Profile}
use Rattle.block.proofs.Promises.{two_lengths}
use Rattle.candidates.specs.Candidates.{candidates, laid_behind, list_fits, list_answer, list_leaves}
use Rattle.candidates.specs.Numbers.{listed_count}
use Rattle.candidates.specs.Promises.{CandidateRefusals, RoomEnough}
use Rattle.candidates.proofs.Laying.{laid-length, laid-rest}
use Rattle.candidates.proofs.Entries.{list_one, list_two, list_done}
use Rattle.candidates.proofs.Listing.{listed-most}

module _ (p : Profile) (y out : List ℕ) where
  right_lengths : list_fits p y out ≡ true → (length y ≡ p.n) × (length out ≡ 2 * p.n)
  unfolding list_fits
  right_lengths b = (two_lengths (length y) (length out) p.n (2 * p.n)).0 b

  by_cases : (P : Result ℕ Refusal → List ℕ → Type 0) → P (Err BadProfile) out → P (Err WrongLength) out
      → (InRange p → length out ≡ 2 * p.n → P (Ok (length (candidates p y))) (laid_behind 0 (candidates p y) out)) → P (list_answer p y out) (list_leaves p y out)
  by_cases P one two done =
      ⊎_elim
      (λ a. ⊎_elim
      (λ b. moved (list_done p y out a b) (done ((in_range_lem p).0 a) (right_lengths b).1))
      (λ b. moved (list_two p y out a b) two)
      (true_or_false (list_fits p y out)))
      (λ a. moved (list_one p y out a) one)
      (true_or_false (in_range p))
    where
      moved : {a : Result ℕ Refusal} {l : List ℕ} → (a ≡ list_answer p y out) × (l ≡ list_leaves p y out) → P a l → P (list_answer p y out) (list_leaves p y out)
      moved {a = a} {l = l} q h = subst (P (list_answer p y out)) q.1 (subst (λ (w : Result ℕ Refusal). P w l) q.0 h)

  early : EarlyRefusals p ((length y ≡ p.n) × (length out ≡ 2 * p.n)) (early_number (list_answer p y out))
  unfolding list_answer list_fits
  early =
      early_of p (list_fits p y out) ((length y ≡ p.n) × (length out ≡ 2 * p.n)) (two_lengths (length y) (length out) p.n (2 * p.n)) early_number
      (Err BadProfile) (Err WrongLength) (Ok (length (candidates p y))) refl refl (λ e. omega arith) (λ e. omega arith)

  pub candidate_refusals : CandidateRefusals p y out
  candidate_refusals = record {
    early = early;
    others = by_cases (λ (a : Result ℕ Refusal) (l : List ℕ). early_number a ≢ 1 → early_number a ≢ 2 → early_number a ≡ 0) (λ n m. absurd (n refl)) (λ n m. absurd (m refl)) (λ v e n m. refl);
    place = no_place (list_answer p y out);
    kept = by_cases (λ (a : Result ℕ Refusal) (l : List ℕ). early_number a ≢ 0 → (l ≡ out) × (listed_count a ≡ 0)) (λ n. (refl, refl)) (λ n. (refl, refl)) (λ v e n. absurd (n refl));
  }

  pub room_enough : RoomEnough p y out
  room_enough = record {
    most = by_cases (λ (a : Result ℕ Refusal) (l : List ℕ). listed_count a ≤ p.n) (omega arith) (omega arith) (λ v e. listed-most p y v);
    same = by_cases (λ (a : Result ℕ Refusal) (l : List ℕ). length l ≡ length out) refl refl (λ v e. laid-length 0 out (candidates p y) (room v e));
    behind = by_cases (λ (a : Result ℕ Refusal) (l : List ℕ). drop (2 * listed_count a) l ≡ drop (2 * listed_count a) out) refl refl
        (λ v e.
        let z : 0 + length (candidates p y) ≡ length (candidates p y) = omega arith in
        subst (λ (k : ℕ). drop (2 * k) (laid_behind 0 (candidates p y) out) ≡ drop (2 * k) out) z (laid-rest 0 out (candidates p y) (room v e)));
  }
    where
      room : InRange p → length out ≡ 2 * p.n → 2 * (0 + length (candidates p y)) ≤ length out
      room v e = omega (arith, listed-most p y v)
