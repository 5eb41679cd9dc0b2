-- The cases of the entry, over plain values: refusal 1, refusal 2, a block that is a codeword, and the list by the lengths for the starts.
use mathlib.Core.Path.{◌≡◌, sym, ap, ◌∙◌}
use Rattle.std.specs.Prelude.{Result, Ok, Err, ⊤}
use mathlib.Core.Bool.{true, false}
use mathlib.Core.List.{List, [], ◌∷◌}
use Prim.Native.Nat.{ℕ, ◌*◌, ◌≤◌, ◌<◌}
use lib.ListN.{length, get_or, take}
use lib.Seq.{length-take-le}
use Rattle.std.proofs.lemmas.List.{get_or-take}
use Rattle.code.specs.Code.{generator, remainder}
use Rattle.profile.specs.Profile.{in_range}
use Rattle.profile.specs.Refusals.{refusing}
use Rattle.profile.specs.declared.refusals.Refusal.{Refusal}
use Rattle.lists.specs.Choice.{pick}
use Rattle.lists.proofs.Test.{true_or_false}
use mathlib.Core.Logic.{⊎_elim}
use lib.Dec.{eqb}
use borrow.Author.Tests.{eq-eqb, ne_eqb}
use Rattle.profile.specs.declared.Profile.{Profile}
use Rattle.profile.proofs.Refusing.{refuse_one, refuse_two, accept, not_admitted}
use Rattle.block.specs.Block.{is_clean}
use Rattle.candidates.specs.Candidates.{tight_length, up_to_length, candidates, laid_behind, list_fits, list_answer, list_leaves}
use Rattle.candidates.specs.Lengths.{length_at}
use Rattle.profile.specs.declared.refusals.Refusal.TheVariants.{BadProfile, WrongLength}
use Rattle.candidates.proofs.Lists.{none, up_to_same}

module _ (p : Profile) (y out : List ℕ) where
  pub list_one : in_range p ≡ false → (Err BadProfile ≡ list_answer p y out) × (out ≡ list_leaves p y out)
  unfolding list_answer list_leaves
  list_one e = (refuse_one p _ _ _ _ e, refuse_one p _ _ _ _ e)

  pub list_two : in_range p ≡ true → list_fits p y out ≡ false → (Err WrongLength ≡ list_answer p y out) × (out ≡ list_leaves p y out)
  unfolding list_answer list_leaves
  list_two v f = (refuse_two p _ _ _ _ v f, refuse_two p _ _ _ _ v f)

  pub list_done : in_range p ≡ true → list_fits p y out ≡ true → (Ok (length (candidates p y)) ≡ list_answer p y out) × (laid_behind 0 (candidates p y) out ≡ list_leaves p y out)
  unfolding list_answer list_leaves
  list_done v f = (accept p _ _ _ _ v f, accept p _ _ _ _ v f)

  pub list_fits_lem : length y ≡ p.n → length out ≡ 2 * p.n → list_fits p y out ≡ true
  unfolding list_fits
  list_fits_lem e f = rw (eq-eqb _ _ e, eq-eqb _ _ f)

  pub pairs_wrong : (length out ≡ 2 * p.n → ⊥) → list_fits p y out ≡ false
  unfolding list_fits
  pairs_wrong h = rw (ne_eqb _ _ h) (⊎_elim (λ q. rw q) (λ q. rw q) (true_or_false (eqb (length y) p.n)))

  -- refusal 1, or 2 where the block has not n cells, before the pairs are looked at
  read_first : {A : Type 0} (one two rest : A) → refusing p (eqb (length y) p.n) one two (pick (eqb (length out) (2 * p.n)) rest two) ≡ refusing p (list_fits p y out) one two rest
  unfolding refusing list_fits
  read_first one two rest = ⊎_elim (λ q. rw q) (λ q. rw q) (true_or_false (eqb (length y) p.n))

  pub list_refused : (e : Refusal) → ◌≡◌ {A = Result ⊤ Refusal} (refusing p (eqb (length y) p.n) (Err BadProfile) (Err WrongLength) (Ok tt)) (Err e) → (Err e ≡ list_answer p y out) × (out ≡ list_leaves p y out)
  unfolding list_answer list_leaves
  list_refused e q = (
    not_admitted p (eqb (length y) p.n) Err _ e q ∙ read_first (Err BadProfile) (Err WrongLength) (Ok (length (candidates p y))),
    not_admitted p (eqb (length y) p.n) (λ _. out) _ e q ∙ read_first out out (laid_behind 0 (candidates p y) out),
  )

module _ (p : Profile) (y : List ℕ) where
  pub listed_clean : is_clean p.b p.r y ≡ true → none ∷ [] ≡ candidates p y
  unfolding candidates
  listed_clean e = rw e

  -- R the remainder
  pub listed_wrong : is_clean p.b p.r y ≡ false → candidates p y ≡ up_to_length (tight_length p (remainder p.r (generator p.b p.r) y)) p.n p.limit
  unfolding candidates
  listed_wrong e = rw e

  -- and the first n of the lengths those of its shifted remainders
  pub listed_by : is_clean p.b p.r y ≡ false → (R lengths : List ℕ) → R ≡ remainder p.r (generator p.b p.r) y → p.n ≤ length lengths
      → ((s : ℕ) → s < p.n → get_or lengths s 0 ≡ tight_length p R s) → up_to_length (length_at (take p.n lengths)) (length (take p.n lengths)) p.limit ≡ candidates p y
  listed_by e R lengths q l h =
      ap (λ (k : ℕ). up_to_length (length_at (take p.n lengths)) k p.limit) (length-take-le p.n lengths l)
      ∙ up_to_same (length_at (take p.n lengths)) (tight_length p R) p.n p.limit (λ s k. get_or-take p.n lengths s 0 k ∙ h s k)
      ∙ ap (λ (u : List ℕ). up_to_length (tight_length p u) p.n p.limit) q
      ∙ sym (listed_wrong e)
