-- The corrector's steps over plain values: the search's state after one start and after all, and the codeword's cells.
use mathlib.Core.Path.{◌≡◌, refl, sym, ap, ap₂, ◌∙◌, subst}
use mathlib.Core.Logic.{◌⊎◌, inl, inr, ⊎_elim}
use mathlib.Core.Bool.{Bool, true, false}
use mathlib.Core.List.{List, [], ◌∷◌, ◌++◌}
use Prim.Native.Nat.{ℕ, zero, suc, ◌+◌, ◌-◌, ◌≤◌, ◌<◌, zero-le}
use native.Mathlib.Nat.{le_of_suc-le-suc, min-le_left}
use native.Mathlib.Numerals.{add-one}
use native.Mathlib.Omega.{arith}
use lib.Dec.{eqb, ltb, leb}
use lib.ListN.{length, get_or, take, drop, replicate, length-take, length-drop, take-append-drop, get_or-append}
use lib.Seq.{get_or-take, length-take-le, get_or-append-add, ext_get_or}
use lib.Bits.{bit_xor}
use borrow.Rule.Slice.PartMut.{mid_of, put_mid}
use borrow.Author.Tests.{eq-eqb, ne_eqb, ltb-true, ltb-false}
use Rattle.lists.specs.Choice.{pick}
use Rattle.lists.proofs.Test.{lt-or_ge, true_or_false, true_false}
use Rattle.field.specs.Field.{add}
use Rattle.field.proofs.Sum.{add_zero_r}
use Rattle.code.specs.Poly.{padd}
use Rattle.code.proofs.Poly.{get_or_padd, get_or_zeros, padd-length, padd-zeros}
use Rattle.code.specs.Run.{ZeroFrom, back_step, back_steps, added_at}
use Rattle.code.specs.Code.{generator}
use Rattle.code.specs.Search.{Best, extent, extents, better, scanned}
use Rattle.code.proofs.Generator.{generator-length}
use Rattle.code.proofs.Shifted.{back_steps-length}
use Rattle.register.specs.Words.{cells}
use Rattle.register.specs.declared.Register.{Register}
use Rattle.words.specs.Cells.{pad_to}
use Rattle.words.proofs.Pad.{pad_length, pad_is}
use Rattle.words.proofs.LastCell.{extent_pad}
use Rattle.block.specs.Found.{best_of, improved_by, Searching}
use Rattle.profile.specs.declared.Profile.{Profile}
use Rattle.block.specs.declared.search.Found.{Found}

-- ---- one start

-- the state without the error goes as the search's definition says
tie_cases : (k : Found) (a b : Bool) → ((a ≡ true) × (b ≡ false)) ⊎ ((a ≡ false) × (b ≡ true))
    → best_of (pick a k (record { size = k.size; start = k.start; again = true; error = k.error }))
    ≡ pick b (record { size = k.size; start = k.start; again = true }) (best_of k)
tie_cases k true true h = ⊎_elim (λ q. absurd (true_false refl q.1)) (λ q. absurd (true_false refl q.0)) h
tie_cases k true false h = refl
tie_cases k false true h = refl
tie_cases k false false h = ⊎_elim (λ q. absurd (true_false q.0 refl)) (λ q. absurd (true_false q.1 refl)) h

-- not below is equal or above
below_or_equal : (m e : ℕ) → m ≤ e → ((ltb m e ≡ true) × (eqb e m ≡ false)) ⊎ ((ltb m e ≡ false) × (eqb e m ≡ true))
below_or_equal m e l =
    ⊎_elim (λ t. inl (t, ne_eqb e m (λ q. let u : m < e = ltb-true m e t in omega arith)))
    (λ t. inr (t, eq-eqb e m (let u : e ≤ m = ltb-false m e t in omega arith))) (true_or_false (ltb m e))

best_improved : (k : Found) (n s : ℕ) (rest : Register) → best_of (improved_by k n s rest) ≡ better n s (extent (cells rest)) (best_of k)
unfolding improved_by better
best_improved k n s rest =
    let e : ℕ = extent (cells rest) in
    ⊎_elim
    (λ t. rw t (⊎_elim (λ u. rw u) (λ u. rw u (tie_cases k (ltb k.size e) (eqb e k.size) (below_or_equal k.size e (ltb-false e k.size u)))) (true_or_false (ltb e k.size))))
    (λ t. rw t) (true_or_false (leb (s + e) n))

-- its error is the one kept, with the start kept, or the one at s
error_improved : (P : ℕ → Register → Type 0) (k : Found) (n s : ℕ) (rest : Register) → P k.start k.error → P s rest
    → P (improved_by k n s rest).start (improved_by k n s rest).error
unfolding improved_by
error_improved P k n s rest old new =
    let e : ℕ = extent (cells rest) in
    ⊎_elim
    (λ t. rw t (⊎_elim (λ u. rw u new) (λ u. rw u (⊎_elim (λ w. rw w old) (λ w. rw w old) (true_or_false (ltb k.size e)))) (true_or_false (ltb e k.size))))
    (λ t. rw t old) (true_or_false (leb (s + e) n))

-- ---- the search

module _ (p : Profile) (R : List ℕ) where
  abbrev G : List ℕ
  G = generator p.b p.r

  pub searching-start : (first : Register) (k : Found) → cells first ≡ pad_to 64 R → k ≡ record { size = p.limit + 1; start = 0; again = false; error = first }
      → Searching p R 0 first k
  unfolding back_steps scanned
  searching-start first k e q = record {
    shifted = e;
    best = ap best_of q ∙ ap (λ (m : ℕ). record { size = m; start = 0; again = false }) (add-one p.limit);
    error = ap (λ (f : Found). cells f.error) q ∙ e ∙ ap (λ (f : Found). pad_to 64 (back_steps f.start G R)) (sym q);
  }

  extent_shifted : (s : ℕ) (rest : Register) → length (back_steps s G R) ≤ 64 → cells rest ≡ pad_to 64 (back_steps s G R) → extent (cells rest) ≡ extents G R s
  unfolding extents
  extent_shifted s rest l e = ap extent e ∙ extent_pad 64 (back_steps s G R) l

  pub searching-next : (s : ℕ) (rest next : Register) (k z : Found) → length R ≡ p.r → p.r ≤ 64 → Searching p R s rest k → z ≡ improved_by k p.n s rest
      → cells next ≡ pad_to 64 (back_step G (back_steps s G R)) → Searching p R (s + 1) next z
  unfolding back_steps scanned
  searching-next s rest next k z lR small h q e =
      let lS : length (back_steps s G R) ≡ p.r = back_steps-length s p.r G R (generator-length p.b p.r) lR in
      let x : extent (cells rest) ≡ extents G R s = extent_shifted s rest (omega arith) h.shifted in
      rw (add-one s) (record {
        shifted = e;
        best = ap best_of q ∙ best_improved k p.n s rest ∙ ap₂ (λ (i : ℕ) (u : Best). better p.n s i u) x h.best;
        error = subst (λ (f : Found). cells f.error ≡ pad_to 64 (back_steps f.start G R)) (sym q)
            (error_improved (λ (i : ℕ) (r : Register). cells r ≡ pad_to 64 (back_steps i G R)) k p.n s rest h.error h.shifted);
      })

-- a register that is zero from cell r on holds its lowest r cells
pub low_cells_of : (r : ℕ) (C : List ℕ) → length C ≡ 64 → r ≤ 64 → ZeroFrom r C → C ≡ pad_to 64 (take r C)
low_cells_of r C l h z =
    let lt : length (take r C) ≡ r = length-take-le r C (omega arith) in
    ext_get_or 0 C (pad_to 64 (take r C)) (l ∙ sym (pad_length 64 (take r C)))
    (λ i m. ap (λ (p : List ℕ). get_or p i 0) (sym (split r C)) ∙ sym (ap (λ (p : List ℕ). get_or p i 0) (pad_is 64 (take r C) (omega arith))
    ∙ same i lt))
  where
    split : (r : ℕ) (C : List ℕ) → take r C ++ drop r C ≡ C
    split r C = take-append-drop r C

    same : (i : ℕ) → length (take r C) ≡ r → get_or (take r C ++ replicate (64 - length (take r C)) 0) i 0 ≡ get_or (take r C ++ drop r C) i 0
    same i lt =
        ⊎_elim
        (λ q. get_or-append (take r C) (replicate (64 - length (take r C)) 0) 0 i (omega arith) ∙ sym (get_or-append (take r C) (drop r C) 0 i (omega arith)))
        (λ q.
        let e : length (take r C) + (i - r) ≡ i = omega arith in
        ap (λ (j : ℕ). get_or (take r C ++ replicate (64 - length (take r C)) 0) j 0) (sym e)
        ∙ get_or-append-add (take r C) (replicate (64 - length (take r C)) 0) (i - r) 0 ∙ get_or_zeros (64 - length (take r C)) (i - r)
        ∙ sym (z i q) ∙ ap (λ (p : List ℕ). get_or p i 0) (sym (take-append-drop r C)))
        (lt-or_ge i r)

-- ---- the error

-- the sum of a part and as many cells of the error
pub sum-length : (part error : List ℕ) → length (padd part (take (length part) error)) ≡ length part
sum-length part error = padd-length part (take (length part) error) (simp length-take (omega (arith, min-le_left (length part) (length error))))

pub sum_cell : (part error : List ℕ) (i : ℕ) → i < length part → get_or (padd part (take (length part) error)) i 0 ≡ bit_xor (get_or part i 0) (get_or error i 0)
unfolding add
sum_cell part error i l = get_or_padd part (take (length part) error) i ∙ ap (bit_xor (get_or part i 0)) (get_or-take (length part) error i 0 l)

-- the sum laid back where the part was taken
sum-front : (f : ℕ) (y e : List ℕ) → f ≤ length y → padd (take f y) (take f e) ++ drop f y ≡ padd y (take f e)
unfolding padd
sum-front zero y e l = sym (padd-zeros y 0 zero-le)
sum-front (suc f) [] e l = absurd (omega arith)
sum-front (suc f) (x ∷ y) [] l = ap (λ (t : List ℕ). x ∷ t) (take-append-drop f y)
sum-front (suc f) (x ∷ y) (z ∷ e) l = ap (λ (t : List ℕ). add x z ∷ t) (sum-front f y e (le_of_suc-le-suc l))

pub sum_placed : (s f : ℕ) (y e : List ℕ) → s + f ≤ length y → put_mid s f y (padd (mid_of s f y) (take f e)) ≡ added_at s (take f e) y
unfolding added_at padd
sum_placed zero f y e l = sum-front f y e (omega arith)
sum_placed (suc s) f [] e l = absurd (omega arith)
sum_placed (suc s) f (x ∷ y) e l = ap₂ ◌∷◌ (sym (add_zero_r x)) (sum_placed s f y e (omega arith))

-- the read cells copied, and the sum laid back over the run
pub placed_law : (read copied part last error : List ℕ) (start size k : ℕ) → start + size ≤ length read → k ≡ size → copied ≡ read → part ≡ mid_of start k copied → last ≡ padd part (take (length part) error)
    → put_mid start k copied last ≡ added_at start (take size error) read
placed_law read copied part last error start size k fits ek same ep el =
    let whole : part ≡ mid_of start size read = ep ∙ ap₂ (λ (i : ℕ) (c : List ℕ). mid_of start i c) ek same in
    let lm : length (mid_of start size read) ≡ size = length-take-le size (drop start read) (omega (arith, length-drop start read)) in
    let sum : last ≡ padd (mid_of start size read) (take size error) = el ∙ ap₂ (λ (q : List ℕ) (i : ℕ). padd q (take i error)) whole (ap length whole ∙ lm) in
    ap₂ (λ (i : ℕ) (c : List ℕ). put_mid start i c last) ek same ∙ ap (put_mid start size read) sum ∙ sum_placed start size read error fits
