-- The steps of the pass over the starts, over plain values: the four answers for one start, and the lengths that are kept after one start more.
use mathlib.Core.Path.{◌≡◌, sym, ap, ap₂, ◌∙◌}
use mathlib.Core.Logic.{⊎_elim}
use mathlib.Core.List.{List}
use Prim.Native.Nat.{ℕ, ◌+◌, ◌≤◌, ◌<◌}
use native.Mathlib.Nat.{eq-or-lt_of_le}
use native.Mathlib.Numerals.{add-one}
use native.Mathlib.Omega.{arith}
use lib.Dec.{eqb, ltb}
use lib.ListN.{length, get_or, set}
use lib.Seq.{get_or-set_same, get_or-set_other}
use borrow.Author.Tests.{eq-eqb, ne_eqb, lt-ltb, le-ltb}
use Rattle.lists.specs.Choice.{pick}
use Rattle.lists.proofs.Test.{pick_of}
use Rattle.code.specs.Code.{generator}
use Rattle.code.specs.Run.{back_step, back_steps}
use Rattle.code.specs.Search.{extent}
use Rattle.code.proofs.Search.{extent-le}
use Rattle.words.specs.Cells.{pad_to}
use Rattle.words.proofs.Pad.{pad_at}
use Rattle.words.proofs.LastCell.{extent_pad}
use Rattle.profile.specs.declared.Profile.{Profile}
use Rattle.candidates.specs.Candidates.{tight_from, tight_length}

-- ---- one start

module _ (p : Profile) (s : ℕ) (E : List ℕ) (e : ℕ) (q : e ≡ extent E) (f : ℕ) (z : f ≡ get_or E 0 0) where
  pub first-zero : f ≡ 0 → 0 ≡ tight_from p s E
  unfolding tight_from
  first-zero h = rw (← z, eq-eqb f 0 h)

  module _ (h : f ≡ 0 → ⊥) where
    pub too_long : p.limit < e → 0 ≡ tight_from p s E
    unfolding tight_from
    too_long l = rw (← z, ne_eqb f 0 h, ← q, lt-ltb _ _ l)

    module _ (l : e ≤ p.limit) where
      pub past_end : p.n < s + e → 0 ≡ tight_from p s E
      unfolding tight_from
      past_end m = rw (← z, ne_eqb f 0 h, ← q, le-ltb _ _ l, lt-ltb _ _ m)

      pub tight_found : s + e ≤ p.n → e ≡ tight_from p s E
      unfolding tight_from
      tight_found m = rw (← z, ne_eqb f 0 h, ← q, le-ltb _ _ l, le-ltb _ _ m)

-- the length is no more than the cells of the shifted remainder
tight_from-le : (p : Profile) (s : ℕ) (E : List ℕ) → tight_from p s E ≤ length E
unfolding tight_from
tight_from-le p s E =
    let e : ℕ = extent E in
    let P : ℕ → Type 0 = λ (x : ℕ). x ≤ length E in
    pick_of P (eqb (get_or E 0 0) 0) 0 (pick (ltb p.limit e) 0 (pick (ltb p.n (s + e)) 0 e)) (omega arith)
    (pick_of P (ltb p.limit e) 0 (pick (ltb p.n (s + e)) 0 e) (omega arith) (pick_of P (ltb p.n (s + e)) 0 e (omega arith) (extent-le E)))

pub tight_le : (t : ℕ) (p : Profile) (s : ℕ) (E : List ℕ) → t ≡ tight_from p s E → t ≤ length E
tight_le t p s E e = omega (arith, tight_from-le p s E)

-- ---- all starts

module _ (p : Profile) (R : List ℕ) where
  abbrev G : List ℕ
  G = generator p.b p.r

  -- the lengths for the starts below s are kept
  abbrev pub Kept : ℕ → List ℕ → Type 0
  Kept s lengths = (i : ℕ) → i < s → get_or lengths i 0 ≡ tight_length p R i

  tight_pad : (s : ℕ) (E : List ℕ) → length E ≤ 64 → tight_from p s (pad_to 64 E) ≡ tight_from p s E
  unfolding tight_from
  tight_pad s E h =
      ap₂ (λ (x e : ℕ). pick (eqb x 0) 0 (pick (ltb p.limit e) 0 (pick (ltb p.n (s + e)) 0 e))) (pad_at 64 E 0 (omega arith)) (extent_pad 64 E h)

  pub tight_here : (s t : ℕ) (C : List ℕ) → length (back_steps s G R) ≤ 64 → C ≡ pad_to 64 (back_steps s G R) → t ≡ tight_from p s C → t ≡ tight_length p R s
  unfolding tight_length
  tight_here s t C h e q = q ∙ ap (tight_from p s) e ∙ tight_pad s (back_steps s G R) h

  pub kept_next : (s t : ℕ) (lengths : List ℕ) → s < length lengths → Kept s lengths → t ≡ tight_length p R s → Kept (s + 1) (set lengths s t)
  kept_next s t lengths l k e i h =
      ⊎_elim
      (λ q. ap (λ (j : ℕ). get_or (set lengths s t) j 0) q ∙ get_or-set_same lengths s t 0 l ∙ e ∙ ap (tight_length p R) (sym q))
      (λ q. get_or-set_other lengths s i t 0 (λ u. omega arith) ∙ k i (omega arith))
      (eq-or-lt_of_le (let m : i ≤ s = omega arith in m))

  pub shifted_none : (X : List ℕ) → X ≡ pad_to 64 R → X ≡ pad_to 64 (back_steps 0 G R)
  unfolding back_steps
  shifted_none X e = e

  pub shifted_next : (s : ℕ) (X : List ℕ) → X ≡ pad_to 64 (back_step G (back_steps s G R)) → X ≡ pad_to 64 (back_steps (s + 1) G R)
  unfolding back_steps
  shifted_next s X e = rw (add-one s) e
