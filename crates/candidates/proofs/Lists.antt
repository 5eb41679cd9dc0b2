-- Lists of runs by length and then start: how many there are, which they are, and their order. Each start gives at most one run, so there are no more than starts.
use mathlib.Core.Path.{◌≡◌, refl, sym, ap, ap₂, ◌∙◌, subst}
use mathlib.Core.Logic.{◌⊎◌, inl, inr, ⊎_elim}
use mathlib.Core.List.{List, [], ◌∷◌, ◌++◌, append-nil}
use Prim.Native.Nat.{ℕ, zero, suc, ◌+◌, ◌-◌, ◌≤◌, ◌<◌}
use native.Mathlib.Nat.{le_of_suc-le-suc, not-suc-le-zero, eq-or-lt_of_le}
use native.Mathlib.Numerals.{add-one}
use native.Mathlib.Omega.{arith}
use lib.Dec.{eqb}
use lib.ListN.{length, get_or, length-append, get_or-append}
use lib.Seq.{get_or-append-add}
use borrow.Author.Tests.{eqb-true, eq-eqb, ne_eqb}
use Rattle.lists.specs.Choice.{pick}
use Rattle.lists.proofs.Test.{lt-or_ge, true_or_false}
use Rattle.candidates.specs.Candidates.{Run, of_length, up_to_length}

-- where a list has no entry
abbrev pub none : Run
none = record { start = 0; size = 0 }

-- ---- one start more

module _ (t : ℕ → ℕ) (f s : ℕ) where
  pub of_length-found : t s ≡ f → of_length t f (s + 1) ≡ of_length t f s ++ (record { start = s; size = f } ∷ [])
  unfolding of_length
  of_length-found e = rw (add-one s, eq-eqb (t s) f e)

  pub of_length_other : (t s ≡ f → ⊥) → of_length t f (s + 1) ≡ of_length t f s
  unfolding of_length
  of_length_other n = rw (add-one s, ne_eqb (t s) f n, append-nil)

one-length : (t : ℕ → ℕ) (f n : ℕ) → length (of_length t f (suc n)) ≡ length (of_length t f n) + pick (eqb (t n) f) 1 0
unfolding of_length
one-length t f n =
    ⊎_elim (λ q. rw q (length-append (of_length t f n) (record { start = n; size = f } ∷ []))) (λ q. rw q (omega (arith, ap length (append-nil (of_length t f n))))) (true_or_false (eqb (t n) f))

pub of_length-grows : (t : ℕ → ℕ) (f s n : ℕ) → s ≤ n → length (of_length t f s) ≤ length (of_length t f n)
of_length-grows t f s zero h = let e : s ≡ 0 = omega arith in rw e (omega arith)
of_length-grows t f s (suc n) h =
    ⊎_elim (λ q. rw q (omega arith))
    (λ q. omega (arith, of_length-grows t f s n (le_of_suc-le-suc q), one-length t f n)) (eq-or-lt_of_le h)

-- one length more
pub up_to_next : (t : ℕ → ℕ) (n f : ℕ) → 0 < f → up_to_length t n f ≡ up_to_length t n (f - 1) ++ of_length t f n
unfolding up_to_length
up_to_next t n zero pos = absurd (omega arith)
up_to_next t n (suc f) pos = let e : suc f - 1 ≡ f = omega arith in rw e

-- the lengths for the starts are all that counts
of_length-same : (t u : ℕ → ℕ) (f n : ℕ) → ((s : ℕ) → s < n → t s ≡ u s) → of_length t f n ≡ of_length u f n
unfolding of_length
of_length-same t u f zero h = refl
of_length-same t u f (suc n) h =
    ap₂ (λ (l : List Run) (x : ℕ). l ++ pick (eqb x f) (record { start = n; size = f } ∷ []) []) (of_length-same t u f n (λ s k. h s (omega arith))) (h n (omega arith))

pub up_to_same : (t u : ℕ → ℕ) (n f : ℕ) → ((s : ℕ) → s < n → t s ≡ u s) → up_to_length t n f ≡ up_to_length u n f
unfolding up_to_length
up_to_same t u n zero h = refl
up_to_same t u n (suc f) h = ap₂ (λ (a b : List Run). a ++ b) (up_to_same t u n f h) (of_length-same t u (suc f) n h)

-- ---- how many

-- a start with length x gives one run of 1 to f cells, or none
abbrev given : ℕ → ℕ → ℕ
given zero x = 0
given (suc f) x = given f x + pick (eqb x (suc f)) 1 0

given-none : (f x : ℕ) → f < x → given f x ≡ 0
given-none zero x h = refl
given-none (suc f) x h = let e = given-none f x (omega arith) in let n : x ≡ suc f → ⊥ = (λ q. omega arith) in rw (ne_eqb x (suc f) n) (omega arith)

given-most : (f x : ℕ) → given f x ≤ 1
given-most zero x = omega arith
given-most (suc f) x =
    ⊎_elim (λ q. let e = given-none f x (let u : x ≡ suc f = eqb-true x (suc f) q in omega arith) in rw q (omega arith)) (λ q. let m = given-most f x in rw q (omega arith))
    (true_or_false (eqb x (suc f)))

length-next : (t : ℕ → ℕ) (n f : ℕ) → length (up_to_length t (suc n) f) ≡ length (up_to_length t n f) + given f (t n)
unfolding up_to_length
length-next t n zero = refl
length-next t n (suc f) =
    omega (arith, length-append (up_to_length t (suc n) f) (of_length t (suc f) (suc n)), length-append (up_to_length t n f) (of_length t (suc f) n), length-next t n f, one-length t (suc f) n)

length-zero : (t : ℕ → ℕ) (f : ℕ) → length (up_to_length t 0 f) ≡ 0
unfolding up_to_length of_length
length-zero t zero = refl
length-zero t (suc f) = ap length (append-nil (up_to_length t 0 f)) ∙ length-zero t f

-- no more than starts
pub length_most : (t : ℕ → ℕ) (n f : ℕ) → length (up_to_length t n f) ≤ n
length_most t zero f = omega (arith, length-zero t f)
length_most t (suc n) f = omega (arith, length-next t n f, length_most t n f, given-most f (t n))

-- ---- which runs

-- x stands in the list
abbrev pub Stands : Run → List Run → Type 0
Stands x l = (i : ℕ) × (i < length l) × (get_or l i none ≡ x)

-- each entry has the property
abbrev pub Every : (Run → Type 0) → List Run → Type 0
Every P l = (i : ℕ) → i < length l → P (get_or l i none)

every_append : (P : Run → Type 0) (a b : List Run) → Every P a → Every P b → Every P (a ++ b)
every_append P a b h k i l =
    ⊎_elim (λ m. subst P (sym (get_or-append a b none i m)) (h i m))
    (λ m.
    let e : length a + (i - length a) ≡ i = omega arith in
    subst P (sym (get_or-append-add a b (i - length a) none) ∙ ap (λ (j : ℕ). get_or (a ++ b) j none) e) (k (i - length a) (omega (arith, length-append a b))))
    (lt-or_ge i (length a))

stands-left : (x : Run) (a b : List Run) → Stands x a → Stands x (a ++ b)
stands-left x a b (i, m, e) = (i, omega (arith, length-append a b), get_or-append a b none i m ∙ e)

stands_right : (x : Run) (a b : List Run) → Stands x b → Stands x (a ++ b)
stands_right x a b (i, m, e) = (length a + i, omega (arith, length-append a b), get_or-append-add a b i none ∙ e)

module _ (t : ℕ → ℕ) where
  -- a run of f cells from a start below n, which has that length
  abbrev At : ℕ → ℕ → Run → Type 0
  At f n x = (x.start < n) × (x.size ≡ f) × (t x.start ≡ f)

  of_length-each : (f n : ℕ) → Every (At f n) (of_length t f n)
  unfolding of_length
  of_length-each f zero = λ i l. absurd (not-suc-le-zero l)
  of_length-each f (suc n) =
      every_append (At f (suc n)) (of_length t f n) (pick (eqb (t n) f) (record { start = n; size = f } ∷ []) [])
      (λ i l. let k = of_length-each f n i l in (omega (arith, k.0), k.1, k.2))
      (⊎_elim (λ q. rw q (one (eqb-true (t n) f q))) (λ q. rw q (λ i l. absurd (not-suc-le-zero l))) (true_or_false (eqb (t n) f)))
    where
      one : t n ≡ f → Every (At f (suc n)) (record { start = n; size = f } ∷ [])
      one e zero l = (omega arith, refl, e)
      one e (suc i) l = absurd (omega arith)

  of_length_has : (f n s : ℕ) → s < n → t s ≡ f → Stands (record { start = s; size = f }) (of_length t f n)
  unfolding of_length
  of_length_has f zero s l e = absurd (not-suc-le-zero l)
  of_length_has f (suc n) s l e =
      ⊎_elim
      (λ q. stands_right (record { start = s; size = f }) (of_length t f n) _
      (let u : t n ≡ f = ap t (sym q) ∙ e in rw (eq-eqb (t n) f u) (0, omega arith, ap (λ (k : ℕ). record { start = k; size = f }) (sym q))))
      (λ q. stands-left (record { start = s; size = f }) (of_length t f n) _ (of_length_has f n s (omega arith) e))
      (eq-or-lt_of_le (le_of_suc-le-suc l))

  -- exactly the starts below n with a length of 1 to f, each with its length
  abbrev pub UpTo : ℕ → ℕ → Run → Type 0
  UpTo n f x = (x.start < n) × (t x.start ≡ x.size) × (0 < x.size) × (x.size ≤ f)

  pub up_to_each : (n f : ℕ) → Every (UpTo n f) (up_to_length t n f)
  unfolding up_to_length
  up_to_each n zero = λ i l. absurd (not-suc-le-zero l)
  up_to_each n (suc f) =
      every_append (UpTo n (suc f)) (up_to_length t n f) (of_length t (suc f) n)
      (λ i l. let k = up_to_each n f i l in (k.0, k.1, k.2, omega (arith, k.3)))
      (λ i l. let k = of_length-each (suc f) n i l in (k.0, k.2 ∙ sym k.1, omega (arith, k.1), omega (arith, k.1)))

  pub up_to_has : (n f s x : ℕ) → s < n → t s ≡ x → 0 < x → x ≤ f → Stands (record { start = s; size = x }) (up_to_length t n f)
  unfolding up_to_length
  up_to_has n zero s x l e pos h = absurd (omega arith)
  up_to_has n (suc f) s x l e pos h =
      ⊎_elim
      (λ q.
      stands_right (record { start = s; size = x }) (up_to_length t n f) (of_length t (suc f) n)
      (subst (λ (k : ℕ). Stands (record { start = s; size = k }) (of_length t (suc f) n)) (sym q) (of_length_has (suc f) n s l (e ∙ q))))
      (λ q. stands-left (record { start = s; size = x }) (up_to_length t n f) (of_length t (suc f) n) (up_to_has n f s x l e pos (omega arith)))
      (eq-or-lt_of_le h)

-- ---- in order

-- shorter, or as long and from a lower start
abbrev pub Before : Run → Run → Type 0
Before x z = (x.size < z.size) ⊎ ((x.size ≡ z.size) × (x.start < z.start))

abbrev pub Ordered : List Run → Type 0
Ordered l = (i j : ℕ) → i < j → j < length l → Before (get_or l i none) (get_or l j none)

ordered-append : (a b : List Run) → Ordered a → Ordered b → ((i : ℕ) → i < length a → Every (Before (get_or a i none)) b) → Ordered (a ++ b)
ordered-append a b h k m i j l e =
    ⊎_elim
    (λ q. rw (get_or-append a b none i (omega arith), get_or-append a b none j q) (h i j l q))
    (λ q.
    let n = length-append a b in
    let ej : length a + (j - length a) ≡ j = omega arith in
    let at_j : get_or (a ++ b) j none ≡ get_or b (j - length a) none = ap (λ (x : ℕ). get_or (a ++ b) x none) (sym ej) ∙ get_or-append-add a b (j - length a) none in
    ⊎_elim
    (λ u. let below : j - length a < length b = omega arith in rw (get_or-append a b none i u, at_j) (m i u (j - length a) below))
    (λ u.
    let ei : length a + (i - length a) ≡ i = omega arith in
    let at_i : get_or (a ++ b) i none ≡ get_or b (i - length a) none = ap (λ (x : ℕ). get_or (a ++ b) x none) (sym ei) ∙ get_or-append-add a b (i - length a) none in
    let less : i - length a < j - length a = omega arith in
    let below : j - length a < length b = omega arith in
    rw (at_i, at_j) (k (i - length a) (j - length a) less below))
    (lt-or_ge i (length a)))
    (lt-or_ge j (length a))

of_length-ordered : (t : ℕ → ℕ) (f n : ℕ) → Ordered (of_length t f n)
unfolding of_length
of_length-ordered t f zero = λ i j l m. absurd (not-suc-le-zero m)
of_length-ordered t f (suc n) =
    ordered-append (of_length t f n) (pick (eqb (t n) f) (record { start = n; size = f } ∷ []) []) (of_length-ordered t f n)
    (⊎_elim (λ q. rw q (λ i j l m. absurd (omega arith))) (λ q. rw q (λ i j l m. absurd (not-suc-le-zero m))) (true_or_false (eqb (t n) f)))
    (λ i l. let k = of_length-each t f n i l in ⊎_elim (λ q. rw q (last k.1 k.0)) (λ q. rw q (λ j m. absurd (not-suc-le-zero m))) (true_or_false (eqb (t n) f)))
  where
    last : {x : Run} → x.size ≡ f → x.start < n → Every (Before x) (record { start = n; size = f } ∷ [])
    last e l zero m = inr (e, l)
    last e l (suc j) m = absurd (omega arith)

pub up_to_ordered : (t : ℕ → ℕ) (n f : ℕ) → Ordered (up_to_length t n f)
unfolding up_to_length
up_to_ordered t n zero = λ i j l m. absurd (not-suc-le-zero m)
up_to_ordered t n (suc f) =
    ordered-append (up_to_length t n f) (of_length t (suc f) n) (up_to_ordered t n f) (of_length-ordered t (suc f) n)
    (λ i l j m. let k = up_to_each t n f i l in let u = of_length-each t (suc f) n j m in inl (omega (arith, k.3, u.1)))
