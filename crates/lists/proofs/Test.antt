-- Computed tests: `all f n` tests each number below n, and `all-at` takes one of them out.
-- A test that computes to true is proved by `tt`, and what it proves follows by induction on the bound.
-- Assumes nothing.
use mathlib.Core.Path.{◌≡◌, refl, subst, sym, ap, ◌∙◌}
use mathlib.Core.Logic.{◌⊎◌, ◌≢◌, inl, inr, ⊎_elim}
use mathlib.Core.Bool.{Bool, true, false}
use Prim.Native.Nat.{ℕ, zero, suc, ◌≤◌, ◌<◌, zero-le, suc-le-suc}
use native.Mathlib.Nat.{le_of_suc-le-suc, not-suc-le-zero, eq-or-lt_of_le}
use lib.Dec.{T, eqb, eqb→eq}
use native.Mathlib.Omega.{arith}
use Rattle.lists.specs.Choice.{pick, both}

pub both_left : (a b : Bool) → T (both a b) → T a
both_left true b t = tt
both_left false b t = t

pub both_right : (a b : Bool) → T (both a b) → T b
both_right true b t = t
both_right false b t = absurd t

-- f holds of each number below n
abbrev pub all : (ℕ → Bool) → ℕ → Bool
all f zero = true
all f (suc n) = both (f n) (all f n)

pub all-at : (f : ℕ → Bool) (n : ℕ) → T (all f n) → (i : ℕ) → i < n → T (f i)
all-at f zero t i h = absurd (not-suc-le-zero h)
all-at f (suc n) t i h =
    ⊎_elim (λ e. subst (λ (k : ℕ). T (f k)) (sym e) (both_left (f n) (all f n) t)) (λ l. all-at f n (both_right (f n) (all f n) t) i l)
    (eq-or-lt_of_le (le_of_suc-le-suc h))

-- a test of equality at each number below n
pub equal_below : (f g : ℕ → ℕ) (n : ℕ) → T (all (λ i. eqb (f i) (g i)) n) → (i : ℕ) → i < n → f i ≡ g i
equal_below f g n t i h = eqb→eq (f i) (g i) (all-at (λ k. eqb (f k) (g k)) n t i h)

-- and at all triples of bits
pub equal_bits : (f g : ℕ → ℕ → ℕ → ℕ) → T (all (λ x. all (λ y. all (λ z. eqb (f x y z) (g x y z)) 2) 2) 2)
    → (x y z : ℕ) → x < 2 → y < 2 → z < 2 → f x y z ≡ g x y z
equal_bits f g t x y z hx hy hz =
    equal_below (f x y) (g x y) 2
    (all-at (λ b. all (λ c. eqb (f x b c) (g x b c)) 2) 2 (all-at (λ a. all (λ b. all (λ c. eqb (f a b c) (g a b c)) 2) 2) 2 t x hx) y hy) z hz

pub lt-or_ge : (i j : ℕ) → (i < j) ⊎ (j ≤ i)
lt-or_ge i zero = inr zero-le
lt-or_ge zero (suc j) = inl (suc-le-suc zero-le)
lt-or_ge (suc i) (suc j) = ⊎_elim (λ h. inl (suc-le-suc h)) (λ h. inr (suc-le-suc h)) (lt-or_ge i j)

-- a number is zero or is not
pub zero_or : (n : ℕ) → (n ≡ 0) ⊎ (n ≢ 0)
zero_or zero = inl refl
zero_or (suc n) = inr (omega arith)

-- a test is true or false, and not both
pub true_or_false : (t : Bool) → (t ≡ true) ⊎ (t ≡ false)
true_or_false true = inl refl
true_or_false false = inr refl

pub true_false : {t : Bool} → t ≡ true → t ≡ false → ⊥
true_false {t} p q = let z : ◌≡◌ {A = ℕ} 1 0 = ap (λ (u : Bool). pick u 1 0) (sym p ∙ q) in omega arith

-- what holds of both cases of a choice holds of the choice
pub pick_of {ℓ} : {A : Type ℓ} (P : A → Type 0) (t : Bool) (x y : A) → P x → P y → P (pick t x y)
pick_of P true x y a b = a
pick_of P false x y a b = b

-- what two tests say together
pub both_true : (a b : Bool) → both a b ≡ true → (a ≡ true) × (b ≡ true)
both_true true b h = (refl, h)
both_true false b h = absurd (true_false h refl)
