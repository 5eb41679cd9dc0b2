-- Values added to the cells at their places: one at a time, eight of a word, and word by word. What is left to lay is what the loops keep.
use mathlib.Core.Path.{◌≡◌, refl, sym, ap, ap₂, ◌∙◌}
use mathlib.Core.Logic.{◌⊎◌, inl, inr}
use mathlib.Core.List.{List, [], ◌∷◌, ◌++◌, map, append-nil}
use Prim.Native.Nat.{ℕ, zero, suc, ◌≤◌, min}
use native.Mathlib.Omega.{arith}
use lib.ListN.{length, get_or, set, take, drop, length-map, length-append, drop_of_length-le}
use lib.Seq.{set_out, take_all, take_at, drop_at}
use Rattle.field.specs.Field.{add}
use Rattle.words.specs.Cells.{pad_to}
use Rattle.words.proofs.Pad.{pad_take, pad_length}
use Rattle.erasure.specs.Filling.{laid_at}

pub laid_none : (E y : List ℕ) → laid_at E [] y ≡ y
unfolding laid_at
laid_none [] y = refl
laid_none (m ∷ E) y = refl

no_places : (vs y : List ℕ) → laid_at [] vs y ≡ y
unfolding laid_at
no_places vs y = refl

-- ---- one value after another

-- what is left to lay, over the cells as they are, is the whole: a value more
pub lay_next : (E F us vs y z R : List ℕ) (m v : ℕ) → E ≡ m ∷ F → us ≡ v ∷ vs → z ≡ set y m (add (get_or y m 0) v) → laid_at E us y ≡ R → laid_at F vs z ≡ R
unfolding laid_at
lay_next E F us vs y z R m v eE eu ez inv =
    ap (laid_at F vs) ez ∙ sym (ap₂ (λ (D u : List ℕ). laid_at D u y) eE eu) ∙ inv

-- where no place or no value is left, the cells are the whole
pub lay_done : (E vs y R : List ℕ) → (length E ≡ 0) ⊎ (length vs ≡ 0) → laid_at E vs y ≡ R → y ≡ R
lay_done [] vs y R h inv = sym (no_places vs y) ∙ inv
lay_done (m ∷ E) [] y R h inv = sym (laid_none (m ∷ E) y) ∙ inv
lay_done (m ∷ E) (v ∷ vs) y R (inl e) inv = absurd (omega arith)
lay_done (m ∷ E) (v ∷ vs) y R (inr e) inv = absurd (omega arith)

-- ---- word by word

map-drop : (f : ℕ → ℕ) (n : ℕ) (l : List ℕ) → drop n (map f l) ≡ map f (drop n l)
map-drop f zero l = refl
map-drop f (suc n) [] = refl
map-drop f (suc n) (x ∷ l) = map-drop f n l

laid_split : (n : ℕ) (E vs y : List ℕ) → laid_at E vs y ≡ laid_at (drop n E) (drop n vs) (laid_at E (take n vs) y)
unfolding laid_at
laid_split zero E vs y = ap (laid_at E vs) (sym (laid_none E y))
laid_split (suc n) [] vs y = refl
laid_split (suc n) (m ∷ E) [] y = sym (laid_none (drop n E) y)
laid_split (suc n) (m ∷ E) (v ∷ vs) y = laid_split n E vs (set y m (add (get_or y m 0) v))

-- values past the places do not count
laid_pad : (n : ℕ) (f : ℕ → ℕ) (E l y : List ℕ) → length E ≤ length l → laid_at E (map f (pad_to n l)) y ≡ laid_at E (take n (map f l)) y
unfolding laid_at pad_to
laid_pad zero f E l y h = refl
laid_pad (suc n) f [] [] y h = refl
laid_pad (suc n) f (m ∷ E) [] y h = absurd (omega arith)
laid_pad (suc n) f [] (x ∷ l) y h = refl
laid_pad (suc n) f (m ∷ E) (x ∷ l) y h = laid_pad n f E l (set y m (add (get_or y m 0) (f x))) (omega arith)

-- places past the values do not count
pub laid-take : (k : ℕ) (E vs y : List ℕ) → length vs ≤ k → laid_at (take k E) vs y ≡ laid_at E vs y
unfolding laid_at
laid-take zero E [] y h = sym (laid_none E y)
laid-take zero E (v ∷ vs) y h = absurd (omega arith)
laid-take (suc k) [] vs y h = refl
laid-take (suc k) (m ∷ E) [] y h = refl
laid-take (suc k) (m ∷ E) (v ∷ vs) y h = laid-take k E vs (set y m (add (get_or y m 0) v)) (omega arith)

-- eight more: U has the values at eight of the points l
pub lay_more : (f : ℕ → ℕ) (E l U z y y' R : List ℕ) → length E ≤ length l → z ≡ pad_to 8 (take 8 l) → U ≡ map f z → y' ≡ laid_at (take 8 E) U y
    → laid_at E (map f l) y ≡ R → laid_at (drop 8 E) (map f (drop 8 l)) y' ≡ R
lay_more f E l U z y y' R h ez eu ey inv =
    let a : y' ≡ laid_at E (take 8 (map f l)) y =
    ey ∙ ap (λ (u : List ℕ). laid_at (take 8 E) u y) (eu ∙ ap (map f) (ez ∙ pad_take 8 l))
    ∙ laid-take 8 E (map f (pad_to 8 l)) y (omega (arith, length-map (pad_to 8 l) f, pad_length 8 l)) ∙ laid_pad 8 f E l y h in
    ap₂ (laid_at (drop 8 E)) (sym (map-drop f 8 l)) a ∙ sym (laid_split 8 E (map f l) y) ∙ inv

-- a piece that comes off the front
pub front_is : (k : ℕ) (E e F : List ℕ) → E ≡ e ++ F → length e ≡ min k (length E) → (e ≡ take k E) × (F ≡ drop k E)
front_is k E e [] q h =
    let d : E ≡ e = q ∙ append-nil e in
    let l : length E ≤ k = omega (arith, ap length d) in
    (sym (take_all k E l ∙ d), sym (drop_of_length-le E l))
front_is k E e (x ∷ F) q h =
    let l : length e ≡ k = omega (arith, ap length q, length-append e (x ∷ F)) in
    (sym (ap (take k) q ∙ take_at e (x ∷ F) k l), sym (ap (drop k) q ∙ drop_at e (x ∷ F) k l))

-- a place past the cells changes nothing
pub past_cells : (y : List ℕ) (m v : ℕ) → length y ≤ m → y ≡ set y m v
past_cells y m v h = sym (set_out y m v h)
