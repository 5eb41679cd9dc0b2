-- Eight cells a word: the syndromes as values at powers of α, the values at the points, and that the whole is `filled_at`.
use mathlib.Core.Path.{◌≡◌, refl, sym, ap, ap₂, ◌∙◌, subst}
use mathlib.Core.Logic.{◌≢◌, ⊎_elim}
use mathlib.Core.List.{List, [], ◌∷◌, ◌++◌, map}
use Prim.Native.Nat.{ℕ, zero, suc, ◌+◌, ◌*◌, ◌/◌, ◌%◌, ◌≤◌, ◌<◌, min}
use native.Mathlib.Numerals.{add-one}
use native.Mathlib.Omega.{arith}
use lib.ListN.{length, get_or, set, take, drop, length-take, length-map}
use lib.Seq.{take_all, take-suc, get_or-take, get_or-set_same, get_or-set_other}
use Rattle.lists.proofs.Test.{lt-or_ge}
use Rattle.field.specs.Field.{mul, power, alpha}
use Rattle.field.proofs.Power.{inverse-power}
use Rattle.code.specs.Poly.{eval, pscale}
use Rattle.code.specs.Run.{tail}
use Rattle.code.proofs.Poly.{tail-length}
use Rattle.words.specs.Word.{byte, bytes_from}
use Rattle.words.specs.Cells.{shift_down, pad_to}
use Rattle.words.proofs.Pad.{pad_same, pad_down, pad_snoc, pad_off}
use Rattle.products.specs.Products.{times, dot, evals, powers, listed}
use Rattle.products.proofs.Values.{Points, points-more, value-at}
use Rattle.erasure.specs.Filling.{rooted_at, windows, evaluator, even_cells, derivative, quotient_at, value_at, laid_at, filled_at}
use Rattle.erasure.specs.Erasure.{syndromes}
use Rattle.erasure.proofs.Dot.{dot-cells, dot-same}
use Rattle.erasure.proofs.Roots.{rooted-length}
use Rattle.erasure.proofs.Fill.{syndromes-length, syndromes-at, windows-length}
use Rattle.erasure.proofs.Laying.{laid-take}

-- ---- the syndromes

-- the points of the words
pub points-first : (b x : ℕ) → Points x b → Points x (b + 8 * 0)
points-first b x e = let z : b ≡ b + 8 * 0 = omega arith in e ∙ ap (listed (λ i. alpha i) 8) z

pub points-next : (b k x y : ℕ) → Points x (b + 8 * k) → bytes_from 8 0 y ≡ pscale (alpha 8) (bytes_from 8 0 x) → Points y (b + 8 * (k + 1))
points-next b k x y ex ey = let e : b + 8 * k + 8 ≡ b + 8 * (k + 1) = omega arith in points-more x y (b + 8 * k) ex ey ∙ ap (listed (λ i. alpha i) 8) e

-- word k has the values at its points
abbrev pub Valued : ℕ → List ℕ → ℕ → ℕ → Type 0
Valued b y w k = bytes_from 8 0 w ≡ evals y (listed (λ i. alpha i) 8 (b + 8 * k))

-- one more word
pub words_more : (b : ℕ) (y w : List ℕ) (k v x : ℕ) → k < length w → Points x (b + 8 * k) → bytes_from 8 0 v ≡ evals y (bytes_from 8 0 x)
    → ((j : ℕ) → j < k → Valued b y (get_or w j 0) j)
    → (j : ℕ) → j < k + 1 → Valued b y (get_or (set w k v) j 0) j
words_more b y w k v x l ex ev inv j h =
    ⊎_elim
    (λ s. let n : j ≢ k = omega arith in ap (bytes_from 8 0) (get_or-set_other w k j v 0 n) ∙ inv j s)
    (λ g. let e : k ≡ j = omega arith in subst (λ (i : ℕ). Valued b y (get_or (set w k v) i 0) i) e (ap (bytes_from 8 0) (get_or-set_same w k v 0 l) ∙ ev ∙ ap (evals y) ex))
    (lt-or_ge j k)

-- cell i of the words is syndrome i
pub syndrome_cell : (b n i w v : ℕ) (y : List ℕ) → i < n → Valued b y w (i / 8) → v ≡ byte w (i % 8) → v ≡ get_or (syndromes b n y) i 0
syndrome_cell b n i w v y h e ev =
    let whole : b + 8 * (i / 8) + i % 8 ≡ b + i = omega arith in
    value-at y w (b + 8 * (i / 8)) (i % 8) v (omega arith) e ev ∙ ap (λ (k : ℕ). eval y (alpha k)) whole ∙ sym (syndromes-at b n y i h)

-- all of them
pub syndromes-end : (b n : ℕ) (y : List ℕ) (i : ℕ) → n ≤ i → n ≡ min (length y) 64 → pad_to 64 (take i (syndromes b n y)) ≡ pad_to 64 (syndromes b (min (length y) 64) y)
syndromes-end b n y i h e =
    ap (pad_to 64) (take_all i (syndromes b n y) (omega (arith, syndromes-length b n y))) ∙ ap (λ (k : ℕ). pad_to 64 (syndromes b k y)) e

-- the next cell of a list with zeros after it
pub pad_more : (n i v : ℕ) (s O : List ℕ) → i < n → i < length s → O ≡ pad_to n (take i s) → v ≡ get_or s i 0 → set O i v ≡ pad_to n (take (i + 1) s)
pad_more n i v s O h l eo ev =
    let t : i ≡ length (take i s) = omega (arith, length-take i s) in
    ap₂ (λ (o : List ℕ) (k : ℕ). set o k v) eo t
    ∙ pad_snoc n (take i s) v (omega arith)
    ∙ ap (pad_to n) (ap (λ (c : ℕ). take i s ++ (c ∷ [])) ev ∙ sym (take-suc s i 0 l) ∙ ap (λ (k : ℕ). take k s) (sym (add-one i)))

-- ---- the values

pub values_law : (b : ℕ) (D W Z : List ℕ) → times (powers 254 (times (powers b Z) (evals D Z))) (evals W Z) ≡ map (quotient_at b D W) Z
unfolding times powers evals quotient_at
values_law b D W [] = refl
values_law b D W (z ∷ Z) =
    ap₂ ◌∷◌ (ap (λ (v : ℕ). mul v (eval W z)) (sym (inverse-power (mul (power z b) (eval D z))))) (values_law b D W Z)

-- ---- the polynomials, without the zeros above them

dot_pad : (n : ℕ) (l s : List ℕ) → length l ≤ n → dot (pad_to n l) s ≡ dot l s
dot_pad n l s h = dot-same (pad_to n l) l s (pad_same n l h)

windows_pad : (n : ℕ) (l s : List ℕ) → length l ≤ n → windows (pad_to n l) s ≡ pad_to n (windows l s)
unfolding windows pad_to dot
windows_pad zero [] s h = refl
windows_pad zero (x ∷ l) s h = absurd (omega arith)
windows_pad (suc n) [] s h = ap₂ ◌∷◌ (dot_pad (suc n) [] s h) (windows_pad n [] s (omega arith))
windows_pad (suc n) (x ∷ l) s h = ap₂ ◌∷◌ (dot_pad (suc n) (x ∷ l) s h) (windows_pad n l s (omega arith))

dot-take : (k : ℕ) (l s : List ℕ) → length l ≤ k → dot l (take k s) ≡ dot l s
dot-take k l s h = dot-cells l (take k s) s (λ j m. get_or-take k s j 0 (omega arith))

windows-take : (k : ℕ) (l s : List ℕ) → length l ≤ k → windows l (take k s) ≡ windows l s
unfolding windows
windows-take k [] s h = refl
windows-take k (x ∷ l) s h = ap₂ ◌∷◌ (dot-take k (x ∷ l) s h) (windows-take k l s (omega arith))

pub take_min : (k n : ℕ) (s : List ℕ) → k ≡ min (length s) n → take k s ≡ take n s
take_min k n s e =
    ⊎_elim (λ l. let q : k ≡ n = omega arith in ap (λ (j : ℕ). take j s) q) (λ l. take_all k s (omega arith) ∙ sym (take_all n s l)) (lt-or_ge n (length s))

-- how many there are
least-length : (k n : ℕ) (s : List ℕ) → k ≡ min (length s) n → k ≡ length (take k s)
least-length k n s e = omega (arith, length-take k s)

even_pad : (n : ℕ) (l : List ℕ) → even_cells (pad_to n l) ≡ pad_to n (even_cells l)
unfolding even_cells pad_to
even_pad zero l = refl
even_pad (suc zero) [] = refl
even_pad (suc zero) (x ∷ []) = refl
even_pad (suc zero) (x ∷ y ∷ l) = refl
even_pad (suc (suc n)) [] = ap (λ (t : List ℕ). 0 ∷ 0 ∷ t) (even_pad n [])
even_pad (suc (suc n)) (x ∷ []) = ap (λ (t : List ℕ). x ∷ 0 ∷ t) (even_pad n [])
even_pad (suc (suc n)) (x ∷ y ∷ l) = ap (λ (t : List ℕ). x ∷ 0 ∷ t) (even_pad n l)

even_length : (l : List ℕ) → length (even_cells l) ≡ length l
unfolding even_cells
even_length [] = refl
even_length (x ∷ []) = refl
even_length (x ∷ y ∷ l) = ap (λ (n : ℕ). suc (suc n)) (even_length l)

drop-one : (l : List ℕ) → drop 1 l ≡ tail l
drop-one [] = refl
drop-one (x ∷ l) = refl

-- the cells of the registers and what is read of them
module _ (b n k : ℕ) (s p P L W D : List ℕ) (fits : length p ≡ n) (few : n ≤ 63) (count : k ≡ min (length s) n)
    (eP : P ≡ pad_to 64 (rooted_at p)) (eL : L ≡ shift_down P 0) (eW : W ≡ windows L (take k s)) (eD : D ≡ even_cells L) where
  rest : List ℕ
  rest = tail (rooted_at p)

  rest-length : length rest ≡ n
  unfolding rest
  rest-length = tail-length (rooted_at p) n (rooted-length p ∙ ap suc fits)

  lowered : L ≡ pad_to 64 rest
  unfolding rest
  lowered = eL ∙ ap (λ (l : List ℕ). shift_down l 0) eP ∙ pad_down 64 (rooted_at p) (omega (arith, rooted-length p)) ∙ ap (pad_to 64) (drop-one (rooted_at p))

  evaluated : take n W ≡ evaluator (rooted_at p) s
  unfolding evaluator rest
  evaluated =
      ap (take n) (eW ∙ ap₂ windows lowered (take_min k n s count) ∙ windows_pad 64 rest (take n s) (omega (arith, rest-length)))
      ∙ pad_off n 64 (windows rest (take n s)) (windows-length rest (take n s) ∙ rest-length) (omega arith)
      ∙ windows-take n rest s (omega (arith, rest-length))

  derived : take n D ≡ derivative (rooted_at p)
  unfolding derivative rest
  derived = ap (take n) (eD ∙ ap even_cells lowered ∙ even_pad 64 rest) ∙ pad_off n 64 (even_cells rest) (even_length rest ∙ rest-length) (omega arith)

  value_law : (l : List ℕ) → map (quotient_at b (take n D) (take n W)) l ≡ map (value_at b (rooted_at p) s) l
  unfolding value_at
  value_law l = ap₂ (λ (d w : List ℕ). map (quotient_at b d w) l) derived evaluated

laid_values : (b n m : ℕ) (s E p y vs : List ℕ) → n ≡ min (length p) 63 → m ≡ min (length E) n → vs ≡ map (value_at b (rooted_at (take n p)) s) (take n p)
    → laid_at (take m E) vs y ≡ filled_at b s E p y
unfolding filled_at
laid_values b n m s E p y vs en em ev =
    let t : take n p ≡ take 63 p = take_min n 63 p en in
    let l : length vs ≤ n = omega (arith, ap length ev, length-map (take n p) (value_at b (rooted_at (take n p)) s), length-take n p) in
    ap (λ (F : List ℕ). laid_at F vs y) (take_min m n E em)
    ∙ laid-take n E vs y l
    ∙ sym (laid-take 63 E vs y (omega arith))
    ∙ ap (λ (u : List ℕ). laid_at (take 63 E) u y) (ev ∙ ap (λ (q : List ℕ). map (value_at b (rooted_at q) s) q) t)

pub filled_law : (b n m k : ℕ) (s E p y P L W D : List ℕ) → n ≡ min (length p) 63 → m ≡ min (length E) n → k ≡ min (length s) n
    → P ≡ pad_to 64 (rooted_at (take n p)) → L ≡ shift_down P 0 → W ≡ windows L (take k s) → D ≡ even_cells L
    → laid_at (take m E) (map (quotient_at b (take n D) (take n W)) (take n p)) y ≡ filled_at b s E p y
filled_law b n m k s E p y P L W D en em ek eP eL eW eD =
    laid_values b n m s E p y _ en em
    (value_law b n k s (take n p) P L W D (sym (least-length n 63 p en)) (omega arith) ek eP eL eW eD (take n p))
