-- What Massey's recursion keeps. While the size is at most h, the recursion holds of all syndromes read, and no word with these
-- syndromes has fewer wrong cells than the size. Once the size is above h, no word with these syndromes has h wrong cells or fewer.
use mathlib.Core.Path.{◌≡◌, refl, sym, ap, ap₂, ◌∙◌, subst}
use mathlib.Core.Logic.{◌≢◌, ◌⊎◌, inl, inr, ⊎_elim}
use mathlib.Core.Bool.{true, false}
use mathlib.Core.List.{List, [], ◌∷◌}
use Prim.Native.Nat.{ℕ, zero, suc, ◌+◌, ◌-◌, ◌≤◌, ◌<◌}
use native.Mathlib.Nat.{not-suc-le-zero, le_of_suc-le-suc}
use native.Mathlib.Omega.{arith}
use lib.Dec.{eqb, ltb}
use lib.ListN.{length, get_or, take, drop, length-drop}
use lib.Seq.{get_or-take}
use borrow.Author.Tests.{eqb-true, eqb-false, ltb-true, ltb-false}
use Rattle.lists.proofs.Test.{true_or_false, lt-or_ge}
use Rattle.field.specs.Field.{add, mul, alpha}
use Rattle.field.proofs.Sum.{add_zero_l, add_zero_r, add_left_comm}
use Rattle.field.proofs.Product.{mul-zero, zero-mul, ring}
use Rattle.field.proofs.Power.{mul-ne-zero}
use Rattle.lists.specs.Bytes.{Bytes}
use Rattle.code.specs.Poly.{padd, pscale}
use Rattle.code.specs.Code.{syndrome, weight}
use Rattle.lists.proofs.Bytes.{get_or_byte, take-bytes}
use Rattle.code.proofs.Poly.{get_or_padd, get_or_pscale, padd-bytes, pscale-bytes}
use Rattle.code.proofs.Distance.{eval-zero, Zero, few_cells}
use Rattle.products.specs.Products.{dot}
use Rattle.erasure.proofs.Dot.{Same, dot-lt, dot-nil, dot-sum, dot_multiple, dot-same}
use Rattle.erasure.proofs.Weigh.{Syn, weigh, weigh-bytes, weigh-length, weigh-weight, syndrome-weigh}
use Rattle.locator.specs.Locator.{Recursion, grows, next, turn, mirrored}

-- T has the first syndromes of e, the last one first
abbrev pub Reads : ℕ → List ℕ → List ℕ → Type 0
Reads b [] e = Unit {0}
Reads b (x ∷ T) e = (x ≡ syndrome b (length T) e) × Reads b T e

-- cells above p are zero
abbrev pub Short : ℕ → List ℕ → Type 0
Short p c = (k : ℕ) → p < k → get_or c k 0 ≡ 0

-- the recursion of size p holds of all that was read
abbrev pub Holds : ℕ → List ℕ → List ℕ → Type 0
Holds p C T = (j : ℕ) → j + p < length T → dot C (drop j T) ≡ 0

-- ---- cells of lists that are cut and moved

dot_moved : (B : List ℕ) (j x : ℕ) (T : List ℕ) → dot (0 ∷ B) (drop j (x ∷ T)) ≡ dot B (drop j T)
unfolding dot
dot_moved B zero x T = ap (λ (v : ℕ). add v (dot B T)) (zero-mul x) ∙ add_zero_l (dot B T)
dot_moved B (suc zero) x [] = sym (dot-nil B)
dot_moved B (suc (suc j)) x [] = sym (dot-nil B)
dot_moved B (suc j) x (w ∷ T) = dot_moved B j w T

pub take_same : (m : ℕ) (c : List ℕ) (p : ℕ) → Short p c → p < m → Same (take m c) c
take_same m c p h l k = ⊎_elim (λ g. get_or-take m c k 0 g) (λ g. beyond m c k g ∙ sym (h k (omega arith))) (lt-or_ge k m)
  where
    beyond : (m : ℕ) (c : List ℕ) (k : ℕ) → m ≤ k → get_or (take m c) k 0 ≡ 0
    beyond zero c k g = refl
    beyond (suc m) [] k g = refl
    beyond (suc m) (x ∷ c) zero g = absurd (not-suc-le-zero g)
    beyond (suc m) (x ∷ c) (suc k) g = beyond m c k (le_of_suc-le-suc g)

cut_first : (m : ℕ) (c : List ℕ) → ◌≡◌ {A = ℕ} (get_or (take m (0 ∷ c)) 0 0) 0
cut_first zero c = refl
cut_first (suc m) c = refl

moved_short : (p : ℕ) (c : List ℕ) → Short p c → Short (suc p) (0 ∷ c)
moved_short p c h zero l = refl
moved_short p c h (suc k) l = h k (le_of_suc-le-suc l)

-- ---- the recursion as a polynomial in the other order

pub mirrored-length : (p : ℕ) (c : List ℕ) → length (mirrored p c) ≡ suc p
unfolding mirrored
mirrored-length zero c = refl
mirrored-length (suc p) c = ap suc (mirrored-length p c)

pub mirrored-bytes : (p : ℕ) (c : List ℕ) → Bytes c → Bytes (mirrored p c)
unfolding mirrored
mirrored-bytes zero c h = (get_or_byte c 0 h, tt)
mirrored-bytes (suc p) c h = (get_or_byte c (suc p) h, mirrored-bytes p c h)

pub mirrored-zero : (p : ℕ) (c : List ℕ) → Zero (mirrored p c) → get_or c 0 0 ≡ 0
unfolding mirrored
mirrored-zero zero c z = z.0
mirrored-zero (suc p) c z = mirrored-zero p c z.1

dot-take : (m : ℕ) (C T : List ℕ) → dot (take (suc m) C) T ≡ add (mul (get_or C m 0) (get_or T m 0)) (dot (take m C) T)
unfolding dot
dot-take zero [] T = simp ring
dot-take zero (x ∷ C) [] = simp ring
dot-take zero (x ∷ C) (y ∷ T) = refl
dot-take (suc m) [] T = simp ring
dot-take (suc m) (x ∷ C) [] = simp ring
dot-take (suc m) (x ∷ C) (y ∷ T) = ap (add (mul x y)) (dot-take m C T) ∙ add_left_comm (mul x y) (mul (get_or C m 0) (get_or T m 0)) (dot (take m C) T)

dot-mirrored : (p : ℕ) (C T : List ℕ) → dot (mirrored p C) (mirrored p T) ≡ dot (take (suc p) C) T
unfolding dot mirrored
dot-mirrored zero C T = sym (dot-take zero C T)
dot-mirrored (suc p) C T = ap (add (mul (get_or C (suc p) 0) (get_or T (suc p) 0))) (dot-mirrored p C T) ∙ sym (dot-take (suc p) C T)

pub reads_at : (b : ℕ) (T e : List ℕ) (k i : ℕ) → i + suc k ≡ length T → Reads b T e → get_or T k 0 ≡ syndrome b i e
reads_at b [] e k i q h = absurd (omega arith)
reads_at b (x ∷ T) e zero i q h = let g : length T ≡ i = omega arith in h.0 ∙ ap (λ (v : ℕ). syndrome b v e) g
reads_at b (x ∷ T) e (suc k) i q h = reads_at b T e k i (omega arith) h.1

mirrored-syn : (b p i : ℕ) (T e : List ℕ) → i + suc p ≡ length T → Reads b T e → Syn b i (mirrored p T) e
unfolding mirrored
mirrored-syn b zero i T e q h = (reads_at b T e 0 i q h, tt)
mirrored-syn b (suc p) i T e q h = (reads_at b T e (suc p) i q h, mirrored-syn b p (suc i) T e (omega arith) h)

-- a syndrome of the word weighed by the locator is what the recursion gives
pub window_syndrome : (b p i : ℕ) (C T e : List ℕ) → i + suc p ≡ length T → Short p C → Reads b T e → syndrome b i (weigh 1 (mirrored p C) e) ≡ dot C T
window_syndrome b p i C T e q h g =
    syndrome-weigh b i (mirrored p C) (mirrored p T) e (omega (arith, mirrored-length p C, mirrored-length p T)) (mirrored-syn b p i T e q g)
    ∙ dot-mirrored p C T ∙ dot-same (take (suc p) C) C T (take_same (suc p) C p h (omega arith))

reads-drop : (b : ℕ) (j : ℕ) (T e : List ℕ) → Reads b T e → Reads b (drop j T) e
reads-drop b zero T e h = h
reads-drop b (suc j) [] e h = tt
reads-drop b (suc j) (x ∷ T) e h = reads-drop b j T e h.1

-- a recursion that holds as often as there are wrong cells: its polynomial vanishes at each of them
pub weighed_zero : (b p : ℕ) (C T e : List ℕ) → Bytes e → length e ≤ 255 → Reads b T e → Short p C → Holds p C T → weight e + p ≤ length T → Zero (weigh 1 (mirrored p C) e)
weighed_zero b p C T e he le g h m l =
    let w : List ℕ = weigh 1 (mirrored p C) e in
    few_cells (length T - p) b w (weigh-bytes 1 (mirrored p C) e) (omega (arith, weigh-length 1 (mirrored p C) e)) (omega (arith, weigh-weight 1 (mirrored p C) e))
    (λ i hi.
    let j : ℕ = length T - suc (i + p) in
    let q : i + suc p ≡ length (drop j T) = omega (arith, length-drop j T) in
    window_syndrome b p i C (drop j T) e q h (reads-drop b j T e g) ∙ m j (omega arith))

-- and so it holds once more
next-zero : (b p x : ℕ) (C T e : List ℕ) → Bytes e → length e ≤ 255 → Reads b (x ∷ T) e → Short p C → Holds p C T → weight e + p ≤ length T → dot C (x ∷ T) ≡ 0
next-zero b p x C T e he le g h m l =
    let i : ℕ = length T - p in
    let q : i + suc p ≡ length (x ∷ T) = omega arith in
    sym (window_syndrome b p i C (x ∷ T) e q h g) ∙ eval-zero (weigh 1 (mirrored p C) e) (alpha (b + i)) (weighed_zero b p C T e he le g.1 h m l)

-- ---- the invariant

-- no word with these syndromes has fewer than m wrong cells
abbrev pub Least : ℕ → List ℕ → ℕ → Type 0
Least b T m = (e : List ℕ) → Bytes e → length e ≤ 255 → Reads b T e → m ≤ weight e

pub record Sound (h b : ℕ) (T : List ℕ) (k : Recursion) : Type 0 where
  pub cb : Bytes k.connection
  pub bb : Bytes k.before
  pub small : k.size ≤ h
  pub fits : k.size ≤ length T
  pub short : Short k.size k.connection
  pub head : get_or k.connection 0 0 ≢ 0
  pub made : Holds k.size k.connection T
  pub unit_some : k.unit ≢ 0
  pub unit_byte : k.unit < 256
  pub before_short : length T ≤ k.size + h → Short (length T - k.size) k.before
  pub before_made : length T ≤ k.size + h → (j : ℕ) → 0 < j → j < k.size → dot k.before (drop j T) ≡ 0
  pub before_last : length T ≤ k.size + h → 0 < k.size → dot k.before T ≡ k.unit
  pub least : Least b T k.size

pub record Exceeded (h b : ℕ) (T : List ℕ) (k : Recursion) : Type 0 where
  pub large : h < k.size
  pub none : Least b T (suc h)

cross : (u d : ℕ) → add (mul u d) (mul d u) ≡ 0
cross u d = simp ring

nothing : (u d x y : ℕ) → x ≡ 0 → y ≡ 0 → add (mul u x) (mul d y) ≡ 0
nothing u d x y e f = ap₂ (λ (v w : ℕ). add (mul u v) (mul d w)) e f ∙ simp ring

grows_none : (d p N : ℕ) → eqb d 0 ≡ true → grows d p N ≡ false
unfolding grows
grows_none d p N z = rw z refl

grows-both : (d p N : ℕ) → eqb d 0 ≡ false → ltb (p + p) N ≡ true → grows d p N ≡ true
unfolding grows
grows-both d p N n l = rw (n, l) refl

grows_long : (d p N : ℕ) → eqb d 0 ≡ false → ltb (p + p) N ≡ false → grows d p N ≡ false
unfolding grows
grows_long d p N n l = rw (n, l) refl

module _ (M h b x : ℕ) (T : List ℕ) (k : Recursion) (hM : h < M) (g : Sound h b T k) where
  abbrev C : List ℕ
  C = k.connection

  abbrev B : List ℕ
  B = k.before

  abbrev p : ℕ
  p = k.size

  abbrev u : ℕ
  u = k.unit

  abbrev d : ℕ
  d = dot C (x ∷ T)

  abbrev D : List ℕ
  D = take M (0 ∷ B)

  abbrev new : List ℕ
  new = padd (pscale u C) (pscale d D)

  mix : (s : List ℕ) → dot new s ≡ add (mul u (dot C s)) (mul d (dot D s))
  mix s = dot-sum (pscale u C) (pscale d D) s ∙ ap₂ add (dot_multiple u C s) (dot_multiple d D s)

  mix_at : (i : ℕ) → get_or new i 0 ≡ add (mul u (get_or C i 0)) (mul d (get_or D i 0))
  mix_at i = get_or_padd (pscale u C) (pscale d D) i ∙ ap₂ add (get_or_pscale u C i) (get_or_pscale d D i)

  new-bytes : Bytes new
  new-bytes = padd-bytes (pscale u C) (pscale d D) (pscale-bytes u C) (pscale-bytes d D)

  new_head : get_or new 0 0 ≢ 0
  new_head e =
      mul-ne-zero u (get_or C 0 0) g.unit_byte g.unit_some (get_or_byte C 0 g.cb) g.head
      (sym (mix_at 0 ∙ ap (add (mul u (get_or C 0 0))) (ap (mul d) (cut_first M B) ∙ mul-zero d) ∙ add_zero_r (mul u (get_or C 0 0))) ∙ e)

  -- D is `before`, moved, where it is not cut
  whole : length T < p + h → Same D (0 ∷ B)
  whole l = take_same M (0 ∷ B) (suc (length T - p)) (moved_short (length T - p) B (g.before_short (omega arith))) (omega (arith, g.fits))

  dot-D : length T < p + h → (j : ℕ) → dot D (drop j (x ∷ T)) ≡ dot B (drop j T)
  dot-D l j = dot-same D (0 ∷ B) (drop j (x ∷ T)) (whole l) ∙ dot_moved B j x T

  D-short : length T < p + h → Short (suc (length T - p)) D
  D-short l i m = whole l i ∙ moved_short (length T - p) B (g.before_short (omega arith)) i m

  -- where the last syndrome is made right
  new_made : length T < p + h → (j : ℕ) → j < p → (j ≡ 0 ⊎ (j - 1) + p < length T) → dot new (drop j (x ∷ T)) ≡ 0
  new_made l zero m c = mix (x ∷ T) ∙ ap (λ (v : ℕ). add (mul u d) (mul d v)) (dot-D l 0 ∙ g.before_last (omega arith) m) ∙ cross u d
  new_made l (suc j) m c =
      mix (drop j T) ∙ nothing u d (dot C (drop j T)) (dot D (drop j T)) (g.made j (⊎_elim (λ e. absurd (omega arith)) (λ i. omega arith) c))
      (dot-D l (suc j) ∙ g.before_made (omega arith) (suc j) (omega arith) m)

  new-short : (q : ℕ) → length T < p + h → p ≤ q → suc (length T) ≤ p + q → Short q new
  new-short q l a c i m = mix_at i ∙ nothing u d (get_or C i 0) (get_or D i 0) (g.short i (omega arith)) (D-short l i (omega (arith, g.fits)))

  -- the size stays, and the recursion is Q
  abbrev staying : List ℕ → Recursion
  staying Q = record { connection = Q; before = D; size = p; unit = u }

  kept : (Q : List ℕ) → Bytes Q → get_or Q 0 0 ≢ 0 → Short p Q → Holds p Q (x ∷ T) → Sound h b (x ∷ T) (staying Q)
  kept Q qb qh qs qm = record {
    cb = qb;
    bb = take-bytes M (0 ∷ B) (omega arith, g.bb);
    small = g.small;
    fits = omega (arith, g.fits);
    short = qs;
    head = qh;
    made = qm;
    unit_some = g.unit_some;
    unit_byte = g.unit_byte;
    before_short = λ l i m. D-short (omega arith) i (omega (arith, g.fits));
    before_made = λ l j a m. dot-D (omega arith) j ∙ g.before_made (omega arith) j a m;
    before_last = λ l m. dot-D (omega arith) 0 ∙ g.before_last (omega arith) m;
    least = λ e he le r. g.least e he le r.1;
  }

  kept-none : d ≡ 0 → Sound h b (x ∷ T) (staying C)
  kept-none z = kept C g.cb g.head g.short holds
    where
      holds : (j : ℕ) → j + p < suc (length T) → dot C (drop j (x ∷ T)) ≡ 0
      holds zero m = z
      holds (suc j) m = g.made j (omega arith)

  kept_long : length T < p + p → Sound h b (x ∷ T) (staying new)
  kept_long l =
      let room : length T < p + h = omega (arith, g.small) in
      kept new new-bytes new_head (new-short p room (omega arith) (omega arith)) (λ j m. new_made room j (omega arith) (below j m))
    where
      below : (j : ℕ) → j + p < suc (length T) → j ≡ 0 ⊎ (j - 1) + p < length T
      below zero m = inl refl
      below (suc j) m = inr (omega arith)

  -- the size grows
  abbrev growing : Recursion
  growing = record { connection = new; before = C; size = suc (length T) - p; unit = d }

  fewer : d ≢ 0 → Least b (x ∷ T) (suc (length T) - p)
  fewer n e he le r =
      ⊎_elim (λ l. absurd (n (next-zero b p x C T e he le r g.short g.made (omega arith)))) (λ l. omega (arith, g.fits)) (lt-or_ge (weight e + p) (suc (length T)))

  grown : d ≢ 0 → p + p ≤ length T → length T < p + h → Sound h b (x ∷ T) growing
  grown n l room = record {
    cb = new-bytes;
    bb = g.cb;
    small = omega arith;
    fits = omega arith;
    short = new-short (suc (length T) - p) room (omega arith) (omega arith);
    head = new_head;
    made = λ j m. new_made room j (omega (arith, g.fits)) (below j m);
    unit_some = n;
    unit_byte = dot-lt C (x ∷ T);
    before_short = λ a i m. g.short i (omega (arith, g.fits));
    before_made = λ a j z m. last j z m;
    before_last = λ a m. refl;
    least = fewer n;
  }
    where
      below : (j : ℕ) → j + (suc (length T) - p) < suc (length T) → j ≡ 0 ⊎ (j - 1) + p < length T
      below zero m = inl refl
      below (suc j) m = inr (omega (arith, g.fits))

      last : (j : ℕ) → 0 < j → j < suc (length T) - p → dot C (drop j (x ∷ T)) ≡ 0
      last zero z m = absurd (not-suc-le-zero z)
      last (suc j) z m = g.made j (omega (arith, g.fits))

  beyond : d ≢ 0 → p + p ≤ length T → p + h ≤ length T → Exceeded h b (x ∷ T) growing
  beyond n l far = record { large = omega arith; none = λ e he le r. omega (arith, fewer n e he le r) }

  -- a turn, by its three cases
  turn-none : eqb d 0 ≡ true → turn M (x ∷ T) k ≡ staying C
  unfolding turn next
  turn-none z = rw (grows_none d p (suc (length T)) z, z) refl

  turn_long : eqb d 0 ≡ false → ltb (p + p) (suc (length T)) ≡ false → turn M (x ∷ T) k ≡ staying new
  unfolding turn next
  turn_long n l = rw (grows_long d p (suc (length T)) n l, n) refl

  turn_grown : eqb d 0 ≡ false → ltb (p + p) (suc (length T)) ≡ true → turn M (x ∷ T) k ≡ growing
  unfolding turn next
  turn_grown n l = rw (grows-both d p (suc (length T)) n l, n) refl

  pub step : Sound h b (x ∷ T) (turn M (x ∷ T) k) ⊎ Exceeded h b (x ∷ T) (turn M (x ∷ T) k)
  step =
      ⊎_elim
      (λ z. inl (subst (Sound h b (x ∷ T)) (sym (turn-none z)) (kept-none (eqb-true d 0 z))))
      (λ n. ⊎_elim
      (λ l. let two : p + p < suc (length T) = ltb-true (p + p) (suc (length T)) l in
      ⊎_elim
      (λ room. inl (subst (Sound h b (x ∷ T)) (sym (turn_grown n l)) (grown (eqb-false d 0 n) (omega arith) room)))
      (λ far. inr (subst (Exceeded h b (x ∷ T)) (sym (turn_grown n l)) (beyond (eqb-false d 0 n) (omega arith) far)))
      (lt-or_ge (length T) (p + h)))
      (λ l. let two : suc (length T) ≤ p + p = ltb-false (p + p) (suc (length T)) l in
      inl (subst (Sound h b (x ∷ T)) (sym (turn_long n l)) (kept_long (omega arith))))
      (true_or_false (ltb (p + p) (suc (length T)))))
      (true_or_false (eqb d 0))
