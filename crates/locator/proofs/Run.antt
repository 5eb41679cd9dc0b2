-- All syndromes: what the recursion keeps from the first to the last, and that its size never falls. Its locator vanishes at every wrong cell of a word
-- with few of them; and a word that its roots hold, with the first syndromes right, has all of them right.
use mathlib.Core.Path.{◌≡◌, refl, sym, ap, ◌∙◌}
use mathlib.Core.Logic.{◌≢◌, ◌⊎◌, inl, inr, ⊎_elim}
use mathlib.Core.List.{List, [], ◌∷◌}
use Prim.Native.Nat.{ℕ, zero, suc, ◌+◌, ◌-◌, ◌≤◌, ◌<◌, zero-le}
use native.Mathlib.Nat.{not-suc-le-zero, le_refl}
use native.Mathlib.Omega.{arith}
use lib.Dec.{eqb, ltb}
use lib.ListN.{length, get_or, replicate}
use borrow.Author.Tests.{ltb-true}
use Rattle.lists.proofs.Test.{lt-or_ge, true_or_false}
use Rattle.field.specs.Field.{mul, alpha}
use Rattle.field.proofs.Sum.{add-eq}
use Rattle.field.proofs.Power.{mul_cancel, mul-eq-zero}
use Rattle.lists.specs.Bytes.{Bytes}
use Rattle.code.specs.Poly.{eval}
use Rattle.code.specs.Code.{syndrome, weight}
use Rattle.lists.proofs.Bytes.{get_or_byte, zeros-bytes}
use Rattle.code.proofs.Poly.{eval-lt, get_or_zeros}
use Rattle.code.proofs.Distance.{eval-zero, Zero, zero-at}
use Rattle.products.specs.Products.{dot}
use Rattle.erasure.proofs.Weigh.{Syn, weigh, weigh-at}
use Rattle.locator.specs.Locator.{Recursion, start, grows, next, turn, massey_from, massey, mirrored, locator}
use Rattle.locator.proofs.Recursion.{Reads, Short, Holds, Sound, Exceeded, mirrored-bytes, window_syndrome, weighed_zero, step}

abbrev pub Kept : ℕ → ℕ → List ℕ → Recursion → Type 0
Kept h b T k = Sound h b T k ⊎ Exceeded h b T k

-- the size never falls
grown_more : (M N d : ℕ) (k : Recursion) → k.size ≤ (next M N k d (grows d k.size N)).size
unfolding next grows
grown_more M N d k =
    ⊎_elim (λ z. rw z (omega arith))
    (λ z. rw z (⊎_elim (λ l. rw l (let m : k.size + k.size < N = ltb-true (k.size + k.size) N l in omega arith)) (λ l. rw l (omega arith)) (true_or_false (ltb (k.size + k.size) N))))
    (true_or_false (eqb d 0))

pub still_exceeded : (M h b x : ℕ) (T : List ℕ) (k : Recursion) → Exceeded h b T k → Exceeded h b (x ∷ T) (turn M (x ∷ T) k)
unfolding turn
still_exceeded M h b x T k g = record {
  large = omega (arith, g.large, grown_more M (length (x ∷ T)) (dot k.connection (x ∷ T)) k);
  none = λ e he le r. g.none e he le r.1;
}

-- all that was read, the last one first
abbrev pub read_by : List ℕ → List ℕ → List ℕ
read_by [] T = T
read_by (x ∷ s) T = read_by s (x ∷ T)

kept_from : (M h b : ℕ) (s T : List ℕ) (k : Recursion) → h < M → Kept h b T k → Kept h b (read_by s T) (massey_from M s T k)
unfolding massey_from
kept_from M h b [] T k hM g = g
kept_from M h b (x ∷ s) T k hM g =
    kept_from M h b s (x ∷ T) (turn M (x ∷ T) k) hM (⊎_elim (λ a. step M h b x T k hM a) (λ a. inr (still_exceeded M h b x T k a)) g)

pub never_smaller : (M : ℕ) (s T : List ℕ) (k : Recursion) → k.size ≤ (massey_from M s T k).size
unfolding massey_from turn
never_smaller M [] T k = le_refl k.size
never_smaller M (x ∷ s) T k =
    omega (arith, grown_more M (length (x ∷ T)) (dot k.connection (x ∷ T)) k, never_smaller M s (x ∷ T) (turn M (x ∷ T) k))

start-sound : (M h b : ℕ) → Sound h b [] (start M)
unfolding start
start-sound M h b = record {
  cb = (omega arith, zeros-bytes (M - 1));
  bb = (omega arith, zeros-bytes (M - 1));
  small = zero-le;
  fits = zero-le;
  short = above;
  head = omega arith;
  made = λ j m. absurd (not-suc-le-zero m);
  unit_some = omega arith;
  unit_byte = omega arith;
  before_short = λ l. above;
  before_made = λ l j a m. absurd (not-suc-le-zero m);
  before_last = λ l m. absurd (not-suc-le-zero m);
  least = λ e he le r. zero-le;
}
  where
    above : (i : ℕ) → 0 < i → ◌≡◌ {A = ℕ} (get_or (1 ∷ replicate (M - 1) 0) i 0) 0
    above zero l = absurd (not-suc-le-zero l)
    above (suc i) l = get_or_zeros (M - 1) i

pub kept-all : (M h b : ℕ) (s : List ℕ) → h < M → Kept h b (read_by s []) (massey M s)
unfolding massey
kept-all M h b s hM = kept_from M h b s [] (start M) hM (inl (start-sound M h b))

-- ---- what was read

pub read_length : (s T : List ℕ) → length (read_by s T) ≡ length s + length T
read_length [] T = omega arith
read_length (x ∷ s) T = omega (arith, read_length s (x ∷ T))

read_old : (s T : List ℕ) (m : ℕ) → get_or (read_by s T) (length s + m) 0 ≡ get_or T m 0
read_old [] T m = let e : 0 + m ≡ m = omega arith in ap (λ (i : ℕ). get_or T i 0) e
read_old (x ∷ s) T m = let e : suc (length s) + m ≡ length s + suc m = omega arith in ap (λ (i : ℕ). get_or (read_by s (x ∷ T)) i 0) e ∙ read_old s (x ∷ T) (suc m)

pub read_at : (s T : List ℕ) (k i : ℕ) → i + suc k ≡ length s → get_or (read_by s T) k 0 ≡ get_or s i 0
read_at [] T k i q = absurd (omega arith)
read_at (x ∷ s) T k zero q = let e : k ≡ length s + 0 = omega arith in ap (λ (j : ℕ). get_or (read_by s (x ∷ T)) j 0) e ∙ read_old s (x ∷ T) 0
read_at (x ∷ s) T k (suc i) q = read_at s (x ∷ T) k i (omega arith)

pub read-bytes : (s T : List ℕ) → Bytes s → Bytes T → Bytes (read_by s T)
read-bytes [] T hs hT = hT
read-bytes (x ∷ s) T hs hT = read-bytes s (x ∷ T) hs.1 (hs.0, hT)

pub read-syn : (b : ℕ) (s T e : List ℕ) → Syn b (length T) s e → Reads b T e → Reads b (read_by s T) e
read-syn b [] T e h g = g
read-syn b (x ∷ s) T e h g = read-syn b s (x ∷ T) e h.1 (h.0, g)

-- ---- a word with few wrong cells

-- the locator vanishes at each of them
pub locates : (h b : ℕ) (T : List ℕ) (k : Recursion) (e : List ℕ) → Sound h b T k → Bytes e → length e ≤ 255 → Reads b T e → weight e ≤ h → h + h ≤ length T
    → (j : ℕ) → get_or e j 0 ≢ 0 → eval (locator k) (alpha j) ≡ 0
unfolding locator
locates h b T k e g he le r w l j n =
    let P : List ℕ = mirrored k.size k.connection in
    mul-eq-zero (get_or e j 0) (eval P (alpha j)) (get_or_byte e j he) n
    (eval-lt P (alpha j) (mirrored-bytes k.size k.connection g.cb))
    (sym (weigh-at P e j) ∙ zero-at (weigh 1 P e) j (weighed_zero b k.size k.connection T e he le r g.short g.made (omega (arith, g.small))))

-- ---- a word that the roots hold

-- the recursion's first cell decides the newest syndrome
decided : (C T : List ℕ) (x y : ℕ) → Bytes C → get_or C 0 0 ≢ 0 → x < 256 → y < 256 → dot C (x ∷ T) ≡ 0 → dot C (y ∷ T) ≡ 0 → x ≡ y
unfolding dot
decided [] T x y hC n hx hy p q = absurd (n refl)
decided (c ∷ C) T x y hC n hx hy p q =
    mul_cancel c x y hC.0 n hx hy (add-eq (mul c x) (dot C T) p ∙ sym (add-eq (mul c y) (dot C T) q))

pub reads_back : (b p : ℕ) (C e T : List ℕ) → Bytes C → get_or C 0 0 ≢ 0 → Short p C → Bytes e → Zero (weigh 1 (mirrored p C) e) → Bytes T → Holds p C T
    → ((k i : ℕ) → i + suc k ≡ length T → i < p → get_or T k 0 ≡ syndrome b i e) → Reads b T e
reads_back b p C e [] hC n h he z hT m f = tt
reads_back b p C e (x ∷ T) hC n h he z hT m f =
    let r : Reads b T e = reads_back b p C e T hC n h he z hT.1 (λ j l. m (suc j) (omega arith)) (λ k i q l. f (suc k) i (omega arith) l) in
    let y : ℕ = syndrome b (length T) e in (
      ⊎_elim
          (λ l. f 0 (length T) (omega arith) l)
          (λ l. let i : ℕ = length T - p in
          decided C T x y hC n hT.0 (eval-lt e (alpha (b + length T)) he) (m 0 (omega arith))
          (sym (window_syndrome b p i C (y ∷ T) e (omega arith) h (refl, r)) ∙ eval-zero (weigh 1 (mirrored p C) e) (alpha (b + i)) z))
          (lt-or_ge (length T) p),
      r,
    )
