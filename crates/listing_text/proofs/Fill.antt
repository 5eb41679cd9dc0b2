-- Text in a buffer, piece after piece; digits; and what a buffer holds that was filled from its first byte on.
use Prim.Native.Nat.{ℕ, zero, suc, ◌+◌, ◌/◌, ◌%◌, ◌<◌, ◌≤◌, min}
use native.Mathlib.Omega.{arith}
use native.Mathlib.Nat.{div-mul-le_self, mod-eq_of_lt, le_refl}
use mathlib.Core.Path.{◌≡◌, refl, sym, ap, ◌∙◌}
use mathlib.Core.List.{List, [], ◌∷◌, ◌++◌, append-nil}
use lib.ListN.{length, take, drop, set, length-append}
use lib.Seq.{take-nil, take_all, take_at, drop-nil, set-append_seam, append_snoc}
use lib.Dec.{ltb}
use borrow.Author.Tests.{lt-ltb, le-ltb}
use Rattle.lists.specs.Choice.{pick}
use Rattle.listing_text.specs.Text.{digits, decimal}
use Rattle.listing_text.specs.Buffer.{Buffer, buffer, put_byte, put_all, text_in, text_length}

-- one byte
module _ (out : List ℕ) (at x : ℕ) where
  pub put_room : at < length out → buffer (set out at x) (at + 1) ≡ put_byte x (buffer out at)
  unfolding put_byte
  put_room h = rw (lt-ltb _ _ h)

  pub put-none : length out ≤ at → buffer out at ≡ put_byte x (buffer out at)
  unfolding put_byte
  put-none h = rw (le-ltb _ _ h)

pub put_one : (x : ℕ) (b : Buffer) → put_byte x b ≡ put_all (x ∷ []) b
unfolding put_all
put_one x b = refl

-- pieces
pub put-append : (s t : List ℕ) (b : Buffer) → put_all (s ++ t) b ≡ put_all t (put_all s b)
unfolding put_all
put-append [] t b = refl
put-append (x ∷ s) t b = put-append s t (put_byte x b)

-- digits
tenth : (n f : ℕ) → n ≤ suc f → n / 10 ≤ f
tenth n f h = omega (arith, div-mul-le_self n 10)

digits-steps : (f g n : ℕ) → n ≤ f → n ≤ g → digits f n ≡ digits g n
unfolding digits
digits-steps zero zero n h k = refl
digits-steps zero (suc g) n h k =
    let l : n < 10 = omega arith in
    rw (lt-ltb n 10 l)
digits-steps (suc f) zero n h k =
    let l : n < 10 = omega arith in
    rw (lt-ltb n 10 l)
digits-steps (suc f) (suc g) n h k = ap (λ (t : List ℕ). pick (ltb n 10) ((48 + n) ∷ []) (t ++ ((48 + n % 10) ∷ []))) (digits-steps f g (n / 10) (tenth n f h) (tenth n g k))

digits-one : (f n : ℕ) → n < 10 → digits f n ≡ (48 + n) ∷ []
unfolding digits
digits-one zero n h = refl
digits-one (suc f) n h = rw (lt-ltb n 10 h)

digits_more : (f n : ℕ) → 10 ≤ n → n ≤ f → digits f n ≡ digits (n / 10) (n / 10) ++ ((48 + n % 10) ∷ [])
unfolding digits
digits_more zero n h k = absurd (let l : n ≤ 0 = k in omega arith)
digits_more (suc f) n h k = rw (le-ltb n 10 h) (ap (λ (t : List ℕ). t ++ ((48 + n % 10) ∷ [])) (digits-steps f (n / 10) (n / 10) (tenth n f k) (le_refl _)))

pub decimal-one : (n : ℕ) → n < 10 → decimal n ≡ (48 + n % 10) ∷ []
unfolding decimal
decimal-one n h = digits-one n n h ∙ ap (λ (k : ℕ). (48 + k) ∷ []) (sym (mod-eq_of_lt h))

pub decimal-more : (n : ℕ) → 10 ≤ n → decimal n ≡ decimal (n / 10) ++ ((48 + n % 10) ∷ [])
unfolding decimal
decimal-more n h = digits_more n n h (le_refl _)

-- a buffer whose first bytes x are written: the text goes into the others, y, as far as they go
fill_on : (t x y : List ℕ) → put_all t (buffer (x ++ y) (length x)) ≡ buffer (x ++ (take (length y) t ++ drop (length t) y)) (length x + min (length t) (length y))
unfolding put_all
fill_on [] x y =
    let z : length x ≡ length x + min 0 (length y) = omega arith in
    ap (λ (l : List ℕ). buffer (x ++ (l ++ y)) (length x)) (sym (take-nil (length y))) ∙ ap (buffer (x ++ (take (length y) [] ++ y))) z
fill_on (c ∷ t) x [] =
    let n : length (x ++ []) ≤ length x = omega (arith, ap length (append-nil x)) in
    let z : length x + min (length t) 0 ≡ length x + min (suc (length t)) 0 = omega arith in
    ap (put_all t) (sym (put-none (x ++ []) (length x) c n))
    ∙ fill_on t x []
    ∙ ap (λ (l : List ℕ). buffer (x ++ l) (length x + min (length t) 0)) (drop-nil (length t))
    ∙ ap (buffer (x ++ [])) z
fill_on (c ∷ t) x (z ∷ y) =
    let one : length (x ++ c ∷ []) ≡ length x + 1 = length-append x (c ∷ []) in
    let room : length x < length (x ++ z ∷ y) = omega (arith, length-append x (z ∷ y)) in
    let body = take (length y) t ++ drop (length t) y in
    let end : length (x ++ c ∷ []) + min (length t) (length y) ≡ length x + min (suc (length t)) (suc (length y)) = omega arith in
    ap (put_all t) (sym (put_room (x ++ z ∷ y) (length x) c room))
    ∙ ap (λ (l : List ℕ). put_all t (buffer l (length x + 1))) (set-append_seam x z y c ∙ sym (append_snoc x c y))
    ∙ ap (λ (n : ℕ). put_all t (buffer (x ++ (c ∷ []) ++ y) n)) (sym one)
    ∙ fill_on t (x ++ c ∷ []) y
    ∙ ap (λ (l : List ℕ). buffer l (length (x ++ c ∷ []) + min (length t) (length y))) (append_snoc x c body)
    ∙ ap (buffer (x ++ c ∷ body)) end

-- a buffer filled from its first byte on holds the text
module _ (t out exit : List ℕ) (r : ℕ) (e : buffer exit r ≡ put_all t (buffer out 0)) where
  filled : buffer exit r ≡ buffer (text_in t out) (text_length t out)
  filled =
      let z : 0 + min (length t) (length out) ≡ min (length t) (length out) = omega arith in
      e ∙ fill_on t [] out ∙ ap (buffer (text_in t out)) z

  pub fill_length : r ≡ text_length t out
  fill_length = ap (λ (b : Buffer). b.at) filled

  pub fill_bytes : exit ≡ text_in t out
  fill_bytes = ap (λ (b : Buffer). b.bytes) filled

-- a buffer that is long enough holds all of the text
pub fill_whole : (t out : List ℕ) → length t ≤ length out → (text_length t out ≡ length t) × (take (length t) (text_in t out) ≡ t)
fill_whole t out h =
    let e : min (length t) (length out) ≡ length t = omega arith in
    (e, rw (take_all (length out) t h, take_at t (drop (length t) out) (length t) refl))
