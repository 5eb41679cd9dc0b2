-- The statements of specs/Meaning.antt. The last digit of a number is its remainder by ten and the digits before it are those of the tenth part, so a
-- text of digits is settled from its end; and the texts are their lines put together.
use mathlib.Core.Path.{◌≡◌, refl, sym, ap, ap₂, ◌∙◌, subst}
use mathlib.Core.Logic.{◌≢◌, ⊎_elim}
use mathlib.Core.Bool.{Bool, true, not}
use mathlib.Core.List.{List, [], ◌∷◌, ◌++◌, foldl, foldr, flat_map, tail, append_assoc, append-nil, foldl-append}
use Prim.Native.Nat.{ℕ, zero, suc, ◌+◌, ◌*◌, ◌-◌, ◌/◌, ◌%◌, ◌≤◌, ◌<◌}
use native.Mathlib.Nat.{le_refl, mod-lt, mod-eq_of_lt, div-mul-le_self, div-add-mod', not-suc-le-zero, le_of_suc-le-suc}
use native.Mathlib.Omega.{arith}
use lib.Dec.{T, eqb, lit<}
use lib.ListN.{length, get_or, take, drop, length-append, get_or-append, get_or-eq_default}
use lib.Seq.{take_all, take-suc, length-take-le, get_or-append_seam, append_snoc}
use Rattle.lists.specs.Choice.{both}
use Rattle.lists.proofs.Test.{both_left, both_right, lt-or_ge}
use Rattle.plot.specs.Layout.{Plot, line_of, lines_of}
use Rattle.plot.specs.Grammar.{Plots}
use Rattle.plot.specs.Numbers.{number_of, place_of}
use Rattle.plot.specs.declared.Line.{Line}
use Rattle.plot_promises.specs.Lines.{line_at}
use Rattle.plot_promises.proofs.Lines.{line_after}
use Rattle.listing_text.specs.Text.{decimal, field, newline, header, mended, line_text, lines_text, plots_text, refusal_text, listing_text}
use Rattle.listing_text.specs.Meaning.{value_of, Decimal, DecimalIff, word, in_lines, Unbroken, OneReading, tabulate, row, row_at, rows_of}
use Rattle.listing_text.specs.Meaning.{changed_line, answer_lines, refusal_line, AcceptedText, RefusalText, RefusedPayload}
use Rattle.listing_text.proofs.Fill.{decimal-one, decimal-more}

-- ---- a number in decimal

-- a value with one more digit
abbrev step : ℕ → ℕ → ℕ
step value digit = value * 10 + (digit - 48)

digit_alone : (d : ℕ) → d < 10 → Decimal d ((48 + d) ∷ [])
digit_alone d h = record {
  some = omega arith;
  digits = λ i l. single i l;
  front = λ e. refl;
  value = omega arith;
}
  where
    single : (i : ℕ) → i < 1 → (48 ≤ get_or ((48 + d) ∷ []) i 0) × (get_or ((48 + d) ∷ []) i 0 ≤ 57)
    single zero l = (omega arith, omega arith)
    single (suc i) l = absurd (not-suc-le-zero (le_of_suc-le-suc l))

-- a 0 alone has the value 0
zero_alone : (t : List ℕ) → length t ≡ 1 → get_or t 0 0 ≡ 48 → value_of t ≡ 0
zero_alone [] l e = absurd (omega arith)
zero_alone (x ∷ []) l e = omega arith
zero_alone (x ∷ y ∷ t) l e = absurd (let k : suc (suc (length t)) ≡ 1 = l in omega arith)

module _ (m d : ℕ) (t : List ℕ) (h : Decimal m t) (n : m ≢ 0) (l : d < 10) where
  digit_after : Decimal (m * 10 + d) (t ++ (48 + d) ∷ [])
  digit_after = record {
    some = omega (arith, length-append t ((48 + d) ∷ []));
    digits = λ i k. ⊎_elim (λ b. before i b) (λ b. last i (omega (arith, length-append t ((48 + d) ∷ [])))) (lt-or_ge i (length t));
    front = λ e. absurd (n (sym h.value ∙ zero_alone t (h.front (first e)) (first e)));
    value = foldl-append step 0 t ((48 + d) ∷ []) ∙ (let v : value_of t ≡ m = h.value in omega arith);
  }
    where
      before : (i : ℕ) → i < length t → (48 ≤ get_or (t ++ (48 + d) ∷ []) i 0) × (get_or (t ++ (48 + d) ∷ []) i 0 ≤ 57)
      before i b = rw (get_or-append t ((48 + d) ∷ []) 0 i b) (h.digits i b)

      last : (i : ℕ) → i ≡ length t → (48 ≤ get_or (t ++ (48 + d) ∷ []) i 0) × (get_or (t ++ (48 + d) ∷ []) i 0 ≤ 57)
      last i e = rw (e, get_or-append_seam t (48 + d) [] 0) (omega arith, omega arith)

      first : get_or (t ++ (48 + d) ∷ []) 0 0 ≡ 48 → get_or t 0 0 ≡ 48
      first e = sym (get_or-append t ((48 + d) ∷ []) 0 0 h.some) ∙ e

-- `decimal n`: its one digit, or its last digit after those of the tenth part
decimal_alone : (n : ℕ) → n < 10 → Decimal n (decimal n)
decimal_alone n l = rw (decimal-one n l, mod-eq_of_lt l) (digit_alone n l)

decimal-after : (n : ℕ) → 10 ≤ n → Decimal (n / 10) (decimal (n / 10)) → Decimal n (decimal n)
decimal-after n l h =
    let some : n / 10 ≢ 0 = λ e. omega (arith, mod-lt n {m = 10} (lit< tt), div-add-mod' n 10) in
    rw (decimal-more n l)
    (subst (λ (k : ℕ). Decimal k (decimal (n / 10) ++ (48 + n % 10) ∷ [])) (div-add-mod' n 10)
    (digit_after (n / 10) (n % 10) (decimal (n / 10)) h some (mod-lt n {m = 10} (lit< tt))))

decimal-fits : (f n : ℕ) → n ≤ f → Decimal n (decimal n)
decimal-fits zero n h = decimal_alone n (omega arith)
decimal-fits (suc f) n h = ⊎_elim (decimal_alone n) (λ l. decimal-after n l (decimal-fits f (n / 10) (omega (arith, div-mul-le_self n 10)))) (lt-or_ge n 10)

-- a value with more digits is no less
value-most : (v : ℕ) (t : List ℕ) → v ≤ foldl step v t
value-most v [] = le_refl v
value-most v (x ∷ t) = omega (arith, value-most (step v x) t)

-- digits with no 0 in front have a value other than 0
value_some : (t : List ℕ) → 0 < length t → 48 < get_or t 0 0 → 0 < value_of t
value_some [] l h = l
value_some (x ∷ t) l h = let k : 48 < x = h in omega (arith, value-most (step 0 x) t)

-- more than one digit: the last, and those before it
module _ (n : ℕ) (u : List ℕ) (x : ℕ) (h : Decimal n (u ++ x ∷ [])) (l : 0 < length u) where
  front_over : 48 < get_or u 0 0
  front_over =
      let e : get_or (u ++ x ∷ []) 0 0 ≡ get_or u 0 0 = get_or-append u (x ∷ []) 0 0 l in
      let k : length (u ++ x ∷ []) ≡ length u + 1 = length-append u (x ∷ []) in
      let d : 48 ≤ get_or u 0 0 = rw e at (h.digits 0 h.some).0 in
      let n : get_or u 0 0 ≢ 48 = λ z. let o : length (u ++ x ∷ []) ≡ 1 = h.front (e ∙ z) in omega arith in
      omega arith

  before_last : Decimal (value_of u) u
  before_last = record {
    some = l;
    digits = λ i k. rw (get_or-append u (x ∷ []) 0 i k) at (h.digits i (omega (arith, length-append u (x ∷ []))));
    front = λ e. absurd (omega (arith, front_over));
    value = refl;
  }

  last_digit : (48 ≤ x) × (x ≤ 57)
  last_digit = rw (get_or-append_seam u x [] 0) at (h.digits (length u) (omega (arith, length-append u (x ∷ []))))

  value_is : value_of u * 10 + (x - 48) ≡ n
  value_is = sym (foldl-append step 0 u (x ∷ [])) ∙ h.value

  with_last : u ≡ decimal (value_of u) → u ++ x ∷ [] ≡ decimal n
  with_last e =
      let v : 0 < value_of u = value_some u l front_over in
      let w : value_of u * 10 + (x - 48) ≡ n = value_is in
      let q : n / 10 ≡ value_of u = omega (arith, last_digit) in
      let d : 48 + n % 10 ≡ x = omega (arith, last_digit) in
      sym (decimal-more n (omega arith) ∙ ap₂ (λ (t : List ℕ) (c : ℕ). t ++ c ∷ []) (ap decimal q ∙ sym e) d)

alone_is : (n : ℕ) (t : List ℕ) → length t ≡ 1 → Decimal n t → t ≡ decimal n
alone_is n [] l h = absurd (omega arith)
alone_is n (x ∷ []) l h =
    let d : (48 ≤ x) × (x ≤ 57) = h.digits 0 h.some in
    let v : 0 * 10 + (x - 48) ≡ n = h.value in
    let e : x ≡ 48 + n % 10 = omega (arith, d) in
    ap (λ (c : ℕ). c ∷ []) e ∙ sym (decimal-one n (omega (arith, d)))
alone_is n (x ∷ y ∷ t) l h = absurd (let k : suc (suc (length t)) ≡ 1 = l in omega arith)

-- by the number of digits
only_one : (k n : ℕ) (t : List ℕ) → length t ≡ suc k → Decimal n t → t ≡ decimal n
only_one zero n t l h = alone_is n t l h
only_one (suc k) n t l h =
    let m : length (take (suc k) t) ≡ suc k = length-take-le (suc k) t (omega arith) in
    let e : t ≡ take (suc k) t ++ get_or t (suc k) 0 ∷ [] = sym (take_all (suc (suc k)) t (omega arith)) ∙ take-suc t (suc k) 0 (omega arith) in
    let c : Decimal n (take (suc k) t ++ get_or t (suc k) 0 ∷ []) = subst (Decimal n) e h in
    let s : 0 < length (take (suc k) t) = omega arith in
    e ∙ with_last n (take (suc k) t) (get_or t (suc k) 0) c s (only_one k (value_of (take (suc k) t)) (take (suc k) t) m (before_last n (take (suc k) t) (get_or t (suc k) 0) c s))

pub decimal_iff : DecimalIff
decimal_iff n t = (
  λ e. rw e (decimal-fits n n (le_refl n)),
  λ h. let s : 0 < length t = h.some in let l : length t ≡ suc (length t - 1) = omega arith in only_one (length t - 1) n t l h,
)

-- ---- lines without the byte 0A

abbrev Plain : List ℕ → Type 0
Plain l = (j : ℕ) → get_or l j 0 ≢ 0x0A

plain-append : (l m : List ℕ) → Plain l → Plain m → Plain (l ++ m)
plain-append [] m a b j = b j
plain-append (x ∷ l) m a b zero = a 0
plain-append (x ∷ l) m a b (suc j) = plain-append l m (λ i. a (suc i)) b j

plain-after : (x : ℕ) (l : List ℕ) → x ≢ 0x0A → Plain l → Plain (x ∷ l)
plain-after x l n h zero = n
plain-after x l n h (suc j) = h j

plain-decimal : (n : ℕ) → Plain (decimal n)
plain-decimal n j e = ⊎_elim (λ l. omega (arith, ((decimal-fits n n (le_refl n)).digits j l).0)) (λ l. omega (arith, get_or-eq_default (decimal n) 0 l)) (lt-or_ge j (length (decimal n)))

-- a word, by a computed test
plain_test : List ℕ → Bool
plain_test [] = true
plain_test (x ∷ l) = both (not (eqb x 0x0A)) (plain_test l)

plain_word : (l : List ℕ) → T (plain_test l) → Plain l
unfolding plain_test
plain_word [] t j = omega arith
plain_word (x ∷ l) t j = plain-after x l (λ e. rw e at (both_left (not (eqb x 0x0A)) (plain_test l) t)) (plain_word l (both_right (not (eqb x 0x0A)) (plain_test l) t)) j

plain-comma : (n : ℕ) (l : List ℕ) → Plain l → Plain (decimal n ++ 44 ∷ l)
plain-comma n l h = plain-append (decimal n) (44 ∷ l) (plain-decimal n) (plain-after 44 l (omega arith) h)

plain_row : (plot : ℕ) (line : Line) → Plain (row plot line)
plain_row plot line = plain-comma plot _ (plain-comma line.species _ (plain-comma line.class _ (plain-decimal line.count)))

unbroken-after : (l : List ℕ) (ls : List (List ℕ)) → Plain l → Unbroken ls → Unbroken (l ∷ ls)
unbroken-after l ls h k zero = h
unbroken-after l ls h k (suc i) = k i

unbroken-append : (ls ms : List (List ℕ)) → Unbroken ls → Unbroken ms → Unbroken (ls ++ ms)
unbroken-append [] ms h k = k
unbroken-append (l ∷ ls) ms h k = unbroken-after l (ls ++ ms) (h 0) (unbroken-append ls ms (λ i. h (suc i)) k)

unbroken-tabulate : (n : ℕ) (f : ℕ → List ℕ) → ((i : ℕ) → Plain (f i)) → Unbroken (tabulate n f)
unbroken-tabulate zero f h = λ i j e. omega arith
unbroken-tabulate (suc n) f h = unbroken-after (f 0) (tabulate n (λ (i : ℕ). f (suc i))) (h 0) (unbroken-tabulate n (λ (i : ℕ). f (suc i)) (λ i. h (suc i)))

unbroken_rows : (ps : List Plot) → Unbroken (flat_map rows_of ps)
unfolding flat_map
unbroken_rows [] = λ i j e. omega arith
unbroken_rows (p ∷ ps) =
    unbroken-append (rows_of p) (flat_map rows_of ps) (unbroken-tabulate (lines_of p) (row_at p) (λ i. plain_row p.number (line_at p.lines i)))
    (unbroken_rows ps)

-- ---- the texts as lines

lines-append : (ls ms : List (List ℕ)) → in_lines (ls ++ ms) ≡ in_lines ls ++ in_lines ms
unfolding flat_map
lines-append [] ms = refl
lines-append (l ∷ ls) ms = ap (λ (t : List ℕ). (l ++ 0x0A ∷ []) ++ t) (lines-append ls ms) ∙ sym (append_assoc (l ++ 0x0A ∷ []) (in_lines ls) (in_lines ms))

line_is : (plot : ℕ) (line : Line) → line_text plot line ≡ row plot line ++ 0x0A ∷ []
unfolding line_text field
line_is plot line = simp append_assoc

lines_are : (plot k : ℕ) (s : List ℕ) → lines_text plot k s ≡ in_lines (tabulate k (λ (i : ℕ). row plot (line_at s i)))
unfolding lines_text flat_map
lines_are plot zero s = refl
lines_are plot (suc k) s =
    ap₂ (λ (t u : List ℕ). t ++ u) (line_is plot (line_of s))
    (lines_are plot k (drop 3 s) ∙ ap (λ (f : ℕ → List ℕ). in_lines (tabulate k f)) (λ j i. ap (row plot) (line_after s i) j))

plots_are : (ps : List Plot) → plots_text ps ≡ in_lines (flat_map rows_of ps)
unfolding plots_text flat_map
plots_are [] = refl
plots_are (p ∷ ps) = ap₂ (λ (s t : List ℕ). s ++ t) (lines_are p.number (lines_of p) p.lines) (plots_are ps) ∙ sym (lines-append (rows_of p) (flat_map rows_of ps))

answer_is : (changed : ℕ) (ps : List Plot) (end : ℕ) → listing_text changed (Plots ps end) ≡ in_lines (answer_lines changed ps)
unfolding listing_text field flat_map
answer_is changed ps end =
    let last : mended ++ field changed newline ≡ in_lines (changed_line changed ∷ []) = simp append-nil in
    ap (λ (t : List ℕ). header ++ t) (ap₂ (λ (t u : List ℕ). t ++ u) (plots_are ps) last ∙ sym (lines-append (flat_map rows_of ps) (changed_line changed ∷ [])))

refusal_is : (number place : ℕ) → refusal_text number place ≡ in_lines (refusal_line number place ∷ [])
unfolding refusal_text field flat_map
refusal_is number place = simp (append_assoc, append-nil)

length-tabulate : (n : ℕ) (f : ℕ → List ℕ) → length (tabulate n f) ≡ n
length-tabulate zero f = refl
length-tabulate (suc n) f = ap suc (length-tabulate n (λ (i : ℕ). f (suc i)))

length_rows : (ps : List Plot) → length (flat_map rows_of ps) ≡ foldr (λ (p : Plot) (k : ℕ). lines_of p + k) 0 ps
unfolding flat_map
length_rows [] = refl
length_rows (p ∷ ps) = length-append (rows_of p) (flat_map rows_of ps) ∙ ap₂ (λ (j k : ℕ). j + k) (length-tabulate (lines_of p) _) (length_rows ps)

pub accepted_text : (changed : ℕ) (ps : List Plot) → AcceptedText changed ps
unfolding plain_test
accepted_text changed ps =
    let last : Plain (changed_line changed) = plain-append (word "mended,") (decimal changed) (plain_word (word "mended,") tt) (plain-decimal changed) in
    let ends : Unbroken (changed_line changed ∷ []) = unbroken-after (changed_line changed) [] last (λ i j e. omega arith) in
    record {
      text = answer_is changed ps;
      unbroken = unbroken-after (word "plot,species,class,count") (flat_map rows_of ps ++ changed_line changed ∷ []) (plain_word (word "plot,species,class,count") tt)
          (unbroken-append (flat_map rows_of ps) (changed_line changed ∷ []) (unbroken_rows ps) ends);
      count = omega (arith, length-append (flat_map rows_of ps) (changed_line changed ∷ []), length_rows ps);
    }

pub refusal_text_lem : (number place : ℕ) → RefusalText number place
unfolding plain_test
refusal_text_lem number place =
    let rest : Plain (decimal number ++ 44 ∷ decimal place) = plain-comma number (decimal place) (plain-decimal place) in
    let line : Plain (refusal_line number place) = plain-append (word "refused,") (decimal number ++ 44 ∷ decimal place) (plain_word (word "refused,") tt) rest in
    record { text = refusal_is number place; unbroken = unbroken-after (refusal_line number place) [] line (λ i j e. omega arith) }

pub refused-payload : RefusedPayload
unfolding listing_text
refused-payload changed r = refusal_is (number_of r) (place_of r)

-- ---- a text has one list of lines only

first_line : (l m s t : List ℕ) → Plain l → Plain m → l ++ 0x0A ∷ s ≡ m ++ 0x0A ∷ t → (l ≡ m) × (s ≡ t)
first_line [] [] s t h k e = (refl, ap tail e)
first_line [] (y ∷ m) s t h k e = absurd (k 0 (sym (ap (λ (u : List ℕ). get_or u 0 0) e)))
first_line (x ∷ l) [] s t h k e = absurd (h 0 (ap (λ (u : List ℕ). get_or u 0 0) e))
first_line (x ∷ l) (y ∷ m) s t h k e =
    let r = first_line l m s t (λ j. h (suc j)) (λ j. k (suc j)) (ap tail e) in
    (ap₂ (λ (z : ℕ) (u : List ℕ). z ∷ u) (ap (λ (u : List ℕ). get_or u 0 0) e) r.0, r.1)

lines_some : (l : List ℕ) (ls : List (List ℕ)) → in_lines (l ∷ ls) ≢ []
unfolding flat_map
lines_some l ls e = omega (arith, ap length e, length-append (l ++ 0x0A ∷ []) (in_lines ls), length-append l (0x0A ∷ []))

pub one_reading : OneReading
unfolding flat_map
one_reading [] [] h k e = refl
one_reading [] (m ∷ ms) h k e = absurd (lines_some m ms (sym e))
one_reading (l ∷ ls) [] h k e = absurd (lines_some l ls e)
one_reading (l ∷ ls) (m ∷ ms) h k e =
    let r = first_line l m (in_lines ls) (in_lines ms) (h 0) (k 0) (sym (append_snoc l 0x0A (in_lines ls)) ∙ e ∙ append_snoc m 0x0A (in_lines ms)) in
    ap₂ (λ (u : List ℕ) (us : List (List ℕ)). u ∷ us) r.0 (one_reading ls ms (λ i. h (suc i)) (λ i. k (suc i)) r.1)
