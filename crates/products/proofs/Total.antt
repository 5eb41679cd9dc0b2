-- The dot product of two registers: the words' products are added cell by cell, and then the eight cells of the sum. Folding a word in halves keeps
-- sums, so that it adds the cells is settled at the 64 powers of two.
use mathlib.Core.Path.{◌≡◌, refl, sym, ap, ap₂, ◌∙◌}
use mathlib.Core.List.{List, [], ◌∷◌, ◌++◌}
use Prim.Native.Nat.{ℕ, zero, suc, ◌/◌, ◌%◌, ◌^◌, ◌<◌}
use native.Mathlib.Omega.{arith}
use lib.Bits.{bit_xor}
use lib.ListN.{length}
use Rattle.field.specs.Field.{add, mul}
use Rattle.field.proofs.Sum.{Additive, add_low, add_assoc, add_zero_l, add_zero_r, add_swap, add_self}
use Rattle.words.specs.Word.{byte, bytes_from}
use Rattle.words.proofs.Linear.{family, agree_b, shr, byte-add, shr-add, after, sum-add}
use Rattle.register.specs.Words.{cells}
use Rattle.register.specs.declared.Register.{Register}
use Rattle.products.specs.Products.{times, total, dot}
use Rattle.products.proofs.Theorems.{dot-times}

-- ---- the cells of a word

total-add : (k n : ℕ) → Additive (λ w. total (bytes_from n k w))
unfolding total
total-add k zero a b = sym (add_self 0)
total-add k (suc n) a b = ap₂ add (byte-add k a b) (total-add (suc k) n a b) ∙ add_swap (byte a k) (byte b k) (total (bytes_from n (suc k) a)) (total (bytes_from n (suc k) b))

total-xor : (v w : ℕ) → total (bytes_from 8 0 (bit_xor v w)) ≡ add (total (bytes_from 8 0 v)) (total (bytes_from 8 0 w))
unfolding add
total-xor v w = total-add 0 8 v w

abbrev half : ℕ → ℕ → ℕ
half k w = add w (shr k w)

half-add : (k : ℕ) → Additive (half k)
half-add k = sum-add (λ w. w) (shr k) (λ a b. refl) (shr-add k)

abbrev folded : ℕ → ℕ
folded w = half 8 (half 16 (half 32 w)) % 256

folded-add : Additive folded
folded-add = after (λ w. w % 256) (λ w. half 8 (half 16 (half 32 w))) (add_low 8) (after (half 8) (λ w. half 16 (half 32 w)) (half-add 8) (after (half 16) (half 32) (half-add 16) (half-add 32)))

folded-total : (w : ℕ) → w < 2 ^ 64 → folded w ≡ total (bytes_from 8 0 w)
unfolding agree_b byte add total
folded-total w h = family (λ k. folded) (λ k v. total (bytes_from 8 0 v)) (λ k. folded-add) (λ k. total-add 0 8) 1 tt 0 (omega arith) w h

pub cells-sum : (w : ℕ) → w < 2 ^ 64
    → bit_xor (bit_xor (bit_xor w (w / 2 ^ 32)) (bit_xor w (w / 2 ^ 32) / 2 ^ 16)) (bit_xor (bit_xor w (w / 2 ^ 32)) (bit_xor w (w / 2 ^ 32) / 2 ^ 16) / 2 ^ 8) % 256
    ≡ total (bytes_from 8 0 w)
unfolding add
cells-sum = folded-total

-- ---- the words of a register

times-append : (a b p q : List ℕ) → length a ≡ length b → times (a ++ p) (b ++ q) ≡ times a b ++ times p q
unfolding times
times-append [] [] p q e = refl
times-append [] (y ∷ b) p q e = absurd (omega arith)
times-append (x ∷ a) [] p q e = absurd (omega arith)
times-append (x ∷ a) (y ∷ b) p q e = ap (λ (l : List ℕ). mul x y ∷ l) (times-append a b p q (omega arith))

total-append : (p q : List ℕ) → total (p ++ q) ≡ add (total p) (total q)
unfolding total
total-append [] q = sym (add_zero_l (total q))
total-append (x ∷ p) q = ap (add x) (total-append p q) ∙ sym (add_assoc x (total p) (total q))

total-word : (v w : ℕ) (p q : List ℕ) → total (times (bytes_from 8 0 v ++ p) (bytes_from 8 0 w ++ q)) ≡ add (total (times (bytes_from 8 0 v) (bytes_from 8 0 w))) (total (times p q))
total-word v w p q = ap total (times-append (bytes_from 8 0 v) (bytes_from 8 0 w) p q refl) ∙ total-append (times (bytes_from 8 0 v) (bytes_from 8 0 w)) (times p q)

regroup : (a b c d e f g h : ℕ) → add a (add b (add c (add d (add e (add f (add g (add h 0))))))) ≡ add (add (add (add a b) c) d) (add (add (add e f) g) h)
regroup a b c d e f g h = simp (add_assoc, add_zero_r)

abbrev of_words : ℕ → ℕ → ℕ
of_words v w = total (times (bytes_from 8 0 v) (bytes_from 8 0 w))

words-total : (x y : Register) → total (times (cells x) (cells y))
    ≡ add (of_words x.w0 y.w0) (add (of_words x.w1 y.w1) (add (of_words x.w2 y.w2) (add (of_words x.w3 y.w3)
    (add (of_words x.w4 y.w4) (add (of_words x.w5 y.w5) (add (of_words x.w6 y.w6) (add (of_words x.w7 y.w7) (total (times [] [])))))))))
unfolding cells
words-total x y =
    total-word x.w0 y.w0 _ _
    ∙ ap (add _) (total-word x.w1 y.w1 _ _
    ∙ ap (add _) (total-word x.w2 y.w2 _ _
    ∙ ap (add _) (total-word x.w3 y.w3 _ _
    ∙ ap (add _) (total-word x.w4 y.w4 _ _
    ∙ ap (add _) (total-word x.w5 y.w5 _ _
    ∙ ap (add _) (total-word x.w6 y.w6 _ _
    ∙ ap (add _) (total-word x.w7 y.w7 [] [])))))))

pub dot_law : (x y : Register) (p0 p1 p2 p3 p4 p5 p6 p7 : ℕ)
    → bytes_from 8 0 p0 ≡ times (bytes_from 8 0 x.w0) (bytes_from 8 0 y.w0)
    → bytes_from 8 0 p1 ≡ times (bytes_from 8 0 x.w1) (bytes_from 8 0 y.w1)
    → bytes_from 8 0 p2 ≡ times (bytes_from 8 0 x.w2) (bytes_from 8 0 y.w2)
    → bytes_from 8 0 p3 ≡ times (bytes_from 8 0 x.w3) (bytes_from 8 0 y.w3)
    → bytes_from 8 0 p4 ≡ times (bytes_from 8 0 x.w4) (bytes_from 8 0 y.w4)
    → bytes_from 8 0 p5 ≡ times (bytes_from 8 0 x.w5) (bytes_from 8 0 y.w5)
    → bytes_from 8 0 p6 ≡ times (bytes_from 8 0 x.w6) (bytes_from 8 0 y.w6)
    → bytes_from 8 0 p7 ≡ times (bytes_from 8 0 x.w7) (bytes_from 8 0 y.w7)
    → total (bytes_from 8 0 (bit_xor (bit_xor (bit_xor (bit_xor p0 p1) p2) p3) (bit_xor (bit_xor (bit_xor p4 p5) p6) p7))) ≡ dot (cells x) (cells y)
unfolding times total
dot_law x y p0 p1 p2 p3 p4 p5 p6 p7 h0 h1 h2 h3 h4 h5 h6 h7 =
    both _ _ (both _ _ (both _ _ (both p0 p1 (ap total h0) (ap total h1)) (ap total h2)) (ap total h3)) (both _ _ (both _ _ (both p4 p5 (ap total h4) (ap total h5)) (ap total h6)) (ap total h7))
    ∙ sym (regroup _ _ _ _ _ _ _ _)
    ∙ sym (words-total x y)
    ∙ sym (dot-times (cells x) (cells y))
  where
    both : (s t : ℕ) {p q : ℕ} → total (bytes_from 8 0 s) ≡ p → total (bytes_from 8 0 t) ≡ q → total (bytes_from 8 0 (bit_xor s t)) ≡ add p q
    both s t es et = total-xor s t ∙ ap₂ add es et
