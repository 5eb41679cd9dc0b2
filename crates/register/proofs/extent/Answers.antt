-- The first word from the top that is not zero has the last cell; the words above it are zero.
use mathlib.Core.Path.{sym, ap, ◌∙◌}
use mathlib.Core.List.{[], ◌∷◌}
use Prim.Native.Nat.{ℕ, ◌+◌}
use native.Mathlib.Omega.{arith}
use Rattle.register.specs.Words.{cells}
use Rattle.register.proofs.LastWord.{extent-words, extent_lowest}
use Rattle.register.proofs.extent.Goals as goal

pub overflow_add-result : goal.overflow_add-result
overflow_add-result c = omega arith

pub returns-then-x-ne0 : goal.returns-then-x-ne0
unfolding cells
returns-then-x-ne0 c =
    let e = c.word_extent.ensures in
    ap (λ (v : ℕ). 56 + v) e.0
    ∙ sym (extent-words (c.args.x.w0 ∷ c.args.x.w1 ∷ c.args.x.w2 ∷ c.args.x.w3 ∷ c.args.x.w4 ∷ c.args.x.w5 ∷ c.args.x.w6 ∷ []) c.args.x.w7 ([]) (omega arith) (omega arith) tt)

pub overflow_add-result-then-x-ne0-2 : goal.overflow_add-result-then-x-ne0-2
overflow_add-result-then-x-ne0-2 c = omega arith

pub returns-then-x-ne0-2 : goal.returns-then-x-ne0-2
unfolding cells
returns-then-x-ne0-2 c =
    let e = c.word_extent-then-x-ne0-2.ensures in
    ap (λ (v : ℕ). 48 + v) e.0
    ∙ sym (extent-words (c.args.x.w0 ∷ c.args.x.w1 ∷ c.args.x.w2 ∷ c.args.x.w3 ∷ c.args.x.w4 ∷ c.args.x.w5 ∷ []) c.args.x.w6 (c.args.x.w7 ∷ []) (omega arith) (omega arith) (omega arith, tt))

pub overflow_add-result-then-x-ne0-3 : goal.overflow_add-result-then-x-ne0-3
overflow_add-result-then-x-ne0-3 c = omega arith

pub returns-then-x-ne0-3 : goal.returns-then-x-ne0-3
unfolding cells
returns-then-x-ne0-3 c =
    let e = c.word_extent-then-x-ne0-3.ensures in
    ap (λ (v : ℕ). 40 + v) e.0
    ∙ sym (extent-words (c.args.x.w0 ∷ c.args.x.w1 ∷ c.args.x.w2 ∷ c.args.x.w3 ∷ c.args.x.w4 ∷ []) c.args.x.w5 (c.args.x.w6 ∷ c.args.x.w7 ∷ []) (omega arith) (omega arith) (omega arith, (omega arith, tt)))

pub overflow_add-result-then-x-ne0-4 : goal.overflow_add-result-then-x-ne0-4
overflow_add-result-then-x-ne0-4 c = omega arith

pub returns-then-x-ne0-4 : goal.returns-then-x-ne0-4
unfolding cells
returns-then-x-ne0-4 c =
    let e = c.word_extent-then-x-ne0-4.ensures in
    ap (λ (v : ℕ). 32 + v) e.0
    ∙ sym (extent-words (c.args.x.w0 ∷ c.args.x.w1 ∷ c.args.x.w2 ∷ c.args.x.w3 ∷ []) c.args.x.w4 (c.args.x.w5 ∷ c.args.x.w6 ∷ c.args.x.w7 ∷ []) (omega arith) (omega arith) (omega arith, (omega arith, (omega arith, tt))))

pub overflow_add-result-then-x-ne0-5 : goal.overflow_add-result-then-x-ne0-5
overflow_add-result-then-x-ne0-5 c = omega arith

pub returns-then-x-ne0-5 : goal.returns-then-x-ne0-5
unfolding cells
returns-then-x-ne0-5 c =
    let e = c.word_extent-then-x-ne0-5.ensures in
    ap (λ (v : ℕ). 24 + v) e.0
    ∙ sym (extent-words (c.args.x.w0 ∷ c.args.x.w1 ∷ c.args.x.w2 ∷ []) c.args.x.w3 (c.args.x.w4 ∷ c.args.x.w5 ∷ c.args.x.w6 ∷ c.args.x.w7 ∷ []) (omega arith) (omega arith) (omega arith, (omega arith, (omega arith, (omega arith, tt)))))

pub overflow_add-result-then-x-ne0-6 : goal.overflow_add-result-then-x-ne0-6
overflow_add-result-then-x-ne0-6 c = omega arith

pub returns-then-x-ne0-6 : goal.returns-then-x-ne0-6
unfolding cells
returns-then-x-ne0-6 c =
    let e = c.word_extent-then-x-ne0-6.ensures in
    ap (λ (v : ℕ). 16 + v) e.0
    ∙ sym (extent-words (c.args.x.w0 ∷ c.args.x.w1 ∷ []) c.args.x.w2 (c.args.x.w3 ∷ c.args.x.w4 ∷ c.args.x.w5 ∷ c.args.x.w6 ∷ c.args.x.w7 ∷ []) (omega arith) (omega arith) (omega arith, (omega arith, (omega arith, (omega arith, (omega arith, tt))))))

pub overflow_add-result-then-x-ne0-7 : goal.overflow_add-result-then-x-ne0-7
overflow_add-result-then-x-ne0-7 c = omega arith

pub returns-then-x-ne0-7 : goal.returns-then-x-ne0-7
unfolding cells
returns-then-x-ne0-7 c =
    let e = c.word_extent-then-x-ne0-7.ensures in
    ap (λ (v : ℕ). 8 + v) e.0
    ∙ sym (extent-words (c.args.x.w0 ∷ []) c.args.x.w1 (c.args.x.w2 ∷ c.args.x.w3 ∷ c.args.x.w4 ∷ c.args.x.w5 ∷ c.args.x.w6 ∷ c.args.x.w7 ∷ []) (omega arith) (omega arith) (omega arith, (omega arith, (omega arith, (omega arith, (omega arith, (omega arith, tt)))))))

pub returns : goal.returns
unfolding cells
returns c = c.word_extent-2.ensures.0 ∙ sym (extent_lowest _ (c.args.x.w1 ∷ c.args.x.w2 ∷ c.args.x.w3 ∷ c.args.x.w4 ∷ c.args.x.w5 ∷ c.args.x.w6 ∷ c.args.x.w7 ∷ []) (omega arith, (omega arith, (omega arith, (omega arith, (omega arith, (omega arith, (omega arith, tt))))))))
