-- The list of cells that a register stands for: eight words of eight cells, the lowest first. What the cells of a word are is defined in the
-- crate `words`.
use Rattle.std.specs.Prelude.{List, [], ◌∷◌, ◌++◌, ℕ}
use Rattle.words.specs.Word.{bytes_from}
use Rattle.register.specs.declared.Register.{Register}

-- the cells of the words of a list
abbrev pub unpack : List ℕ → List ℕ
unpack [] = []
unpack (w ∷ ws) = bytes_from 8 0 w ++ unpack ws

-- the words of a register
abbrev pub words : Register → List ℕ
words x = x.w0 ∷ x.w1 ∷ x.w2 ∷ x.w3 ∷ x.w4 ∷ x.w5 ∷ x.w6 ∷ x.w7 ∷ []

-- its 64 cells
unfoldable pub cells : Register → List ℕ
cells x = unpack (words x)

-- P of each word of x and the word of z at its place
abbrev pub EachWord : (ℕ → ℕ → Type 0) → Register → Register → Type 0
EachWord P x z = P x.w0 z.w0 × P x.w1 z.w1 × P x.w2 z.w2 × P x.w3 z.w3 × P x.w4 z.w4 × P x.w5 z.w5 × P x.w6 z.w6 × P x.w7 z.w7

-- P of each word of x, the word above it and the word of z at its place; above the highest stands `top`
abbrev pub EachWithAbove : (ℕ → ℕ → ℕ → Type 0) → Register → ℕ → Register → Type 0
EachWithAbove P x top z =
    P x.w0 x.w1 z.w0 × P x.w1 x.w2 z.w1 × P x.w2 x.w3 z.w2 × P x.w3 x.w4 z.w3 × P x.w4 x.w5 z.w4 × P x.w5 x.w6 z.w5 × P x.w6 x.w7 z.w6 × P x.w7 top z.w7
