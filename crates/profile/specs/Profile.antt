-- The profile of document 01: the ranges of its five numbers (B1), and k and h (B2); and the rule on long but thin repairs (document 02, Note 7; N7a), which reads
-- its r.
use Rattle.std.specs.Prelude.{◌≡◌, ◌↔◌, Bool, true, ℕ, ◌+◌, ◌*◌, ◌-◌, ◌/◌, ◌≤◌, ◌<◌, leb, ltb}
use Rattle.lists.specs.Choice.{both}
use Rattle.profile.specs.declared.Profile.{Profile}

-- the table of ranges: least and most of each number
pub record InRange (p : Profile) : Type 0 where
  pub n_least : 3 ≤ p.n
  pub n_most : p.n ≤ 255
  pub r_least : 2 ≤ p.r
  pub r_most : p.r ≤ 64
  pub r_below : p.r < p.n
  pub b_most : p.b ≤ 254
  pub limit_below : p.limit < p.r
  pub depth_least : 1 ≤ p.depth
  pub depth_most : p.depth ≤ 16

-- the same as a test
unfoldable pub in_range : Profile → Bool
in_range p =
    both (leb 3 p.n)
    (both (leb p.n 255)
    (both (leb 2 p.r)
    (both (leb p.r 64)
    (both (ltb p.r p.n)
    (both (leb p.b 254)
    (both (ltb p.limit p.r)
    (both (leb 1 p.depth)
    (leb p.depth 16))))))))

-- the test is what it says
abbrev pub InRangeIff : Type 0
InRangeIff = (p : Profile) → (in_range p ≡ true) ↔ InRange p

-- "Write k = n−r"
abbrev pub message_length : Profile → ℕ
message_length p = p.n - p.r

-- "and h = r/2 rounded down"
abbrev pub half : Profile → ℕ
half p = p.r / 2

-- "a repair whose length exceeds half of r is refused unless more than half of its run is changed": so a run of f cells of which w are changed is refused (thin)
pub record SparseRun (p : Profile) (f w : ℕ) : Type 0 where
  pub long : p.r < 2 * f
  pub few : 2 * w ≤ f

-- the same as a test
unfoldable pub is_sparse : Profile → ℕ → ℕ → Bool
is_sparse p f w = both (ltb p.r (f + f)) (leb (w + w) f)

-- the test is true exactly where the rule refuses
abbrev pub SparseRunIff : Type 0
SparseRunIff = (p : Profile) (f w : ℕ) → (is_sparse p f w ≡ true) ↔ SparseRun p f w
