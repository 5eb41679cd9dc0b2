-- "The sheet reader uses both." (document 02, Note 3; N3e): what reading a sheet in scratch mode answers, and the payload of one that is accepted, by the
-- looks at its blocks and by their fills. So what a desk sees by looking at each block is what the reader does. What a look and a fill mean is the block
-- crate's; proofs/Looks.antt proves this.
use Rattle.std.specs.Prelude.{◌≡◌, ◌↔◌, ◌≢◌, List, ℕ, ◌<◌, length, drop}
use Rattle.profile.specs.Profile.{InRange, message_length}
use Rattle.block.specs.Block.{look_answer, fill_leaves}
use Rattle.block.specs.Numbers.{Verdict, verdict_number, verdict_start, verdict_length}
use Rattle.profile.specs.declared.Profile.{Profile}
use Rattle.sheet.specs.declared.Mode.TheVariants.{Burst}
use Rattle.sheet.specs.Sheet.{joined, read_block, read_answer, read_payload}
use Rattle.sheet.specs.Numbers.{reading_number, reading_place, reading_changed}
use Rattle.sheet.specs.Buffers.{Lent, differing}

module _ (p : Profile) (sheet : List ℕ) where
  -- the look at block d
  abbrev pub look_at : ℕ → Verdict
  look_at d = look_answer p (read_block p sheet d)

  -- what the fill of its run leaves in a second buffer
  abbrev pub fill_at : ℕ → List ℕ → List ℕ
  fill_at d second = fill_leaves p (read_block p sheet d) (verdict_start (look_at d)) (verdict_length (look_at d)) second

  -- block d is the lowest at which a look refuses, by that number
  pub record LowestLook (d number : ℕ) : Type 0 where
    pub below : d < p.depth
    pub refused : verdict_number (look_at d) ≡ number
    pub before : (e : ℕ) → e < d → verdict_number (look_at e) ≡ 0

-- of D blocks of n cells
pub record ReadByLooks (p : Profile) (sheet scratch out : List ℕ) : Type 0 where
  -- refused by the number and at the place of the lowest look that refuses, and accepted exactly where every look accepts
  pub refused : (d number : ℕ) → number ≢ 0
      → ((reading_number (read_answer Burst p sheet scratch out) ≡ number) × (reading_place (read_answer Burst p sheet scratch out) ≡ d)) ↔ LowestLook p sheet d number
  pub accepted : (reading_number (read_answer Burst p sheet scratch out) ≡ 0) ↔ ((d : ℕ) → d < p.depth → verdict_number (look_at p sheet d) ≡ 0)
  -- the payload is the message bytes of the fills, whatever second buffers of n bytes they are given, and a block is changed where its fill is not the read block
  pub payload : (second : ℕ → List ℕ) → ((d : ℕ) → length (second d) ≡ p.n) → reading_number (read_answer Burst p sheet scratch out) ≡ 0
      → read_payload Burst p sheet scratch out ≡ joined p.depth (message_length p) (λ (d : ℕ). drop p.r (fill_at p sheet d (second d)))
  pub changed : (second : ℕ → List ℕ) → ((d : ℕ) → length (second d) ≡ p.n) → reading_number (read_answer Burst p sheet scratch out) ≡ 0
      → reading_changed (read_answer Burst p sheet scratch out) ≡ differing p.depth (λ (d : ℕ). fill_at p sheet d (second d)) (read_block p sheet)

abbrev pub SheetByLooks : Type 0
SheetByLooks = (p : Profile) (sheet scratch out : List ℕ) → InRange p → Lent p sheet scratch out → ReadByLooks p sheet scratch out
