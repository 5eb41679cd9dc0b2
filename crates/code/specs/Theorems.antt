-- The theorems of the code, as statements for every b, every r ≥ 1 and every n ≤ 255 (r = 1 and n = 2 included). They are proved in
-- proofs/Theorems.antt. B5 is CodewordIffSyndromes, B11 is MinimumDistance; RunReaches and TwoRuns are what a block's verdict rests on, and
-- LongRunReaches is why the limit stops at r − 1.
use Rattle.std.specs.Prelude.{◌≡◌, ◌↔◌, List, ℕ, ◌+◌, ◌*◌, ◌-◌, ◌≤◌, ◌<◌, length, take}
use Rattle.field.specs.Field.{mul, alpha}
use Rattle.lists.specs.Bytes.{Bytes}
use Rattle.code.specs.Poly.{padd, pmul}
use Rattle.code.specs.Code.{generator, syndrome, Codeword, remainder, distance}
use Rattle.code.specs.Run.{Reaches, shifted_remainder, ZeroFrom, added_at}

-- all r syndromes are zero
abbrev pub Syndromes-zero : ℕ → ℕ → List ℕ → Type 0
Syndromes-zero b r c = (i : ℕ) → i < r → syndrome b i c ≡ 0

-- n byte cells are divisible by the generator exactly if all r syndromes are zero
abbrev pub CodewordIffSyndromes : Type 0
CodewordIffSyndromes = (n r b : ℕ) (c : List ℕ) → r < n → r ≤ 255 → length c ≡ n → Bytes c → Codeword n r b c ↔ Syndromes-zero b r c

-- division: a multiple of the generator, of n − r places, and r cells are left
abbrev pub Division : Type 0
Division = (n r b : ℕ) (c : List ℕ) → r < n → length c ≡ n → Bytes c
    → (q : List ℕ) × (length q ≡ n - r) × (c ≡ padd (pmul (generator b r) q) (remainder r (generator b r) c))

-- two codewords that differ in at most r cells are one
abbrev pub MinimumDistance : Type 0
MinimumDistance = (n r b : ℕ) (c d : List ℕ) → n ≤ 255 → Codeword n r b c → Codeword n r b d → distance c d ≤ r → c ≡ d

-- the syndromes of a remainder are those of the word
abbrev pub RemainderSyndromes : Type 0
RemainderSyndromes = (r b i : ℕ) (c : List ℕ) → i < r → Bytes c → syndrome b i (remainder r (generator b r) c) ≡ syndrome b i c

-- a word's syndromes are those of its shifted remainder, each times its own power of α
abbrev pub ShiftedSyndromes : Type 0
ShiftedSyndromes = (r b i s : ℕ) (y : List ℕ) → i < r → Bytes y → syndrome b i y ≡ mul (alpha (s * (b + i))) (syndrome b i (shifted_remainder b r s y))

-- a run of at most r cells reaches a codeword exactly if the shifted remainder is zero from the run's length on; that codeword is the
-- read block plus the shifted remainder laid at the run's start, and so the run reaches no other
abbrev pub RunReaches : Type 0
RunReaches = (n r b : ℕ) (y : List ℕ) (s f : ℕ) (c : List ℕ) → r < n → n ≤ 255 → length y ≡ n → Bytes y → f ≤ r → s + f ≤ n
    → Reaches n r b y s f c ↔ (ZeroFrom f (shifted_remainder b r s y) × (c ≡ added_at s (take f (shifted_remainder b r s y)) y))

-- "Lengths of r and more reach a codeword always, so L stops at r−1": such a run reaches a codeword from every start that leaves room for it
abbrev pub LongRunReaches : Type 0
LongRunReaches = (n r b : ℕ) (y : List ℕ) (s f : ℕ) → r < n → n ≤ 255 → length y ≡ n → Bytes y → r ≤ f → s + f ≤ n → (c : List ℕ) × Reaches n r b y s f c

-- two codewords within two runs of one block that are together at most r cells long are one
abbrev pub TwoRuns : Type 0
TwoRuns = (n r b : ℕ) (y : List ℕ) (s f t g : ℕ) (c d : List ℕ) → n ≤ 255 → length y ≡ n → Reaches n r b y s f c → Reaches n r b y t g d → f + g ≤ r → c ≡ d
