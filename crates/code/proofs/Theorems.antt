-- The theorems of specs/Theorems.antt, each from the law that does its work.
use mathlib.Core.Path.{◌≡◌, sym, ap, ◌∙◌}
use Prim.Native.Nat.{ℕ, ◌+◌, ◌-◌}
use native.Mathlib.Omega.{arith}
use lib.ListN.{length}
use Rattle.field.specs.Field.{mul, alpha}
use Rattle.field.proofs.Power.{power-mul}
use Rattle.code.specs.Code.{generator, syndrome}
use Rattle.code.specs.Run.{shifted_remainder}
use Rattle.code.specs.Theorems.{CodewordIffSyndromes, Division, MinimumDistance, RemainderSyndromes, ShiftedSyndromes, RunReaches, LongRunReaches, TwoRuns}
use Rattle.code.proofs.Distance.{determined}
use Rattle.code.proofs.Division.{quotient, quotient-length, generator_divides, remainder-syndrome, codeword-syndromes, syndromes-codeword}
use Rattle.code.proofs.Shifted.{shifted_syndrome, reached-zero, reached-word, word-reached, long_reached, distance-run, distance_triangle}

pub codeword_iff_syndromes : CodewordIffSyndromes
codeword_iff_syndromes n r b c l hr e h = (codeword-syndromes n r b c, syndromes-codeword n r b c l hr e h)

pub division : Division
division n r b c l e h = (quotient r (generator b r) (n - r) c, quotient-length r (generator b r) (n - r) c (omega arith), generator_divides r b n c l e h)

pub minimum_distance : MinimumDistance
minimum_distance n r b c d hn hc hd w =
    determined r b c d hc.bytes hd.bytes (hc.cells ∙ sym hd.cells) (omega (arith, hc.cells))
    (λ i hi. codeword-syndromes n r b c hc i hi ∙ sym (codeword-syndromes n r b d hd i hi)) w

pub remainder-syndromes : RemainderSyndromes
remainder-syndromes r b i c hi h = remainder-syndrome r b i c hi h

pub shifted_syndromes : ShiftedSyndromes
shifted_syndromes r b i s y hi h =
    shifted_syndrome b r s y h i hi
    ∙ ap (λ (v : ℕ). mul v (syndrome b i (shifted_remainder b r s y))) (sym (ap alpha (native.Mathlib.Nat.mul_comm s (b + i)) ∙ power-mul 2 (b + i) s))

pub run-reaches : RunReaches
run-reaches n r b y s f c hr hn ly hy hf run = (
  λ h. (reached-zero n r b y s f c hr hn ly hy hf run h, reached-word n r b y s f c hr hn ly hy hf run h),
  λ h. word-reached n r b y s f c hr hn ly hy hf run h.0 h.1,
)

pub long_run-reaches : LongRunReaches
long_run-reaches = long_reached

pub two_runs : TwoRuns
two_runs n r b y s f t g c d hn ly hc hd w =
    let lc : length c ≡ length y = hc.codeword.cells ∙ sym ly in
    let ld : length d ≡ length y = hd.codeword.cells ∙ sym ly in
    minimum_distance n r b c d hn hc.codeword hd.codeword
    (omega (arith, distance_triangle y c d lc ld, distance-run s f y c lc (λ i l o. hc.agree i (omega arith) o), distance-run t g y d ld (λ i l o. hd.agree i (omega arith) o)))
