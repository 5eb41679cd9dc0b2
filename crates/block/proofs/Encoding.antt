-- A written block: the check cells are the remainder of the message with r zeros below it, so both have the same syndromes and their
-- sum has none; and two codewords with one message differ in the r check cells at most.
use mathlib.Core.Path.{◌≡◌, sym, ap, ap₂, ◌∙◌}
use mathlib.Core.Logic.{⊎_elim}
use mathlib.Core.List.{List, ◌++◌}
use Prim.Native.Nat.{ℕ, ◌+◌, ◌-◌, ◌≤◌, ◌<◌}
use native.Mathlib.Omega.{arith}
use lib.ListN.{length, get_or, drop, replicate, length-append}
use lib.Seq.{drop_at, get_or-drop}
use Rattle.field.specs.Field.{add, mul, power, alpha}
use Rattle.field.proofs.Sum.{add_self}
use Rattle.lists.specs.Bytes.{Bytes}
use Rattle.code.specs.Poly.{eval}
use Rattle.code.specs.Code.{Codeword, syndrome}
use Rattle.lists.proofs.Bytes.{append-bytes, zeros-bytes}
use Rattle.code.proofs.Poly.{eval-append, eval-zeros}
use Rattle.code.proofs.Division.{remainder-length, remainder-bytes, remainder-syndrome, syndromes-codeword}
use Rattle.code.proofs.Shifted.{distance-run}
use Rattle.code.proofs.Theorems.{minimum_distance}
use Rattle.block.specs.Block.{check_cells, encode}

module _ (b r : ℕ) (m : List ℕ) where
  pub check-length : length (check_cells b r m) ≡ r
  unfolding check_cells
  check-length = remainder-length r b (replicate r 0 ++ m)

  pub encode-length : length (encode b r m) ≡ r + length m
  unfolding encode
  encode-length = length-append (check_cells b r m) m ∙ ap (λ (k : ℕ). k + length m) check-length

  pub encode_message : drop r (encode b r m) ≡ m
  unfolding encode
  encode_message = drop_at (check_cells b r m) m r check-length

  module _ (h : Bytes m) where
    below_bytes : Bytes (replicate r 0 ++ m)
    below_bytes = append-bytes (replicate r 0) m (zeros-bytes r) h

    pub check-bytes : Bytes (check_cells b r m)
    unfolding check_cells
    check-bytes = remainder-bytes r b (replicate r 0 ++ m) below_bytes

    pub encode-bytes : Bytes (encode b r m)
    unfolding encode
    encode-bytes = append-bytes (check_cells b r m) m check-bytes h

    encode-syndrome : (i : ℕ) → i < r → syndrome b i (encode b r m) ≡ 0
    unfolding encode check_cells
    encode-syndrome i hi =
        let z : ℕ = alpha (b + i) in
        eval-append (check_cells b r m) m z h
        ∙ ap₂ add (remainder-syndrome r b i (replicate r 0 ++ m) hi below_bytes) (ap (λ (k : ℕ). mul (power z k) (eval m z)) check-length ∙ sym (eval-zeros r m z h))
        ∙ add_self (eval (replicate r 0 ++ m) z)

    pub encode-codeword : (n : ℕ) → r < n → r ≤ 255 → length m ≡ n - r → Codeword n r b (encode b r m)
    encode-codeword n l hr e = syndromes-codeword n r b (encode b r m) l hr (encode-length ∙ omega arith) encode-bytes encode-syndrome

-- two codewords with one message are one
pub same_message : (n r b : ℕ) (c d : List ℕ) → n ≤ 255 → Codeword n r b c → Codeword n r b d → drop r c ≡ drop r d → c ≡ d
same_message n r b c d hn hc hd e =
    minimum_distance n r b c d hn hc hd
    (distance-run 0 r c d (hd.cells ∙ sym hc.cells) (λ i l o. ⊎_elim (λ q. absurd (omega arith)) (λ q. at i q) o))
  where
    at : (i : ℕ) → 0 + r ≤ i → get_or c i 0 ≡ get_or d i 0
    at i q =
        let k : r + (i - r) ≡ i = omega arith in
        ap (λ (j : ℕ). get_or c j 0) (sym k) ∙ sym (get_or-drop r c (i - r) 0) ∙ ap (λ (p : List ℕ). get_or p (i - r) 0) e ∙ get_or-drop r d (i - r) 0 ∙ ap (λ (j : ℕ). get_or d j 0) k
