-- Putting blocks and messages together and taking them apart again. Each law compares cell by cell, by the quotient and the remainder
-- of a place.
use mathlib.Core.Path.{◌≡◌, sym, ap, ap₂, subst, ◌∙◌}
use mathlib.Core.Logic.{⊎_elim}
use mathlib.Core.List.{List, ◌++◌, append-nil}
use Prim.Native.Nat.{ℕ, zero, suc, ◌+◌, ◌*◌, ◌-◌, ◌/◌, ◌%◌, ◌<◌, ◌≤◌, zero-le, suc-le-suc}
use native.Mathlib.Nat.{mul-le-mul_right, mul_comm, suc-mul, add-mul, zero-mul, eq-or-lt_of_le}
use native.Mathlib.Numerals.{add-one}
use native.Mathlib.Omega.{arith}
use lib.ListN.{length, get_or, set, take, drop, length-drop, length-append, drop_of_length-le}
use borrow.Rule.Slice.PartMut.{put_mid}
use lib.Seq.{drop-drop, take_at, drop_at, length-take-le, get_or-take, get_or-drop, ext_get_or, get_or-set_same, get_or-set_other}
use Rattle.lists.proofs.Test.{lt-or_ge}
use Rattle.lists.specs.Bytes.{Bytes}
use Rattle.lists.proofs.Bytes.{get_or_byte, take-bytes, drop-bytes}
use Rattle.sheet.specs.Sheet.{tab, interleave, block_of, joined, message_of}
use Rattle.sheet.specs.Steps.{Laid}
use Rattle.sheet.specs.Theorems.{Places, TakenApart}
use Rattle.sheet.proofs.Lists.{length-tab, get_or_tab, is_tab, same-tab, part-more}
use Rattle.sheet.proofs.Places as at

pub tab-bytes : (n : ℕ) (f : ℕ → ℕ) → ((i : ℕ) → i < n → f i < 256) → Bytes (tab n f)
tab-bytes zero f h = tt
tab-bytes (suc n) f h = (h 0 (suc-le-suc zero-le), tab-bytes n (λ (i : ℕ). f (suc i)) (λ i l. h (suc i) (suc-le-suc l)))

-- ---- blocks

module _ (D n : ℕ) (sheet : List ℕ) (d : ℕ) where
  pub block_length : length (block_of D n sheet d) ≡ n
  unfolding block_of
  block_length = length-tab n _

  pub block_bytes : Bytes sheet → Bytes (block_of D n sheet d)
  unfolding block_of
  block_bytes h = tab-bytes n _ (λ i l. get_or_byte sheet (i * D + d) h)

  pub block_cell : (i : ℕ) → i < n → get_or (block_of D n sheet d) i 0 ≡ get_or sheet (i * D + d) 0
  unfolding block_of
  block_cell i l = get_or_tab n _ i l

-- the message cells of block d are block d of the sheet without its first r × D cells, which are the blocks' check cells
pub message_cells : (D n r k : ℕ) (sheet : List ℕ) (d : ℕ) → r + k ≡ n → block_of D k (drop (r * D) sheet) d ≡ drop r (block_of D n sheet d)
message_cells D n r k sheet d e =
    ext_get_or 0 (block_of D k (drop (r * D) sheet) d) (drop r (block_of D n sheet d)) (block_length D k _ d ∙ sym long)
    (λ j l.
    let g : j < k = subst (λ (m : ℕ). j < m) (block_length D k _ d) l in
    block_cell D k _ d j g
    ∙ get_or-drop (r * D) sheet (j * D + d) 0
    ∙ ap (λ (x : ℕ). get_or sheet x 0) (let z : r * D + (j * D + d) ≡ (r + j) * D + d = omega (arith, add-mul r j D) in z)
    ∙ sym (block_cell D n sheet d (r + j) (omega arith))
    ∙ sym (get_or-drop r (block_of D n sheet d) j 0))
  where
    long : length (drop r (block_of D n sheet d)) ≡ k
    long = length-drop r (block_of D n sheet d) ∙ (let z : length (block_of D n sheet d) - r ≡ k = omega (arith, block_length D n sheet d) in z)

module _ (D n : ℕ) (block : ℕ → List ℕ) where
  pub interleave-length : length (interleave D n block) ≡ D * n
  unfolding interleave
  interleave-length = length-tab (D * n) _

  pub interleave_cell : (i d : ℕ) → d < D → i < n → get_or (interleave D n block) (i * D + d) 0 ≡ get_or (block d) i 0
  unfolding interleave
  interleave_cell i d h l =
      get_or_tab (D * n) _ (i * D + d) (at.cell_inside D n i d h l)
      ∙ ap₂ (λ (e j : ℕ). get_or (block e) j 0) (at.remainder_of D i d h) (at.quotient_of D i d h)

  pub interleave-bytes : ((d : ℕ) → d < D → Bytes (block d)) → Bytes (interleave D n block)
  unfolding interleave
  interleave-bytes h = tab-bytes (D * n) _ (λ q l. get_or_byte (block (q % D)) (q / D) (h (q % D) (at.remainder_below D n q l)))

  pub apart : (d : ℕ) → d < D → length (block d) ≡ n → block_of D n (interleave D n block) d ≡ block d
  apart d h e =
      ext_get_or 0 (block_of D n (interleave D n block) d) (block d) (block_length D n _ d ∙ sym e)
      (λ i l. let g : i < n = subst (λ (m : ℕ). i < m) (block_length D n _ d) l in block_cell D n _ d i g ∙ interleave_cell i d h g)

-- a sheet whose cells are those of the blocks is their interleaving
pub is_interleave : (D n : ℕ) (block : ℕ → List ℕ) (s : List ℕ) → length s ≡ D * n
    → ((d : ℕ) → d < D → (i : ℕ) → i < n → get_or s (i * D + d) 0 ≡ get_or (block d) i 0) → s ≡ interleave D n block
unfolding interleave
is_interleave D n block s e h =
    is_tab (D * n) _ s e
    (λ q l. ap (λ (x : ℕ). get_or s x 0) (sym (at.place_is D n q l)) ∙ h (q % D) (at.remainder_below D n q l) (q / D) (at.quotient_below D n q l))

-- ---- messages

module _ (D k : ℕ) (payload : List ℕ) (e : length payload ≡ D * k) (d : ℕ) (h : d < D) where
  pub message_length_lem : length (message_of k payload d) ≡ k
  unfolding message_of
  message_length_lem = length-take-le k (drop (d * k) payload) (rw length-drop (omega (arith, at.part_inside D k d h)))

pub message_bytes : (k : ℕ) (payload : List ℕ) (d : ℕ) → Bytes payload → Bytes (message_of k payload d)
unfolding message_of
message_bytes k payload d h = take-bytes k (drop (d * k) payload) (drop-bytes (d * k) payload h)

pub message_byte : (k : ℕ) (payload : List ℕ) (d j : ℕ) → j < k → get_or (message_of k payload d) j 0 ≡ get_or payload (d * k + j) 0
unfolding message_of
message_byte k payload d j l = get_or-take k (drop (d * k) payload) j 0 l ∙ get_or-drop (d * k) payload j 0

-- the chunks of k bytes of a payload of D × k are its messages: where w is the first of what is left from byte d k on, it is message d, and t is left after it
module _ (D k d : ℕ) (payload w t : List ℕ) (e : length payload ≡ D * k) (q : drop (d * k) payload ≡ w ++ t) (l : length w ≡ k) where
  pub chunk-message : w ≡ message_of k payload d
  unfolding message_of
  chunk-message = sym (ap (take k) q ∙ take_at w t k l)

  pub chunk-rest : t ≡ drop ((d + 1) * k) payload
  chunk-rest =
      let n : (d + 1) * k ≡ d * k + k = rw (add-one, suc-mul) in
      sym (ap (λ (m : ℕ). drop m payload) n ∙ sym (drop-drop k (d * k) payload) ∙ ap (drop k) q ∙ drop_at w t k l)

  pub chunk-below : 0 < k → d < D
  chunk-below z =
      ⊎_elim (λ b. b)
      (λ b. absurd (omega (arith, mul-le-mul_right k b, sym (length-drop (d * k) payload) ∙ ap length q ∙ length-append w t)))
      (lt-or_ge d D)

-- and none is left where fewer than k bytes are
pub chunk-end : (D k d : ℕ) (payload : List ℕ) → length payload ≡ D * k → d ≤ D → length (drop (d * k) payload) < k → d ≡ D
chunk-end D k d payload e m l =
    ⊎_elim (λ b. absurd (omega (arith, at.part_inside D k d b, sym (length-drop (d * k) payload))))
    (λ b. let z : d ≡ D = omega arith in z) (lt-or_ge d D)

-- within D × k the quotient by k is below D
module _ (D k q : ℕ) (l : q < D * k) where
  turned : q < k * D
  turned = rw (mul_comm k D) l

  pub message_below : q / k < D
  message_below = at.quotient_below k D q turned

  pub byte_below : q % k < k
  byte_below = at.remainder_below k D q turned

module _ (D k : ℕ) (message : ℕ → List ℕ) where
  pub joined_length : length (joined D k message) ≡ D * k
  unfolding joined
  joined_length = length-tab (D * k) _

  pub joined_bytes : ((d : ℕ) → d < D → Bytes (message d)) → Bytes (joined D k message)
  unfolding joined
  joined_bytes h = tab-bytes (D * k) _ (λ q l. get_or_byte (message (q / k)) (q % k) (h (q / k) (message_below D k q l)))

  pub joined-byte : (d j : ℕ) → d < D → j < k → get_or (joined D k message) (d * k + j) 0 ≡ get_or (message d) j 0
  unfolding joined
  joined-byte d j h l =
      get_or_tab (D * k) _ (d * k + j) (let g : d * k + k ≤ D * k = at.part_inside D k d h in omega arith)
      ∙ ap₂ (λ (e i : ℕ). get_or (message e) i 0) (at.quotient_of k d j l) (at.remainder_of k d j l)

  pub taken : (d : ℕ) → d < D → length (message d) ≡ k → message_of k (joined D k message) d ≡ message d
  taken d h e =
      let c : length (message_of k (joined D k message) d) ≡ k = message_length_lem D k (joined D k message) joined_length d h in
      ext_get_or 0 (message_of k (joined D k message) d) (message d) (c ∙ sym e)
      (λ j l. let g : j < k = subst (λ (m : ℕ). j < m) c l in message_byte k _ d j g ∙ joined-byte d j h g)

pub same-joined : (D k : ℕ) (a b : ℕ → List ℕ) → ((d : ℕ) → d < D → a d ≡ b d) → joined D k a ≡ joined D k b
unfolding joined
same-joined D k a b h = same-tab (D * k) _ _ (λ q l. ap (λ (m : List ℕ). get_or m (q % k) 0) (h (q / k) (message_below D k q l)))

-- the messages of a payload, joined, are the payload
pub joined-messages : (D k : ℕ) (payload : List ℕ) → length payload ≡ D * k → joined D k (message_of k payload) ≡ payload
unfolding joined
joined-messages D k payload e =
    sym (is_tab (D * k) _ payload e
    (λ q l. sym (message_byte k payload (q / k) (q % k) (byte_below D k q l) ∙ ap (λ (x : ℕ). get_or payload x 0) (at.place_is k D q (turned D k q l)))))

-- ---- a loop that stores lists of k cells one after the other

pub rows_start : (k : ℕ) (g : ℕ → List ℕ) (o : List ℕ) → o ≡ joined 0 k g ++ drop (0 * k) o
unfolding joined
rows_start k g o = rw zero-mul

module _ (k d : ℕ) (g : ℕ → List ℕ) (o s : List ℕ) (e : s ≡ joined d k g ++ drop (d * k) o) where
  -- a turn: list d is stored
  pub rows_more : (w : List ℕ) → d * k ≤ length o → length w ≡ k → w ≡ g d
      → put_mid (d * k) (d * k + k - d * k) s w ≡ joined (d + 1) k g ++ drop ((d + 1) * k) o
  unfolding joined
  rows_more w l c q =
      let z : d * k + k - d * k ≡ k = omega arith in
      let n : (d + 1) * k ≡ d * k + k = rw (add-one, suc-mul) in
      rw (e, z, n)
      (part-more (d * k) k _ o w l c (λ j b. ap₂ (λ (m : List ℕ) (i : ℕ). get_or m i 0) (q ∙ ap g (sym (at.quotient_of k d j b))) (sym (at.remainder_of k d j b))))

  -- the end
  pub rows_end : (D : ℕ) → d ≡ D → length o ≡ D * k → s ≡ joined D k g
  rows_end D q l = e ∙ rw (q, drop_of_length-le o (let z : length o ≤ D * k = omega arith in z)) (append-nil _)

-- ---- a loop that lays the cells of a block at d, D + d, 2 D + d, ..

-- two places are one only where quotients and remainders are
module _ (D d e : ℕ) (h : d < D) (g : e < D) (i j : ℕ) (q : i * D + d ≡ j * D + e) where
  pub same-remainder : d ≡ e
  same-remainder = sym (at.remainder_of D i d h) ∙ ap (λ (x : ℕ). x % D) q ∙ at.remainder_of D j e g

  pub same-quotient : i ≡ j
  same-quotient = sym (at.quotient_of D i d h) ∙ ap (λ (x : ℕ). x / D) q ∙ at.quotient_of D j e g

pub laid_more : (m D d : ℕ) (w s t : List ℕ) → d < D → m * D + d < length t → Laid D m d w s t → Laid D (m + 1) d w s (set t (m * D + d) (get_or w m 0))
laid_more m D d w s t h l u = record {
  cells = λ i b. ⊎_elim
      (λ e. rw e (get_or-set_same t (m * D + d) (get_or w m 0) 0 l))
      (λ k. get_or-set_other t (m * D + d) (i * D + d) (get_or w m 0) 0 (λ q. let z : i ≡ m = same-quotient D d d h h i m q in omega arith) ∙ u.cells i k)
      (eq-or-lt_of_le (let z : i ≤ m = omega arith in z));
  others = λ i e g n. get_or-set_other t (m * D + d) (i * D + e) (get_or w m 0) 0 (λ q. n (same-remainder D e d g h i m q)) ∙ u.others i e g n;
}

-- ---- the statements

pub places : (D : ℕ) → Places D
places D = record {
  cell = λ n q sheet l. block_cell D n sheet (q % D) (q / D) (at.quotient_below D n q l) ∙ ap (λ (x : ℕ). get_or sheet x 0) (at.place_is D n q l);
  byte = λ k q payload l. message_byte k payload (q / k) (q % k) (byte_below D k q l) ∙ ap (λ (x : ℕ). get_or payload x 0) (at.place_is k D q (turned D k q l));
}

pub taken_apart : (D : ℕ) → TakenApart D
taken_apart D = record { blocks = λ n d block h e. apart D n block d h e; messages = λ k d message h e. taken D k message d h e }
