-- Bytes one by one, and of parts, zeros and lists put together. Each by induction along the list.
use mathlib.Core.List.{List, [], ◌∷◌, ◌++◌}
use Prim.Native.Nat.{ℕ, zero, suc, ◌<◌}
use native.Mathlib.Omega.{arith}
use lib.ListN.{get_or, take, drop, replicate}
use Rattle.lists.specs.Bytes.{Bytes}

pub get_or_byte : (p : List ℕ) (k : ℕ) → Bytes p → get_or p k 0 < 256
get_or_byte [] k h = omega arith
get_or_byte (x ∷ p) zero h = h.0
get_or_byte (x ∷ p) (suc k) h = get_or_byte p k h.1

-- from each of them
pub bytes_of : (p : List ℕ) → ((i : ℕ) → get_or p i 0 < 256) → Bytes p
bytes_of [] h = tt
bytes_of (x ∷ p) h = (h 0, bytes_of p (λ i. h (suc i)))

pub take-bytes : (n : ℕ) (p : List ℕ) → Bytes p → Bytes (take n p)
take-bytes zero p h = tt
take-bytes (suc n) [] h = tt
take-bytes (suc n) (x ∷ p) h = (h.0, take-bytes n p h.1)

pub drop-bytes : (n : ℕ) (p : List ℕ) → Bytes p → Bytes (drop n p)
drop-bytes zero p h = h
drop-bytes (suc n) [] h = tt
drop-bytes (suc n) (x ∷ p) h = drop-bytes n p h.1

pub zeros-bytes : (n : ℕ) → Bytes (replicate n 0)
zeros-bytes zero = tt
zeros-bytes (suc n) = (omega arith, zeros-bytes n)

pub append-bytes : (p q : List ℕ) → Bytes p → Bytes q → Bytes (p ++ q)
append-bytes [] q hp hq = hq
append-bytes (x ∷ p) q hp hq = (hp.0, append-bytes p q hp.1 hq)
