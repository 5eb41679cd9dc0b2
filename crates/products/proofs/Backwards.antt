-- A loop over a list from its last element to its first: what holds of the part behind holds at last of the whole.
use mathlib.Core.Path.{◌≡◌, sym, subst, ap, ◌∙◌}
use mathlib.Core.List.{List, [], ◌∷◌, ◌++◌, append-nil, append_assoc}
use Prim.Native.Nat.{ℕ}
use native.Mathlib.Omega.{arith}
use lib.ListN.{length}
use Rattle.std.specs.List.{push}

-- of xs the part rest is left, and P holds of the part behind it
pub record Behind (xs rest : List ℕ) (P : List ℕ → Type 0) : Type 0 where
  pub part : List ℕ
  pub whole : xs ≡ rest ++ part
  pub holds : P part

pub behind-none : (xs rest : List ℕ) (P : List ℕ → Type 0) → rest ≡ xs → P [] → Behind xs rest P
behind-none xs rest P e h = record { part = []; whole = sym (append-nil rest ∙ e); holds = h }

pub behind-more : (xs rest less : List ℕ) (c : ℕ) (P Q : List ℕ → Type 0) → rest ≡ push less c → ((t : List ℕ) → P t → Q (c ∷ t)) → Behind xs rest P → Behind xs less Q
behind-more xs rest less c P Q e step b =
    record { part = c ∷ b.part; whole = b.whole ∙ ap (λ (u : List ℕ). u ++ b.part) e ∙ append_assoc less (c ∷ []) b.part; holds = step b.part b.holds }

pub behind-all : (xs rest : List ℕ) (P : List ℕ → Type 0) → length rest ≡ 0 → Behind xs rest P → P xs
behind-all xs [] P e b = subst P (sym b.whole) b.holds
behind-all xs (x ∷ rest) P e b = absurd (omega arith)
