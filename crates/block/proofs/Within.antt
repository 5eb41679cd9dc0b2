-- What a fill's test means: a codeword lies within the run exactly where the test says so, and it is the one that is written. The run of an accepted look
-- passes the test, and its codeword is the one that correcting writes.
use mathlib.Core.Path.{◌≡◌, refl, sym, ap}
use mathlib.Core.Bool.{true}
use mathlib.Core.List.{List}
use Prim.Native.Nat.{ℕ, ◌+◌, ◌≤◌, ◌<◌}
use native.Mathlib.Omega.{arith}
use borrow.Author.Tests.{le-leb, leb-true}
use Rattle.code.specs.Run.{shifted_remainder}
use Rattle.code.specs.Search.{extent}
use Rattle.profile.specs.Profile.{InRange}
use Rattle.block.specs.Block.{verdict, filled, corrected, is_span, is_within, run_word}
use Rattle.block.specs.Numbers.{verdict_number, verdict_start, verdict_length}
use Rattle.block.specs.Runs.{Cells, Reached, OneReached}
use Rattle.profile.specs.declared.Profile.{Profile}
use Rattle.block.proofs.NumberLaws.{verdict-0}
use Rattle.block.proofs.Shortest.{e_is, reach_extent, reach_word, extent_reach}
use Rattle.block.proofs.Verdicts.{verdict-one}
use Rattle.block.proofs.Filling.{span_iff}

module _ (p : Profile) (y : List ℕ) (v : InRange p) (h : Cells p y) where
  pub within-reached : (s f : ℕ) → s + f ≤ p.n → f < p.r → is_within p y s f ≡ true → Reached p y s f (run_word p y s f)
  unfolding is_within
  within-reached s f run l t =
      extent_reach p y v h s f l run (rw (e_is p y v h s) (leb-true (extent (shifted_remainder p.b p.r s y)) f t))

  pub reached-within : (s f : ℕ) (c : List ℕ) → f < p.r → Reached p y s f c → (is_within p y s f ≡ true) × (c ≡ run_word p y s f)
  unfolding is_within
  reached-within s f c l k =
      (le-leb (extent (shifted_remainder p.b p.r s y)) f (rw (← e_is p y v h s) (reach_extent p y v h s f c l k)), reach_word p y v h s f c l k)

  -- the run of an accepted look
  module _ (a : verdict_number (verdict p y) ≡ 0) where
    abbrev s : ℕ
    s = verdict_start (verdict p y)

    abbrev f : ℕ
    f = verdict_length (verdict p y)

    run_of : OneReached p y s f (corrected p y)
    run_of = ((verdict-one p y v h s f (corrected p y)).0 (verdict-0 p y a, refl)).0

    short : f < p.r
    short = omega (arith, run_of.within, v.limit_below)

    pub look_span : is_span p s f ≡ true
    look_span = (span_iff p s f).1 (run_of.reached.run, short)

    pub look_within : is_within p y s f ≡ true
    look_within = (reached-within s f (corrected p y) short run_of.reached).0

    pub look_word : (out : List ℕ) → run_word p y s f ≡ filled p y out (verdict p y)
    unfolding filled
    look_word out = ap (filled p y out) (sym (verdict-0 p y a))
