-- `candidates::put_list` meets its contract: the block is a codeword, or the lengths for the starts are those of its remainder.
use mathlib.Core.Path.{◌≡◌, sym, ap, ◌∙◌}
use mathlib.Core.List.{List}
use native.Mathlib.Omega.{arith}
use lib.ListN.{length, take}
use lib.Seq.{length-take-le}
use Rattle.block.proofs.Answers.{block-remainder}
use Rattle.block.proofs.Entries.{zero_clean, remainder-cells}
use Rattle.candidates.specs.Candidates.{Run, laid_behind}
use Rattle.candidates.proofs.Entries.{listed_clean, listed_by}
use Rattle.candidates.proofs.put_list.Goals as goal

pub put-requires : goal.put-requires
put-requires c = (omega (arith, c.requires.in_range.n_least, c.requires.fits.1), omega arith, omega arith)

pub returns-then-is_zero : goal.returns-then-is_zero
returns-then-is_zero c =
    let v = c.requires.in_range in
    let clean = sym (zero_clean _ v _ _ _ (c.remainder-rest.ensures ∙ block-remainder _ v _ c.requires.fits.0) c.is_zero.ensures) ∙ c.if-is_zero.true in
    let e = listed_clean _ _ clean in
    record { value = ap length e; pairs_after = c.put.ensures ∙ ap (λ (l : List Run). laid_behind 0 l c.args.pairs.now) e }

pub tight_lengths-lengths-requires : goal.tight_lengths-lengths-requires
tight_lengths-lengths-requires c =
    let v = c.requires.in_range in
    record { in_range = v; zero_from = (remainder-cells _ v _ _ (c.remainder-rest.ensures ∙ block-remainder _ v _ c.requires.fits.0)).0 }

pub slice_bounds-lengths-end : goal.slice_bounds-lengths-end
slice_bounds-lengths-end c = omega (arith, c.requires.in_range.n_most)

pub slice_bounds-put_lengths-end : goal.slice_bounds-put_lengths-end
slice_bounds-put_lengths-end c = sym (length-take-le _ _ (omega (arith, c.requires.in_range.n_most)))

pub put_lengths-requires : goal.put_lengths-requires
put_lengths-requires c =
    let v = c.requires.in_range in
    let l : length (take c.args.p.n c.tight_lengths-lengths.result) ≡ c.args.p.n = length-take-le _ _ (omega (arith, v.n_most)) in
    (omega (arith, v.n_most), omega (arith, v.limit_below, v.r_most), omega (arith, c.requires.fits.1))

pub returns : goal.returns
returns c =
    let v = c.requires.in_range in
    let r = c.remainder-rest.ensures ∙ block-remainder _ v _ c.requires.fits.0 in
    let wrong = sym (zero_clean _ v _ _ _ r c.is_zero.ensures) ∙ c.if-is_zero.false in
    let e = listed_by _ _ wrong _ c.tight_lengths-lengths.result (remainder-cells _ v _ _ r).1 (omega (arith, v.n_most)) c.tight_lengths-lengths.ensures in
    let z = c.put_lengths.ensures in
    record { value = z.value ∙ ap length e; pairs_after = z.pairs_after ∙ ap (λ (l : List Run). laid_behind 0 l c.args.pairs.now) e }
