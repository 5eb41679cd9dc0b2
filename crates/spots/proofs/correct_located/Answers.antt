-- What was located is a case of the definitions: nothing near, or the cells that are filled after the copy.
use Rattle.std.proofs.Common.{sym, ◌∙◌, arith}
use Rattle.lists.proofs.Bytes.{bytes_of}
use Rattle.spots.proofs.Correcting.{none-into, located_fits, some-into}
use Rattle.spots.proofs.correct_located.Goals as goal

pub returns-in_default : goal.returns-in_default
returns-in_default c =
    none-into c.args.p c.requires.in_range c.args.read.now c.requires.read_len.0 (bytes_of c.args.read.now (λ i. omega (arith, c.type_inv.read i))) _ c.args.syndromes.now
    c.half.ensures c.requires.syndromes_value (sym c.in_default.is ∙ c.locate.ensures) c.args.out.now

pub fill_located-requires : goal.fill_located-requires
fill_located-requires c =
    located_fits c.args.p c.requires.in_range c.args.read.now c.requires.read_len.0 (bytes_of c.args.read.now (λ i. omega (arith, c.type_inv.read i))) _ c.args.syndromes.now
    c.half.ensures c.requires.syndromes_value _ c.in-Some.ensures

pub returns : goal.returns
returns c =
    some-into c.args.p c.requires.in_range c.args.read.now c.requires.read_len.0 (bytes_of c.args.read.now (λ i. omega (arith, c.type_inv.read i))) _ c.args.syndromes.now
    c.half.ensures c.requires.syndromes_value _ c.in-Some.ensures
    c.args.out.now _ _ _ c.copy_from_slice.ensures.after c.fill_located.ensures c.from.ensures
