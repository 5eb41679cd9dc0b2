-- The buffers are long enough: the one for every text, the other for as much of an input as settles the answer.
use Rattle.std.proofs.Common.{arith}
use Rattle.listing.proofs.Input.{list_whole}
use Rattle.lister.proofs.list_whole.Goals as goal

pub returns-clause-answers_all : goal.returns-clause-answers_all
returns-clause-answers_all c =
    let r = c.requires in
    let e = c.list.ensures in
    (list_whole c.args.buffer.now c.args.out.now c.list.new.out c.args.count c.list.result (λ i. omega (arith, c.type_inv.buffer i))
    r.enough_input_in_bounds r.longest_text_in_bounds (e.value, e.out_after)).1
