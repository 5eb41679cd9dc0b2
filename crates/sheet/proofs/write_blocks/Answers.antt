use Rattle.std.proofs.Common.{rules, ◌<◌, ◌*◌, length, drop, sym, ◌∙◌, arith}
use Rattle.std.specs.Iterator.Adapters.{enumerate_count}
use Rattle.profile.specs.Profile.{message_length}
use Rattle.sheet.proofs.Apart.{chunk-message, chunk-rest, chunk-below, chunk-end}
use Rattle.sheet.proofs.Steps.{written-more, written_all}
use Rattle.sheet.proofs.write_blocks.Goals as goal

pub loop-d-preserved : goal.loop-d-preserved
loop-d-preserved c =
    let a = c.in-Some.ensures.steps in
    let i = c.loop-d.invariant in
    let q = sym i.rest ∙ a.0.1.0 in
    let l = a.0.1.1 ∙ i.size in
    let e = c.requires.payload_len.0 in
    let less = chunk-below _ _ _ _ _ _ e q l (omega (arith, c.requires.in_range.r_below)) in
    record {
      can = search rules;
      finite = tt;
      most = omega (arith, a.2, less);
      size = search rules;
      rest = rw a.2 (chunk-rest _ _ _ _ _ _ e q l);
      written = rw a.2 (written-more _ _ _ _ _ _ less (chunk-message _ _ _ _ _ _ e q l) (rw a.1 at c.write_block.ensures) i.written);
    }

pub returns : goal.returns
returns c =
    let a = c.in-None.ensures.steps in
    let i = c.loop-d.invariant in
    let few : length (drop (enumerate_count c.loop-d.d-iterator * message_length c.args.p) c.args.payload.now) < message_length c.args.p = rw (sym i.rest, sym i.size) a.0.1.0 in
    written_all _ _ _ _ (chunk-end _ _ _ _ c.requires.payload_len.0 i.most few) (c.loop-d.auto.sheet ∙ c.requires.payload_len.1) i.written
