use Rattle.std.proofs.Common.{◌/◌, ◌++◌, [], List, ℕ, length, sym, ap, ◌∙◌, arith, append_assoc, append-nil}
use Rattle.std.specs.Slice.Iter.{chunks_exact_rest, chunks_exact_size}
use Rattle.listing_text.specs.Text.{lines_text}
use Rattle.listing_text.proofs.Puts.{puts_none, puts_then, puts_as}
use Rattle.listing_text.proofs.Texts.{lines_first, lines_short}
use Rattle.listing_text.proofs.put_lines.Goals as goal

pub loop-bytes-init : goal.loop-bytes-init
loop-bytes-init c =
    let same = c.into_iter-bytes-iterator.ensures.into_iter_gives in
    let rest = ap chunks_exact_rest same ∙ c.chunks_exact-bytes-items.ensures.rest in
    let three = ap chunks_exact_size same ∙ c.chunks_exact-bytes-items.ensures.size in
    record {
      can = omega (arith, three);
      finite = tt;
      three = three;
      done = [];
      puts = puts_none _;
      text = ap (λ (t : List ℕ). lines_text c.args.plot (length t / 3) t) (sym rest);
    }

-- `s` says that the chunk stands at the front of what was left
pub loop-bytes-preserved : goal.loop-bytes-preserved
loop-bytes-preserved c =
    let l = c.loop-bytes.invariant in
    let s = c.in-Some.ensures.steps in
    let three = s.0 ∙ l.three in
    let bytes = c.in-Some.bytes.now in
    let rest = chunks_exact_rest c.next.new.self in
    let text = lines_text c.args.plot (length rest / 3) rest in
    let first = ap (λ (t : List ℕ). lines_text c.args.plot (length t / 3) t) s.1.0 ∙ lines_first c.args.plot bytes rest (s.1.1 ∙ l.three) in
    record {
      can = omega (arith, three);
      finite = tt;
      three = three;
      done = _;
      puts = puts_then l.puts (rw c.from_bytes.ensures at c.put_line.ensures);
      text = l.text ∙ ap (λ (t : List ℕ). l.done ++ t) first ∙ sym (append_assoc l.done _ text);
    }

pub returns : goal.returns
returns c =
    let l = c.loop-bytes.invariant in
    let short = c.in-None.ensures.steps.1.0 in
    let none = lines_short c.args.plot (chunks_exact_rest c.loop-bytes.bytes-iterator) (omega (arith, short, l.three)) in
    puts_as (sym (l.text ∙ ap (λ (t : List ℕ). l.done ++ t) none ∙ append-nil l.done)) l.puts
