-- An unchanged block's message stands in the sheet, after the check cells of all blocks; a changed one's is the codeword's, filled from the gathered cells.
use Rattle.std.proofs.Common.{◌≡◌, ℕ, ◌+◌, ◌*◌, List, length, drop, length-drop, refl, sym, ap, ap₂, ◌∙◌, arith}
use Rattle.lists.proofs.Bytes.{bytes_of}
use Rattle.profile.specs.Profile.{InRange, message_length}
use Rattle.profile.specs.declared.Profile.{Profile}
use Rattle.sheet.specs.Sheet.{block_of}
use Rattle.sheet.proofs.Lists.{rest_of}
use Rattle.sheet.proofs.Places.{checks_below}
use Rattle.sheet.proofs.Theorems.{block_cells}
use Rattle.sheet.proofs.Passes.{gathered_is, found_at, found-of, message_filled, message_read}
use Rattle.sheet.proofs.reader.Reader.write_message.Goals as goal

-- the message cells after the check cells of all blocks
long : (p : Profile) → InRange p → (sheet : List ℕ) → length sheet ≡ p.depth * p.n → length (drop (p.r * p.depth) sheet) ≡ p.depth * message_length p
long p v sheet e =
    let span : p.r + message_length p ≡ p.n = omega (arith, v.r_below) in
    rw length-drop (omega (arith, checks_below p.depth p.n p.r (message_length p) span))

pub gather-requires : goal.gather-requires
gather-requires c =
    let r = c.args.self.now in (
      c.requires.d_lt_depth,
      r.in_range.depth_most,
      ap length (rest_of (r.p.r * r.p.depth) r.sheet.now) ∙ long r.p r.in_range r.sheet.now r.count ∙ ap (λ (m : ℕ). r.p.depth * m) (sym c.requires.message_len),
    )

pub returns-then-run-eq0 : goal.returns-then-run-eq0
returns-then-run-eq0 c =
    let r = c.args.self.now in
    let d = c.args.d in
    message_read r.mode r.p r.in_range r.sheet.now d (block_cells r.p r.sheet.now d (bytes_of r.sheet.now r.bytes)) c.run-run.result _
    (found-of _ _ _ _ _ c.requires.found _ c.run-run.ensures _ refl) c.if-run-eq0.true _
    (c.gather.ensures ∙ ap₂ (λ (m : ℕ) (x : List ℕ). block_of r.p.depth m x d) c.requires.message_len (rest_of (r.p.r * r.p.depth) r.sheet.now))

pub fill_in-requires-clause-found : goal.fill_in-requires-clause-found
fill_in-requires-clause-found c =
    let r = c.args.self.now in (
      c.if-run-eq0.false,
      found_at _ _ _ _ _ _ (gathered_is r.p r.sheet.now c.args.d _ _ c.requires.room.block_count c.gather-2.ensures)
          (found-of _ _ _ _ _ c.requires.found _ c.run-run.ensures _ c.error.ensures),
    )

pub returns : goal.returns
returns c =
    let r = c.args.self.now in
    let w = c.fill_in.new.out in
    c.copy_from_slice.ensures.after ∙ rest_of r.p.r w
    ∙ message_filled r.mode r.p r.in_range r.sheet.now c.args.d _ w (gathered_is r.p r.sheet.now c.args.d _ _ c.requires.room.block_count c.gather-2.ensures) c.fill_in.ensures
