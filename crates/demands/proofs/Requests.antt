-- The requests of document 02, each from the theorem of its own crate.
use mathlib.Core.Path.{sym, ap, ◌∙◌}
use native.Mathlib.Omega.{arith}
use Rattle.field.proofs.Polynomial.{product_iff, inverse_iff}
use Rattle.field.proofs.Operation.{only_product}
use Rattle.code.specs.Code.{distance}
use Rattle.code.proofs.Distance.{distance_self}
use Rattle.profile.proofs.Sparse.{sparse_run_iff}
use Rattle.block.proofs.Promises.{uncorrectable_iff, ambiguous_iff, corrected_iff, sparse_iff, short_exempts, three_exempts, counts_all, half_promise, block_refusals}
use Rattle.block.proofs.LookAndFill.{look_iff, look_refusals, filled_iff, one-within, no_codeword_iff, fill_limit_free, empty_run_iff, fill_refusals, looks_then_fills, fills-at_once}
use Rattle.spots.proofs.Promises.{corrected-cells_iff, too_many_errors_iff, no_tie, near_comes_back, limit_free, spot_refusals}
use Rattle.sheet.specs.declared.Mode.TheVariants.{Burst, Spots}
use Rattle.sheet.proofs.Theorems.{read-results}
use Rattle.sheet.proofs.Looks.{sheet_by_looks}
use Rattle.sheet.proofs.Refusals.{sheet_refusals}
use Rattle.sheet.proofs.Promise.{sheet_promise}
use Rattle.sheet.proofs.LimitFree.{sheet_limit_free}
use Rattle.plot.proofs.Sheets.{same-after_errors}
use Rattle.plot_promises.proofs.Lines.{line_check_exactly}
use Rattle.plot_promises.proofs.Stepping.{moving_exactly}
use Rattle.plot_promises.proofs.FirstBad.{first_line_rises}
use Rattle.plot_promises.proofs.Figures.{figures}
use Rattle.stand_promises.proofs.Species.{rows_iff, columns_iff}
use Rattle.stand_promises.proofs.Trees.{tally_lines}
use Rattle.stand_promises.proofs.Exactly.{beginning_exactly, adding_payload, total_exactly, per_plot_exactly}
use Rattle.stand_promises.proofs.InTurn.{in_turn}
use Rattle.listing.proofs.Refusals.{list_refusals}
use Rattle.former.proofs.AsBefore.{numbers-and_text_as_before}
use Rattle.former.proofs.LessScratch.{as_former_reader, text_as_former, same_rule, former_scratch_refused}
use Rattle.demands.specs.Requests.{Request1, Request2, Request3, Request4, Request5, Request6, Request7, Requests}

request_1 : Request1
request_1 = record {
  nearest = corrected-cells_iff;
  reading = read-results Spots;
  result = λ p y out t j c v h a.
      let o = (corrected-cells_iff p y out t j c v h).0 a in (sym o.count, o.lowest, λ e. (sym o.count ∙ ap (distance y) e ∙ distance_self y, o.lowest.clean e));
  no_tie = no_tie;
  back = near_comes_back;
  sheet_back = λ p m cells sheet scratch out v h c f b. let q = (sheet_promise p m cells v h c).few_errors sheet scratch out f b in (q.number, q.payload);
  asking = same-after_errors;
  too_many = too_many_errors_iff;
  refusals = spot_refusals;
  sheet_refusals = λ p. (sheet_refusals p).reads Spots;
  limit = limit_free;
  sheet_limit = sheet_limit_free;
}

request_2 : Request2
request_2 = record { line = line_check_exactly; first_line = first_line_rises; figures = figures; as_before = numbers-and_text_as_before }

request_3 : Request3
request_3 = record {
  look = look_iff;
  look_refusals = look_refusals;
  fill = filled_iff;
  one = one-within;
  none = no_codeword_iff;
  limit = fill_limit_free;
  elsewhere = uncorrectable_iff;
  reading = read-results Burst;
  sheet = sheet_by_looks;
  at_once = fills-at_once;
  same = looks_then_fills;
  fill_refusals = fill_refusals;
  empty = empty_run_iff;
}

request_4 : Request4
request_4 = record {
  in_turn = in_turn;
  rows = rows_iff;
  columns = columns_iff;
  tallies = tally_lines;
  moving = moving_exactly;
  beginning = beginning_exactly;
  adding = adding_payload;
  total = total_exactly;
  per_plot = per_plot_exactly;
}

request_5 : Request5
request_5 = record { product = product_iff; operation = only_product; inverse = inverse_iff }

request_6 : Request6
request_6 = record {
  longer = former_scratch_refused;
  same = as_former_reader;
  text = text_as_former;
  untouched = λ mode p sheet scratch out. ((sheet_refusals p).reads mode sheet scratch out).out_kept;
  rule = same_rule;
}

request_7 : Request7
request_7 = record {
  rule = sparse_run_iff;
  counted = counts_all;
  none = uncorrectable_iff;
  two = ambiguous_iff;
  look = look_iff;
  fill = filled_iff;
  filled = λ p y out s f c v h o. (filled_iff p y s f out c v h).1 (omega (arith, o.within, v.limit_below), o.reached);
  exempt = short_exempts;
  three = three_exempts;
  half_run = half_promise;
  sheets = sheet_promise;
  mended = λ p y out s f c v h o. (
    λ n. (corrected_iff p y out s f c v h).1 (o, n),
    λ z. (sparse_iff p y out v h).1 (s, f, c, o, z),
  );
  corrected = corrected_iff;
  sparse = sparse_iff;
  refusals = λ p. (block_refusals p).corrects;
  reading = read-results Burst;
  sheet_refusals = λ p. (sheet_refusals p).reads Burst;
  listing = list_refusals;
  by_spots = λ p y out s f c v h o z.
      near_comes_back p y out c v h (record {
        word = o.reached.codeword;
        within = omega (arith, counts_all p y s f c h.cells o.reached, z.few, o.within, v.limit_below);
      });
}

pub requests : Requests
requests = record { first = request_1; second = request_2; third = request_3; fourth = request_4; fifth = request_5; sixth = request_6; seventh = request_7 }
