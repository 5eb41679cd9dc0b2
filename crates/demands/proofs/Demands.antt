-- All demands together, and what stands beside them, each from the theorem of its own crate.
use Rattle.field.proofs.Laws.{field_laws, alpha_laws}
use Rattle.field.proofs.Polynomial.{sum_coefficients}
use Rattle.code.proofs.Theorems.{codeword_iff_syndromes, minimum_distance, long_run-reaches}
use Rattle.profile.proofs.Ranges.{in_range_lem}
use Rattle.block.proofs.Verdicts.{exactly_one}
use Rattle.block.proofs.Promises.{writes_codeword, clean_iff, uncorrectable_iff, ambiguous_iff, corrected_iff, sparse_iff, depth_free, half_promise, block_refusals}
use Rattle.sheet.proofs.Apart.{places, taken_apart}
use Rattle.sheet.proofs.Differ.{differ_iff}
use Rattle.sheet.proofs.Theorems.{writes_sheet, read-results}
use Rattle.sheet.proofs.Refusals.{sheet_refusals}
use Rattle.sheet.proofs.Promise.{sheet_promise}
use Rattle.demands.proofs.Examples.{starred_examples}
use Rattle.demands.proofs.Requests.{requests}
use Rattle.plot_promises.proofs.Lines.{lines_hold_iff}
use Rattle.plot_promises.proofs.Canonical.{record_bytes, plots_unique, written_as_read, read_as_written, accepted_form, added_is_found}
use Rattle.plot_promises.proofs.Stepping.{stepping_exactly}
use Rattle.plot_promises.proofs.Checking.{checking_exactly}
use Rattle.plot_promises.proofs.Asking.{asking_exactly}
use Rattle.plot_promises.proofs.Adding.{adding_exactly}
use Rattle.plot.proofs.Sheets.{written-reads_as_plots, same-after_damage}
use Rattle.listing_text.proofs.Meaning.{decimal_iff, one_reading, accepted_text, refusal_text_lem}
use Rattle.listing.proofs.Refusals.{list_refusals}
use Rattle.listing.proofs.Accepted.{list_accepted}
use Rattle.listing.proofs.Theorems.{whole_text}
use Rattle.listing.proofs.Input.{enough_input_lem}
use Rattle.demands.specs.Demands.{Demands, Beside, AllPromises}

pub demands : Demands
demands = record {
  first = record {
    blocks = block_refusals;
    sheets = sheet_refusals;
    payloads = checking_exactly;
    asking = asking_exactly;
    adding = adding_exactly;
    listing = list_refusals;
  };
  second = record {
    writing = writes_codeword;
    clean = clean_iff;
    places = places;
    layout = record_bytes;
    stepping = stepping_exactly;
    records = accepted_form;
    unique = plots_unique;
    lines = lines_hold_iff;
    adding = added_is_found;
    plots = written-reads_as_plots;
    afresh = written_as_read;
  };
  third = record {
    none = uncorrectable_iff;
    two = ambiguous_iff;
    otherwise = exactly_one;
    one = corrected_iff;
    sparse = sparse_iff;
    reading = read-results;
    writing = writes_sheet;
    scratched = λ p m cells sheet scratch out v l h c d b. let q = (sheet_promise p m cells v h c).damaged sheet scratch out l d b in (q.number, q.payload);
    asking = same-after_damage;
  };
}

pub beside : Beside
beside = record {
  field = field_laws;
  powers = alpha_laws;
  sums = sum_coefficients;
  codewords = codeword_iff_syndromes;
  distance = minimum_distance;
  long_runs = long_run-reaches;
  ranges = in_range_lem;
  depth_free = depth_free;
  half_run = half_promise;
  differing = differ_iff;
  apart = taken_apart;
  untouched = λ mode p m cells scratch out v h c b. (sheet_promise p m cells v h c).back mode scratch out b;
  read_as_written = read_as_written;
  examples = starred_examples;
  printed = list_accepted;
  lines = accepted_text;
  refusal = refusal_text_lem;
  one_reading = one_reading;
  decimals = decimal_iff;
  text = whole_text;
  input = enough_input_lem;
}

pub all_promises : AllPromises
all_promises = record { demands = demands; beside = beside; requests = requests }
