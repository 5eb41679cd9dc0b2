-- The tester's list: each statement is proved in the candidates crate.
use Rattle.candidates.proofs.Tight.{tight_iff}
use Rattle.candidates.proofs.Promises.{listed_iff, every-listed, list_order, starts_differ, fills-listed, list_read_off, list_beside_look}
use Rattle.candidates.proofs.Refusals.{candidate_refusals, room_enough}
use Rattle.demands.specs.TestersList.{TestersList}

pub testers_list : TestersList
testers_list = record {
  listed = listed_iff;
  tight = tight_iff;
  every = every-listed;
  order = list_order;
  starts = starts_differ;
  filling = fills-listed;
  read_off = list_read_off;
  beside_look = list_beside_look;
  refusals = candidate_refusals;
  enough = room_enough;
}
