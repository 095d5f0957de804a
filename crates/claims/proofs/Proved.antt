-- The customer's demands and requests, proved: one element of each record of statements in specs/.
-- Assumes nothing.
use Rattle.line.proofs.Proved as Line3
use Rattle.probes.proofs.Proved as Probes
use Rattle.addresses.proofs.Proved as Addresses
use Rattle.line_claims.proofs.Proved as Line
use Rattle.saving_claims.proofs.Proved as Saving
use Rattle.supervisor_claims.proofs.Proved as Supervisor
use Rattle.counters_claims.proofs.Proved as Counters
use Rattle.requester_claims.proofs.Proved as Main
use Rattle.both_claims.proofs.Proved as Both
use Rattle.rot_claims.proofs.Proved as Rot
use Rattle.plain_claims.proofs.Proved as Plain
use Rattle.claims.specs.Claims.{NumberDue, AsItWas, Demand1, Demand2, Demand3, Samples, Item1, Item2, Item3, Item4, Item5, Item6}
use Rattle.claims.specs.Claims.{Item7}
use Rattle.claims.specs.Claims.{Item8, Item9, Item10, Item11, Item12, Item13, Item14, BothEnds}

pub number_due : NumberDue
number_due = record {
  line = Line.number_due;
  supervisor = Supervisor.number_due;
  main_processor = Main.number_due;
  link_reader = (Rot.item-7).link_refused_exactly;
  link_writer = (Rot.item-7).link_writer_refused_exactly;
  probe_update_done = (Probes.item-4).update_done;
  probe_update_refused = (Probes.item-4).update_refused;
  address_plan = (Addresses.item-9).plan_refused_exactly;
}

pub as_it_was : AsItWas
as_it_was = record {
  line = Line.as_it_was;
  supervisor = Supervisor.as_it_was;
  main_processor = Main.as_it_was;
  link_reader = (Rot.item-7).link_untouched;
  link_writer = (Rot.item-7).link_writer_untouched;
  probe_update_refused = (Probes.item-4).update_refused;
}

pub demand-1 : Demand1
demand-1 = record { number_due = number_due; as_it_was = as_it_was }

pub demand-2 : Demand2
demand-2 = record {
  carried-out = Supervisor.carried-out;
  numbered_failures = Supervisor.numbered_failures;
  cuts = Supervisor.cuts;
  mixed_lists = Supervisor.mixed_lists;
}

pub demand-3 : Demand3
demand-3 = record { wire_determines = Line.wire_determines; fresh-reader = Line.fresh-reader; blind_spots = Line.blind_spots }

pub samples : Samples
samples = record { line = Line.line-samples }

pub item-1 : Item1
item-1 = record { supervisor = Supervisor.item-1 }

pub item-2 : Item2
item-2 = record { main_processor = Main.item-2 }

pub item-3 : Item3
item-3 = record { line = Line3.item-3 }

pub item-4 : Item4
item-4 = record { probes = Probes.item-4; supervisor = Supervisor.item-4 }

pub item-5 : Item5
item-5 = record { supervisor = Supervisor.item-5 }

pub item-6 : Item6
item-6 = record { line = Line.item-6; main_processor = Main.item-6 }

pub item-7 : Item7
item-7 = record { rot = Rot.item-7 }

pub item-8 : Item8
item-8 = record { counters = Counters.item-8 }

pub item-9 : Item9
item-9 = record { addresses = Addresses.item-9 }

pub item-10 : Item10
item-10 = record { reader = Line.fresh-reader; writer = Line.wire_determines }

pub item-11 : Item11
item-11 = record { saving = Saving.item-11; supervisor = Supervisor.item-11 }

pub item-12 : Item12
item-12 = record { line = Line.item-12 }

pub item-13 : Item13
item-13 = record { plain = Plain.item-13 }

pub item-14 : Item14
item-14 = record { supervisor = Supervisor.item-14; counters = Counters.item-14; line = Line.item-14; main_processor = Main.item-14 }

pub both_ends : BothEnds
both_ends = record { both_ends = Both.both_ends }
