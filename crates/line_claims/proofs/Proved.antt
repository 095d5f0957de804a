-- The line layer's claims, proved: one element of each record of statements in specs/.
-- Assumes nothing.
use Rattle.line_claims.specs.Demand3.{LineSamples, WireDetermines, FreshReader, BlindSpots}
use Rattle.line_claims.specs.Demand1.{LineNumberDue, LineAsItWas}
use Rattle.line_claims.specs.Item6.{LineItem6}
use Rattle.line_claims.specs.Item14.{LineItem14}
use Rattle.line_claims.proofs.StartForgets.{line_start_forgets}
use Rattle.line_claims.specs.Item12.{LineItem12}
use Rattle.line_claims.proofs.Samples.{samples_hold}
use Rattle.line_claims.proofs.LoanLaws.{any_run}
use Rattle.line_claims.proofs.Refusals.{refused_exactly, refused_nothing, accepted_stops, too_little_12, too_little_nothing}
use Rattle.line_claims.proofs.Refusals.{collect_reads, never_12, sent_handed, room_enough}
use Rattle.line_claims.proofs.WireClaim.{one_meaning}
use Rattle.line_claims.proofs.Refusals.{tail_refused_exactly, data_refused_exactly, start_refused_exactly}
use Rattle.line_claims.proofs.Refusals.{start_untouched, data_not_handed}
use Rattle.line_claims.proofs.WriterClaim.{writer_refused_exactly, writer_untouched, writer_writes, written_frame, one_meaning_sent}
use Rattle.line_claims.proofs.CobsClaims.{round_trip, no_zero, form_fits, frame_fits}
use Rattle.line_claims.proofs.ReaderClaim.{hands_out, any_stream, any_messages, any_failures, any_tail, stays_valid, cut}
use Rattle.line_claims.proofs.ChecksumClaim.{checksum_claim}
use Rattle.line_claims.proofs.JudgeClaim.{ff_never_matches, ff_reason_2}
use Rattle.line_claims.proofs.SpellingClaim.{one_spelling, read_written, good_frame}
use Rattle.line_claims.proofs.LastOneClaim.{last_one_reason_1}
use Rattle.line_claims.proofs.FrameClaim.{handed_frames, handed_wire, answers_determine}
use Rattle.line_claims.proofs.ApartClaim.{checksum_apart, checksum_255_apart, opposite_255_apart, exchanged_255_apart}
use Rattle.line_claims.proofs.DistanceClaim.{checksum_distance}
use Rattle.line_claims.proofs.Changes.{checksum_changes}

pub line-samples : LineSamples
line-samples = record { samples_hold = samples_hold }

pub number_due : LineNumberDue
number_due = record {
  refused_exactly = refused_exactly;
  tail_refused_exactly = tail_refused_exactly;
  data_refused_exactly = data_refused_exactly;
  start_refused_exactly = start_refused_exactly;
  writer_refused_exactly = writer_refused_exactly;
  never_12 = never_12;
  stays_valid = stays_valid;
  too_little_12 = too_little_12;
  any_run = any_run;
}

pub as_it_was : LineAsItWas
as_it_was = record {
  refused_nothing = refused_nothing;
  too_little_nothing = too_little_nothing;
  start_untouched = start_untouched;
  data_not_handed = data_not_handed;
  writer_untouched = writer_untouched;
  writer_writes = writer_writes;
}

pub wire_determines : WireDetermines
wire_determines = record {
  one_meaning = one_meaning;
  writer_writes = writer_writes;
  written_frame = written_frame;
  room_enough = room_enough;
  one_meaning_sent = one_meaning_sent;
  round_trip = round_trip;
  no_zero = no_zero;
  form_fits = form_fits;
  frame_fits = frame_fits;
}

pub fresh-reader : FreshReader
fresh-reader = record {
  hands_out = hands_out;
  sent_handed = sent_handed;
  any_stream = any_stream;
  any_messages = any_messages;
  any_failures = any_failures;
  any_tail = any_tail;
  accepted_stops = accepted_stops;
  collect_reads = collect_reads;
  cut = cut;
}

pub blind_spots : BlindSpots
blind_spots = record { checksum_claim = checksum_claim; ff_never_matches = ff_never_matches; ff_reason_2 = ff_reason_2 }

pub item-6 : LineItem6
item-6 = record {
  last_one_reason_1 = last_one_reason_1;
  one_spelling = one_spelling;
  read_written = read_written;
  good_frame = good_frame;
  handed_frames = handed_frames;
  handed_wire = handed_wire;
  answers_determine = answers_determine;
}

pub item-12 : LineItem12
item-12 = record {
  checksum_apart = checksum_apart;
  checksum_255_apart = checksum_255_apart;
  opposite_255_apart = opposite_255_apart;
  exchanged_255_apart = exchanged_255_apart;
  checksum_distance = checksum_distance;
  checksum_changes = checksum_changes;
}

pub item-14 : LineItem14
item-14 = record { line_start_forgets = line_start_forgets }
