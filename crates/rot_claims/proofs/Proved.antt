-- The root-of-trust link's claims, proved: one element of the record of statements in specs/.
-- Assumes nothing.
use Rattle.rot_claims.specs.Item7.{RotItem7}
use Rattle.rot_claims.proofs.Samples.{samples_hold}
use Rattle.rot_claims.proofs.LinkRefusals.{link_refused_exactly, link_untouched, nothing-sent, link_writer_refused_exactly}
use Rattle.rot_claims.proofs.LinkRefusals.{link_writer_untouched, link_writer_writes, crc_by_table}
use Rattle.rot_claims.proofs.ReadBack.{reads_back, echo_reads, echo_back, one_message, judged, read_bytes, behind_ignored}

pub item-7 : RotItem7
item-7 = record {
  samples_hold = samples_hold;
  link_refused_exactly = link_refused_exactly;
  link_untouched = link_untouched;
  nothing-sent = nothing-sent;
  link_writer_refused_exactly = link_writer_refused_exactly;
  link_writer_untouched = link_writer_untouched;
  link_writer_writes = link_writer_writes;
  crc_by_table = crc_by_table;
  reads_back = reads_back;
  echo_reads = echo_reads;
  echo_back = echo_back;
  one_message = one_message;
  judged = judged;
  read_bytes = read_bytes;
  behind_ignored = behind_ignored;
}
