-- `line::reader::inspect` meets its contract.
-- Assumes nothing.
use native.Mathlib.Nat.{add-sub_cancel_left}
use native.Mathlib.Omega.{arith}
use Rattle.line.proofs.Judging.{length_part, report-checksum, report-magic, report-good}
use Rattle.line.proofs.reader.inspect.Goals as goal

pub returns-then-read_u16-checksum_of_first : goal.returns-then-read_u16-checksum_of_first
returns-then-read_u16-checksum_of_first c =
    let a = c.args in
    rw add-sub_cancel_left at
    (report-checksum _ a.k (length_part a.state.now a.k (omega arith)) (omega arith) (omega arith)
    c.read_u16.ensures c.checksum_of_first.ensures c.read_u64-sequence.ensures c.if-read_u16-checksum_of_first.true)

pub returns-then-read_u32-ne-MAGIC : goal.returns-then-read_u32-ne-MAGIC
returns-then-read_u32-ne-MAGIC c =
    let a = c.args in
    rw add-sub_cancel_left at
    (report-magic _ a.k (length_part a.state.now a.k (omega arith)) (omega arith) (omega arith)
    c.read_u16.ensures c.checksum_of_first.ensures c.read_u64-sequence.ensures c.if-read_u16-checksum_of_first.false
    c.read_u32.ensures c.if-read_u32-ne-MAGIC.true)

pub returns : goal.returns
returns c =
    let a = c.args in
    rw add-sub_cancel_left at
    (report-good _ a.k (length_part a.state.now a.k (omega arith)) (omega arith) (omega arith)
    c.read_u16.ensures c.checksum_of_first.ensures c.read_u64-sequence.ensures c.if-read_u16-checksum_of_first.false
    c.read_u32.ensures c.if-read_u32-ne-MAGIC.false c.read_u32-2.ensures c.read_u8.ensures)
