-- `plain::tested` meets its contract.
-- Assumes nothing.
use mathlib.Core.Path.{sym}
use mathlib.Core.Logic.{inl, inr}
use Prim.Native.Nat.{◌-◌}
use native.Mathlib.Omega.{arith}
use lib.Seq.{length-take-le}
use Rattle.plain.specs.Answers.{plain_verdict}
use Rattle.plain.proofs.Tests.{tested-short, tested-long, tested-checksum, tested-magic, tested-good}
use Rattle.plain.proofs.tested.Goals as goal

pub returns-then-n-lt-SHORTEST_MESSAGE : goal.returns-then-n-lt-SHORTEST_MESSAGE
unfolding plain_verdict
returns-then-n-lt-SHORTEST_MESSAGE c =
    let a = c.args in
    elim c.then-n-lt-SHORTEST_MESSAGE.either [
      | inl short ↦ tested-short a.message.now a.n c.requires short
      | inr long ↦ tested-long a.message.now a.n c.requires long.1
    ]

pub slice_bounds-checksum-length : goal.slice_bounds-checksum-length
slice_bounds-checksum-length c =
    let a = c.args in
    sym (length-take-le (a.n - 2) a.message.now (omega arith))

pub returns-then-read_u16-checksum : goal.returns-then-read_u16-checksum
unfolding plain_verdict
returns-then-read_u16-checksum c =
    let a = c.args in
    tested-checksum a.message.now a.n c.requires c.if-n-lt-SHORTEST_MESSAGE.false c.if-n-gt-LONGEST_MESSAGE.false
    c.read_u16.ensures c.checksum.ensures c.read_u64-sequence.ensures c.if-read_u16-checksum.true

pub returns-then-read_u32-ne-MAGIC : goal.returns-then-read_u32-ne-MAGIC
unfolding plain_verdict
returns-then-read_u32-ne-MAGIC c =
    let a = c.args in
    tested-magic a.message.now a.n c.requires c.if-n-lt-SHORTEST_MESSAGE.false c.if-n-gt-LONGEST_MESSAGE.false
    c.read_u16.ensures c.checksum.ensures c.read_u64-sequence.ensures c.if-read_u16-checksum.false
    c.read_u32.ensures c.if-read_u32-ne-MAGIC.true

pub returns : goal.returns
unfolding plain_verdict
returns c =
    let a = c.args in
    tested-good a.message.now a.n c.requires c.if-n-lt-SHORTEST_MESSAGE.false c.if-n-gt-LONGEST_MESSAGE.false
    c.read_u16.ensures c.checksum.ensures c.read_u64-sequence.ensures c.if-read_u16-checksum.false
    c.read_u32.ensures c.if-read_u32-ne-MAGIC.false c.read_u32-2.ensures c.read_u8.ensures
