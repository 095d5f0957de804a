-- `line::writer::has_room` meets its contract. No form is longer than the longest.
-- Assumes nothing.
use mathlib.Core.Path.{sym}
use borrow.Author.Tests.{lt-ltb}
use native.Mathlib.Omega.{arith}
use lib.ListN.{length, take, length-take}
use Rattle.line.specs.Cobs.{cobs}
use Rattle.line.proofs.FrameLength.{overhead}
use Rattle.line.proofs.writer.has_room.Goals as goal

pub returns-then-room-gt-LONGEST_FORM : goal.returns-then-room-gt-LONGEST_FORM
returns-then-room-gt-LONGEST_FORM c =
    let a = c.args in
    let f = take a.n a.m.now in
    sym (lt-ltb (length (cobs f)) a.room (omega (arith, overhead f, length-take a.n a.m.now)))

pub returns : goal.returns
returns c =
    rw c.form_length.ensures
