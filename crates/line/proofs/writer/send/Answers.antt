-- `line::writer::send` meets its contract.
-- Assumes nothing.
use mathlib.Core.Path.{refl, sym, ◌∙◌}
use Prim.Native.Nat.{◌≤◌, ◌<◌}
use borrow.Author.Rules.{rules}
use borrow.Author.Tests.{ltb-true, ltb-false}
use native.Mathlib.Omega.{arith}
use lib.ListN.{length, take}
use Rattle.line.specs.Cobs.{cobs}
use Rattle.line.proofs.Sending.{send-refused, send-done}
use Rattle.line.proofs.writer.send.Goals as goal

pub returns-then-not-has_room : goal.returns-then-not-has_room
returns-then-not-has_room c =
    let a = c.args in
    let short : length a.out.now ≤ length (cobs (take a.n a.m.now)) = ltb-false _ _ (sym c.has_room.ensures ∙ c.if-not-has_room.true) in
    send-refused (cobs (take a.n a.m.now)) _ refl short

pub encode-k-requires : goal.encode-k-requires
encode-k-requires c =
    let a = c.args in
    let r : length (cobs (take a.n a.m.now)) < length a.out.now = ltb-true _ _ (sym c.has_room.ensures ∙ c.if-not-has_room.false) in
    search rules

pub bounds-out-k : goal.bounds-out-k
bounds-out-k c =
    let a = c.args in
    let r : length (cobs (take a.n a.m.now)) < length a.out.now = ltb-true _ _ (sym c.has_room.ensures ∙ c.if-not-has_room.false) in
    omega (arith, c.encode-k.ensures.value)

pub overflow_add-result : goal.overflow_add-result
overflow_add-result c =
    let a = c.args in
    let r : length (cobs (take a.n a.m.now)) < length a.out.now = ltb-true _ _ (sym c.has_room.ensures ∙ c.if-not-has_room.false) in
    omega (arith, c.encode-k.ensures.value)

pub returns : goal.returns
returns c =
    let a = c.args in
    let r : length (cobs (take a.n a.m.now)) < length a.out.now = ltb-true _ _ (sym c.has_room.ensures ∙ c.if-not-has_room.false) in
    let e = c.encode-k.ensures in send-done _ _ e.value (omega arith) e.out_after
