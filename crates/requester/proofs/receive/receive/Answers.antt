-- `requester::receive::receive` meets its contract.
-- Assumes nothing.
use mathlib.Core.Path.{sym}
use Rattle.std.proofs.lemmas.Result.{err_from_is_err_and}
use Rattle.requester.proofs.ValidLaws.{valid-parts}
use Rattle.requester.proofs.ReaderLaws.{tail-holds}
use Rattle.requester.proofs.ReceiveLaws.{invalid-reader, invalid-requester, receive-refused, receive-received}
use Rattle.requester.proofs.receive.receive.Goals as goal

pub returns-then-not-requester_is_valid : goal.returns-then-not-requester_is_valid
returns-then-not-requester_is_valid c =
    receive-refused _ _ (invalid-requester _ (sym c.if-not-requester_is_valid.ensures))

pub returns-in_err-n : goal.returns-in_err-n
returns-in_err-n c =
    let p = err_from_is_err_and c.from_residual.result c.from_residual.ensures.1 in
    let t = tail-holds _ c.in_err-n.ensures in
    rw (p.1, p.2, t.1) (receive-refused _ _ (invalid-reader _ t.0))

pub listen-requires : goal.listen-requires
listen-requires c =
    let t = tail-holds _ (rw c.in-Bytes.is at c.in_ok-n.ensures) in
    record {
      requester_value =
          valid-parts _ (record { reader = t.0; requester = sym c.if-not-requester_is_valid.ensures });
      reader_value = t.1;
      n_le_longest_form = t.2;
    }

pub skip-requires : goal.skip-requires
skip-requires c =
    let t = tail-holds _ (rw c.in-Longer.is at c.in_ok-n.ensures) in
    record {
      requester_value =
          valid-parts _ (record { reader = t.0; requester = sym c.if-not-requester_is_valid.ensures });
      reader_value = t.1;
    }

pub returns-in-Bytes : goal.returns-in-Bytes
returns-in-Bytes c =
    let t = tail-holds _ (rw c.in-Bytes.is at c.in_ok-n.ensures) in
    receive-received _ _
    (valid-parts _ (record { reader = t.0; requester = sym c.if-not-requester_is_valid.ensures }))
    c.listen.ensures

pub returns-in-Longer : goal.returns-in-Longer
returns-in-Longer c =
    let t = tail-holds _ (rw c.in-Longer.is at c.in_ok-n.ensures) in
    receive-received _ _
    (valid-parts _ (record { reader = t.0; requester = sym c.if-not-requester_is_valid.ensures }))
    c.skip.ensures
