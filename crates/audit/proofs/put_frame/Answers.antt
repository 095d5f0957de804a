-- `audit::put_frame` meets its contract.
-- Assumes nothing.
use mathlib.Core.List.{append_assoc, append-nil}
use mathlib.Core.Path.{sym}
use Prim.Native.Nat.{◌<◌}
use native.Mathlib.Nat.{add-sub_cancel_left}
use native.Mathlib.Omega.{arith}
use lib.ListN.{length}
use Rattle.octets.specs.Bytes.{run}
use Rattle.octets.proofs.Overlay.{length_run}
use Rattle.plain.specs.Listing.{listed_frame}
use Rattle.audit.specs.Text.{lines}
use Rattle.audit.proofs.Lines.{frame-line}
use Rattle.audit.proofs.put_frame.Goals as goal

pub returns-then-n-eq0 : goal.returns-then-n-eq0
unfolding listed_frame lines
returns-then-n-eq0 c =
    let a = c.args in
    rw c.if-n-eq0.true (record { wrote = sym (append-nil a.text.now); upper_bound = omega arith })

pub returns : goal.returns
returns c =
    let a = c.args in
    let long = length_run a.at a.n a.capture.now (omega arith) in
    let report = rw add-sub_cancel_left at c.judged-answer.ensures.message_after in
    let some : 0 < length (run a.at a.n a.capture.now) = omega arith in
    record {
      wrote =
          rw (← frame-line a.at (run a.at a.n a.capture.now) _ _ some report, ← append_assoc, ← c.put_number.ensures.wrote)
          c.put_answer.ensures.wrote;
      upper_bound = omega arith;
    }
