-- `audit::audit_input` meets its contract.
-- Assumes nothing.
use mathlib.Core.Path.{◌≡◌}
use Prim.Native.Nat.{◌+◌}
use native.Mathlib.Omega.{arith}
use lib.ListN.{length}
use Rattle.audit.specs.Text.{longest_capture}
use Rattle.audit.proofs.Reading.{audited}
use Rattle.audit.proofs.audit_input.Goals as goal

pub returns : goal.returns
returns g c =
    let a = c.args in
    let long : length a.room.now ≡ longest_capture + 1 = omega arith in
    audited _ _ _ c.in_ok-n.n a.room.now c.read_full.new.room c.audit.new.text long c.in_ok-n.ensures.bytes
    c.audit.ensures (rw c.as_bytes.ensures at c.in_ok-write_all.ensures.bytes)
