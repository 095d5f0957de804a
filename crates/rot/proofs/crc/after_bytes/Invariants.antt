-- `rot::crc::after_bytes` meets its contract. The loop keeps what the register comes to over the bytes that are left.
-- Assumes nothing.
use mathlib.Core.Path.{◌≡◌}
use lib.ListN.{drop}
use Rattle.rot.specs.Crc.{after_bytes}
use Rattle.rot.proofs.crc.after_bytes.Given as goal

abbrev pub invariant-loop-b : goal.invariant-loop-b
invariant-loop-b l = after_bytes l.register (drop l.b-index l.bytes) ≡ after_bytes l.start l.bytes
