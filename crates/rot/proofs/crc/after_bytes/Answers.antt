-- `rot::crc::after_bytes` meets its contract. The loop keeps what the register comes to over the bytes that are left.
-- Assumes nothing.
use native.Mathlib.Omega.{arith}
use Rattle.rot.proofs.Register.{after-step, after-end}
use Rattle.rot.proofs.crc.after_bytes.Goals as goal

pub loop-b-preserved : goal.loop-b-preserved
loop-b-preserved c =
    after-step c.args.bytes.now c.loop-b.b-index _ _ (omega arith) c.after_byte-register.ensures c.loop-b.invariant

pub returns : goal.returns
returns c =
    after-end c.args.bytes.now c.loop-b.b-index _ (omega arith) c.loop-b.invariant
