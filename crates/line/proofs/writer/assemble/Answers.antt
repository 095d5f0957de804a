-- `line::writer::assemble` meets its contract.
-- Assumes nothing.
use Prim.Native.Nat.{◌<◌}
use native.Mathlib.Omega.{arith}
use Rattle.line.proofs.Assemble.{assembled, assembled-length}
use Rattle.line.proofs.writer.assemble.Goals as goal

pub shape_of-m : goal.shape_of-m
shape_of-m c =
    assembled-length _ _ _ _ _ _ _ _ c.write_u32.ensures c.write_u32-2.ensures c.write_u64.ensures c.copy.ensures c.copy-2.ensures
    c.write_u16.ensures

pub returns : goal.returns
returns c =
    let k : c.args.command < 256 = omega (arith, c.ranges.command) in
    record {
      value = omega arith;
      m_after =
          assembled _ _ _ _ _ _ k c.requires.rest_len_bound (omega arith) c.write_u32.ensures c.write_u32-2.ensures c.write_u64.ensures
          c.copy.ensures c.copy-2.ensures c.checksum_of_first-sum.ensures c.write_u16.ensures;
    }
