-- `line::reader::decode_frame` meets its contract.
-- Assumes nothing.
use Rattle.octets.specs.Bytes.{run}
use Rattle.line.specs.Decoding.{plain}
use Rattle.line.specs.ReaderLayout.{frame_offset}
use Rattle.line.proofs.Rest.{rest-mid, rest-overlay}
use Rattle.line.proofs.reader.decode_frame.Goals as goal

pub returns : goal.returns
returns c =
    let a = c.args in
    cc
    (rest-mid a.state.now frame_offset, rest-overlay a.state.now frame_offset (plain (run frame_offset a.n a.state.now)))
