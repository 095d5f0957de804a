-- `Buffer::used` meets its contract: the room stands first in the buffer.
-- Assumes nothing.
use Rattle.std.proofs.Common.{◌∙◌}
use Rattle.text_lines.proofs.Laws.{room-start}
use Rattle.text_lines.proofs.buffers.Buffer.used.Goals as goal

pub returns-clause-ref_ptr_value : goal.returns-clause-ref_ptr_value
returns-clause-ref_ptr_value g c =
    c.part.ensures.ref_ptr_value ∙ room-start c.args.self.ref_ptr _
