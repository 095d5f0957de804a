-- `part` meets its contract: the part begins at the offset, or where the slice does if the offset is past its end.
-- Assumes nothing.
use Rattle.std.proofs.Common.{◌∙◌}
use Rattle.octets.proofs.Parts.{place-start, place-past, place-there}
use Rattle.octets.proofs.part.Goals as goal

pub returns-then-s-at-clause-ref_ptr_value : goal.returns-then-s-at-clause-ref_ptr_value
returns-then-s-at-clause-ref_ptr_value c =
    place-start c.args.s.ref_ptr ∙ place-past c.args.s c.args.at c.if-s-at.true

pub returns-clause-ref_ptr_value : goal.returns-clause-ref_ptr_value
returns-clause-ref_ptr_value c =
    place-there c.args.s c.args.at c.if-s-at.false
