-- `responder::settings::store_at` meets its contract.
-- Assumes nothing.
use Rattle.responder.proofs.RecordLaws.{value-short, value-long, edition-last, value-put}
use Rattle.responder.proofs.settings.store_at.Goals as goal

pub returns-then-n-shortest : goal.returns-then-n-shortest
returns-then-n-shortest c = value-short _ c.args.«data».now _ _ _ _ c.if-n-shortest.true

pub returns-then-longest-n : goal.returns-then-longest-n
returns-then-longest-n c = value-long _ c.args.«data».now _ _ _ _ c.if-longest-n.true

pub returns-then-edition : goal.returns-then-edition
returns-then-edition c =
    edition-last _ c.args.«data».now _ _ _ _ c.if-n-shortest.false c.if-longest-n.false c.read_u32-edition.ensures c.if-edition.true

pub returns : goal.returns
returns c =
    let p = c.requires in
    value-put _ _ _ _ _ _ c.if-n-shortest.false c.if-longest-n.false c.read_u32-edition.ensures p.in_bounds p.longest_in_bounds
    p.cleared_le_longest c.if-edition.false c.clear.ensures c.write_u32.ensures c.write_u16.ensures c.copy.ensures
