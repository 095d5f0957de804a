-- `requester::hearing::serve` meets its contract.
-- Assumes nothing.
use mathlib.Core.Path.{sym}
use Rattle.requester.proofs.SettlingLaws.{serve-start, serve-alert, serve-rest}
use Rattle.requester.proofs.hearing.serve.Goals as goal

pub returns-then-status-eq1 : goal.returns-then-status-eq1
returns-then-status-eq1 c =
    sym (serve-start _ _ c.if-status-eq1.true)

pub returns-then-status-eq1-2 : goal.returns-then-status-eq1-2
returns-then-status-eq1-2 c =
    sym (serve-alert _ _ c.if-status-eq1.false c.if-status-eq1-2.true)

pub returns-then-original : goal.returns-then-original
returns-then-original c =
    rw (serve-rest _ _ c.if-status-eq1.false c.if-status-eq1-2.false, c.if-original.true)

pub returns : goal.returns
returns c =
    rw (serve-rest _ _ c.if-status-eq1.false c.if-status-eq1-2.false, c.if-original.false)
