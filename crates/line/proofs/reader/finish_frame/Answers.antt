-- `line::reader::finish_frame` meets its contract.
-- Assumes nothing.
use mathlib.Core.Path.{◌≡◌, ap, ◌∙◌}
use mathlib.Core.Option.{none}
use native.Mathlib.Omega.{arith}
use Rattle.line.specs.Reader.{empty, failed, form_report, frame_outcome, finish}
use Rattle.line.proofs.Held.{finish-empty, finish-over, finish-form}
use Rattle.line.proofs.reader.finish_frame.Goals as goal
use Rattle.line.proofs.reader.finish_frame.Goals.{After-finish_form}

pub returns-then-n-eq0 : goal.returns-then-n-eq0
returns-then-n-eq0 c =
    ap (frame_outcome empty) c.set_count.ensures ∙ finish-empty _ (omega arith)

pub returns-then-n-gt-LONGEST_FORM : goal.returns-then-n-gt-LONGEST_FORM
returns-then-n-gt-LONGEST_FORM c =
    ap (frame_outcome (failed 1 none)) c.set_count.ensures ∙ finish-over _ (omega arith)

finished : (c : After-finish_form) → frame_outcome (form_report c.finish_form.result) c.finish_form.new.state ≡ finish c.args.state.now
finished c =
    let n = c.get_count-n.ensures.0 in
    c.finish_form.ensures
    ∙ rw (c.set_count.ensures, n) (finish-form c.args.state.now (λ e. c.if-n-eq0.false (n ∙ e)) (omega arith) (omega arith))

pub returns-in-Ok : goal.returns-in-Ok
returns-in-Ok c =
    rw c.in-Ok.is at (finished (goal.at.returns-in-Ok c).After-finish_form)

pub returns-in-Err : goal.returns-in-Err
returns-in-Err c =
    rw c.in-Err.is at (finished (goal.at.returns-in-Err c).After-finish_form)
