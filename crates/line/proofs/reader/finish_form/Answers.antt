-- `line::reader::finish_form` meets its contract.
-- Assumes nothing.
use mathlib.Core.Path.{◌≡◌}
use native.Mathlib.Omega.{arith}
use Rattle.std.proofs.lemmas.Result.{err_from_is_err_and}
use Rattle.line.specs.declared.reader.Failure.TheVariants.{Form}
use Rattle.line.proofs.Judging.{form_fits, finish-bad, finish-wrong, finish-fits}
use Rattle.line.proofs.reader.finish_form.Goals as goal

pub returns-in_err-k : goal.returns-in_err-k
returns-in_err-k c =
    let a = c.args in
    let none = c.in_err-k.ensures.ok_part in
    let p = err_from_is_err_and c.from_residual.result c.from_residual.ensures.1 in
    let why = rw none at c.in_err-k.ensures.value in
    let form : p.0 ≡ Form = cc in
    rw (p.1, form) (finish-bad _ _ (form_fits a.state.now a.n (omega arith) (omega arith)) c.frame_length.ensures none)

pub returns-then-k-lt-SHORTEST_MESSAGE : goal.returns-then-k-lt-SHORTEST_MESSAGE
returns-then-k-lt-SHORTEST_MESSAGE c =
    let a = c.args in
    finish-wrong _ _ (form_fits a.state.now a.n (omega arith) (omega arith)) c.frame_length.ensures c.in_ok-k.ensures.ok_part
    c.then-k-lt-SHORTEST_MESSAGE.either

pub returns : goal.returns
returns c =
    let a = c.args in
    finish-fits _ _ (form_fits a.state.now a.n (omega arith) (omega arith)) c.frame_length.ensures c.in_ok-k.ensures.ok_part
    c.if-k-lt-SHORTEST_MESSAGE.false c.if-k-gt-LONGEST_MESSAGE.false (omega arith) c.decode_frame.ensures c.inspect.ensures
