-- `line::reader::tail` meets its contract.
-- Assumes nothing.
use mathlib.Core.Path.{sym, ◌∙◌}
use Prim.Native.Nat.{◌≤◌}
use native.Mathlib.Omega.{arith}
use Rattle.line.specs.Limits.{longest_form}
use Rattle.line.specs.ReaderLayout.{received_count}
use Rattle.line.specs.Reader.{tail_promise}
use Rattle.line.proofs.State.{valid-ready}
use Rattle.line.proofs.Held.{received_none, received-some, length_kept}
use Rattle.line.proofs.reader.tail.Goals as goal

pub returns-then-not-is_valid : goal.returns-then-not-is_valid
unfolding tail_promise
returns-then-not-is_valid c =
    rw (sym c.is_valid.ensures ∙ c.if-not-is_valid.true)

pub returns-then-n-gt-LONGEST_FORM : goal.returns-then-n-gt-LONGEST_FORM
unfolding tail_promise
returns-then-n-gt-LONGEST_FORM c =
    rw (
      sym c.is_valid.ensures ∙ c.if-not-is_valid.false,
      received_none c.args.state.now (omega (arith, c.get_count-n.ensures.0, c.if-n-gt-LONGEST_FORM.true)),
    )

pub returns : goal.returns
unfolding tail_promise
returns c =
    let valid = sym c.is_valid.ensures ∙ c.if-not-is_valid.false in
    let n = c.get_count-n.ensures.0 in
    let s = c.args.state.now in
    let h : received_count s ≤ longest_form = omega (arith, n, c.if-n-gt-LONGEST_FORM.false) in
    rw (valid, received-some s h, length_kept s (valid-ready s valid).0 h, n)
