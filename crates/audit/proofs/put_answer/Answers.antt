-- `audit::put_answer` meets its contract: each arm puts what the definition's line has.
-- Assumes nothing.
use mathlib.Core.List.{List, ◌++◌}
use mathlib.Core.Path.{◌≡◌}
use Prim.Native.Nat.{ℕ, ◌+◌, ◌≤◌}
use native.Mathlib.Omega.{arith}
use lib.ListN.{length, length-append}
use Rattle.plain.specs.Answers.{plain_verdict}
use Rattle.audit.specs.Text.{digits_within, decimal, word}
use Rattle.audit.proofs.put_answer.Goals as goal

at-most-four : (s xs t : List ℕ) → t ≡ s ++ xs → length xs ≤ 4 → length t ≤ length s + 4
at-most-four s xs t e h = rw (e, length-append) (omega arith)

pub returns-in-Ok : goal.returns-in-Ok
unfolding plain_verdict word decimal digits_within
returns-in-Ok c =
    let put = c.put.ensures in
    rw c.in-Ok.is (record { wrote = put; upper_bound = at-most-four _ _ _ put (omega arith) })

pub returns-in-Err-Form : goal.returns-in-Err-Form
unfolding plain_verdict word decimal digits_within
returns-in-Err-Form c =
    let put = c.put-in-Err-Form.ensures in
    let which = rw c.in-Err-Form.is at c.in-Err-Form.field-0-is in
    rw (c.in-Err-Form.is, which) (record { wrote = put; upper_bound = at-most-four _ _ _ put (omega arith) })

pub returns-in-Err-Length : goal.returns-in-Err-Length
unfolding plain_verdict word decimal digits_within
returns-in-Err-Length c =
    let put = c.put-in-Err-Length.ensures in
    let which = rw c.in-Err-Length.is at c.in-Err-Length.field-0-is in
    rw (c.in-Err-Length.is, which) (record { wrote = put; upper_bound = at-most-four _ _ _ put (omega arith) })

pub returns-in-Err-Checksum : goal.returns-in-Err-Checksum
unfolding plain_verdict word decimal digits_within
returns-in-Err-Checksum c =
    let put = c.put-in-Err-Checksum.ensures in
    let which = rw c.in-Err-Checksum.is at c.in-Err-Checksum.field-0-is in
    rw (c.in-Err-Checksum.is, which) (record { wrote = put; upper_bound = at-most-four _ _ _ put (omega arith) })

pub returns-in-Err-Magic : goal.returns-in-Err-Magic
unfolding plain_verdict word decimal digits_within
returns-in-Err-Magic c =
    let put = c.put-in-Err-Magic.ensures in
    let which = rw c.in-Err-Magic.is at c.in-Err-Magic.field-0-is in
    rw (c.in-Err-Magic.is, which) (record { wrote = put; upper_bound = at-most-four _ _ _ put (omega arith) })
