-- The number of the reply to a request: the request's, with the top bit of 64 set.
-- Assumes nothing: these are definitions.
use Rattle.std.specs.Prelude.{cond, ℕ, ◌+◌, ltb}
use Rattle.line.specs.Numbers.{top_bit}
use Rattle.supervisor.specs.declared.number.RequestNumber.{RequestNumber}
use Rattle.supervisor.specs.declared.number.ReplyNumber.{ReplyNumber}

unfoldable pub top_set : ℕ → ℕ
top_set n = cond (ltb n top_bit) (n + top_bit) n

abbrev pub reply_number : RequestNumber → ReplyNumber
reply_number n = record { 0 = top_set n.0 }
