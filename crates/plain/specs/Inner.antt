-- What the contracts of the plain reader's inner functions cite.
-- Assumes nothing: these are definitions.
use Rattle.std.specs.Prelude.{cond, length, ℕ, Option, None, Some}
use Rattle.plain.specs.Answers.{Decoding}

-- the length of what a form decodes to, unless it is none
unfoldable pub decoded_report : Decoding → Option ℕ
decoded_report d = cond d.whole (Some (length d.bytes)) None
