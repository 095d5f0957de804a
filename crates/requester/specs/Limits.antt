-- The main processor's limits, each in one place (document 02, item 2).
-- Assumes nothing: these are definitions.
use Rattle.std.specs.Prelude.{ℕ}

-- sequences run from 1 to this one
abbrev pub last_number : ℕ
last_number = 0x7ffffffffffffffe
