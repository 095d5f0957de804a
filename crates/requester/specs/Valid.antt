-- What the table's 12 requires of the main processor's part (documents 01, "When a call says no", and 02, item 2).
-- Assumes nothing: these are definitions.
use Rattle.std.specs.Prelude.{Bool, not, ◌&&◌, ◌||◌, List, ℕ, leb, length}
use Rattle.line.specs.Limits.{longest_data}
use Rattle.requester.specs.Limits.{last_number}
use Rattle.requester.specs.Requester.{stays_out}
use Rattle.requester.specs.Layout

-- the one outstanding has a number: sequences run from 1
unfoldable pub is_numbered : List ℕ → Bool
is_numbered r = not (Layout.is_outstanding r) || leb 1 (Layout.newest_number r)

-- each field by itself, also where nothing is kept; and number 0 only where none is outstanding
unfoldable pub valid_requester : List ℕ → Bool
valid_requester r =
    leb Layout.requester_length (length r)
    && (leb (Layout.newest_number r) last_number
    && (leb (Layout.recovery_of r) 3
    && (leb (Layout.unsent_of r) 1
    && (leb (Layout.kept_flag r) 1
    && (leb (Layout.kept_length r) longest_data
    && (stays_out (Layout.kept_command r)
    && is_numbered r))))))
