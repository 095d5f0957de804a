-- The view: document 02's state as the lent parts hold it.
-- Assumes nothing: these are definitions.
use Rattle.std.specs.Prelude.{cond, List, ℕ, eqb}
use Rattle.std.proofs.Math.Option.{Option, none, some}
use Rattle.line.specs.Reader.{received_of}
use Rattle.requester.specs.State.{Request, MainState, main_state}
use Rattle.requester.specs.Layout
use Rattle.requester.specs.Calls.{MainParts}

unfoldable pub kept_request_of : List ℕ → Option Request
kept_request_of r = cond (Layout.is_kept r) (some (Layout.kept_request r)) none

-- the state in the main processor's part, with the receive progress
abbrev pub held : List ℕ → Option (List ℕ) → MainState
held r bs = main_state (Layout.newest_number r) (kept_request_of r) (Layout.recovery_step r) (eqb (Layout.unsent_of r) 1) bs

unfoldable pub main_view : MainParts → MainState
main_view p = held p.requester (received_of p.reader)
