-- The supervisor's newest reply: the bytes pending that are left of it, and the call that puts it out.
-- Assumes nothing: these are definitions.
use Rattle.std.specs.Prelude.{◌≡◌, Bool, cond, List, [], ◌∷◌, ◌++◌, ◌⊎◌, ℕ, ◌≤◌, length}
use Rattle.std.proofs.Math.Option.{Option, some}
use Rattle.line.specs.Message.{Message}
use Rattle.line.specs.Frame.{frame}
use Rattle.requester_claims.specs.Histories.{main_made}
use Rattle.responder.specs.Requests.{owed}
use Rattle.supervisor_claims.specs.View.{view}
use Rattle.supervisor_claims.specs.Histories as Supervisor
use Rattle.supervisor_claims.specs.Replies.{taken_bytes}
use Rattle.requester_claims.specs.CameAs.{restarts}
use Rattle.both_claims.specs.Ends.{Ends, EndCall, main, supervisor, ends_after}

-- a call that takes
abbrev pub Takes : Supervisor.Call → Type 0
Takes c = (room : List ℕ) × (c ≡ Supervisor.local (Supervisor.take room))

-- what is left of a reply: more than its 00
pub record LeftOf (r : Message) (bs : List ℕ) : Type 0 where
  pub behind_zero : Bool
  pub front : List ℕ
  pub whole : front ++ bs ≡ owed behind_zero ++ frame r
  pub some_left : 2 ≤ length bs

-- of the newest reply
abbrev pub Waits : Option Message → List ℕ → Type 0
Waits o bs = (r : Message) → o ≡ some r → LeftOf r bs

-- as each call begins, where the newest reply counts as not put out: the bytes pending are what is left of its frame
abbrev pub CallPends : Ends → EndCall → Type 0
CallPends e t = Waits e.log.pending (view e.supervisor).pending

-- A call of the supervisor puts a reply out. It takes, and the reply was pending.
-- Of the bytes that were left of the reply's frame it moves all but the 00 at most.
pub record SentBy (e : Ends) (m : Supervisor.Made) (r : Message) : Type 0 where
  pub takes : Takes m.call
  pub pending : e.log.pending ≡ some r
  pub left : LeftOf r (view e.supervisor).pending
  pub moved : taken_bytes (Supervisor.outputs e.supervisor (m ∷ [])) ++ (view (ends_after e (supervisor m)).supervisor).pending
      ≡ (view e.supervisor).pending
  pub rest : length (view (ends_after e (supervisor m)).supervisor).pending ≤ 1

-- Each call puts no reply out or, by taking, the one that is pending.
-- Only an accepted start of the main processor's end drops those that were put out.
abbrev pub CallSends : Ends → EndCall → Type 0
CallSends e (main m) = (ends_after e (main m)).log.sent ≡ cond (restarts m.call (main_made e.main m).answer) [] e.log.sent
CallSends e (supervisor m) =
    let sent = (ends_after e (supervisor m)).log.sent in
    (sent ≡ e.log.sent) ⊎ ((r : Message) × (sent ≡ e.log.sent ++ (r ∷ [])) × SentBy e m r)
