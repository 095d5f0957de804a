-- What I set is what I get. The main processor's end has handed out the answer to a set of a settings key, with result 0.
-- Lookups of the key come behind it. Assumes nothing: these are definitions.
use Rattle.std.specs.Prelude.{◌≡◌, Bool, true, false, cond, List, [], ◌∷◌, ◌++◌, ℕ, ltb, length, drop}
use Rattle.std.proofs.Math.Option.{Option, none, some}
use Rattle.octets.specs.Bytes.{Each}
use Rattle.line.specs.Message.{Message}
use Rattle.line.specs.Frame.{frame}
use Rattle.requester.specs.State.{Request, outstanding, MainState}
use Rattle.requester_claims.specs.View.{main_view}
use Rattle.requester_claims.specs.Histories.{MainMade, main_made}
use Rattle.requester_claims.specs.Numbers.{Frame}
use Rattle.both_claims.specs.Ends.{Ends, EndCall, main, supervisor, EndCallTyped, Log, ends_after, ends_after_all, Begun, Always}
use Rattle.both_claims.specs.Ends.{Any, is_set_of, sets_among, as_message, request_of, puts_request, message_handed, lookup_request}
use Rattle.both_claims.specs.Ends.{GoesOn, WireUnder}
use Rattle.both_claims.specs.Exchanges.{set_request}

-- ---- The calls

pub record SetAndBehind : Type 0 where
  -- both ends as the main processor's end was just started, and the calls since
  pub begun : Ends
  pub earlier : List EndCall
  -- the call of that end that puts the set out, and the calls behind it
  pub set : MainMade
  pub between : List EndCall
  -- the call of that end that hands the set's answer out, and the calls behind it
  pub answered : MainMade
  pub behind : List EndCall

-- both ends as the set is put out, and as its answer is handed out
abbrev pub at_set : SetAndBehind → Ends
at_set s = ends_after_all s.begun s.earlier

abbrev pub at_answer : SetAndBehind → Ends
at_answer s = ends_after_all (ends_after (at_set s) (main s.set)) s.between

-- the calls behind the set, and with the set; all calls since that end was started up to the set's answer, and all of them
abbrev pub behind_set : SetAndBehind → List EndCall
behind_set s = s.between ++ (main s.answered ∷ s.behind)

abbrev pub since_set : SetAndBehind → List EndCall
since_set s = main s.set ∷ behind_set s

abbrev pub to_answer : SetAndBehind → List EndCall
to_answer s = s.earlier ++ (main s.set ∷ (s.between ++ (main s.answered ∷ [])))

abbrev pub all_calls : SetAndBehind → List EndCall
all_calls s = s.earlier ++ since_set s

-- ---- What is asked of them

-- whether a request is a set of key k, under any number
abbrev pub sets_key : ℕ → Option Request → Bool
sets_key k none = false
sets_key k (some q) = is_set_of k (as_message 0 q)

-- A call that puts no new set of key k out.
-- A request that goes out again or, behind a recovery, anew is no new one.
abbrev pub NoNewSet : ℕ → Ends → EndCall → Type 0
NoNewSet k e (main m) = puts_request m.call (main_made e.main m).answer ≡ true → sets_key k (request_of m.call) ≡ false
NoNewSet k e (supervisor m) = Unit {0}

-- a message that is, byte for byte, one of these frames
abbrev pub PutOutIn : List Frame → Message → Type 0
PutOutIn fs m = Any (λ (x : Frame). x.bytes ≡ frame m) fs

-- The sets of key k that the supervisor has read since an earlier moment e.
-- First come such as the main processor's end had put out by then, since its last start.
-- Then come such as it has put out since that moment.
pub record OlderFirst (k : ℕ) (e : Ends) (l : Log) : Type 0 where
  pub older : List Message
  pub newer : List Message
  pub read : sets_among k (drop (length e.log.heard) l.heard) ≡ older ++ newer
  pub older_put : Each (PutOutIn e.log.asked) older
  pub newer_put : Each (PutOutIn (drop (length e.log.asked) l.asked)) newer

abbrev pub OlderFirstAfter : ℕ → Ends → Ends → EndCall → Type 0
OlderFirstAfter k e x t = OlderFirst k e (ends_after x t).log

-- the main processor's end has put a set of key k to the value v out, and has handed out its answer, with result 0
pub record SetDone (k : ℕ) (v : List ℕ) (s : SetAndBehind) : Type 0 where
  pub begins : Begun s.begun
  pub typed : Each EndCallTyped (all_calls s)
  -- What that end saw: the set is put out; it is outstanding as its answer is handed out, and the result is 0.
  -- A recovery may have sent it anew by then, under a newer number: it is the same set.
  pub asked : request_of s.set.call ≡ some (set_request k v)
  pub put-out : puts_request s.set.call (main_made (at_set s).main s.set).answer ≡ true
  pub waiting : outstanding (main_view (at_answer s).main) ≡ some (set_request k v)
  pub reply : Message
  pub handed : let d = main_made (at_answer s).main s.answered in message_handed d.answer d.out ≡ some reply
  pub result : reply.payload ≡ 0 ∷ []
  -- From when the set was first put out: no accepted start of either end and no accepted restore.
  pub goes_on : Always GoesOn (at_set s) (since_set s)
  -- That end puts no other set of key k out.
  pub no_other : Always (NoNewSet k) (ends_after (at_set s) (main s.set)) (behind_set s)
  -- None of anyone else's is read, and none that was put out before this one is read behind it.
  -- Copies of this one may come again, in any order.
  pub older_first : Always (OlderFirstAfter k (at_set s)) (at_set s) (since_set s)
  -- The wire is as `WireUnder` says of the number under which the set's answer is handed out.
  pub wire : Always (WireUnder (main_view (at_answer s).main).newest) s.begun (to_answer s)

-- ---- What follows

-- a lookup's answer where the key has the value v: result 3 where it is longer than maxresponse, else 0 and the value
abbrev pub value_answer : ℕ → List ℕ → List ℕ
value_answer most v = cond (ltb most (length v)) (3 ∷ []) (0 ∷ v)

-- the answer to this lookup is v
abbrev pub GetsValue : ℕ → ℕ → List ℕ → MainState → Log → Message → Type 0
GetsValue k most v s l r = outstanding s ≡ some (lookup_request k most) → r.payload ≡ value_answer most v
