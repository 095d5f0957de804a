-- A received stream is its frames, carried out or answered in order, once each, and then the unfinished tail.
-- Assumes nothing.
use mathlib.Core.Path.{◌≡◌, refl, ap, ◌∙◌}
use mathlib.Core.Bool.{Bool, true, false}
use mathlib.Core.List.{List, [], ◌∷◌, ◌++◌, append-nil}
use mathlib.Core.Option.{Option, none, some}
use Prim.Native.Nat.{ℕ, zero, suc, ◌<◌}
use native.Mathlib.Omega.{arith}
use lib.Dec.{ltb, eqb, eqb-suc-zero}
use lib.ListN.{length}
use lib.Seq.{append_snoc}
use borrow.Author.Tests.{ltb-true, ltb-false}
use Rattle.octets.proofs.Conditions.{cond_both}
use Rattle.line.specs.Limits.{longest_form}
use Rattle.line.specs.Numbers.{first_version}
use Rattle.line.specs.Message.{Message}
use Rattle.line.specs.Frame.{split, non_empty}
use Rattle.line.proofs.Pieces.{split-none, split-close, split-more}
use Rattle.supervisor.specs.State.{Retained, State, with_received, with_pending, with_terminator_owed}
use Rattle.supervisor.specs.Local.{lookup, entry_of}
use Rattle.responder.specs.Commands.{Command, command_of_number}
use Rattle.responder.specs.Requests
use Rattle.responder.specs.Requests.{Verdict, failure, good, Carried, verdict, effect, carry_out_by, carry_out, after_verdict, closed}
use Rattle.line.proofs.Judged.{tail-over, tail_within, more-tail, judge-over}
use Rattle.responder.specs.Requests.{receive_byte, receive_stream, owed, reply_frame, sent, reply_of}
use Rattle.supervisor_claims.specs.FrameHistory.{frame_carried, frames_carried, after_all_frames}
use Rattle.line.specs.Judge.{progress_of}
use Rattle.supervisor_claims.specs.Replies.{after_table, reply_by}
use Rattle.supervisor_claims.specs.Demand2.{FramesInOrder, FramesInOrderBehind, RequestCarried, FailureOnlyPending}

-- the stream in cuts
pub stream-append : (image : List ℕ) (s : State) (bs cs : List ℕ)
    → receive_stream image s (bs ++ cs) ≡ receive_stream image (receive_stream image s bs) cs
unfolding receive_stream
stream-append image s [] cs = refl
stream-append image s (b ∷ bs) cs = stream-append image (receive_byte image s b) bs cs

-- ---- a request neither looks at the receive progress, the pending bytes and the last taken byte nor changes them

-- a state with these as given
abbrev pub lined : State → Option (List ℕ) → List ℕ → Bool → State
lined s received pending terminator_owed = with_terminator_owed (with_pending (with_received s received) pending) terminator_owed

-- c is what d is, with these as given
pub record Lined (received : Option (List ℕ)) (pending : List ℕ) (terminator_owed : Bool) (c d : Carried) : Type 0 where
  pub state : c.state ≡ lined d.state received pending terminator_owed
  pub reply : c.reply ≡ d.reply

module _ (received : Option (List ℕ)) (pending : List ℕ) (terminator_owed : Bool) (s : State) where
  abbrev Alike : Carried → Carried → Type 0
  Alike = Lined received pending terminator_owed

  abbrev other : State
  other = lined s received pending terminator_owed

  alert-lined : (version sequence : ℕ) (r : Option Retained)
      → Alike (Requests.alert_asked version other sequence r) (Requests.alert_asked version s sequence r)
  unfolding Requests.alert_asked Requests.alert_taken
  alert-lined version sequence none = record { state = refl; reply = refl }
  alert-lined version sequence (some r) =
      cond_both Alike (eqb r.sequence sequence) (λ e. record { state = refl; reply = refl }) (λ e. record { state = refl; reply = refl })

  effect-lined : (image : List ℕ) (m : Message) (x : Command) → Alike (effect x image other m) (effect x image s m)
  unfolding effect Requests.reboot Requests.power_off Requests.boot_failure Requests.panicked Requests.start_acknowledged Requests.key_set
      lookup entry_of
  effect-lined image m Command.reboot = record { state = refl; reply = refl }
  effect-lined image m Command.power-off = record { state = refl; reply = refl }
  effect-lined image m Command.bsu = record { state = refl; reply = refl }
  effect-lined image m Command.identity = record { state = refl; reply = refl }
  effect-lined image m Command.mac = record { state = refl; reply = refl }
  effect-lined image m Command.boot-failure = record { state = refl; reply = refl }
  effect-lined image m Command.panic = record { state = refl; reply = refl }
  effect-lined image m Command.status = record { state = refl; reply = refl }
  effect-lined image m Command.start-acknowledged = record { state = refl; reply = refl }
  effect-lined image m Command.alert = alert-lined m.version m.sequence s.retained
  effect-lined image m Command.image_block = record { state = refl; reply = refl }
  effect-lined image m Command.key_lookup = record { state = refl; reply = refl }
  effect-lined image m Command.inventory = record { state = refl; reply = refl }
  effect-lined image m Command.key_set = record { state = refl; reply = refl }

  pub carried-lined : (image : List ℕ) (m : Message)
      → Lined received pending terminator_owed (carry_out image other m) (carry_out image s m)
  unfolding carry_out
  carried-lined image m = by (command_of_number m.command)
    where
      by : (o : Option Command) → Alike (carry_out_by o image other m) (carry_out_by o image s m)
      by none = record { state = refl; reply = refl }
      by (some x) = effect-lined image m x

-- ---- a frame, by the verdict on it

module _ (image : List ℕ) (s : State) where
  pub done-lined : (received : Option (List ℕ)) (pending : List ℕ) (terminator_owed : Bool) (v : Verdict)
      → after_table image (lined s received pending terminator_owed) v ≡ lined (after_table image s v) received pending terminator_owed
  unfolding after_table
  done-lined received pending terminator_owed (failure reason version sequence) = refl
  done-lined received pending terminator_owed (good m) = (carried-lined received pending terminator_owed s image m).state

  pub reply-lined : (received : Option (List ℕ)) (pending : List ℕ) (terminator_owed : Bool) (v : Verdict)
      → reply_by image (lined s received pending terminator_owed) v ≡ reply_by image s v
  unfolding reply_by
  reply-lined received pending terminator_owed (failure reason version sequence) = refl
  reply-lined received pending terminator_owed (good m) =
      ap (reply_of m.sequence) (carried-lined received pending terminator_owed s image m).reply

  -- pending is then a 00 where one is owed, and the reply; the receive progress and the last taken byte are as before
  pub judged-is : (v : Verdict)
      → after_verdict image s v
      ≡ lined (after_table image s v) s.received (owed s.terminator_owed ++ reply_frame (reply_by image s v)) s.terminator_owed
  unfolding after_verdict sent after_table reply_by
  judged-is (failure reason version sequence) = refl
  judged-is (good m) =
      let c = (carried-lined s.received s.pending s.terminator_owed s image m).state in
      let r : (carry_out image s m).state.received ≡ s.received = ap (λ (x : State). x.received) c in
      let o : (carry_out image s m).state.terminator_owed ≡ s.terminator_owed = ap (λ (x : State). x.terminator_owed) c in
      rw (r, o)

pub judged-receiving : (image : List ℕ) (s : State) (r : Option (List ℕ)) (v : Verdict)
    → after_verdict image (with_received s r) v ≡ with_received (after_verdict image s v) r
judged-receiving image s r v =
    rw (judged-is image (with_received s r) v, judged-is image s v)
    (rw (done-lined image s r s.pending s.terminator_owed v, reply-lined image s r s.pending s.terminator_owed v))

-- ---- frames

pub request_carried : RequestCarried
unfolding frame_carried after_verdict sent
request_carried image s b bs m e =
    let c = (carried-lined s.received s.pending s.terminator_owed s image m).state in
    let o : (carry_out image s m).state.terminator_owed ≡ s.terminator_owed = ap (λ (x : State). x.terminator_owed) c in
    rw (e, o)

pub failure_only_pending : FailureOnlyPending
unfolding frame_carried after_verdict sent
failure_only_pending image s b bs reason version sequence e = rw e

pub all_framed-append : (image : List ℕ) (s : State) (fs gs : List (List ℕ))
    → frames_carried image s (fs ++ gs) ≡ frames_carried image (frames_carried image s fs) gs
unfolding frames_carried
all_framed-append image s [] gs = refl
all_framed-append image s (f ∷ fs) gs = all_framed-append image (frame_carried image s f) fs gs

pub empty-ignored : (image : List ℕ) (s : State) (fs : List (List ℕ)) → frames_carried image s fs ≡ frames_carried image s (non_empty fs)
unfolding frames_carried frame_carried non_empty
empty-ignored image s [] = refl
empty-ignored image s ([] ∷ fs) = empty-ignored image s fs
empty-ignored image s ((b ∷ bs) ∷ fs) = empty-ignored image (after_verdict image s (verdict (b ∷ bs))) fs

-- ---- one byte more

-- more bytes than a form has
pub verdict-over : (bs : List ℕ) → longest_form < length bs → verdict bs ≡ failure 1 first_version none
unfolding verdict
verdict-over bs h = rw (judge-over bs h)

module _ (image : List ℕ) (s : State) where
  -- the 00 behind bytes
  pub closed-framed : (bs : List ℕ)
      → closed image (with_received s (progress_of bs)) (progress_of bs) ≡ with_received (frame_carried image s bs) (some [])
  unfolding closed frame_carried
  closed-framed [] = rw (tail_within [] (omega arith))
  closed-framed (b ∷ bs) = by (ltb longest_form (length (b ∷ bs))) refl
    where
      by : (over : Bool) → ltb longest_form (length (b ∷ bs)) ≡ over
          → closed image (with_received s (progress_of (b ∷ bs))) (progress_of (b ∷ bs))
          ≡ with_received (after_verdict image s (verdict (b ∷ bs))) (some [])
      by true e =
          let h = ltb-true longest_form (length (b ∷ bs)) e in
          rw (tail-over (b ∷ bs) h, verdict-over (b ∷ bs) h) (judged-receiving image s (some []) (failure 1 first_version none))
      by false e = rw (tail_within (b ∷ bs) (ltb-false _ _ e)) (judged-receiving image s (some []) (verdict (b ∷ bs)))

module _ (image : List ℕ) (s : State) where
  byte-following : (bs : List ℕ) (b : ℕ) → receive_byte image (after_all_frames image s bs) b ≡ after_all_frames image s (bs ++ (b ∷ []))
  unfolding receive_byte frames_carried
  byte-following bs zero =
      let a = frames_carried image s (split bs).closed in
      rw (split-close bs, all_framed-append image s (split bs).closed ((split bs).rest ∷ []), tail_within [] (omega arith))
      (closed-framed image a (split bs).rest)
  byte-following bs (suc b) = rw (eqb-suc-zero, split-more bs b, more-tail (split bs).rest (suc b))

  stream-following : (cs bs : List ℕ) → receive_stream image (after_all_frames image s bs) cs ≡ after_all_frames image s (bs ++ cs)
  unfolding receive_stream
  stream-following [] bs = rw append-nil
  stream-following (c ∷ cs) bs = rw (byte-following bs c, stream-following cs (bs ++ (c ∷ [])), append_snoc)

pub in_order_behind : FramesInOrderBehind
unfolding frames_carried
in_order_behind image s p bs h e =
    let z : s ≡ after_all_frames image s p = rw (split-none p h, ← e) in
    ap (λ (x : State). receive_stream image x bs) z ∙ stream-following image s bs p

pub in_order : FramesInOrder
in_order image s bs e = in_order_behind image s [] bs tt (rw (tail_within [] (omega arith)) e)
