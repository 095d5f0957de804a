-- One exchange in which nothing is lost, from both ends at rest. What was put out and read after each of its calls is in order.
-- The reply is handed out, and both ends are at rest again. Assumes nothing.
use mathlib.Core.Path.{◌≡◌, refl, sym, ap, ◌∙◌}
use mathlib.Core.Bool.{Bool, true, false}
use mathlib.Core.List.{List, [], ◌∷◌, ◌++◌, append-nil}
use mathlib.Core.Option.{none, some}
use Prim.Native.Nat.{ℕ, suc}
use native.Mathlib.Omega.{arith}
use lib.Dec.{ltb}
use lib.ListN.{length, take}
use lib.Seq.{take-length}
use borrow.Author.Tests.{ltb-true, ltb-false}
use Rattle.octets.specs.Bytes.{Each, Byte}
use Rattle.line.specs.Limits.{longest_form}
use Rattle.line.specs.Message.{Message, InRange}
use Rattle.line.specs.Frame.{frame, form, split}
use Rattle.line_claims.specs.Calls.{gathered}
use Rattle.requester.specs.Layout
use Rattle.requester.specs.State.{Request, request_frame, MainState, main_state}
use Rattle.requester.specs.Calls as MainCalls
use Rattle.requester.specs.Requester
use Rattle.requester.specs.Requester.{reply_sequence}
use Rattle.requester_claims.specs.View.{main_view}
use Rattle.requester_claims.specs.Histories.{MainDid, main_enough, main_made, main_meant, main_meant_made}
use Rattle.requester_claims.specs.Histories as Main
use Rattle.requester_claims.proofs.History as MainHistory
use Rattle.requester_claims.specs.Numbers.{Frame, frames_put_out}
use Rattle.supervisor.specs.State.{State}
use Rattle.supervisor.specs.Calls as SupervisorCalls
use Rattle.responder.specs.Requests.{verdict, reply_of}
use Rattle.supervisor_claims.specs.View.{view}
use Rattle.supervisor_claims.specs.Sound.{Sound}
use Rattle.supervisor_claims.specs.Histories as Supervisor
use Rattle.supervisor_claims.specs.LastSet.{accepts_restore, records_restored}
use Rattle.supervisor_claims.specs.FrameHistory as Received
use Rattle.supervisor_claims.specs.FrameHistory.{frames_carried}
use Rattle.line.specs.Judge.{progress_of}
use Rattle.supervisor_claims.proofs.calls.SendingClaim.{frame-bytes}
use Rattle.supervisor_claims.proofs.claims.History as SupervisorHistory
use Rattle.supervisor_claims.proofs.claims.InOrder.{lined}
use Rattle.line.proofs.Judged.{tail-over, tail_within}
use Rattle.supervisor_claims.specs.Replies.{reply_by, taken_bytes}
use Rattle.supervisor_claims.proofs.claims.LastSetLaws.{frames-owed}
use Rattle.supervisor_claims.proofs.laws.TakenAll.{Quiet, larger-room, after-all, frame-last}
use Rattle.both_claims.specs.Ends
use Rattle.both_claims.specs.Ends.{GoesOn, got, over, InOrderAfter, reply_message, newest_reply, brought, as_message}
use Rattle.both_claims.specs.Ends.{ends_after, ends_after_all, Always, EndCallTyped}
use Rattle.both_claims.proofs.laws.FrameHeard.{answers-kept}
use Rattle.both_claims.proofs.RoundTrip.{Waiting, next-number, asked-calm, waiting, replied-stays, reply-heard, whole-heard}
use Rattle.both_claims.proofs.RoundTrip.{delivered-parts, reply-waits, reply-taken}
use Rattle.both_claims.specs.RoundTrip.{Delivery, Taking, all_received}
use Rattle.both_claims.proofs.laws.Lists.{none-some, more-among, both-among}
use Rattle.both_claims.proofs.laws.Table.{frame-some}
use Rattle.both_claims.proofs.laws.MainCalls.{no-restart}
use Rattle.both_claims.proofs.laws.SupervisorFrames.{frames-none}
use Rattle.both_claims.proofs.laws.BothCalls.{Both, keeps-both}
use Rattle.both_claims.proofs.laws.Logged.{Logged, logged, logged-in-order, main-logs, supervisor-logs, brought-none, brought-one}
use Rattle.both_claims.proofs.laws.Logged.{some_left, none_left}
use Rattle.both_claims.proofs.laws.Logged.{frames-one, frames-whole, rest-whole, good-whole, good_of}
use Rattle.both_claims.specs.Exchanges.{Exchange, exchange_request, request_bytes, exchange_delivery, exchange_take, reply_bytes_taken}
use Rattle.both_claims.specs.Exchanges.{exchange_answer, exchange_calls, all_handed}
use Rattle.both_claims.specs.Ends.{InOrder}

-- ---- between two exchanges

-- none is outstanding, neither reader stands inside a frame, nothing is pending and no 00 is owed; what was read so far came in order
pub record AtRest (e : Ends.Ends) : Type 0 where
  pub both : Both e
  pub idle : let s = main_view e.main in s ≡ main_state s.newest none none false (some [])
  pub between : (view e.supervisor).received ≡ some []
  pub whole : (split e.log.received).rest ≡ []
  pub quiet : Quiet (view e.supervisor)
  pub in_order : InOrder e.log

-- bytes of a frame of which none has come
tail_none : (bs : List ℕ) → progress_of bs ≡ some [] → bs ≡ []
tail_none bs e = by (ltb longest_form (length bs)) refl
  where
    by : (over : Bool) → ltb longest_form (length bs) ≡ over → bs ≡ []
    by true k = absurd (none-some (sym (tail-over bs (ltb-true _ _ k)) ∙ e))
    by false k = let f : some bs ≡ some [] = sym (tail_within bs (ltb-false _ _ k)) ∙ e in cc

both-after : (e : Ends.Ends) → Both e → (ts : List Ends.EndCall) → Each EndCallTyped ts → Both (ends_after_all e ts)
unfolding ends_after_all
both-after e both [] typed = both
both-after e both (t ∷ ts) typed = both-after (ends_after e t) (keeps-both e both t typed.0) ts typed.1

module _ (e : Ends.Ends) (rest : AtRest e) (x : Exchange e) where
  abbrev q : Request
  q = x.request

  abbrev r : Message
  r = x.reply

  abbrev asks : MainDid
  asks = main_made e.main (exchange_request x)

  abbrev n : ℕ
  n = Layout.newest_number asks.parts.requester

  abbrev m : Message
  m = as_message n q

  abbrev e₁ : Ends.Ends
  e₁ = ends_after e (Ends.main (exchange_request x))

  abbrev e₂ : Ends.Ends
  e₂ = ends_after e₁ (Ends.supervisor (exchange_delivery x))

  abbrev e₃ : Ends.Ends
  e₃ = ends_after e₂ (Ends.supervisor (exchange_take x))

  abbrev e₄ : Ends.Ends
  e₄ = ends_after e₃ (Ends.main (exchange_answer x))

  -- ---- the request

  main-between : (main_view e.main).received ≡ some []
  main-between = ap (λ (s : MainState). s.received) rest.idle

  waits-for : Waiting asks.parts q (request_bytes x)
  waits-for =
      waiting e.main rest.both.main x.request_lent q.command q.payload x.room x.count main-between
      x.request_typed.0 x.request_typed.1 (replied-stays x.image (view e.supervisor) m r x.earns) x.put

  whole-frame : request_bytes x ≡ frame m
  unfolding request_frame
  whole-frame = waits-for.put

  abbrev put-frame : Frame
  put-frame = record { number = n; bytes = request_bytes x }

  first-log : Logged e₁.log e.log.read (e.log.asked ++ (put-frame ∷ [])) e.log.received e.log.heard e.log.pending
      e.log.sent
  unfolding ends_after
  first-log =
      let f = frames-one x.count asks.out n (rw whole-frame (let k = frame-some m in omega (arith, k))) in
      rw x.put (rw (f, append-nil e.log.read)
      at (main-logs (logged e.log) (Main.request q.command q.payload x.room) (Main.put x.count) asks.out n refl))

  -- ---- its frame

  received-whole : Received.bytes_received_by (exchange_delivery x) ≡ frame m
  unfolding Received.bytes_received_by Received.piece_read
  received-whole = rw x.frame_enough whole-frame

  put-bytes : Each Byte (request_bytes x)
  put-bytes = rw whole-frame (frame-bytes m waits-for.in_range.typed.payload)

  unfoldable delivery : Delivery x.image (frame m)
  unfolding all_received frame
  delivery = record {
    before = [];
    last = exchange_delivery x;
    before_typed = tt;
    last_typed = (x.image-bytes, put-bytes);
    receive = tt;
    with_image = refl;
    ahead = form m;
    closed = received-whole;
    whole = received-whole;
  }

  abbrev q₂ : SupervisorCalls.Parts
  q₂ = (Supervisor.made e.supervisor (exchange_delivery x)).parts

  -- the reply alone is pending
  record Replied : Type 0 where
    sound : Sound q₂
    between : (view q₂).received ≡ some []
    pending : (view q₂).pending ≡ frame r
    none-owed : (view q₂).terminator_owed ≡ false

  replied : Replied
  unfolding Supervisor.left delivery frames_carried
  replied =
      let s = rest.both.supervisor in
      let d = delivered-parts e.supervisor s rest.between x.image m x.passed r x.earns delivery in
      record {
        sound = d.0;
        between = ap (λ (y : State). y.received) d.1;
        pending =
            reply-waits e.supervisor s rest.between x.image m x.passed r x.earns delivery
            ∙ rw rest.quiet.terminator_owed;
        none-owed =
            ap (λ (y : State). y.terminator_owed) d.1 ∙ frames-owed x.image (form m ∷ []) (view e.supervisor)
            ∙ rest.quiet.terminator_owed;
      }

  second-log : Logged e₂.log e.log.read (e.log.asked ++ (put-frame ∷ [])) (e.log.received ++ frame m) (e.log.heard ++ (m ∷ []))
      (some r) e.log.sent
  unfolding ends_after Received.starts_anew Received.is_accepted_start reply_by reply_of
  second-log =
      let made : reply_message (reply_by x.image (view e.supervisor) (verdict (form m))) ≡ some r = rw x.passed x.earns in
      let frames : Received.frames_closed_by e.log.received (Received.bytes_received_by (exchange_delivery x)) ≡ form m ∷ [] =
      rw received-whole (frames-whole e.log.received rest.whole m) in
      let w = supervisor-logs first-log (view e.supervisor) (exchange_delivery x) (view q₂).pending (rw x.frame_enough) in
      let o =
      brought-one e₁.log (view e.supervisor) (exchange_delivery x) (form m) (rw first-log.receives frames) r made
      e.log.pending in
      let p = some_left (view q₂).pending (rw replied.pending (frame-some r)) _ r o in
      record {
        reads = w.reads;
        asks = w.asks;
        receives = w.receives ∙ rw received-whole;
        hears = w.hears ∙ rw (frames, good_of m waits-for.in_range);
        waits = w.waits ∙ p.0;
        sends = w.sends ∙ rw (p.1, append-nil e.log.sent);
      }

  -- ---- its reply

  abbrev q₃ : SupervisorCalls.Parts
  q₃ = (Supervisor.made q₂ (exchange_take x)).parts

  all-taken : view q₃ ≡ lined (view q₂) (some []) [] false
  unfolding Supervisor.meant_made Supervisor.meant
  all-taken =
      let k = rw x.take_enough at (SupervisorHistory.one_call q₂ (exchange_take x) replied.sound x.space_bytes).leaves.0 in
      k
      ∙ (larger-room (view q₂) (length x.space) (rw replied.pending x.long)).1
      ∙ after-all (view q₂)
      ∙ rw (replied.between, replied.pending, replied.none-owed, frame-last r)

  third-log : Logged e₃.log e.log.read (e.log.asked ++ (put-frame ∷ [])) (e.log.received ++ frame m) (e.log.heard ++ (m ∷ []))
      none (e.log.sent ++ (r ∷ []))
  unfolding ends_after Received.starts_anew Received.is_accepted_start Received.bytes_received_by Received.piece_read gathered
  third-log =
      let w₂ = e.log.received ++ frame m in
      let none-brought : Received.frames_closed_by e₂.log.received (Received.bytes_received_by (exchange_take x)) ≡ [] =
      rw x.take_enough (frames-none e₂.log.received) in
      let w = supervisor-logs second-log (view q₂) (exchange_take x) (view q₃).pending (rw x.take_enough) in
      let o : newest_reply (some r) (brought e₂.log (view q₂) (exchange_take x)) ≡ some r =
      rw (brought-none e₂.log (view q₂) (exchange_take x) none-brought) in
      let p = none_left (view q₃).pending (ap (λ (s : State). s.pending) all-taken) _ r o in
      record {
        reads = w.reads;
        asks = w.asks;
        receives = w.receives ∙ rw (x.take_enough, append-nil w₂);
        hears = w.hears ∙ rw (x.take_enough, frames-none w₂, append-nil (e.log.heard ++ (m ∷ [])));
        waits = w.waits ∙ p.0;
        sends = w.sends ∙ rw p.1;
      }

  taken-whole : reply_bytes_taken x ≡ frame r
  unfolding Supervisor.left Supervisor.outputs taken_bytes delivery
  taken-whole =
      let s = rest.both.supervisor in
      let t : Taking q₂ = record {
        takes = exchange_take x ∷ [];
        typed = (x.space_bytes, tt);
        take = ((x.space, refl), tt);
        all = ap (λ (y : State). y.pending) all-taken;
      } in
      sym (append-nil (reply_bytes_taken x)) ∙ reply-taken e.supervisor s rest.between x.image m x.passed r x.earns delivery t
      ∙ rw rest.quiet.terminator_owed

  abbrev hears : MainDid
  hears = main_made asks.parts (exchange_answer x)

  answers : InRange r × (r.sequence ≡ reply_sequence (main_view asks.parts).newest) × (r.command ≡ 0x02 → ⊥)
  answers =
      whole-heard e.supervisor rest.both.supervisor rest.between asks.parts q (request_bytes x) waits-for x.image
      x.image-bytes x.passed r x.earns

  -- the reply is handed out, and none is outstanding
  record Answered : Type 0 where
    answer : hears.answer
        ≡ Main.received (length (frame r)) (MainCalls.answered r.version r.sequence r.command (length r.payload)) none false
    out : hears.out ≡ r.payload
    state : main_view hears.parts ≡ main_state (main_view asks.parts).newest none none false (some [])

  answered : Answered
  unfolding main_meant_made main_meant MainCalls.handed_report_of Main.handed_data
  answered =
      let w = waits-for in
      let enough : main_enough (Main.receive (reply_bytes_taken x)) x.reply_lent ≡ true = rw taken-whole x.reply_enough in
      let f = reply-heard asks.parts w.valid w.between r answers.0 x.first answers.1 answers.2 in
      let calm =
      asked-calm e.main rest.both.main x.request_lent q.command q.payload x.room x.count x.put in
      let z = answers-kept (main_view asks.parts) q r calm w.waits w.between in
      let h = ap (Requester.receive (main_view asks.parts)) taken-whole ∙ f ∙ ap (Requester.main_received (length (frame r))) z in
      let k = MainHistory.one_call asks.parts (exchange_answer x) w.valid in
      record { answer = rw (enough, h) at k.answer; out = rw (enough, h) at k.out; state = rw (enough, h) at k.state }

  fourth-log : Logged e₄.log (e.log.read ++ frame r) (e.log.asked ++ (put-frame ∷ [])) (e.log.received ++ frame m)
      (e.log.heard ++ (m ∷ [])) none (e.log.sent ++ (r ∷ []))
  unfolding ends_after frames_put_out
  fourth-log =
      let c = (exchange_answer x).call in
      let k =
      main-logs third-log c hears.answer hears.out (Layout.newest_number hears.parts.requester)
      (no-restart c refl hears.answer) in
      record {
        reads = k.reads ∙ rw (answered.answer, taken-whole, take-length);
        asks = k.asks ∙ rw (answered.answer, append-nil (e.log.asked ++ (put-frame ∷ [])));
        receives = k.receives;
        hears = k.hears;
        waits = k.waits;
        sends = k.sends;
      }

  -- ---- in order

  pub exchange-typed : Each EndCallTyped (exchange_calls x)
  exchange-typed =
      (x.request_typed, ((x.image-bytes, put-bytes), (x.space_bytes, (rw taken-whole (frame-bytes r answers.0.typed.payload), tt))))

  pub exchange-in-order : Always InOrderAfter e (exchange_calls x)
  exchange-in-order =
      let l = e.log in
      let o = rest.in_order in
      let whole-read = tail_none _ (sym rest.both.kept.progress ∙ main-between) in
      let asked = more-among frame (λ (y : Frame). y.bytes) l.heard l.asked o.to_supervisor put-frame in
      let heard = both-among frame (λ (y : Frame). y.bytes) l.heard l.asked o.to_supervisor m put-frame whole-frame in
      let sent = more-among frame frame (got l) l.sent o.to_main r in
      let read = both-among frame frame (got l) l.sent o.to_main r r refl in
      let last = logged-in-order fourth-log heard (rw (good-whole l.read whole-read r answers.0) read) in (
        logged-in-order first-log asked o.to_main,
        (logged-in-order second-log heard o.to_main, (logged-in-order third-log heard sent, (last, tt))),
      )

  pub exchange-rest : AtRest (ends_after_all e (exchange_calls x))
  unfolding ends_after_all ends_after
  exchange-rest = record {
    both = both-after e rest.both (exchange_calls x) exchange-typed;
    idle = rw answered.state;
    between = ap (λ (s : State). s.received) all-taken;
    whole = rw fourth-log.receives (rest-whole e.log.received rest.whole m);
    quiet =
        record { pending = ap (λ (s : State). s.pending) all-taken; terminator_owed = ap (λ (s : State). s.terminator_owed) all-taken };
    in_order = exchange-in-order.1.1.1.0;
  }

  pub exchange-goes-on : Always GoesOn e (exchange_calls x)
  unfolding ends_after Received.starts_anew Received.is_accepted_start accepts_restore records_restored
  exchange-goes-on =
      let b = x.frame_enough in
      let t = x.take_enough in (
        no-restart (exchange_request x).call refl asks.answer,
        (
          record { no_start = rw b; no_restore = rw b },
          (record { no_start = rw t; no_restore = rw t }, (no-restart (exchange_answer x).call refl hears.answer, tt)),
        ),
      )

  -- a number was taken
  pub exchange-number : (main_view (ends_after_all e (exchange_calls x)).main).newest ≡ suc (main_view e.main).newest
  unfolding ends_after_all ends_after
  exchange-number =
      ap (λ (s : MainState). s.newest) answered.state
      ∙ sym waits-for.newest
      ∙ next-number e.main rest.both.main x.request_lent q.command q.payload x.room x.count x.put

  pub exchange-handed : all_handed e (exchange_calls x) ≡ r ∷ []
  unfolding all_handed ends_after
  exchange-handed = rw (x.put, answered.answer, answered.out)
