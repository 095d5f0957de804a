-- In a capture at the calls, a reply taken whole between two frames is judged exactly where no other frame may have earned its number.
-- Assumes the statements of `Fitting`, which `judged_exactly` takes.
use mathlib.Core.Path.{◌≡◌, refl, sym, ap, subst, ◌∙◌}
use mathlib.Core.Bool.{true, false, false≢true}
use mathlib.Core.List.{List, [], ◌∷◌, ◌++◌, append_assoc, append-nil}
use mathlib.Core.Option.{Option, some}
use Prim.Native.Nat.{ℕ}
use native.Mathlib.Omega.{arith}
use Rattle.octets.specs.Bytes.{Each, Byte}
use Rattle.octets.proofs.Each.{each_append}
use Rattle.both_claims.proofs.laws.Lists.{each_left}
use Rattle.line.specs.Message.{InRange}
use Rattle.line.specs.Frame.{split}
use Rattle.line.specs.Judge.{progress_of}
use Rattle.supervisor.specs.State.{State}
use Rattle.supervisor.specs.Calls.{Parts}
use Rattle.responder.specs.Requests.{Verdict, Reply, verdict, verdict_since, receive_byte, receive_stream, owed, reply_frame}
use Rattle.supervisor_claims.specs.View.{factory_of, view}
use Rattle.supervisor_claims.specs.Sound.{Bytes, Sound}
use Rattle.supervisor_claims.specs.Histories as Histories
use Rattle.supervisor_claims.specs.Histories.{Typed, done, Lent, Made, enough, made, left, meant, meant_made, AllTyped}
use Rattle.supervisor_claims.specs.Histories.{receive_with, start_with}
use Rattle.supervisor_claims.specs.FrameHistory.{piece_read, is_accepted_start, bytes_received_by, starts_anew, received_since_all}
use Rattle.supervisor_claims.specs.LastSet.{accepts_restore}
use Rattle.supervisor_claims.specs.Replies.{reply_by}
use Rattle.supervisor_claims.proofs.laws.Progress.{Since, called}
use Rattle.supervisor_claims.proofs.claims.History.{one_call, history}
use Rattle.supervisor_claims.proofs.claims.InOrder.{stream-append}
use Rattle.supervisor_claims.proofs.claims.FramesClaim.{by_frames, closed-verdict}
use Rattle.tap.specs.Capture.{Tick, towards, ticks_towards, ticks_from, tick, tick_towards, nothing_come}
use Rattle.tap.specs.Tap.{Newest, Tap, tap_asked, due_of, Listed, listing_of}
use Rattle.tap_claims.specs.Captures.{ticks_of_call, capture_of}
use Rattle.tap_claims.specs.Moments.{Moment, at_first, moment_behind, moment_after, listed_from}
use Rattle.tap_claims.specs.Claims.{BringsNoFrame, NoneCutOff, message_of, JudgedExactly}
use Rattle.tap_claims.proofs.ReplyRanges.{reply-number, reply-range}
use Rattle.tap_claims.proofs.JudgedBytes.{moment-append}
use Rattle.tap_claims.proofs.System.{Core, core, carried}
use Rattle.tap_claims.proofs.Reached.{read-frame}
use Rattle.tap_claims.proofs.Invariant.{Fitting, Inv, settled, parted, awaiting}
use Rattle.tap_claims.proofs.StepSeen.{asked-so}
use Rattle.tap_claims.proofs.StepRead.{form_of}
use Rattle.tap_claims.proofs.AtTheCalls.{SureTap, At, at-calls}
use Rattle.tap_claims.proofs.ReplyTaken.{answers_in, listed-pending, EndsJudged, taken-ends}

-- ---- calls behind calls

left-append : (p : Parts) (ms ns : List Made) → left p (ms ++ ns) ≡ left (left p ms) ns
unfolding left
left-append p [] ns = refl
left-append p (m ∷ ms) ns = left-append (made p m).parts ms ns

capture-append : (p : Parts) (ms ns : List Made) → capture_of p (ms ++ ns) ≡ capture_of p ms ++ capture_of (left p ms) ns
unfolding capture_of left
capture-append p [] ns = refl
capture-append p (m ∷ ms) ns =
    ap (λ (ts : List Tick). ticks_of_call m (made p m) ++ ts) (capture-append (made p m).parts ms ns)
    ∙ sym (append_assoc (ticks_of_call m (made p m)) (capture_of (made p m).parts ms) (capture_of (left (made p m).parts ms) ns))

-- ---- a receive

towards-append : (bs cs : List ℕ) → ticks_towards (bs ++ cs) ≡ ticks_towards bs ++ ticks_towards cs
unfolding ticks_towards
towards-append [] cs = refl
towards-append (b ∷ bs) cs = ap (λ (ts : List Tick). towards b ∷ ts) (towards-append bs cs)

module _ (q : Parts) (s : Sound q) (j : Lent) (image : List ℕ) (piece : List ℕ) (typed : Typed (Histories.receive image piece))
    (e : enough (Histories.receive image piece) j ≡ true) where
  abbrev c : Made
  c = receive_with image j piece

  received : ((made q c).answer ≡ done) × (view (made q c).parts ≡ receive_stream image (view q) piece) × Sound (made q c).parts
  unfolding meant_made meant
  received = let k = rw e at (one_call q c s typed) in (k.answer, k.leaves.0, k.leaves.1)

  receive-ticks : capture_of q (c ∷ []) ≡ ticks_towards piece
  unfolding capture_of ticks_of_call starts_anew accepts_restore bytes_received_by is_accepted_start piece_read ticks_from
  receive-ticks = rw (e, received.0, append-nil (ticks_towards piece ++ []), append-nil (ticks_towards piece))

-- what is listed of bytes that are pending at a moment
abbrev listed_of : Moment → List ℕ → List Listed
listed_of x pending = listing_of x.tap (answers_in x.begun.from x.begun.quiet x.begun.unmarked pending)

-- ---- at a moment where the tap is sure, the 00 of a frame that is not empty

module _ (s : State) (y : Moment) (h : At s y) (v : Verdict) (e : verdict_since s.received ≡ some v) where
  abbrev x : Moment
  x = moment_behind y (towards 0)

  -- what has come of the frame is what was received of it
  towards-is : y.begun.towards ≡ s.received
  towards-is = by h.inv
    where
      by : Inv y.begun y.tap (core s) [] [] → y.begun.towards ≡ s.received
      by (settled u a f k) = f
      by (parted u [] rest a n d f p) = let z : ◌≡◌ {A = ℕ} 0 1 = cc in absurd (omega arith)
      by (parted u (b ∷ first) rest a n d f p) = let z : ◌≡◌ {A = ℕ} 0 1 = cc in absurd (omega arith)
      by (awaiting most inside a n l k) =
          absurd (false≢true (sym h.sure.0 ∙ ap (λ (t : Tap). t.awaiting) a))

  behind-tap : x.tap ≡ tap_asked y.tap v
  unfolding moment_behind tick tick_towards
  behind-tap = (asked-so y.tap y.begun.towards h.sure.0).1 ∙ rw (towards-is, e)

  -- the reply
  module _ (image : List ℕ) (each : Each Byte image) (r : Reply) (g : reply_by image s v ≡ some r) where
    abbrev newest : Newest
    newest = record { verdict = v; due = due_of y.tap.known v }

    range : InRange (message_of r)
    range =
        let f = form_of s.received h.reached.nonzero v e in
        reply-range image s f.form h.reached.held each f.nonzero r (rw f.is g)

    asked-sure : SureTap (tap_asked y.tap v)
    unfolding tap_asked
    asked-sure = (refl, h.sure.1)

    asked-newest : (tap_asked y.tap v).newest ≡ some newest
    unfolding tap_asked
    asked-newest = refl

    reply-ends : (pending : List ℕ) → pending ≡ owed s.terminator_owed ++ reply_frame (some r)
        → (s.terminator_owed ≡ false → nothing_come x.begun.from ≡ true)
        → EndsJudged x.tap.fresh v (message_of r) (listed_of x pending)
    unfolding moment_behind tick tick_towards reply_frame
    reply-ends pending f n =
        rw (behind-tap, f)
        (taken-ends (tap_asked y.tap v) asked-sure newest asked-newest (message_of r) range (reply-number image s v r g)
        y.begun.from y.begun.unmarked s.terminator_owed n)

-- ---- behind any calls from an accepted start

module _ (F : Fitting) (p : Parts) (bytes : Bytes p) (l : Lent) (d : List ℕ) (typed : Typed (Histories.start d))
    (accepted : (made p (start_with l d)).answer ≡ done) (ms : List Made) (t : AllTyped ms) where
  abbrev q : Parts
  q = left (made p (start_with l d)).parts ms

  sound : Sound q
  sound = (history p bytes l d typed accepted ms t).2

  since : Since (split (received_since_all [] ms)).rest (view q)
  since = rw (history p bytes l d typed accepted ms t).1 (by_frames (factory_of d) ms).2

  -- the moment behind them, and behind a call more
  abbrev there : Moment
  there = moment_after at_first (capture_of p (start_with l d ∷ ms))

  abbrev behind : Made → Moment
  behind m = moment_after at_first (capture_of p (start_with l d ∷ (ms ++ (m ∷ []))))

  behind-receive : (j : Lent) (image piece : List ℕ) → Typed (Histories.receive image piece)
      → enough (Histories.receive image piece) j ≡ true
      → behind (receive_with image j piece) ≡ moment_after there (ticks_towards piece)
  unfolding left
  behind-receive j image piece h e =
      ap (moment_after at_first)
      (capture-append p (start_with l d ∷ ms) (receive_with image j piece ∷ [])
      ∙ ap (λ (ts : List Tick). capture_of p (start_with l d ∷ ms) ++ ts) (receive-ticks q sound j image piece h e))
      ∙ moment-append at_first (capture_of p (start_with l d ∷ ms)) (ticks_towards piece)

  -- a receive of bytes and a 00, and one of the bytes alone
  module _ (j : Lent) (image bs : List ℕ) (pieced : Typed (Histories.receive image (bs ++ (0 ∷ []))))
      (e : enough (Histories.receive image (bs ++ (0 ∷ []))) j ≡ true) where
    abbrev ahead : Made
    ahead = receive_with image j bs

    abbrev whole : Made
    whole = receive_with image j (bs ++ (0 ∷ []))

    ahead-typed : Typed (Histories.receive image bs)
    ahead-typed = (pieced.0, each_left Byte bs (0 ∷ []) pieced.1)

    ahead-enough : enough (Histories.receive image bs) j ≡ true
    unfolding enough
    ahead-enough = e

    abbrev s : State
    s = view (made q ahead).parts

    s-is : s ≡ receive_stream image (view q) bs
    s-is = (received q sound j image bs ahead-typed ahead-enough).1

    one_more : view (made q whole).parts ≡ receive_byte image s 0
    unfolding receive_stream
    one_more =
        (received q sound j image (bs ++ (0 ∷ [])) pieced e).1
        ∙ stream-append image (view q) bs (0 ∷ [])
        ∙ ap (λ (z : State). receive_byte image z 0) (sym s-is)

    moment-is : behind whole ≡ moment_behind (behind ahead) (towards 0)
    unfolding moment_after ticks_towards
    moment-is =
        behind-receive j image (bs ++ (0 ∷ [])) pieced e
        ∙ ap (moment_after there) (towards-append bs (0 ∷ []))
        ∙ moment-append there (ticks_towards bs) (ticks_towards (0 ∷ []))
        ∙ ap (λ (z : Moment). moment_behind z (towards 0)) (sym (behind-receive j image bs ahead-typed ahead-enough))

    at_ahead : At s (behind ahead)
    unfolding left
    at_ahead =
        subst (λ (z : Parts). At (view z) (behind ahead)) (left-append (made p (start_with l d)).parts ms (ahead ∷ []))
        (at-calls F p bytes l d typed accepted (ms ++ (ahead ∷ []))
        (each_append (λ (m : Made). Typed m.call) ms (ahead ∷ []) t (ahead-typed, tt)))

    -- the frame that the 00 closes
    module _ (b : ℕ) (f : List ℕ) (closes : (split (received_since_all [] ms ++ bs)).rest ≡ b ∷ f) where
      abbrev v : Verdict
      v = verdict (b ∷ f)

      verdict-is : verdict_since s.received ≡ some v
      unfolding is_accepted_start piece_read meant
      verdict-is =
          let k = (called (received_since_all [] ms) (view q) since (Histories.receive image bs)).received in
          ap verdict_since (ap (λ (z : State). z.received) s-is ∙ k ∙ ap progress_of closes) ∙ closed-verdict (b ∷ f)

      core_is : core (view (made q whole).parts) ≡ carried image s v
      core_is = ap core one_more ∙ read-frame image s v verdict-is

      frame-ends : (r : Reply) → reply_by image s v ≡ some r → (ns : List Made) → AllTyped ns → Each BringsNoFrame ns
          → (view (left (made q whole).parts ns)).pending ≡ [] → NoneCutOff (behind whole) (made q whole).parts
          → EndsJudged (behind whole).tap.fresh v (message_of r) (listed_from (behind whole) (capture_of (made q whole).parts ns))
      frame-ends r g ns nt h over none-cut =
          let pending = (view (made q whole).parts).pending in
          let is : pending ≡ owed s.terminator_owed ++ reply_frame (some r) =
          ap (λ (z : Core). z.pending) core_is ∙ ap (λ (o : Option Reply). owed s.terminator_owed ++ reply_frame o) g in
          let owes = ap (λ (z : Core). z.owes) core_is in
          rw (listed-pending (made q whole).parts (received q sound j image (bs ++ (0 ∷ [])) pieced e).2 ns nt h over (behind whole))
          (subst (λ (z : Moment). EndsJudged z.tap.fresh v (message_of r) (listed_of z pending)) (sym moment-is)
          (reply-ends s (behind ahead) at_ahead v verdict-is image pieced.0 r g pending is (λ n.
          ap (λ (z : Moment). nothing_come z.begun.from) (sym moment-is) ∙ none-cut (owes ∙ n))))

-- ---- the claim

pub judged_exactly : Fitting → JudgedExactly
judged_exactly F p bytes l d typed accepted ms t j image bs pieced e b f closes r g ns nt h over none-cut =
    frame-ends F p bytes l d typed accepted ms t j image bs pieced e b f closes r g ns nt h over none-cut
