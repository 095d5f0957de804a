-- A good message under the newest number that was put out is the request outstanding, and its reply is that request's.
-- Assumes nothing.
use mathlib.Core.Path.{◌≡◌, sym, ap, ◌∙◌}
use mathlib.Core.Option.{some}
use native.Mathlib.Omega.{arith}
use Rattle.line.specs.Message.{Message, InRange}
use Rattle.line.specs.Frame.{frame}
use Rattle.line.specs.Judge as Line
use Rattle.line.specs.Judge.{judge}
use Rattle.line_claims.proofs.SpellingClaim.{good-form, good_frame}
use Rattle.requester.specs.State.{Request, outstanding, request_frame, MainState}
use Rattle.requester_claims.specs.Answers.{Matching}
use Rattle.requester_claims.specs.Numbers.{Frame}
use Rattle.responder.specs.Requests.{good, verdict}
use Rattle.both_claims.specs.Ends.{reply_to_request, Any, Handled, reply_made, RequestUnder, CarriedOut, as_message}
use Rattle.both_claims.proofs.laws.Lists.{any-so, any-then, each-any}
use Rattle.both_claims.proofs.laws.Ranges.{Ranged, outstanding-ranged, ranged-message}
use Rattle.both_claims.proofs.laws.Table.{frame_same, command-same, passes, replied, number-back}
use Rattle.both_claims.proofs.laws.Kept.{PutOut, Known, HandledFromMain}

module _ (s : MainState) (ranged : Ranged s) (q : Request) (waiting : outstanding s ≡ some q) where
  -- the frame of a message in range that was put out under the newest number is that of the request outstanding
  same-request : (m : Message) → InRange m → m.sequence ≡ s.newest → (x : Frame) → PutOut s x → x.bytes ≡ frame m
      → (x.number ≡ s.newest) × (m ≡ as_message s.newest q)
  unfolding request_frame
  same-request m i e x p f =
      let w = p.ranged in
      let k : m ≡ as_message x.number w.request = frame_same i w.in_range (sym f ∙ w.bytes) in
      let n : x.number ≡ s.newest = sym (ap (λ (y : Message). y.sequence) k) ∙ e in
      let b : request_frame x.number q ≡ x.bytes = p.agrees.same (sym n) q waiting in
      (n, frame_same i (ranged-message s.newest q ranged.newest (outstanding-ranged s ranged q waiting)) (sym f ∙ sym b ∙ rw n))

  abbrev ThatFrame : Message → Frame → Type 0
  ThatFrame m x = (x.number ≡ s.newest) × (x.bytes ≡ frame m) × (m ≡ as_message s.newest q)

  -- a reply to the message m, which was put out
  carried-as : (r : Message) (h : Handled) → Known s h → (m : Message) → verdict h.form ≡ good m → judge h.form ≡ Line.good m
      → reply_to_request h.image h.state m ≡ some r → Any (ThatFrame m) h.asked → CarriedOut s.newest q r h
  unfolding request_frame
  carried-as r h k m v j e a =
      let f : m ≡ as_message s.newest q = any-so (ThatFrame m) (λ x y. y.2) h.asked a in
      record {
        form = good_frame h.form m k.nonzero j ∙ ap frame f;
        passed = v ∙ ap good f;
        put-out = any-then (ThatFrame m) _ (λ x y. (y.0, y.1 ∙ ap frame f)) h.asked a;
        reply = rw f at e;
      }

  -- a message under the newest number that passes the whole table
  module _ (r : Message) (h : Handled) (k : Known s h) (from : HandledFromMain (RequestUnder s.newest) h) where
    pub answered : (m : Message) → verdict h.form ≡ good m → m.sequence ≡ s.newest
        → reply_to_request h.image h.state m ≡ some r → CarriedOut s.newest q r h
    answered m v n e =
        let p = passes h.form m v in
        let i = (good-form h.form m k.nonzero p.judged).1 in
        carried-as r h k m v p.judged e
        (each-any (PutOut s) (λ (x : Frame). x.bytes ≡ frame m) (ThatFrame m)
        (λ x w f. let g = same-request m i n x w f in (g.0, f, g.1)) h.asked k.asked (from m p.judged (n, p.served)))

    -- a reply whose frame is heard as the answer
    pub carried-out : Matching s.newest r.version r.sequence r.command → InRange r → (y : Message) → frame y ≡ frame r
        → reply_made h ≡ some y → CarriedOut s.newest q r h
    unfolding reply_made
    carried-out match i y f e =
        let a =
        replied h.image h.state (verdict h.form) y e
        (λ c. match.no_failure (sym (command-same y r f (omega (arith, c)) i.typed.command) ∙ c)) in
        let m = a.request in
        let z : y ≡ r = frame_same (k.reply m a.passed y a.reply) i f in
        let n = sym a.sequence ∙ ap (λ (x : Message). x.sequence) z ∙ match.reply in
        answered m a.passed (number-back m.sequence s.newest (passes h.form m a.passed).low n) (a.reply ∙ ap some z)
