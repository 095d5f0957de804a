-- Document 02's item 6, from a start on. The bytes up to and with an answer's 00 are exactly the frame of the message handed out.
-- Assumes nothing.
use mathlib.Core.Path.{◌≡◌, refl}
use mathlib.Core.List.{List, [], ◌∷◌, ◌++◌}
use mathlib.Core.Option.{Option, none, some}
use Prim.Native.Nat.{ℕ, suc, ◌≤◌}
use native.Mathlib.Omega.{arith}
use lib.Dec.{leb, ltb, eqb}
use lib.ListN.{length, take}
use borrow.Author.Tests.{eqb-false}
use Rattle.octets.specs.Bytes.{Byte, Each}
use Rattle.octets.proofs.Conditions.{cond-by}
use Rattle.octets.proofs.Each.{each_append, each_take}
use Rattle.line.specs.Limits.{longest_data, longest_form}
use Rattle.line.specs.Message.{Message, InRange}
use Rattle.line.specs.Judge.{judge}
use Rattle.line.specs.Frame.{NonZero}
use Rattle.line_claims.proofs.SpellingClaim.{good-form, good_frame}
use Rattle.line.specs.Judge.{more_received}
use Rattle.requester.specs.Limits.{last_number}
use Rattle.requester.specs.State.{Request, RecoveryStep, MainState, main_fresh, is_some, outstanding, request_frame}
use Rattle.requester.specs.Requester
use Rattle.requester.specs.Requester.{Heard, ground, hear, settle}
use Rattle.requester.specs.Calls
use Rattle.requester.specs.Calls.{HandedReport}
use Rattle.requester_claims.specs.View.{main_view}
use Rattle.requester_claims.specs.Histories
use Rattle.requester_claims.specs.Histories.{MainCall, MainAnswer, refused, done, put, received, stands, MainMeans, main_meant}
use Rattle.requester_claims.specs.Histories.{MainMade, main_made, main_meant_made, main_enough, main_left, main_left_meant}
use Rattle.requester_claims.proofs.MeaningLaws.{positive}
use Rattle.requester_claims.proofs.History.{history}
use Rattle.requester_claims.specs.Histories.{main_started, OfMainStart}
use Rattle.requester_claims.specs.Answers.{OfReport, OfAnswer, MessageMatching}
use Rattle.requester_claims.proofs.AnswerBytes.{answer_bytes}
use Rattle.requester_claims.specs.Item6.{ReadTo00, Comes, InFrame, PieceTyped, AllPiecesTyped, AnswerFrame}

-- ---- the bytes since the last 00 are not 00

abbrev pub Since : Option (List ℕ) → Type 0
Since none = Unit {0}
Since (some xs) = Each NonZero xs

pub moved-received : (x : Requester.Next) (s : MainState) → (Requester.main_moved_to x s).state.received ≡ s.received
unfolding Requester.main_moved_to
moved-received Requester.same s = refl
moved-received Requester.again s = refl
moved-received (Requester.anew t) s =
    cond-by (λ (m : Requester.MainMoved). m.state.received ≡ s.received) (leb last_number s.newest) _ _ (λ _. refl) (λ _. refl)
moved-received Requester.idle s = refl

hears-since : (h : Heard) (s : MainState) → Since s.received → Since (Requester.after_heard h s).state.received
hears-since h s w = rw (moved-received (settle s.recovery (is_some s.kept) h).next s) w

closes-since : (bs : Option (List ℕ)) (s : MainState)
    → Since (Requester.main_closed bs (Requester.main_with_received s (some []))).state.received
closes-since none s = tt
closes-since (some []) s = tt
closes-since (some (b ∷ bs)) s = hears-since (hear s.newest (judge (b ∷ bs))) (Requester.main_with_received s (some [])) tt

received-since : (bs : Option (List ℕ)) (b : ℕ) → NonZero b → Since bs → Since (more_received bs b)
unfolding more_received
received-since none b z w = tt
received-since (some bs) b z w =
    cond-by Since (ltb (length bs) longest_form) _ _ (λ _. each_append NonZero bs (b ∷ []) w (z, tt)) (λ _. tt)

more-since : (bs : Option (List ℕ)) (b : ℕ) (s : MainState) → NonZero b → Since bs → Since (Requester.main_more bs b s).state.received
more-since bs b s z w =
    let r = received-since bs b z w in
    cond-by (λ (x : Requester.MainResult). Since x.state.received) (Requester.fills bs) _ _
    (λ _. hears-since ground (Requester.main_with_received s (more_received bs b)) r) (λ _. r)

byte-since : (s : MainState) (b : ℕ) → Byte b → Since s.received → Since (Requester.main_byte s b).state.received
unfolding Requester.main_byte
byte-since s b h w =
    cond-by (λ (x : Requester.MainResult). Since x.state.received) (eqb b 0) _ _
    (λ _. closes-since s.received s) (λ e. more-since s.received b s (positive b (eqb-false b 0 e), omega arith) w)

receive-since : (piece : List ℕ) (s : MainState) → Each Byte piece → Since s.received
    → Since (Requester.receive s piece).result.state.received
unfolding Requester.receive
receive-since [] s h w = w
receive-since (b ∷ bs) s h w =
    let v = byte-since s b h.0 w in
    cond-by (λ (x : Requester.MainReceived). Since x.result.state.received) (Requester.stops s b) _ _ (λ _. v)
    (λ _. receive-since bs (Requester.main_byte s b).state h.1 v)

-- the calls that receive nothing keep them
module _ (s : MainState) where
  abbrev pub DoneKeeps : Requester.MainDone → Type 0
  DoneKeeps x = x.state.received ≡ s.received

  pub request-keeps : (room : ℕ) (q : Request) → DoneKeeps (Requester.request room q s)
  unfolding Requester.request
  request-keeps room q =
      cond-by DoneKeeps (ltb longest_data (length q.payload)) _ _ (λ _. refl) (λ _.
      cond-by DoneKeeps (is_some (outstanding s)) _ _ (λ _. refl) (λ _.
      cond-by DoneKeeps (leb last_number s.newest) _ _ (λ _. refl) (λ _.
      cond-by DoneKeeps (ltb room (length (request_frame (suc s.newest) q))) _ _ (λ _. refl) (λ _. refl))))

  pub interrupt-keeps : (t : Option RecoveryStep) → DoneKeeps (Requester.interrupted_in t s)
  interrupt-keeps (some t) = refl
  interrupt-keeps none = cond-by DoneKeeps (leb last_number s.newest) _ _ (λ _. refl) (λ _. refl)

  pub send-keeps : (room : ℕ) (q : Option Request) → DoneKeeps (Requester.sent_of room q s)
  send-keeps room none = refl
  send-keeps room (some q) =
      cond-by DoneKeeps s.unsent _ _
      (λ _. cond-by DoneKeeps (ltb room (length (request_frame s.newest q))) _ _ (λ _. refl) (λ _. refl)) (λ _. refl)

  pub put_keeps : (x : Requester.MainDone) (room : List ℕ) → (Histories.put_means x.refusal room x.out x.state).state ≡ x.state
  put_keeps x room = by x.refusal
    where
      by : (k : Option ℕ) → (Histories.put_means k room x.out x.state).state ≡ x.state
      by none = refl
      by (some k) = refl

  meant-since : (c : MainCall) → PieceTyped c → Since s.received → Since (main_meant s c).state.received
  unfolding main_meant main_fresh Requester.interrupt Requester.send
  meant-since Histories.start h w = tt
  meant-since (Histories.request command d room) h w =
      let x = Requester.request (length room) (record { command = command; payload = d }) s in
      rw (put_keeps x room, request-keeps (length room) (record { command = command; payload = d })) w
  meant-since Histories.interrupt h w = rw (interrupt-keeps s.recovery) w
  meant-since (Histories.send room) h w =
      rw (put_keeps (Requester.sent_of (length room) (outstanding s) s) room, send-keeps (length room) (outstanding s)) w
  meant-since (Histories.receive piece) h w = receive-since piece s h w
  meant-since Histories.state h w = w

  pub made-since : (m : MainMade) → PieceTyped m.call → Since s.received → Since (main_meant_made s m).state.received
  unfolding main_meant_made
  made-since m h w =
      cond-by (λ (x : MainMeans). Since x.state.received) (main_enough m.call m.lent) _ _ (λ _. meant-since m.call h w) (λ _. w)

left-since : (s : MainState) (ms : List MainMade) → AllPiecesTyped ms → Since s.received → Since (main_left_meant s ms).received
unfolding main_left_meant
left-since s [] h w = w
left-since s (m ∷ ms) h w = left-since (main_meant_made s m).state ms h.1 (made-since s m h.0 w)

pub fresh-since : Since main_fresh.received
unfolding main_fresh
fresh-since = tt

-- ---- the claim

both : (bs : List ℕ) → Each Byte bs → Each (λ b. 1 ≤ b) bs → Each NonZero bs
both [] h k = tt
both (b ∷ bs) h k = ((k.0, omega (arith, h.0)), both bs h.1 k.1)

module _ (piece : List ℕ) (h : Each Byte piece) (bs : Option (List ℕ)) (w : Since bs) where
  module _ (used : ℕ) (m : Message) (c : Comes piece bs used m) where
    abbrev x : ReadTo00 piece bs used
    x = c.ended

    abbrev read : List ℕ
    read = x.since ++ take x.ahead piece

    read-nonzero : Each NonZero read
    read-nonzero =
        each_append NonZero x.since (take x.ahead piece) (rw x.begun at w)
        (both (take x.ahead piece) (each_take Byte x.ahead piece h) c.whole)

    pub comes-framed : InFrame piece bs used m
    comes-framed = record { ended = x; framed = good_frame read m read-nonzero c.judged }

    pub comes-in-range : InRange m
    comes-in-range = (good-form read m read-nonzero c.judged).1

-- a property that follows from another
module _ (P Q : ℕ → Message → Type 0) (f : (used : ℕ) (m : Message) → P used m → Q used m) where
  report-then : (used : ℕ) (t : HandedReport) (d : List ℕ) → OfReport (P used) t d → OfReport (Q used) t d
  report-then used (HandedReport.refused n) d c = tt
  report-then used Calls.nothing d c = tt
  report-then used (Calls.answered v q k n) d c = f used _ c
  report-then used (Calls.status s o n) d c = record { from = c.from; shape = c.shape; holds = f used c.from c.holds }
  report-then used (Calls.alerted v q k n) d c = f used _ c

  answer-then : (a : MainAnswer) (d : List ℕ) → OfAnswer P a d → OfAnswer Q a d
  answer-then (refused n) d c = tt
  answer-then done d c = tt
  answer-then (put n) d c = tt
  answer-then (received used t e u) d c = report-then used t d c
  answer-then (stands x) d c = tt

pub answer_frame : OfMainStart AnswerFrame
answer_frame p l h ms t k piece b =
    let i = history p l h ms in
    let q = main_left (main_started p l) ms in
    let w : Since (main_view q).received = rw i.1 (left-since main_fresh ms t fresh-since) in
    let m : MainMade = record { lent = k; call = Histories.receive piece } in
    answer-then (λ used n. Comes piece (main_view q).received used n × MessageMatching (main_view q).newest n)
    (λ used n. InFrame piece (main_view q).received used n × MessageMatching (main_view q).newest n)
    (λ used m c. (comes-framed piece b (main_view q).received w used m c.0, c.1))
    (main_made q m).answer (main_made q m).out (answer_bytes q i.2 k piece)
