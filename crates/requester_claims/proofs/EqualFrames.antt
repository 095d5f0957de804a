-- Item 6 at the main processor's end over lists of calls: each message handed out came as its frame, so equal ones as equal frames.
-- Assumes nothing.
use mathlib.Core.Path.{◌≡◌, refl, sym, ap, ◌∙◌}
use mathlib.Core.Bool.{Bool, true, false, cond}
use mathlib.Core.List.{List, [], ◌∷◌, ◌++◌, append-nil, append_assoc}
use mathlib.Core.Option.{Option, none, some}
use Prim.Native.Nat.{ℕ, zero, suc}
use native.Mathlib.Omega.{arith}
use lib.Dec.{ltb, eqb-suc-zero}
use lib.ListN.{length, take, drop, get_or, length-drop, take-append-drop}
use lib.Seq.{length-take-le, take_all, append_snoc}
use Rattle.octets.specs.Bytes.{Byte, Each, number, bytes, number_at}
use Rattle.octets.proofs.Conditions.{cond-by}
use Rattle.octets.proofs.Each.{each_append, each_take, each-drop}
use Rattle.octets.proofs.Numbers.{bytes-number}
use Rattle.line.specs.Limits.{longest_form}
use Rattle.line.specs.Message.{Message, InRange}
use Rattle.line.specs.Frame.{frame, split}
use Rattle.line.proofs.Pieces.{split-close, split-more}
use Rattle.requester.specs.State.{Request, MainState, main_fresh, is_some, outstanding}
use Rattle.requester.specs.Requester
use Rattle.requester.specs.Requester.{Handed, ground, hear, settle}
use Rattle.requester.specs.Layout
use Rattle.requester.specs.Calls.{MainParts, MainPartsValid, handed_report_of}
use Rattle.line.specs.Judge.{judge}
use Rattle.requester_claims.specs.View.{main_view}
use Rattle.requester_claims.specs.Histories
use Rattle.requester_claims.specs.Histories.{MainCall, MainAnswer, refused, MainMeans, put_means, main_done_means, main_meant, MainMade}
use Rattle.requester_claims.specs.Histories.{main_made, main_meant_made, main_enough, main_started, OfMainStart}
use Rattle.requester_claims.specs.Answers.{StatusMessage, MessageMatching}
use Rattle.requester_claims.specs.CameAs.{CameAs, all_came_as, came_as, bytes_read_by, read_since, status_reply, messages_reported}
use Rattle.requester_claims.specs.CameAs.{main_messages_handed}
use Rattle.requester_claims.specs.Item6.{Comes, PieceTyped, AllPiecesTyped, CameFramed, FramesEqual, EqualFrames}
use Rattle.line.specs.Judge.{more_received}
use Rattle.requester_claims.proofs.MeaningLaws.{quiet-byte}
use Rattle.requester_claims.proofs.History.{one_call, started}
use Rattle.requester_claims.proofs.AnswerBytes.{Hands, ComesAnswer, receive-hands}
use Rattle.requester_claims.proofs.AnswerFrame.{Since, moved-received, request-keeps, interrupt-keeps, send-keeps, made-since}
use Rattle.requester_claims.proofs.AnswerFrame.{fresh-since, comes-framed, comes-in-range}

-- ---- the receive progress is what was read since the last 00, unless that is more than 4,140 bytes

abbrev SinceLast : Option (List ℕ) → List ℕ → Type 0
SinceLast none w = Unit {0}
SinceLast (some xs) w = xs ≡ (split w).rest

closed-received : (s : MainState) (bs : Option (List ℕ))
    → (Requester.main_closed bs (Requester.main_with_received s (some []))).state.received ≡ some []
closed-received s none = refl
closed-received s (some []) = refl
closed-received s (some (b ∷ bs)) =
    moved-received (settle s.recovery (is_some s.kept) (hear s.newest (judge (b ∷ bs)))).next
    (Requester.main_with_received s (some []))

grown-last : (w : List ℕ) (received : Option (List ℕ)) (c : ℕ) → SinceLast received w
    → SinceLast (more_received received (suc c)) (w ++ suc c ∷ [])
unfolding more_received
grown-last w none c k = tt
grown-last w (some bs) c k =
    cond-by (λ o. SinceLast o (w ++ suc c ∷ [])) (ltb (length bs) longest_form) _ _
    (λ _. rw (split-more w c) (ap (λ (l : List ℕ). l ++ suc c ∷ []) k)) (λ _. tt)

module _ (s : MainState) (w : List ℕ) (h : SinceLast s.received w) where
  more-last : (c : ℕ) → SinceLast (Requester.main_more s.received (suc c) s).state.received (w ++ suc c ∷ [])
  more-last c =
      let x = more_received s.received (suc c) in
      let k = grown-last w s.received c h in
      cond-by (λ (x : Requester.MainResult). SinceLast x.state.received (w ++ suc c ∷ [])) (Requester.fills s.received) _ _
      (λ _. rw (moved-received (settle s.recovery (is_some s.kept) ground).next (Requester.main_with_received s x)) k) (λ _. k)

  byte_last : (b : ℕ) → SinceLast (Requester.main_byte s b).state.received (w ++ b ∷ [])
  unfolding Requester.main_byte
  byte_last zero = rw (closed-received s s.received, split-close w) refl
  byte_last (suc c) = rw eqb-suc-zero (more-last c)

receive-last : (piece : List ℕ) (s : MainState) (w : List ℕ) → SinceLast s.received w → let r = Requester.receive s piece in
    SinceLast r.result.state.received (w ++ take r.used piece)
unfolding Requester.receive
receive-last [] s w h = rw append-nil h
receive-last (b ∷ bs) s w h =
    by (Requester.stops s b) refl (λ x. receive-last bs (Requester.main_with_received s x) (w ++ b ∷ []))
  where
    P : Requester.MainReceived → Type 0
    P x = SinceLast x.result.state.received (w ++ take x.used (b ∷ bs))

    by : (t : Bool) → Requester.stops s b ≡ t
        → ((x : Option (List ℕ)) → SinceLast x (w ++ b ∷ []) → let r = Requester.receive (Requester.main_with_received s x) bs in
        SinceLast r.result.state.received ((w ++ b ∷ []) ++ take r.used bs))
        → let r = Requester.receive (Requester.main_byte s b).state bs in
        P (cond t (Requester.main_received 1 (Requester.main_byte s b)) (Requester.main_received (suc r.used) r.result))
    by true e i = byte_last s w h b
    by false e i =
        let k : SinceLast (more_received s.received b) (w ++ b ∷ []) = rw (quiet-byte s b e) at (byte_last s w h b) in
        rw (quiet-byte s b e) (rw append_snoc at (i (more_received s.received b) k))

-- ---- a call

module _ (s : MainState) (w : List ℕ) (h : SinceLast s.received w) where
  abbrev MeansLast : MainCall → MainMeans → Type 0
  MeansLast c x = SinceLast x.state.received (read_since w c x.answer)

  -- nothing is read
  kept-last : {bs : Option (List ℕ)} → bs ≡ s.received → SinceLast bs (w ++ [])
  kept-last e = rw (e, append-nil) h

  put_last : (c : MainCall) → ((a : MainAnswer) → bytes_read_by c a ≡ []) → (room : List ℕ) (x : Requester.MainDone)
      → x.state.received ≡ s.received → MeansLast c (put_means x.refusal room x.out x.state)
  put_last c f room x e = by x.refusal
    where
      by : (k : Option ℕ) → MeansLast c (put_means k room x.out x.state)
      by none = rw f (kept-last e)
      by (some k) = rw f (kept-last e)

  done-last : (k : Option ℕ) (t : MainState) → t.received ≡ s.received → MeansLast Histories.interrupt (main_done_means k t)
  done-last none t e = kept-last e
  done-last (some k) t e = kept-last e

  meant-last : (c : MainCall) → MeansLast c (main_meant s c)
  unfolding main_meant main_fresh Requester.interrupt Requester.send split
  meant-last Histories.start = refl
  meant-last (Histories.request command d room) =
      let q : Request = record { command = command; payload = d } in
      put_last (Histories.request command d room) (λ a. refl) room (Requester.request (length room) q s) (request-keeps s (length room) q)
  meant-last Histories.interrupt =
      let x = Requester.interrupted_in s.recovery s in done-last x.refusal x.state (interrupt-keeps s s.recovery)
  meant-last (Histories.send room) =
      put_last (Histories.send room) (λ a. refl) room (Requester.sent_of (length room) (outstanding s) s)
      (send-keeps s (length room) (outstanding s))
  meant-last (Histories.receive piece) = receive-last piece s w h
  meant-last Histories.state = kept-last refl

  refused-last : (c : MainCall) → SinceLast s.received (w ++ bytes_read_by c (refused 12))
  refused-last Histories.start = kept-last refl
  refused-last (Histories.request command d room) = kept-last refl
  refused-last Histories.interrupt = kept-last refl
  refused-last (Histories.send room) = kept-last refl
  refused-last (Histories.receive piece) = kept-last refl
  refused-last Histories.state = kept-last refl

  made-last : (m : MainMade) → MeansLast m.call (main_meant_made s m)
  unfolding main_meant_made
  made-last m =
      cond-by (MeansLast m.call) (main_enough m.call m.lent) _ _ (λ _. meant-last m.call) (λ _. refused-last m.call)

-- ---- the message of a status

message-is : {v q c : ℕ} {d : List ℕ} (m : Message) → m.version ≡ v → m.sequence ≡ q → m.command ≡ c → m.payload ≡ d
    → m ≡ record { version = v; sequence = q; command = c; payload = d }
message-is m a b c d = rw (← a, ← b, ← c, ← d)

two-numbers : (d : List ℕ) → Each Byte d → length d ≡ 16 → d ≡ bytes 8 (number_at 8 d 0) ++ bytes 8 (number_at 8 d 8)
two-numbers d h l =
    let a = length-take-le 8 d (omega arith) in
    let b : length (drop 8 d) ≡ 8 = length-drop 8 d ∙ omega arith in
    let x : bytes 8 (number (take 8 d)) ≡ take 8 d = rw a at (bytes-number (take 8 d) (each_take Byte 8 d h)) in
    let y : bytes 8 (number (drop 8 d)) ≡ drop 8 d = rw b at (bytes-number (drop 8 d) (each-drop Byte 8 d h)) in
    rw (take_all 8 (drop 8 d) (omega arith), x, y) (sym (take-append-drop 8 d))

status-is : (n s o k : ℕ) (m : Message) → InRange m → StatusMessage m s o k → MessageMatching n m → m ≡ status_reply n s o
status-is n s o k m r x e =
    message-is m e.version_1 e.reply x.command
    (rw (x.status, x.options) at (two-numbers m.payload r.typed.payload x.size))

-- ---- what is handed out came as its frame

abbrev Framed : CameAs → Type 0
Framed x = x.bytes ≡ frame x.message

take-closed : (xs : List ℕ) (n : ℕ) → get_or xs n 1 ≡ 0 → take (suc n) xs ≡ take n xs ++ 0 ∷ []
take-closed [] n e = absurd (omega (arith, e))
take-closed (x ∷ xs) zero e = rw e refl
take-closed (x ∷ xs) (suc n) e = ap (λ (l : List ℕ). x ∷ l) (take-closed xs n e)

joined : {used : ℕ} {f : List ℕ} (bs since piece : List ℕ) (ahead : ℕ) → since ≡ bs → used ≡ suc ahead → get_or piece ahead 1 ≡ 0
    → (since ++ take ahead piece) ++ 0 ∷ [] ≡ f → bs ++ take used piece ≡ f
joined bs since piece ahead e r c g = rw (← e, r, take-closed piece ahead c, ← append_assoc) g

module _ (s : MainState) (w : List ℕ) (since : Since s.received) (last : SinceLast s.received w) where
  -- the messages that come at bytes read behind w
  abbrev FramedAt : List ℕ → List Message → Type 0
  FramedAt bs ms = Each Framed (all_came_as ((split w).rest ++ bs) ms)

  module _ (piece : List ℕ) (h : Each Byte piece) where
    came : (used : ℕ) (m : Message) → Comes piece s.received used m → (split w).rest ++ take used piece ≡ frame m
    came used m c =
        let f = comes-framed piece h s.received since used m c in
        let x = f.ended in
        let e : x.since ≡ (split w).rest = rw x.begun at last in
        joined (split w).rest x.since piece x.ahead e x.read x.closed f.framed

    hands-framed : (used : ℕ) (a : Handed) → Hands (ComesAnswer s.newest piece s.received used) a
        → FramedAt (take used piece) (messages_reported s.newest (handed_report_of a) (Histories.handed_data a))
    unfolding handed_report_of Histories.handed_data
    hands-framed used Requester.nothing c = tt
    hands-framed used (Requester.answered m) c = (came used m c.0, tt)
    hands-framed used (Requester.status x o k) c =
        let m = c.from in
        let y = c.holds in
        let r = comes-in-range piece h s.received since used m y.0 in
        (came used m y.0 ∙ ap frame (status-is s.newest x o k m r c.shape y.1), tt)
    hands-framed used (Requester.alerted m) c = (came used m c.0, tt)

  abbrev MeansFramed : MainCall → MainMeans → Type 0
  MeansFramed c x = FramedAt (bytes_read_by c x.answer) (main_messages_handed s.newest x.answer x.out)

  put-framed : (c : MainCall) (k : Option ℕ) (room bs : List ℕ) (t : MainState) → MeansFramed c (put_means k room bs t)
  put-framed c none room bs t = tt
  put-framed c (some k) room bs t = tt

  done-framed : (c : MainCall) (k : Option ℕ) (t : MainState) → MeansFramed c (main_done_means k t)
  done-framed c none t = tt
  done-framed c (some k) t = tt

  meant-framed : (c : MainCall) → PieceTyped c → MeansFramed c (main_meant s c)
  unfolding main_meant
  meant-framed Histories.start h = tt
  meant-framed (Histories.request command d room) h =
      let x = Requester.request (length room) (record { command = command; payload = d }) s in
      put-framed (Histories.request command d room) x.refusal room x.out x.state
  meant-framed Histories.interrupt h =
      let x = Requester.interrupt s in done-framed Histories.interrupt x.refusal x.state
  meant-framed (Histories.send room) h =
      let x = Requester.send (length room) s in put-framed (Histories.send room) x.refusal room x.out x.state
  meant-framed (Histories.receive piece) h =
      let r = Requester.receive s piece in hands-framed piece h r.used r.result.handed (receive-hands piece s)
  meant-framed Histories.state h = tt

  made-framed : (m : MainMade) → PieceTyped m.call → MeansFramed m.call (main_meant_made s m)
  unfolding main_meant_made
  made-framed m h = cond-by (MeansFramed m.call) (main_enough m.call m.lent) _ _ (λ _. meant-framed m.call h) (λ _. tt)

-- ---- the claim

newest-is : (p : MainParts) → Layout.newest_number p.requester ≡ (main_view p).newest
unfolding main_view
newest-is p = refl

all-framed : (p : MainParts) → MainPartsValid p → (w : List ℕ) → Since (main_view p).received → SinceLast (main_view p).received w
    → (ms : List MainMade) → AllPiecesTyped ms → Each Framed (came_as p w ms)
unfolding came_as
all-framed p v w a b [] h = tt
all-framed p v w a b (m ∷ ms) h =
    let k = one_call p m v in
    let s = main_view p in
    let d = main_made p m in
    let read = read_since w m.call d.answer in
    let bs = (split w).rest ++ bytes_read_by m.call d.answer in
    let xs = main_messages_handed (Layout.newest_number p.requester) d.answer d.out in
    each_append Framed (all_came_as bs xs) (came_as d.parts read ms)
    (rw (k.answer, k.out, newest-is p) (made-framed s w a b m h.0))
    (all-framed d.parts k.valid read (rw k.state (made-since s m h.0 a)) (rw (k.state, k.answer) (made-last s w b m)) ms
    h.1)

fresh-last : SinceLast main_fresh.received []
unfolding main_fresh split
fresh-last = refl

pub came_framed : OfMainStart CameFramed
came_framed p l h ms t =
    let k = started p l h in all-framed _ k.valid [] (rw k.state fresh-since) (rw k.state fresh-last) ms t

-- one against all
against : (x : CameAs) → Framed x → (ys : List CameAs) → Each Framed ys
    → Each (λ (y : CameAs). x.message ≡ y.message → x.bytes ≡ y.bytes) ys
against x e [] f = tt
against x e (y ∷ ys) f = (λ m. e ∙ ap frame m ∙ sym f.0, against x e ys f.1)

all-against : (xs ys : List CameAs) → Each Framed xs → Each Framed ys → FramesEqual xs ys
all-against [] ys e f = tt
all-against (x ∷ xs) ys e f = (against x e.0 ys f, all-against xs ys e.1 f)

pub equal_frames : OfMainStart (λ p. OfMainStart (EqualFrames p))
equal_frames p l h q k g ms ns t u =
    all-against (came_as (main_started p l) [] ms) (came_as (main_started q k) [] ns) (came_framed p l h ms t) (came_framed q k g ns u)
