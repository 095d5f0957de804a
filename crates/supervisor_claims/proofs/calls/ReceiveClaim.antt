-- Received bytes on sound parts, one and many: they leave what document 01 says of them, and sound parts.
-- Assumes nothing.
use mathlib.Core.Path.{◌≡◌, refl, sym, ap, ◌∙◌}
use mathlib.Core.Bool.{Bool, true, false, cond, not}
use mathlib.Core.List.{List, [], ◌∷◌}
use mathlib.Core.Option.{Option, none, some}
use Prim.Native.Nat.{ℕ, ◌+◌, ◌^◌, ◌≤◌, ◌<◌}
use native.Mathlib.Omega.{arith}
use lib.Dec.{leb, eqb}
use lib.ListN.{length}
use Rattle.line.specs.Reader.{received_of}
use Rattle.octets.specs.Bytes.{Each, Byte}
use Rattle.octets.proofs.Conditions.{cond-by, cond_both}
use Rattle.octets.proofs.Numbers.{one_byte, number_small}
use Rattle.line.specs.Limits.{longest_form}
use Rattle.line.specs.Numbers.{first_version}
use Rattle.line.specs.Message.{Message}
use Rattle.line.specs.Judge as Line
use Rattle.line.specs.Judge.{decoded, wrong_length, wrong_checksum, wrong_magic, judge_form, judge}
use Rattle.line.specs.Judge.{more_received}
use Rattle.line.specs.Reader as LineReader
use Rattle.line.proofs.Received.{pushed-received}
use Rattle.supervisor.specs.State.{State, with_received}
use Rattle.supervisor.specs.Calls.{Parts}
use Rattle.responder.specs.Commands.{Command, is_listed, command_of_number}
use Rattle.responder.specs.Requests
use Rattle.responder.specs.Requests.{Verdict, failure, good, verdict_since}
use Rattle.responder.proofs.StepLaws.{served-small}
use Rattle.responder.specs.Receive
use Rattle.responder.proofs.VerdictLaws.{finished-verdict, reader_closed, closed-received}
use Rattle.responder.proofs.KeptLaws.{carried-valid, inner-valid, valid-inner, sent-long, sent-owed, box-valid}
use Rattle.supervisor_claims.specs.ByPart.{Part, with_part}
use Rattle.supervisor_claims.specs.View.{view}
use Rattle.supervisor_claims.specs.Sound.{with_reader, with_outbox, Sound, Leaves}
use Rattle.supervisor_claims.proofs.Sound.{lengths-same, lengths-then, sound-with}
use Rattle.supervisor_claims.proofs.calls.SendingClaim.{reply-sendable, sent-pending, sent-bytes}
use Rattle.supervisor_claims.proofs.calls.CommandClaims.{with_stores, SendableReply, Changed, command-does}
use Rattle.supervisor_claims.proofs.calls.ReceivedClaim.{Requestable, ReaderKept, pushed-kept, closed-kept}
use Rattle.supervisor_claims.proofs.calls.ReceivedClaim.{finished-typed}

-- ---- Sending

-- a reply's bytes, or none, become the pending ones
sent-leaves : (p : Parts) → Sound p → (r : Option Requests.Reply) → length (Requests.reply_frame r) ≤ longest_form + 1
    → Each Byte (Requests.reply_frame r)
    → Leaves p (with_outbox p (Receive.sent_box (Requests.reply_frame r) p.outbox)) (Requests.sent (view p) r)
unfolding view Requests.sent
sent-leaves p s r short each =
    let o = p.outbox in
    let v = s.valid.outbox in
    let bs = Requests.reply_frame r in
    let k =
    sound-with p Part.outbox (Receive.sent_box bs o) s (box-valid o bs v short) (sent-bytes o bs v short s.bytes.outbox each)
    (sent-long o bs v short) in
    (rw (sent-pending o bs v short, sent-owed o bs v short), k.0, k.1)

-- the frame of a reply with data that a message may have
frame-sendable : (sequence : ℕ) (r : Option Requests.ReplyContent) → SendableReply r
    → let bs = Requests.reply_frame (Requests.reply_of sequence r) in (length bs ≤ longest_form + 1) × Each Byte bs
unfolding Requests.reply_frame Requests.reply_of
frame-sendable sequence none h = (omega arith, tt)
frame-sendable sequence (some r) h = reply-sendable _ r.command r.payload h

-- ---- A valid request

abbrev Carried : List ℕ → Parts → Message → Receive.Inner
Carried image p m = Receive.carried_inner image p.factory (Receive.inner_of p) m.version m.sequence m.command m.payload

-- the parts with other stores, registers and outbox
abbrev with_inner : Parts → Receive.Inner → Parts
with_inner p i = Receive.parts_with p p.reader i

-- the state of what was carried out, with its reply pending
abbrev sent_by : ℕ → Requests.Carried → State
sent_by sequence c = Requests.sent c.state (Requests.reply_of sequence c.reply)

module _ (p : Parts) (s : Sound p) (sequence : ℕ) where
  change-leaves : (i : Receive.Inner) (c : Requests.Carried) → Changed p i sequence c → Receive.valid_inner i ≡ true
      → Leaves p (with_inner p i) (sent_by sequence c)
  change-leaves i c ch v =
      let w = inner-valid i v in
      let bs = frame-sendable sequence c.reply ch.payload in
      let a = sound-with p Part.settings i.settings s w.settings (ch.settings.bytes s.bytes.settings) ch.settings.long in
      let q = with_part p Part.settings i.settings in
      let b =
      sound-with q Part.registers i.registers a.0 w.registers (ch.registers.bytes s.bytes.registers) ch.registers.long in
      let l = sent-leaves (with_stores p i) b.0 (Requests.reply_of sequence c.reply) bs.0 bs.1 in
      rw (ch.outbox, ← ch.state) (l.0, l.1, lengths-then (lengths-then a.1 b.1) l.2)

module _ (image : List ℕ) (each : Each Byte image) (p : Parts) (s : Sound p) (m : Message) (q : Requestable m) where
  parts-valid : Receive.valid_inner (Receive.inner_of p) ≡ true
  parts-valid = valid-inner _ (record { outbox = s.valid.outbox; settings = s.valid.settings; registers = s.valid.registers })

  carried-inner : Receive.valid_inner (Carried image p m) ≡ true
  carried-inner =
      carried-valid image p.factory (Receive.inner_of p) m.version m.sequence m.payload (served-small m.version q.version)
      s.valid.factory parts-valid q.fits (number_small 1 0 m.payload q.payload) m.command

  -- its command is listed
  request-leaves : Leaves p (with_inner p (Carried image p m)) (sent_by m.sequence (Requests.carry_out image (view p) m))
  unfolding Receive.carried_inner Requests.carry_out Requests.known
  request-leaves = by (command_of_number m.command) q.command carried-inner
    where
      by : (o : Option Command) → is_listed o ≡ true
          → let i = Receive.command_leaves_where o image p.factory (Receive.inner_of p) m.version m.sequence m.payload in
          Receive.valid_inner i ≡ true → Leaves p (with_inner p i) (sent_by m.sequence (Requests.carry_out_by o image (view p) m))
      by none e v = let z : ◌≡◌ {A = ℕ} 1 0 = ap (λ t. cond t 0 1) e in absurd (omega arith)
      by (some x) e v = change-leaves p s m.sequence _ _ (command-does p s image each m q x) v

-- ---- A frame by the verdict on it

abbrev Judgeable : Verdict → Type 0
Judgeable (failure reason version sequence) = reason < 256
Judgeable (good m) = Requestable m

judged-leaves : (image : List ℕ) → Each Byte image → (p : Parts) → Sound p → (v : Verdict) → Judgeable v
    → Leaves p (with_inner p (Receive.inner_by image p.factory (Receive.inner_of p) v)) (Requests.after_verdict image (view p) v)
unfolding Receive.inner_by Receive.reply_alone Requests.after_verdict Requests.failure_reply Requests.reply_frame
judged-leaves image each p s (failure reason version sequence) small =
    let bs = reply-sendable (Receive.failure_head version sequence) 0x02 (reason ∷ []) (omega arith, (small, tt)) in
    rw (one_byte reason small) (sent-leaves p s (some (Requests.failure_reply reason version sequence)) bs.0 bs.1)
judged-leaves image each p s (good m) q = request-leaves image each p s m q

-- the reasons of the table
abbrev reason_of : Verdict → ℕ
reason_of (failure reason version sequence) = reason
reason_of (good m) = 0

record Small (v : Verdict) : Type 0 where
  low : reason_of v < 256

found-good : (m : Message) → Small (good m)
found-good m = record { low = omega arith }

-- a test that fails with a reason, ahead of other tests
fails : (t : Bool) (reason version : ℕ) (sequence : Option ℕ) (v : Verdict) → reason < 256 → Small v
    → Small (cond t (failure reason version sequence) v)
fails true reason version sequence v h k = record { low = h }
fails false reason version sequence v h k = k

tested-small : (m : Message) → Small (Requests.tested m)
unfolding Requests.tested
tested-small m =
    fails (not (Requests.version_served m.version)) 5 _ _ _ (omega arith)
    (fails (leb (2 ^ 63) m.sequence) 6 _ _ _ (omega arith)
    (fails (not (Requests.known m.command)) 3 _ _ _ (omega arith)
    (fails (not (Requests.length_allowed m.command (length m.payload))) 7 _ _ _ (omega arith) (found-good m))))

-- and of the line layer's tests
abbrev SmallWhere : Line.LineVerdict → Type 0
SmallWhere v = Small (Requests.tested_where v)

failed-small : (reason : ℕ) (sequence : Option ℕ) → reason < 256 → SmallWhere (Line.failure reason sequence)
failed-small reason sequence h = record { low = h }

form_small : (form : Option (List ℕ)) → SmallWhere (judge_form form)
unfolding judge_form
form_small none = failed-small 1 _ (omega arith)
form_small (some xs) =
    cond-by SmallWhere (wrong_length xs) _ _ (λ e. failed-small 3 _ (omega arith)) (λ e.
    cond-by SmallWhere (wrong_checksum xs) _ _ (λ f. failed-small 2 _ (omega arith)) (λ f.
    cond-by SmallWhere (wrong_magic xs) _ _ (λ g. failed-small 4 _ (omega arith)) (λ g. tested-small _)))

verdict-small : (form : List ℕ) → Small (Requests.verdict form)
unfolding Requests.verdict judge
verdict-small form = form_small (decoded form)

-- ---- One byte

progress-same : (s : State) (r : Option (List ℕ)) → s.received ≡ r → with_received s r ≡ s
progress-same s r e = ap (with_received s) (sym e)

module _ (p : Parts) (s : Sound p) where
  -- another state of the reader
  pub reader-leaves : (t : List ℕ) → ReaderKept p.reader t → Leaves p (with_reader p t) (with_received (view p) (received_of t))
  unfolding view
  reader-leaves t k =
      let w = sound-with p Part.reader t s k.valid (k.bytes s.bytes.reader) k.long in
      (refl, w.0, w.1)

module _ (image : List ℕ) (each : Each Byte image) (p : Parts) (s : Sound p) where
  abbrev ended : List ℕ
  ended = reader_closed p.reader

  judgeable : (v : Verdict) → verdict_since (received_of p.reader) ≡ some v → Small v → Judgeable v
  judgeable (failure reason version sequence) e h = h.low
  judgeable (good m) e h = finished-typed p.reader m s.bytes.reader e

  -- a frame that is not empty
  frame-leaves : (v : Verdict) → Judgeable v
      → Leaves p (Receive.parts_with p ended (Receive.inner_by image p.factory (Receive.inner_of p) v))
      (Requests.after_verdict image (with_received (view p) (some [])) v)
  frame-leaves v j =
      let a =
      rw (closed-received p.reader s.valid.reader) at (reader-leaves p s ended (closed-kept p.reader s.valid.reader)) in
      let b = judged-leaves image each _ a.1 v j in
      (b.0 ∙ ap (λ x. Requests.after_verdict image x v) a.0, b.1, lengths-then a.2 b.2)

  received-view : (view p).received ≡ received_of p.reader
  unfolding view
  received-view = refl

  -- by the bytes since the last 00
  closed-leaves : (r : Option (List ℕ)) → received_of p.reader ≡ r
      → Leaves p (Receive.parts_with p ended (Receive.inner_after image p.factory (Receive.inner_of p) (verdict_since r)))
      (Requests.closed image (view p) r)
  unfolding Receive.inner_after Requests.closed
  closed-leaves none e = frame-leaves (failure 1 first_version none) (omega arith)
  closed-leaves (some []) e =
      let a =
      rw (closed-received p.reader s.valid.reader) at (reader-leaves p s ended (closed-kept p.reader s.valid.reader)) in
      (a.0 ∙ progress-same (view p) (some []) (received-view ∙ e), a.1, a.2)
  closed-leaves (some (b ∷ bs)) e = frame-leaves _ (judgeable _ (rw e) (verdict-small (b ∷ bs)))

  zero-leaves : let o = LineReader.finish p.reader in
      Leaves p (Receive.after_answer image p o.state o.answer) (Requests.closed image (view p) (view p).received)
  unfolding Receive.after_answer
  zero-leaves =
      rw (finished-verdict p.reader s.valid.reader ∙ ap verdict_since (sym received-view))
      (closed-leaves (view p).received (sym received-view))

  -- a byte that is not 00
  pushed-leaves : (b : ℕ) → b < 256
      → Leaves p (Receive.parts_with p (LineReader.pushed p.reader b) (Receive.inner_of p))
      (with_received (view p) (more_received (view p).received b))
  pushed-leaves b small =
      let a = reader-leaves p s (LineReader.pushed p.reader b) (pushed-kept p.reader b s.valid.reader small) in
      let more = pushed-received p.reader b s.valid.reader ∙ ap (λ r. more_received r b) (sym received-view) in
      (a.0 ∙ ap (with_received (view p)) more, a.1, a.2)

pub feed-leaves : (image : List ℕ) (p : Parts) (b : ℕ) → Each Byte image → Sound p → b < 256
    → Leaves p (Receive.feed_byte image p b) (Requests.receive_byte image (view p) b)
unfolding Receive.feed_byte Requests.receive_byte
feed-leaves image p b each s small =
    cond_both (λ q t. Leaves p q t) (eqb b 0) (λ _. zero-leaves image each p s) (λ _. pushed-leaves image each p s b small)

-- ---- Many

pub fed-leaves : (image : List ℕ) (p : Parts) (bs : List ℕ) → Each Byte image → Sound p → Each Byte bs
    → Leaves p (Receive.feed_bytes image p bs) (Requests.receive_stream image (view p) bs)
unfolding Receive.feed_bytes Requests.receive_stream
fed-leaves image p [] i s h = (refl, s, lengths-same)
fed-leaves image p (b ∷ bs) i s h =
    let f = feed-leaves image p b i s h.0 in
    let g = fed-leaves image (Receive.feed_byte image p b) bs i f.1 h.1 in
    (g.0 ∙ ap (λ x. Requests.receive_stream image x bs) f.0, g.1, lengths-then f.2 g.2)
