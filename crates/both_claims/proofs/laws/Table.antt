-- What a frame and its verdict tell: one frame for each message, what passes the whole table, and which replies are no decode failures.
-- Assumes nothing.
use mathlib.Core.Path.{◌≡◌, refl, sym, ap, ◌∙◌}
use mathlib.Core.Bool.{Bool, true, false, not, false≢true}
use mathlib.Core.List.{List, [], ◌∷◌, ◌++◌}
use mathlib.Core.Option.{Option, some}
use Prim.Native.Nat.{ℕ, ◌+◌, ◌^◌, ◌≤◌, ◌<◌}
use native.Mathlib.Omega.{arith}
use lib.Dec.{leb}
use lib.ListN.{length, length-append}
use borrow.Author.Tests.{leb-false, lt-leb, lt-ltb}
use Rattle.octets.proofs.Conditions.{cond-by}
use Rattle.octets.specs.Bytes.{number, bytes}
use Rattle.line.specs.Message.{Message, InRange, body, message}
use Rattle.line.specs.Cobs.{cobs}
use Rattle.line.specs.Frame.{frame, WireBytes, over, sent, form}
use Rattle.line.specs.Judge as Line
use Rattle.line.specs.Judge.{judge, command_of}
use Rattle.line_claims.proofs.CobsClaims.{message-same}
use Rattle.line_claims.proofs.JudgeClaim.{judge-of-message}
use Rattle.line_claims.proofs.WireClaim.{one_meaning}
use Rattle.supervisor.specs.Number.{top_set}
use Rattle.supervisor.specs.State.{State}
use Rattle.responder.specs.Requests.{Verdict, failure, good, version_served, known, length_allowed, tested, tested_where, verdict}
use Rattle.responder.specs.Requests.{failure_reply}
use Rattle.supervisor_claims.specs.Replies.{reply_by}
use Rattle.both_claims.specs.Ends.{reply_to_request, reply_message}
use Rattle.both_claims.proofs.laws.ReplyRange.{reply-of}

command-read : (m : Message) → m.command < 256 → command_of (message m) ≡ m.command
unfolding message body number bytes
command-read m h = omega arith

-- more than its 00
pub frame-some : (m : Message) → 2 ≤ length (frame m)
unfolding frame cobs
frame-some m = rw length-append (omega arith)

-- two messages in range with one frame
pub frame_same : {m n : Message} → InRange m → InRange n → frame m ≡ frame n → m ≡ n
frame_same {m} {n} r q e =
    let a : WireBytes (m ∷ []) (frame m ++ []) = sent r over in
    let b : WireBytes (n ∷ []) (frame m ++ []) = rw e (sent q over) in
    let z = one_meaning _ _ _ a b in
    cc

-- two messages with one frame have one command, where that of one is a byte
pub command-same : (m n : Message) → frame m ≡ frame n → m.command < 256 → n.command < 256 → m.command ≡ n.command
command-same m n e h k = sym (command-read m h) ∙ ap command_of (message-same m n e) ∙ command-read n k

never : {A : Type 0} {reason version : ℕ} {sequence : Option ℕ} {m : Message} → failure reason version sequence ≡ good m → A
never p = let z : ◌≡◌ {A = ℕ} 0 1 = cc in absurd (omega arith)

not-not : (b : Bool) → not b ≡ false → b ≡ true
not-not true e = refl
not-not false e = absurd (false≢true (sym e))

pub tested-same : (k m : Message) → tested k ≡ good m → (k ≡ m) × (k.sequence < 2 ^ 63) × (version_served k.version ≡ true)
unfolding tested
tested-same k m =
    cond-by P (not (version_served k.version)) _ _ (λ _ e. never e) (λ v.
    cond-by P (leb (2 ^ 63) k.sequence) _ _ (λ _ e. never e) (λ l.
    cond-by P (not (known k.command)) _ _ (λ _ e. never e) (λ _.
    cond-by P (not (length_allowed k.command (length k.payload))) _ _ (λ _ e. never e)
    (λ _ e. (cc, leb-false _ _ l, not-not _ v)))))
  where
    P : Verdict → Type 0
    P v = v ≡ good m → (k ≡ m) × (k.sequence < 2 ^ 63) × (version_served k.version ≡ true)

-- what the whole table passes is the line layer's message, of version 1 or 2, without the top bit
pub record Passed (form : List ℕ) (m : Message) : Type 0 where
  pub judged : judge form ≡ Line.good m
  pub low : m.sequence < 2 ^ 63
  pub served : version_served m.version ≡ true

pub passes : (form : List ℕ) (m : Message) → verdict form ≡ good m → Passed form m
unfolding verdict
passes form m e = by (judge form) refl e
  where
    by : (v : Line.LineVerdict) → judge form ≡ v → tested_where v ≡ good m → Passed form m
    by (Line.failure reason sequence) j f = never f
    by (Line.good k) j f =
        let s = tested-same k m f in record { judged = rw (j, s.0); low = rw s.0 at s.1; served = rw s.0 at s.2 }

-- and the other way: a message of version 1 in range, without the top bit, with a listed command and data of a right length
pub tested-passes : (m : Message) → m.version ≡ 1 → m.sequence < 2 ^ 63 → known m.command ≡ true
    → length_allowed m.command (length m.payload) ≡ true → tested m ≡ good m
unfolding tested
tested-passes m v low k l = rw (v, lt-leb (2 ^ 63) m.sequence low, k, l)

pub table-passes : (m : Message) → InRange m → m.version ≡ 1 → m.sequence < 2 ^ 63 → known m.command ≡ true
    → length_allowed m.command (length m.payload) ≡ true → verdict (form m) ≡ good m
unfolding verdict
table-passes m r v low k l = rw (judge-of-message m r) (tested-passes m v low k l)

-- a reply that is no decode failure was made to a request that the whole table passed
pub record Replied (image : List ℕ) (s : State) (v : Verdict) (r : Message) : Type 0 where
  pub request : Message
  pub passed : v ≡ good request
  pub reply : reply_to_request image s request ≡ some r
  pub sequence : r.sequence ≡ top_set request.sequence

pub replied : (image : List ℕ) (s : State) (v : Verdict) (r : Message) → reply_message (reply_by image s v) ≡ some r
    → (r.command ≡ 0x02 → ⊥)
    → Replied image s v r
unfolding reply_by failure_reply
replied image s (failure reason version sequence) r e h = absurd (h (cc))
replied image s (good m) r e h = record { request = m; passed = refl; reply = e; sequence = (reply-of image s m r e).sequence }

-- a reply's number, and the request's number from it
pub top_set_lem : (n : ℕ) → n < 2 ^ 63 → top_set n ≡ n + 2 ^ 63
unfolding top_set
top_set_lem n low = rw (lt-ltb n (2 ^ 63) low)

pub number-back : (k n : ℕ) → k < 2 ^ 63 → top_set k ≡ n + 2 ^ 63 → k ≡ n
number-back k n h e = omega (arith, top_set_lem k h)
