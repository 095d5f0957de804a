-- Claims over calls of a line reader. A frame that is handed out as a message is that message's frame.
-- So the answers determine the bytes that were read. Assumes nothing.
use mathlib.Core.Path.{◌≡◌, refl, sym, ap, ◌∙◌}
use mathlib.Core.List.{List, [], ◌∷◌, ◌++◌, map, map-append, append_assoc}
use Prim.Native.Nat.{ℕ, ◌≤◌}
use native.Mathlib.Omega.{arith}
use lib.ListN.{length}
use Rattle.octets.specs.Bytes.{Byte, Each}
use Rattle.line.specs.Message.{Message}
use Rattle.line.specs.Frame.{frame, WireBytes, over, idle, sent, non_empty, with_zeros, NonZero}
use Rattle.line.specs.Judge.{LineVerdict, failure, good, judge}
use Rattle.line.specs.Reader.{verdict_report, reader_length}
use Rattle.line.proofs.Pieces.{split-each, split-whole}
use Rattle.line_claims.proofs.SpellingClaim.{good-form, good_frame}
use Rattle.line_claims.specs.Calls.{LineCall, after_line_calls, fresh_reader, frame_report, gathered, good_of, reason_of, good_messages}
use Rattle.line_claims.specs.Calls.{failure_reasons}
use Rattle.line_claims.proofs.ReaderClaim.{any_stream, any_messages, any_failures}
use Rattle.line_claims.specs.Calls.{Reader, frame_of, good_frames, reported_bytes}
use Rattle.line_claims.specs.Item6.{pieces_read, HandedFrames, HandedWire, AnswersDetermine}

-- ---- pieces of bytes 1 to 255

frame-of : (p : List ℕ) → Each NonZero p → (v : LineVerdict) → judge p ≡ v → frame_of p v ≡ map frame (good_of v)
frame-of p n (failure reason sequence) e = refl
frame-of p n (good m) e = rw (good_frame p m n e)

good-frames : (ps : List (List ℕ)) → Each (Each NonZero) ps → good_frames (non_empty ps) ≡ map frame (good_messages (non_empty ps))
unfolding good_frames non_empty gathered
good-frames [] n = refl
good-frames ([] ∷ ps) n = good-frames ps n.1
good-frames ((b ∷ bs) ∷ ps) n = rw (map-append, frame-of (b ∷ bs) n.0 (judge (b ∷ bs)) refl, good-frames ps n.1)

-- a frame ahead of the others, where it is good
frame-ahead : (p : List ℕ) (m : Message) (w : List ℕ) → Each NonZero p → judge p ≡ good m → p ++ 0 ∷ w ≡ frame m ++ w
frame-ahead p m w n e = sym (append_assoc p (0 ∷ []) w) ∙ rw (good_frame p m n e)

-- where none fails, the first is good
module _ (p : List ℕ) (rs : List ℕ) (P : LineVerdict → Type 0) where
  first_good : reason_of (judge p) ++ rs ≡ [] → ((m : Message) → judge p ≡ good m → rs ≡ [] → P (good m)) → P (judge p)
  first_good = by (judge p) refl
    where
      by : (v : LineVerdict) → judge p ≡ v → reason_of v ++ rs ≡ [] → ((m : Message) → judge p ≡ good m → rs ≡ [] → P (good m)) → P v
      by (failure reason sequence) j e h = let z : ◌≡◌ {A = ℕ} 0 1 = cc in absurd (omega arith)
      by (good m) j e h = h m j e

-- wire bytes, where none fails
pieces-wire : (ps : List (List ℕ)) → Each (Each NonZero) ps → failure_reasons (non_empty ps) ≡ []
    → WireBytes (good_messages (non_empty ps)) (with_zeros ps)
unfolding with_zeros non_empty gathered
pieces-wire [] n e = over
pieces-wire ([] ∷ ps) n e = idle (pieces-wire ps n.1 e)
pieces-wire ((b ∷ bs) ∷ ps) n e =
    first_good (b ∷ bs) (failure_reasons (non_empty ps))
    (λ v. WireBytes (good_of v ++ good_messages (non_empty ps)) ((b ∷ bs) ++ 0 ∷ with_zeros ps)) e
    (λ m j f. rw (frame-ahead (b ∷ bs) m (with_zeros ps) n.0 j) (sent (good-form (b ∷ bs) m n.0 j).1 (pieces-wire ps n.1 f)))

pieces-reported : (ps : List (List ℕ)) → Each (Each NonZero) ps → failure_reasons (non_empty ps) ≡ []
    → with_zeros ps ≡ reported_bytes (map frame_report ps) (good_messages (non_empty ps))
unfolding with_zeros non_empty gathered reported_bytes frame_report verdict_report
pieces-reported [] n e = refl
pieces-reported ([] ∷ ps) n e = rw (← pieces-reported ps n.1 e)
pieces-reported ((b ∷ bs) ∷ ps) n e =
    first_good (b ∷ bs) (failure_reasons (non_empty ps))
    (λ v. (b ∷ bs) ++ 0 ∷ with_zeros ps
    ≡ reported_bytes (verdict_report v ∷ map frame_report ps) (good_of v ++ good_messages (non_empty ps))) e
    (λ m j f. frame-ahead (b ∷ bs) m (with_zeros ps) n.0 j ∙ ap (λ (w : List ℕ). frame m ++ w) (pieces-reported ps n.1 f))

-- ---- the claims

module _ (room : List ℕ) (enough : reader_length ≤ length room) (cs : List LineCall) where
  abbrev reader : Reader
  reader = after_line_calls (fresh_reader room) cs

  pieces-each : Each Byte reader.bytes → Each (Each NonZero) (pieces_read reader)
  pieces-each each = (split-each Byte NonZero (λ b h. omega arith) reader.bytes each).0

  none-failed : reader.failures ≡ [] → failure_reasons (non_empty (pieces_read reader)) ≡ []
  none-failed e = sym (any_failures room enough cs) ∙ e

  pub handed_frames : HandedFrames (after_line_calls (fresh_reader room) cs)
  handed_frames each = good-frames (pieces_read reader) (pieces-each each) ∙ rw (any_messages room enough cs)

  pub handed_wire : HandedWire (after_line_calls (fresh_reader room) cs)
  handed_wire each e = (
    rw (any_messages room enough cs) (pieces-wire (pieces_read reader) (pieces-each each) (none-failed e)),
    sym (split-whole reader.bytes),
  )

  pub answers_determine : AnswersDetermine (after_line_calls (fresh_reader room) cs)
  answers_determine each e =
      rw (any_stream room enough cs, any_messages room enough cs, ← pieces-reported (pieces_read reader) (pieces-each each) (none-failed e))
      (sym (split-whole reader.bytes))
