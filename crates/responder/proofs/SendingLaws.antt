-- Laws of sending: a reply's frame behind the place for a 00, and the bytes that become the pending ones.
-- Assumes nothing.
use Rattle.std.specs.Prelude.{Result, Ok, Err, IsOk}
use mathlib.Core.Path.{◌≡◌, refl, ap, ◌∙◌}
use mathlib.Core.Bool.{cond}
use mathlib.Core.List.{List, [], ◌∷◌, ◌++◌}
use Prim.Native.Nat.{ℕ, suc, ◌+◌, ◌-◌, ◌≤◌}
use native.Mathlib.Nat.{zero-add}
use native.Mathlib.Numerals.{add-one}
use native.Mathlib.Omega.{arith}
use borrow.Author.Tests.{le-ltb}
use borrow.Rule.Slice.PartMut.{put_mid, mid_of}
use lib.Dec.{eqb}
use lib.ListN.{length, drop, set, length-append, length-drop}
use Rattle.octets.specs.Bytes.{bytes, overlay, put}
use Rattle.octets.proofs.Numbers.{length-bytes}
use Rattle.octets.proofs.Overlay.{length-overlay, overlay-before, overlay-one, overlay-next, overlay-swap, put-fits}
use Rattle.line.specs.Limits.{longest_data, longest_form}
use Rattle.line.specs.Message.{Message}
use Rattle.line.specs.Frame.{frame}
use Rattle.line.specs.Writer.{wrote, WriteOutcome, write_report, write_outcome, message_of_parts, write_into, write_promise}
use Rattle.refusals.specs.declared.Refusal.{Refusal}
use Rattle.line.proofs.FrameLength.{frame_fits}
use Rattle.line.proofs.Rest.{rest-mid, rest-overlay}
use Rattle.supervisor.specs.Layout.{outbox_length, outbox_from_offset, outbox_to_offset, outbox_terminator_owed_offset, outbox_bytes_offset}
use Rattle.supervisor.specs.Layout.{outbox_terminator_owed}
use Rattle.responder.specs.Receive.{sent_box, Head, reply_bytes}

-- ---- the frame

abbrev reply_offset : ℕ
reply_offset = outbox_bytes_offset + 1

-- the frame that a message has room for is written
frame-written : (m : Message) (o : List ℕ) → outbox_length ≤ length o → length m.payload ≤ longest_data
    → write_promise m (drop reply_offset o) ≡ record { answer = wrote (length (frame m)); out = overlay 0 (frame m) (drop reply_offset o) }
unfolding write_promise write_into
frame-written m o long short =
    let k : length (frame m) ≤ length (drop reply_offset o) = rw length-drop (omega (arith, frame_fits m short)) in
    rw (le-ltb longest_data (length m.payload) short, le-ltb (length (drop reply_offset o)) (length (frame m)) k)

-- what a call of the writer on the rest of the outbox answers and leaves
module _ (h : Head) (command : ℕ) (head rest o : List ℕ) (long : outbox_length ≤ length o)
    (short : length head + length rest ≤ longest_data)
    (r : Result ℕ Refusal) {t : List ℕ}
    (done : write_outcome r t
    ≡ write_promise (message_of_parts h.version h.number.0 command head rest) (mid_of reply_offset (length o - reply_offset) o)) where
  abbrev reply : List ℕ
  reply = reply_bytes h command (head ++ rest)

  allowed : length (head ++ rest) ≤ longest_data
  allowed = rw length-append short

  written : write_outcome r t ≡ record { answer = wrote (length reply); out = overlay 0 reply (drop reply_offset o) }
  written = rw rest-mid at done ∙ frame-written (message_of_parts h.version h.number.0 command head rest) o long allowed

  answered : write_report r ≡ wrote (length reply)
  answered = ap (λ (w : WriteOutcome). w.answer) written

  pub reply-written : {n : ℕ} → r ≡ Ok n
      → (n ≡ length reply) × ((n ≤ longest_form + 1) × (put_mid reply_offset (length o - reply_offset) o t ≡ overlay reply_offset reply o))
  reply-written {n} e =
      let k : n ≡ length reply = cc answered in (
        k,
        (
          omega (arith, frame_fits (message_of_parts h.version h.number.0 command head rest) allowed),
          rw (ap (λ (w : WriteOutcome). w.out) written) (rest-overlay o reply_offset reply),
        ),
      )

  pub reply_ok : IsOk r
  reply_ok = by r answered
    where
      by : (w : Result ℕ Refusal) → write_report w ≡ wrote (length reply) → IsOk w
      by (Ok n) e = refl
      by (Err why) e = let z : ◌≡◌ {A = ℕ} 0 1 = cc in absurd (omega arith)

-- ---- the pending bytes

-- the two offsets that say which bytes are pending are stored one after the other
pub pending-set : (o : List ℕ) (n : ℕ) {terminator_owed first : ℕ} {t u : List ℕ} → outbox_length ≤ length o
    → terminator_owed ≡ outbox_terminator_owed o → first ≡ cond (eqb terminator_owed 1) 0 1
    → t ≡ put outbox_from_offset (bytes 2 first) (set o outbox_bytes_offset 0) → u ≡ put outbox_to_offset (bytes 2 (n + 1)) t
    → u ≡ overlay outbox_from_offset (bytes 2 (cond (eqb (outbox_terminator_owed o) 1) 0 1) ++ bytes 2 (suc n))
    (overlay outbox_bytes_offset (0 ∷ []) o)
pending-set o n {first = first} long e f p q =
    let s = overlay outbox_bytes_offset (0 ∷ []) o in
    let a = bytes 2 first in
    let b = bytes 2 (suc n) in
    let j = length-bytes 2 first in
    let k = length-bytes 2 (suc n) in
    let l : length s ≡ length o = length-overlay outbox_bytes_offset (0 ∷ []) o (omega arith) in
    let m : length (overlay outbox_from_offset a s) ≡ length s = length-overlay outbox_from_offset a s (omega arith) in
    rw (
      q,
      p,
      add-one,
      overlay-one outbox_bytes_offset 0 o (omega arith),
      put-fits outbox_from_offset a s (omega arith),
      put-fits outbox_to_offset b (overlay outbox_from_offset a s) (omega arith),
      ← e,
      ← f,
    )
    (rw (j, zero-add) at (overlay-next outbox_from_offset a b s (omega arith)))

-- a 00 ahead of the bytes, which are there already
pub sent : (bs o : List ℕ) {n : ℕ} {t u : List ℕ} → outbox_length ≤ length o → n ≡ length bs → t ≡ overlay reply_offset bs o
    → u ≡ overlay outbox_from_offset (bytes 2 (cond (eqb (outbox_terminator_owed t) 1) 0 1) ++ bytes 2 (suc n))
    (overlay outbox_bytes_offset (0 ∷ []) t)
    → u ≡ sent_box bs o
unfolding sent_box
sent bs o long e p q =
    rw (
      q,
      p,
      e,
      overlay-before reply_offset outbox_terminator_owed_offset 1 bs o (omega arith) (omega arith),
      overlay-swap outbox_bytes_offset reply_offset (0 ∷ []) bs o (omega arith) (omega arith),
      overlay-next outbox_bytes_offset (0 ∷ []) bs o (omega arith),
    )
