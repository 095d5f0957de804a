-- Sending: a reply's frame is bytes and has room, and what a valid outbox then holds.
-- Assumes nothing.
use mathlib.Core.Path.{◌≡◌, ◌∙◌}
use mathlib.Core.Bool.{Bool, true, false}
use mathlib.Core.List.{List, [], ◌∷◌, ◌++◌}
use Prim.Native.Nat.{ℕ, suc, ◌+◌, ◌-◌, ◌≤◌}
use native.Mathlib.Nat.{sub-zero}
use native.Mathlib.Numerals.{sub-one}
use native.Mathlib.Omega.{arith}
use lib.Dec.{eqb}
use lib.ListN.{length}
use lib.Seq.{take-length}
use Rattle.octets.specs.Bytes.{Byte, Each, bytes, run}
use Rattle.octets.proofs.Each.{each_append, each-run}
use Rattle.octets.proofs.Numbers.{bytes-each}
use Rattle.octets.proofs.Overlay.{overlay-part, overlay-inside, overlay-each}
use Rattle.line.specs.Limits.{longest_data, longest_form}
use Rattle.line.specs.Message.{Message, message}
use Rattle.line.specs.Frame.{frame}
use Rattle.line.specs.Cobs.{cobs}
use Rattle.line_claims.proofs.CobsClaims.{cobs-each}
use Rattle.line_claims.proofs.MessageLaws.{message-each}
use Rattle.supervisor.specs.Layout
use Rattle.supervisor.specs.Valid.{valid_outbox}
use Rattle.supervisor.proofs.ValidLaws.{outbox-valid}
use Rattle.responder.specs.Requests.{owed}
use Rattle.responder.specs.Receive.{sent_box, Head, reply_bytes, message_with}
use Rattle.responder.proofs.KeptLaws.{begun, first-low, offsets, filled, sent-from, sent-to, sent-rest, run_short, reply-short}
use Rattle.supervisor_claims.specs.View.{pending_of}

-- ---- a reply

-- what its data must be: short enough, and bytes
abbrev pub Sendable : List ℕ → Type 0
Sendable payload = (length payload ≤ longest_data) × Each Byte payload

pub run-sendable : (at n : ℕ) (s : List ℕ) → n ≤ longest_data → Each Byte s → Sendable (run at n s)
run-sendable at n s h b = (run_short at n longest_data s h, each-run at n s b)

-- of any message whose data are bytes
pub frame-bytes : (m : Message) → Each Byte m.payload → Each Byte (frame m)
unfolding frame
frame-bytes m h =
    each_append Byte (cobs (message m)) (0 ∷ [])
    (cobs-each Byte Byte (λ n l. omega arith) (λ b l. l) (message m) (message-each m h))
    (omega arith, tt)

-- its bytes have room in the outbox
pub reply-sendable : (reply : Head) (command : ℕ) (payload : List ℕ) → Sendable payload
    → let bs = reply_bytes reply command payload in (length bs ≤ longest_form + 1) × Each Byte bs
reply-sendable reply command payload h =
    let m = message_with reply.version reply.number.0 command payload in
    (reply-short reply command payload h.0, frame-bytes m h.1)

-- ---- the outbox

module _ (o bs : List ℕ) (valid : valid_outbox o ≡ true) (short : length bs ≤ longest_form + 1) where
  pub sent-pending : pending_of (sent_box bs o) ≡ owed (eqb (Layout.outbox_terminator_owed o) 1) ++ bs
  unfolding pending_of
  sent-pending =
      let owes = eqb (Layout.outbox_terminator_owed o) 1 in
      let low = first-low o bs valid short in
      rw (
        sent-from o bs valid short,
        sent-to o bs valid short,
        (sent-rest o bs valid short).runs (Layout.outbox_bytes_offset + begun owes) (suc (length bs) - begun owes) (omega arith),
      )
      (begins owes)
    where
      room : Layout.outbox_bytes_offset ≤ length o
      room = let v = outbox-valid o valid in omega arith

      begins : (t : Bool) → run (Layout.outbox_bytes_offset + begun t) (suc (length bs) - begun t) (filled bs o) ≡ owed t ++ bs
      begins true = rw sub-zero (overlay-inside Layout.outbox_bytes_offset (0 ∷ bs) o room)
      begins false = rw sub-one (overlay-part Layout.outbox_bytes_offset 1 (length bs) (0 ∷ bs) o room (omega arith) ∙ take-length bs)

  pub sent-bytes : Each Byte o → Each Byte bs → Each Byte (sent_box bs o)
  unfolding sent_box
  sent-bytes h k =
      overlay-each Byte Layout.outbox_from_offset (offsets _ _) (filled bs o)
      (each_append Byte (bytes 2 _) (bytes 2 _) (bytes-each 2 _) (bytes-each 2 _))
      (overlay-each Byte Layout.outbox_bytes_offset (0 ∷ bs) o (omega arith, k) h)
