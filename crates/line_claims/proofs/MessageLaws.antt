-- Laws of a message's bytes: that each is a byte, and the parts that are read back from them.
-- Other laws are of the message that is read of any bytes. Assumes nothing.
use mathlib.Core.Path.{◌≡◌, refl, sym, ap, ◌∙◌}
use mathlib.Core.List.{List, ◌++◌}
use Prim.Native.Nat.{ℕ, ◌+◌, ◌-◌, ◌≤◌}
use native.Mathlib.Omega.{arith}
use lib.ListN.{length, drop, length-take, length-drop, take-append-drop}
use lib.Seq.{take_at, drop_at}
use Rattle.octets.specs.Bytes.{Byte, Each, number, bytes, run}
use Rattle.octets.proofs.Each.{each_append, each_take, each-drop}
use Rattle.octets.proofs.Numbers.{bytes-each, number-bytes, bytes-number, number_small}
use Rattle.octets.proofs.Overlay.{run_take, run-add, number-run}
use Rattle.line.specs.Limits.{header_length, checksum_length, shortest_message, longest_message}
use Rattle.line.specs.Checksum.{checksum}
use Rattle.line.specs.Message.{magic, Message, InRange, body, message}
use Rattle.line.proofs.Checksum.{checksum-bound}
use Rattle.line.proofs.Message.{length-body, length-message}
use Rattle.line.specs.Judge.{body_of, checksum_of, magic_of, version_of, sequence_of, command_of, payload_of, fields}

-- ---- bytes

pub body-each : (m : Message) → Each Byte m.payload → Each Byte (body m)
unfolding body
body-each m h = field 4 _ _ (field 4 _ _ (field 8 _ _ (field 1 _ _ h)))
  where
    field : (k v : ℕ) (xs : List ℕ) → Each Byte xs → Each Byte (bytes k v ++ xs)
    field k v xs h = each_append Byte (bytes k v) xs (bytes-each k v) h

pub message-each : (m : Message) → Each Byte m.payload → Each Byte (message m)
unfolding message
message-each m h = each_append Byte (body m) _ (body-each m h) (bytes-each 2 _)

-- ---- the parts, read back

body-ends : (m : Message) → length (body m) ≡ length (message m) - checksum_length
body-ends m = omega (arith, length-body m, length-message m)

pub body-read : (m : Message) → body_of (message m) ≡ body m
unfolding message
body-read m = take_at (body m) _ _ (body-ends m)

pub checksum-read : (m : Message) → checksum_of (message m) ≡ checksum (body m)
unfolding message
checksum-read m = rw (drop_at (body m) _ _ (body-ends m)) (number-bytes 2 _ (checksum-bound (body m)))

pub magic-read : (m : Message) → magic_of (message m) ≡ magic
unfolding message body number bytes
magic-read m = refl

-- whatever its fields are
pub payload-read : (m : Message) → payload_of (message m) ≡ m.payload
unfolding body bytes
payload-read m = rw (body-read m)

pub fields_read : (m : Message) → InRange m → fields (message m) ≡ m
unfolding fields message body bytes
fields_read m r =
    rw (body-read m)
    (λ i. record {
      version = number-bytes 4 m.version r.typed.version i;
      sequence = number-bytes 8 m.sequence r.typed.sequence i;
      command = number-bytes 1 m.command r.typed.command i;
      payload = m.payload;
    })

-- ---- the message that is read of any bytes

module _ (xs : List ℕ) (each : Each Byte xs) where
  -- is in range, where they are not too many
  pub fields-range : length xs ≤ longest_message → InRange (fields xs)
  unfolding fields
  fields-range h = record {
    typed = record {
      version = number_small 4 4 xs each;
      sequence = number_small 8 8 xs each;
      command = number_small 1 16 xs each;
      payload = each-drop Byte header_length (body_of xs) (each_take Byte (length xs - checksum_length) xs each);
    };
    fits = simp (length-drop, length-take) (omega arith);
  }

  module _ (enough : shortest_message ≤ length xs) (first : magic_of xs ≡ magic) where
    -- how many bytes of data there are
    abbrev size : ℕ
    size = length xs - shortest_message

    body-parts : body_of xs ≡ run 0 4 xs ++ (run 4 4 xs ++ (run 8 8 xs ++ (run 16 1 xs ++ run 17 size xs)))
    body-parts =
        let e : length xs - checksum_length ≡ 4 + (4 + (8 + (1 + size))) = omega arith in
        rw (e, run-add 0 4 (4 + (8 + (1 + size))) xs, run-add 4 4 (8 + (1 + size)) xs, run-add 8 8 (1 + size) xs, run-add 16 1 size xs)

    data-part : payload_of xs ≡ run 17 size xs
    data-part =
        let e : length xs - checksum_length ≡ 17 + size = omega arith in
        rw (e, run_take 17 size xs)

    body-written : body (fields xs) ≡ body_of xs
    unfolding body fields
    body-written =
        ap (λ (v : ℕ). bytes 4 v ++ (bytes 4 (version_of xs) ++ (bytes 8 (sequence_of xs) ++ (bytes 1 (command_of xs) ++ payload_of xs))))
        (sym first)
        ∙ rw (
          number-run 4 0 xs (omega arith) each,
          number-run 4 4 xs (omega arith) each,
          number-run 8 8 xs (omega arith) each,
          number-run 1 16 xs (omega arith) each,
          data-part,
        )
        (sym body-parts)

    -- has these bytes, where they have its checksum
    pub message-written : checksum_of xs ≡ checksum (body_of xs) → message (fields xs) ≡ xs
    unfolding message
    message-written e =
        let at = length xs - checksum_length in
        let two : length (drop at xs) ≡ 2 = simp length-drop (omega arith) in
        rw (body-written, ← e)
        (ap (λ (l : List ℕ). body_of xs ++ l) (rw two at (bytes-number (drop at xs) (each-drop Byte at xs each))) ∙ take-append-drop at xs)
