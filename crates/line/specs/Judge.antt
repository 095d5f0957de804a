-- What the line layer's tests make of the bytes before a 00 (document 01, "Reading a request", down to magic).
-- Assumes nothing: these are definitions.
use Rattle.std.specs.Prelude.{Bool, cond, not, ◌||◌, List, [], ◌∷◌, ◌++◌, ℕ, ◌-◌, eqb, ltb, length, take, drop}
use Rattle.std.proofs.Math.Option.{Option, none, some}
use Rattle.octets.specs.Bytes.{number, number_at}
use Rattle.line.specs.Limits.{header_length, checksum_length, shortest_message, longest_message, longest_form}
use Rattle.line.specs.Numbers.{reason_form, reason_checksum, reason_length, reason_magic}
use Rattle.line.specs.Checksum.{checksum}
use Rattle.line.specs.Message.{magic, Message}
use Rattle.line.specs.Cobs.{uncobs}

-- A failure has its reason in the table, and the sequence of the request where the table's reply carries it.
-- It has none where the reply's sequence is all ones.
pub data LineVerdict : Type 0 where
  failure : ℕ → Option ℕ → LineVerdict
  good : Message → LineVerdict

-- the parts of a message's bytes
abbrev pub body_of : List ℕ → List ℕ
body_of xs = take (length xs - checksum_length) xs

abbrev pub checksum_of : List ℕ → ℕ
checksum_of xs = number (drop (length xs - checksum_length) xs)

abbrev pub magic_of : List ℕ → ℕ
magic_of xs = number_at 4 xs 0

abbrev pub version_of : List ℕ → ℕ
version_of xs = number_at 4 xs 4

abbrev pub sequence_of : List ℕ → ℕ
sequence_of xs = number_at 8 xs 8

abbrev pub command_of : List ℕ → ℕ
command_of xs = number_at 1 xs 16

abbrev pub payload_of : List ℕ → List ℕ
payload_of xs = drop header_length (body_of xs)

-- any version, sequence and command
unfoldable pub fields : List ℕ → Message
fields xs = record { version = version_of xs; sequence = sequence_of xs; command = command_of xs; payload = payload_of xs }

-- The tests in the table's order. Reason 1: there are more than 4,140 bytes, a code byte runs past the end, or a last 01 stands after a
-- full group. Then it is none.
abbrev pub decoded : List ℕ → Option (List ℕ)
decoded form = cond (ltb longest_form (length form)) none (uncobs form)

-- reason 3: a decoded length below 19 or above 4,123
abbrev pub wrong_length : List ℕ → Bool
wrong_length xs = ltb (length xs) shortest_message || ltb longest_message (length xs)

-- reason 2: the checksum differs, compared as a number
abbrev pub wrong_checksum : List ℕ → Bool
wrong_checksum xs = not (eqb (checksum_of xs) (checksum (body_of xs)))

-- reason 4: the magic differs
abbrev pub wrong_magic : List ℕ → Bool
wrong_magic xs = not (eqb (magic_of xs) magic)

-- the verdict: the first row whose test fails, or else a good message
unfoldable pub judge_form : Option (List ℕ) → LineVerdict
judge_form none = failure reason_form none
judge_form (some xs) =
    cond (wrong_length xs) (failure reason_length none)
    (cond (wrong_checksum xs) (failure reason_checksum (some (sequence_of xs)))
    (cond (wrong_magic xs) (failure reason_magic (some (sequence_of xs)))
    (good (fields xs))))

unfoldable pub judge : List ℕ → LineVerdict
judge form = judge_form (decoded form)

-- ---- What has come of a frame since the last 00: its bytes, none where they are more than 4,140

unfoldable pub progress_of : List ℕ → Option (List ℕ)
progress_of bs = cond (ltb longest_form (length bs)) none (some bs)

-- one byte more, or one too many
unfoldable pub more_received : Option (List ℕ) → ℕ → Option (List ℕ)
more_received none b = none
more_received (some bs) b = cond (ltb (length bs) longest_form) (some (bs ++ (b ∷ []))) none

-- the verdict at a 00; none on an empty frame, which is ignored
abbrev pub judge_received : Option (List ℕ) → Option LineVerdict
judge_received none = some (failure reason_form none)
judge_received (some []) = none
judge_received (some (b ∷ bs)) = some (judge (b ∷ bs))

-- the bytes that its form decodes to; none where it decodes to none
abbrev pub decoded_received : Option (List ℕ) → Option (List ℕ)
decoded_received none = none
decoded_received (some form) = uncobs form
