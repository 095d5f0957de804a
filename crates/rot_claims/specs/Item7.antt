-- Document 02's item 7: 003's vectors; refusals; what was written is read back, bytes behind it or not; the echo's answer; the CRC's table.
-- Assumes nothing: these are definitions and statements.
use Rattle.std.specs.Prelude.{◌≡◌, true, cond, not, ◌&&◌, List, [], ◌∷◌, ◌++◌, map, ◌↔◌, ℕ, ◌*◌, ◌/◌, ◌%◌, ◌^◌, ◌≤◌, ◌<◌, eqb, ltb, length}
use Rattle.std.specs.Prelude.{take, drop, get_or}
use Rattle.std.proofs.Math.Option.{none, some}
use Rattle.std.specs.Int.Bits.{bit_xor}
use Rattle.octets.specs.TableTests.{TableTest, table_test, first_failing}
use Rattle.octets.specs.Bytes.{Byte, Each}
use Rattle.rot.specs.Limits.{longest_payload}
use Rattle.rot.specs.Message.{echo_request, echo_response, listed_type, RotMessage, rot_message, echoed}
use Rattle.rot.specs.Crc.{after_bits, bits}
use Rattle.rot.specs.Table.{Entries}
use Rattle.rot.specs.Answers.{refused, nothing, handed, wrote, RotOutcome, rot_outcome, rot_write_into}
use Rattle.rot.specs.Reading.{type_of, rot_payload, no_input, nothing_sent, wrong_protocol, short_header, long_payload}
use Rattle.rot.specs.Reading.{cut_short, wrong_crc, wrong_type}
use Rattle.rot.specs.Reading.{good, rot_judge, rot_read_promise, payload_promise}
use Rattle.rot.specs.Writing.{rot_message_with, rot_write_promise}
use Rattle.rot_claims.specs.Samples.{rot_sample_meant, rot_samples}

-- a message that the writer does not refuse
pub record Sendable (m : RotMessage) : Type 0 where
  pub type : listed_type m.type ≡ true
  pub short : length m.payload ≤ longest_payload

-- how the reader takes a message: an echo request is answered, any other is handed out
pub record ReadAs (m : RotMessage) (input : List ℕ) : Type 0 where
  pub handed_out : (m.type ≡ echo_request → ⊥) → (out : List ℕ)
      → (rot_read_promise input out ≡ rot_outcome (handed m.type (length m.payload)) out) × (payload_promise input ≡ m.payload)
  pub echo : m.type ≡ echo_request → (out : List ℕ)
      → (rot_read_promise input out ≡ rot_write_into (rot_message (echoed m)) out) × (payload_promise input ≡ [])

-- a call of the reader that wrote has answered an echo request
pub record Echoed (input : List ℕ) (n : ℕ) (o : RotOutcome) : Type 0 where
  pub asked : RotMessage
  pub judged : rot_judge input ≡ good asked
  pub request : asked.type ≡ echo_request
  pub bytes : take n o.out ≡ rot_message (echoed asked)

-- the reader's tests in document 02's order; protocol 0, whatever follows, is no refusal; 8 is for the echo's answer
unfoldable pub link_tests : List ℕ → List ℕ → List TableTest
link_tests input out =
    table_test 20 (no_input input)
    ∷ cond (nothing_sent input) []
    (table_test 21 (wrong_protocol input)
    ∷ table_test 22 (short_header input)
    ∷ table_test 23 (long_payload input)
    ∷ table_test 24 (cut_short input)
    ∷ table_test 25 (wrong_crc input)
    ∷ table_test 26 (wrong_type input)
    ∷ table_test 8
    (eqb (type_of input) echo_request && ltb (length out) (length (rot_message (rot_message_with echo_response (rot_payload input)))))
    ∷ [])

abbrev pub LinkRefusedExactly : Type 0
LinkRefusedExactly = (input out : List ℕ) (n : ℕ)
    → ((rot_read_promise input out).answer ≡ refused n) ↔ (first_failing (link_tests input out) ≡ some n)

abbrev pub LinkUntouched : Type 0
LinkUntouched = (input out : List ℕ) (n : ℕ) → (rot_read_promise input out).answer ≡ refused n → (rot_read_promise input out).out ≡ out

abbrev pub NothingSent : Type 0
NothingSent = (rest out : List ℕ) → (rot_read_promise (0 ∷ rest) out ≡ rot_outcome nothing out) × (payload_promise (0 ∷ rest) ≡ [])

-- the writer's tests: 23, 26, then 8
abbrev pub link_writer_tests : RotMessage → List ℕ → List TableTest
link_writer_tests m out =
    table_test 23 (ltb longest_payload (length m.payload))
    ∷ table_test 26 (not (listed_type m.type))
    ∷ table_test 8 (ltb (length out) (length (rot_message m)))
    ∷ []

abbrev pub LinkWriterRefusedExactly : Type 0
LinkWriterRefusedExactly = (m : RotMessage) (out : List ℕ) (n : ℕ)
    → ((rot_write_promise m out).answer ≡ refused n) ↔ (first_failing (link_writer_tests m out) ≡ some n)

abbrev pub LinkWriterUntouched : Type 0
LinkWriterUntouched = (m : RotMessage) (out : List ℕ) (n : ℕ) → (rot_write_promise m out).answer ≡ refused n → (rot_write_promise m out).out
    ≡ out

abbrev pub LinkWriterWrites : Type 0
LinkWriterWrites = (m : RotMessage) (out : List ℕ) → first_failing (link_writer_tests m out) ≡ none
    → rot_write_promise m out ≡ rot_outcome (wrote (length (rot_message m))) (rot_message m ++ drop (length (rot_message m)) out)

-- one byte of the message, by a table of 256 entries that follow the eight-shift rule
abbrev pub ByTable : Type 0
ByTable = (table : List ℕ) → Entries table → (register byte : ℕ) → register < 2 ^ 32 → byte < 256
    → after_bits register (bits 8 byte) ≡ bit_xor (get_or table (bit_xor (register / 2 ^ 24) byte) 0) (register % 2 ^ 24 * 2 ^ 8)

abbrev pub RotSamplesHold : Type 0
RotSamplesHold = map rot_sample_meant rot_samples ≡ rot_samples

abbrev pub ReadsBack : Type 0
ReadsBack = (m : RotMessage) (room : List ℕ) (n : ℕ) → (rot_write_promise m room).answer ≡ wrote n → (behind : List ℕ)
    → ReadAs m (take n (rot_write_promise m room).out ++ behind)

abbrev pub EchoReads : Type 0
EchoReads = (input out : List ℕ) (n : ℕ) → (rot_read_promise input out).answer ≡ wrote n
    → (e : Echoed input n (rot_read_promise input out))
    × ((behind : List ℕ) → ReadAs (echoed e.asked) (take n (rot_read_promise input out).out ++ behind))

abbrev pub EchoBack : Type 0
EchoBack = (payload room out : List ℕ) (n k : ℕ)
    → let w = rot_write_promise (rot_message_with echo_request payload) room in w.answer ≡ wrote n → (behind : List ℕ)
    → let r = rot_read_promise (take n w.out ++ behind) out in r.answer ≡ wrote k → (after : List ℕ)
    → ReadAs (rot_message_with echo_response payload) (take k r.out ++ after)

abbrev pub OneMessage : Type 0
OneMessage = (m k : RotMessage) (room hall : List ℕ) (i j : ℕ) → (rot_write_promise m room).answer ≡ wrote i
    → (rot_write_promise k hall).answer ≡ wrote j
    → (behind after : List ℕ) → take i (rot_write_promise m room).out ++ behind ≡ take j (rot_write_promise k hall).out ++ after → m ≡ k

abbrev pub JudgedGood : Type 0
JudgedGood = (m : RotMessage) (behind : List ℕ) → Sendable m → rot_judge (rot_message m ++ behind) ≡ good m

abbrev pub ReadBytes : Type 0
ReadBytes = (input : List ℕ) (m : RotMessage) → Each Byte input → rot_judge input ≡ good m
    → input ≡ rot_message m ++ drop (length (rot_message m)) input

abbrev pub BehindIgnored : Type 0
BehindIgnored = (input : List ℕ) (m : RotMessage) → Each Byte input → rot_judge input ≡ good m → (behind : List ℕ)
    → rot_judge (input ++ behind) ≡ good m

pub record RotItem7 : Type 0 where
  -- 003's two echo messages, as a single table, over the meaning itself
  pub samples_hold : RotSamplesHold
  -- the reader refuses exactly by the first of its tests that fails: 20 to 26 in this order, then 8 for the echo's answer
  pub link_refused_exactly : LinkRefusedExactly
  -- and leaves the room then
  pub link_untouched : LinkUntouched
  -- protocol 0, whatever follows, means that nothing was sent
  pub nothing-sent : NothingSent
  -- the writer refuses exactly by 23, 26, then 8
  pub link_writer_refused_exactly : LinkWriterRefusedExactly
  -- and leaves the room then
  pub link_writer_untouched : LinkWriterUntouched
  -- any other call puts exactly the message at the room's start; every byte behind it stays
  pub link_writer_writes : LinkWriterWrites
  -- with a table of 256 entries as `Entries` has it, one entry stands for the eight bits of a byte, the top bit first
  pub crc_by_table : ByTable
  -- what was written in any room, with any bytes behind it, is read as that message
  pub reads_back : ReadsBack
  -- Where the reader wrote, its input was an echo request.
  -- Its answer, with any bytes behind it, is read as an echo response with the same payload.
  pub echo_reads : EchoReads
  -- an echo request that was written, read, and its answer read: the payload comes back
  pub echo_back : EchoBack
  -- bytes that begin with two messages written are of one message
  pub one_message : OneMessage
  -- a message's bytes, with any bytes behind them, are judged as that message
  pub judged : JudgedGood
  -- what is read as a message begins with that message's bytes
  pub read_bytes : ReadBytes
  -- and bytes behind it are ignored
  pub behind_ignored : BehindIgnored
