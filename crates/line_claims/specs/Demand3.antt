-- Demand 3: wire bytes determine the list of messages, and any calls of a fresh line reader hand out exactly those read.
-- The file also says what the checksum misses. Assumes nothing: these are definitions and statements.
use Rattle.std.specs.Prelude.{◌≡◌, true, false, List, [], ◌∷◌, ◌++◌, map, ◌⊎◌, ◌↔◌, ℕ, suc, ◌+◌, ◌/◌, ◌%◌, ◌≤◌, ◌<◌, length, take, get_or}
use Rattle.std.proofs.Math.Option.{some}
use Rattle.octets.specs.Bytes.{Byte, Each}
use Rattle.line.specs.Limits.{longest_data, longest_form}
use Rattle.line.specs.Checksum.{checksum}
use Rattle.line.specs.Message.{Message, MessageTyped, InRange, message}
use Rattle.line.specs.Cobs.{cobs, uncobs}
use Rattle.line.specs.Frame.{frame, WireBytes, NonZero, split, non_empty}
use Rattle.line.specs.Judge.{failure, sequence_of, checksum_of, wrong_length, wrong_checksum, judge_form}
use Rattle.line.specs.Reader.{more, valid_reader, read_promise, collect_promise, tail_promise}
use Rattle.line.specs.Writer.{WriteReport, write_promise}
use Rattle.line_claims.specs.Calls.{LineRead, Reader, reader_on, after_line_reads, OfFreshReader, frame_report, good_messages}
use Rattle.line_claims.specs.Calls.{failure_reasons, tail_meant}
use Rattle.line_claims.specs.Changes.{Near, AllSameOr00Ff}
use Rattle.line_claims.specs.Samples.{line_sample_meant, line_samples}
use Rattle.line_claims.specs.Demand1.{WriterWrites}

-- ---- Wire bytes determine the list of messages

-- Wire bytes made of what the writer put out, each call with arguments of its types and in any room.
-- Any number of 00 may stand before, between and after.
pub data Sent : List Message → List ℕ → Type 0 where
  over : Sent [] []
  idle : {ms : List Message} {w : List ℕ} → Sent ms w → Sent ms (0 ∷ w)
  wrote : {m : Message} {ms : List Message} {w : List ℕ} (room : List ℕ) (n : ℕ) → MessageTyped m
      → (write_promise m room).answer ≡ WriteReport.wrote n → Sent ms w → Sent (m ∷ ms) (take n (write_promise m room).out ++ w)

abbrev pub OneMeaning : Type 0
OneMeaning = (ms ns : List Message) (w : List ℕ) → WireBytes ms w → WireBytes ns w → ms ≡ ns

abbrev pub WrittenFrame : Type 0
WrittenFrame = (m : Message) (room : List ℕ) (n : ℕ) → (write_promise m room).answer ≡ WriteReport.wrote n
    → (n ≡ length (frame m)) × (take n (write_promise m room).out ≡ frame m) × (length m.payload ≤ longest_data)

abbrev pub RoomEnough : Type 0
RoomEnough = (m : Message) (out : List ℕ) → InRange m → longest_form + 1 ≤ length out
    → (write_promise m out).answer ≡ WriteReport.wrote (length (frame m))

abbrev pub OneMeaningSent : Type 0
OneMeaningSent = (ms ns : List Message) (w : List ℕ) → Sent ms w → Sent ns w → ms ≡ ns

abbrev pub LineRoundTrip : Type 0
LineRoundTrip = (xs : List ℕ) → uncobs (cobs xs) ≡ some xs

abbrev pub NoZero : Type 0
NoZero = (xs : List ℕ) → Each Byte xs → Each NonZero (cobs xs)

abbrev pub FormFits : Type 0
FormFits = (m : Message) → InRange m → length (cobs (message m)) ≤ longest_form

abbrev pub FrameFits : Type 0
FrameFits = (m : Message) → InRange m → length (frame m) ≤ longest_form + 1

pub record WireDetermines : Type 0 where
  -- bytes that are the wire bytes of two lists of messages are those of one
  pub one_meaning : OneMeaning
  -- unless the table refuses the call, the line layer's writer puts out exactly the message's frame
  pub writer_writes : WriterWrites
  -- so an answer other than a refusal is the frame's length, and the frame stands there
  pub written_frame : WrittenFrame
  -- a room of 4,141 bytes is never too short
  pub room_enough : RoomEnough
  -- so the bytes that the writer's calls put out determine the messages
  pub one_meaning_sent : OneMeaningSent
  -- a COBS form reads back as its bytes
  pub round_trip : LineRoundTrip
  -- holds no 00
  pub no_zero : NoZero
  -- and has at most 4,140 bytes, 4,141 with its terminator
  pub form_fits : FormFits
  pub frame_fits : FrameFits

-- ---- Any list of calls of a fresh line reader hands out exactly the messages read

abbrev pub HandsOut : Reader → Type 0
HandsOut r = (ms : List Message) → WireBytes ms r.bytes → (r.messages ≡ ms) × (r.failures ≡ [])

abbrev pub SentHanded : Reader → Type 0
SentHanded r = (ms : List Message) → Sent ms r.bytes → (r.messages ≡ ms) × (r.failures ≡ [])

abbrev pub AnyStream : Reader → Type 0
AnyStream r = r.answered ≡ map frame_report (split r.bytes).closed

abbrev pub AnyMessages : Reader → Type 0
AnyMessages r = r.messages ≡ good_messages (non_empty (split r.bytes).closed)

abbrev pub AnyFailures : Reader → Type 0
AnyFailures r = r.failures ≡ failure_reasons (non_empty (split r.bytes).closed)

abbrev pub AnyTail : Reader → Type 0
AnyTail r = tail_promise r.state ≡ tail_meant (split r.bytes).rest

-- the whole piece, or up to and with a 00 of that piece
abbrev pub Stops : List ℕ → ℕ → Type 0
Stops piece used = (used ≡ length piece) ⊎ ((at : ℕ) × (used ≡ suc at) × (at < length piece) × (get_or piece at 0 ≡ 0))

abbrev pub AcceptedStops : Type 0
AcceptedStops = (s piece : List ℕ) → valid_reader s ≡ true → Stops piece (read_promise s piece).used

-- the whole piece, or up to a 00 of that piece
abbrev pub StopsAhead : List ℕ → ℕ → Type 0
StopsAhead piece used = (used ≡ length piece) ⊎ ((used < length piece) × (get_or piece used 0 ≡ 0))

abbrev pub CollectReads : Type 0
CollectReads = (s piece : List ℕ) → valid_reader s ≡ true
    → let o = collect_promise s piece in
    (o ≡ read_promise s (take o.used piece)) × (o.answer ≡ more) × Each (λ b. 1 ≤ b) (take o.used piece) × StopsAhead piece o.used

abbrev pub LineCut : Type 0
LineCut = (s : List ℕ) (cs ds : List LineRead) → (after_line_reads (reader_on s) cs).bytes ≡ (after_line_reads (reader_on s) ds).bytes
    → after_line_reads (reader_on s) cs ≡ after_line_reads (reader_on s) ds

pub record FreshReader : Type 0 where
  -- where the bytes read are wire bytes, the messages handed out are exactly theirs, in order, and no failure is reported
  pub hands_out : OfFreshReader HandsOut
  -- so they are exactly those that the writer's calls put out
  pub sent_handed : OfFreshReader SentHanded
  -- for any stream there is one answer to each 00, and it is the tests' verdict on the bytes ahead of it
  pub any_stream : OfFreshReader AnyStream
  -- the messages handed out are those that the tests find good, in order
  pub any_messages : OfFreshReader AnyMessages
  -- the failures reported are those that the tests find, in order
  pub any_failures : OfFreshReader AnyFailures
  -- the unfinished tail is what was read behind the last 00
  pub any_tail : OfFreshReader AnyTail
  -- a call that is not refused reads its whole piece, or stops behind a 00 of that piece
  pub accepted_stops : AcceptedStops
  -- A collect that is not refused is a read of the piece's bytes up to its first 00, without it, or of the whole piece.
  -- So all that is said here of calls that read is said of it.
  pub collect_reads : CollectReads
  -- cutting the stream elsewhere changes nothing: calls that read the same bytes leave the same reader
  pub cut : LineCut

-- ---- Of changes at one or two neighbouring bytes the checksum misses exactly 00 against ff

abbrev pub ChecksumClaim : Type 0
ChecksumClaim = (xs ys : List ℕ) → Near xs ys → Each Byte xs → Each Byte ys → (checksum xs ≡ checksum ys) ↔ AllSameOr00Ff xs ys

-- a byte ff in the checksum received
abbrev pub ReceivedFf : List ℕ → Type 0
ReceivedFf xs = (checksum_of xs % 256 ≡ 255) ⊎ (checksum_of xs / 256 ≡ 255)

abbrev pub FfNeverMatches : Type 0
FfNeverMatches = (xs : List ℕ) → ReceivedFf xs → wrong_checksum xs ≡ true

abbrev pub FfReason2 : Type 0
FfReason2 = (xs : List ℕ) → wrong_length xs ≡ false → ReceivedFf xs → judge_form (some xs) ≡ failure 2 (some (sequence_of xs))

pub record BlindSpots : Type 0 where
  -- bodies of one length that differ in one byte or in two neighbouring ones:
  -- equal checksums exactly where each differing place has 00 against ff
  pub checksum_claim : ChecksumClaim
  -- a received checksum that holds a byte ff never matches, whatever the length
  pub ff_never_matches : FfNeverMatches
  -- and is reason 2 in a message of allowed length
  pub ff_reason_2 : FfReason2

-- ---- Document 01's line samples

abbrev pub LineSamplesHold : Type 0
LineSamplesHold = map line_sample_meant line_samples ≡ line_samples

pub record LineSamples : Type 0 where
  -- L1 to L12 together, as a single table, over the meaning itself
  pub samples_hold : LineSamplesHold
