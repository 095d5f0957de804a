-- When the reader and the writer are refused, and what they leave then; protocol 0; the CRC of a byte by the table.
-- Assumes nothing.
use mathlib.Core.Path.{◌≡◌, refl}
use mathlib.Core.Bool.{Bool, true, false, cond, ◌&&◌}
use mathlib.Core.List.{List, [], ◌∷◌, ◌++◌}
use mathlib.Core.Logic.{◌↔◌}
use mathlib.Core.Option.{Option, none, some}
use Prim.Native.Nat.{ℕ, ◌/◌, ◌^◌}
use native.Mathlib.Omega.{arith}
use lib.Bits.{bit_xor, xor_lt}
use lib.Dec.{eqb, ltb, eqb-suc-zero}
use lib.ListN.{length, drop}
use Rattle.octets.proofs.Overlay.{overlay-start}
use Rattle.octets.specs.Bytes.{number, overlay}
use Rattle.octets.proofs.Conditions.{cond-by, cond_both, cond-not}
use Rattle.octets.specs.TableTests.{TableTest, table_test, first_failing}
use Rattle.rot.specs.Limits.{longest_payload}
use Rattle.rot.specs.Message.{echo_request, echo_response, listed_type, RotMessage, rot_message, echoed}
use Rattle.rot.specs.Answers.{refused, nothing, handed, wrote, RotOutcome, rot_outcome, rot_write_into}
use Rattle.rot.specs.Reading
use Rattle.rot.specs.Reading.{type_of, rot_payload, no_input, nothing_sent, wrong_protocol, short_header, long_payload}
use Rattle.rot.specs.Reading.{cut_short, wrong_crc, wrong_type}
use Rattle.rot.specs.Reading.{judge_message, judge_length, rot_judge, serve_message, answer_to, rot_read_promise, handed_part}
use Rattle.rot.specs.Reading.{payload_promise}
use Rattle.rot.specs.Writing.{rot_message_with, rot_write_promise}
use Rattle.rot.proofs.Register.{by-table}
use Rattle.rot_claims.specs.Item7.{link_tests, LinkRefusedExactly, LinkUntouched, NothingSent, LinkWriterRefusedExactly}
use Rattle.rot_claims.specs.Item7.{LinkWriterUntouched, LinkWriterWrites, ByTable}

module _ (n : ℕ) where
  abbrev Numbered : RotOutcome → Option ℕ → Type 0
  Numbered o k = (o.answer ≡ refused n) ↔ (k ≡ some n)

  same : (k : ℕ) (out : List ℕ) → Numbered (rot_outcome (refused k) out) (some k)
  same k out = (λ e. cc, λ e. cc)

  sent : (k : ℕ) (out : List ℕ) → Numbered (rot_outcome (wrote k) out) none
  sent k out = (λ e. cc, λ e. cc)

  handed-none : (t k : ℕ) (out : List ℕ) → Numbered (rot_outcome (handed t k) out) none
  handed-none t k out = (λ e. cc, λ e. cc)

  nothing-none : (out : List ℕ) → Numbered (rot_outcome nothing out) none
  nothing-none out = (λ e. cc, λ e. cc)

  -- bytes that go out or do not fit
  sending-numbered : (bs out : List ℕ) → Numbered (rot_write_into bs out) (cond (ltb (length out) (length bs)) (some 8) none)
  unfolding rot_write_into
  sending-numbered bs out = cond_both Numbered (ltb (length out) (length bs)) (λ _. same 8 out) (λ _. sent (length bs) (overlay 0 bs out))

  -- a message that was read
  abbrev echo_fails : ℕ → List ℕ → List ℕ → Bool
  echo_fails t p out = eqb t echo_request && ltb (length out) (length (rot_message (rot_message_with echo_response p)))

  served-numbered : (t : ℕ) (p out : List ℕ) → Numbered (serve_message (rot_message_with t p) out) (cond (echo_fails t p out) (some 8) none)
  unfolding serve_message
  served-numbered t p out = by (eqb t echo_request)
    where
      by : (b : Bool)
          → Numbered (cond b (rot_write_into (rot_message (rot_message_with echo_response p)) out) (rot_outcome (handed t (length p)) out))
          (cond (b && ltb (length out) (length (rot_message (rot_message_with echo_response p)))) (some 8) none)
      by true = sending-numbered (rot_message (rot_message_with echo_response p)) out
      by false = handed-none t (length p) out

  read-numbered : (input out : List ℕ) → Numbered (answer_to (rot_judge input) out) (first_failing (link_tests input out))
  unfolding answer_to rot_judge judge_length judge_message link_tests first_failing
  read-numbered input out = cond_both P (no_input input) (λ _. same 20 out) (λ _. sending-or-not (nothing_sent input))
    where
      P : Reading.RotVerdict → Option ℕ → Type 0
      P j k = Numbered (answer_to j out) k

      later : List TableTest
      later =
          table_test 21 (wrong_protocol input)
          ∷ table_test 22 (short_header input)
          ∷ table_test 23 (long_payload input)
          ∷ table_test 24 (cut_short input)
          ∷ table_test 25 (wrong_crc input)
          ∷ table_test 26 (wrong_type input)
          ∷ table_test 8 (echo_fails (type_of input) (rot_payload input) out)
          ∷ []

      judged : Reading.RotVerdict
      judged = cond (wrong_protocol input) (Reading.failure 21) (cond (short_header input) (Reading.failure 22) (judge_length input))

      tests : P judged (first_failing later)
      tests =
          cond_both P (wrong_protocol input) (λ _. same 21 out) (λ _.
          cond_both P (short_header input) (λ _. same 22 out) (λ _.
          cond_both P (long_payload input) (λ _. same 23 out) (λ _.
          cond_both P (cut_short input) (λ _. same 24 out) (λ _.
          cond_both P (wrong_crc input) (λ _. same 25 out) (λ _.
          cond_both P (wrong_type input) (λ _. same 26 out) (λ _. served-numbered (type_of input) (rot_payload input) out))))))

      sending-or-not : (b : Bool) → P (cond b Reading.unsent judged) (first_failing (cond b [] later))
      sending-or-not true = nothing-none out
      sending-or-not false = tests

pub link_refused_exactly : LinkRefusedExactly
unfolding rot_read_promise
link_refused_exactly input out n = read-numbered n input out

-- ---- what is left

module _ (out : List ℕ) (n : ℕ) where
  abbrev Held : RotOutcome → Type 0
  Held o = o.answer ≡ refused n → o.out ≡ out

  sending-held : (bs : List ℕ) → Held (rot_write_into bs out)
  unfolding rot_write_into
  sending-held bs = cond-by Held (ltb (length out) (length bs)) _ _ (λ _ _. refl) (λ _ e. cc)

  answering-held : (j : Reading.RotVerdict) → Held (answer_to j out)
  unfolding answer_to serve_message
  answering-held (Reading.failure k) e = refl
  answering-held Reading.unsent e = refl
  answering-held (Reading.good m) e =
      cond-by Held (eqb m.type echo_request) _ _ (λ _. sending-held (rot_message (echoed m))) (λ _ _. refl) e

pub link_untouched : LinkUntouched
unfolding rot_read_promise
link_untouched input out n = answering-held out n (rot_judge input)

pub nothing-sent : NothingSent
unfolding rot_read_promise answer_to rot_judge payload_promise handed_part number
nothing-sent rest out = (rw eqb-suc-zero, rw eqb-suc-zero)

-- ---- the writer

pub link_writer_refused_exactly : LinkWriterRefusedExactly
unfolding rot_write_promise first_failing
link_writer_refused_exactly m out n =
    cond_both (Numbered n) (ltb longest_payload (length m.payload)) (λ _. same n 23 out)
    (λ _. cond-not (Numbered n) (listed_type m.type) (sending-numbered n (rot_message m) out) (same n 26 out))

pub link_writer_untouched : LinkWriterUntouched
unfolding rot_write_promise
link_writer_untouched m out n =
    cond-by (Held out n) (ltb longest_payload (length m.payload)) _ _ (λ _ _. refl)
    (λ _. cond-by (Held out n) (listed_type m.type) _ _ (λ _. sending-held out n (rot_message m)) (λ _ _. refl))

module _ (m : RotMessage) (out : List ℕ) where
  abbrev Writes : RotOutcome → Option ℕ → Type 0
  Writes o k = k ≡ none → o ≡ rot_outcome (wrote (length (rot_message m))) (rot_message m ++ drop (length (rot_message m)) out)

  sends : Writes (rot_write_into (rot_message m) out) (cond (ltb (length out) (length (rot_message m))) (some 8) none)
  unfolding rot_write_into
  sends =
      cond_both Writes (ltb (length out) (length (rot_message m))) (λ _ e. cc)
      (λ _ _. rw (overlay-start (rot_message m) out))

pub link_writer_writes : LinkWriterWrites
unfolding rot_write_promise first_failing
link_writer_writes m out =
    cond_both (Writes m out) (ltb longest_payload (length m.payload)) (λ _ e. cc)
    (λ _. cond-not (Writes m out) (listed_type m.type) (sends m out) (λ e. cc))

-- ---- the table

pub crc_by_table : ByTable
crc_by_table table h c b i j =
    rw (h (bit_xor (c / 2 ^ 24) b) (xor_lt 8 (c / 2 ^ 24) b (omega arith) j)) (by-table c b i j)
