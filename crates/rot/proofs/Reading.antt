-- Laws of what is made of the input: what is known of a message, and what the reader makes of it.
-- Assumes nothing.
use mathlib.Core.Path.{◌≡◌, refl, sym}
use mathlib.Core.Bool.{true}
use mathlib.Core.List.{List, []}
use Prim.Native.Nat.{ℕ, ◌+◌, ◌≤◌}
use native.Mathlib.Omega.{arith}
use borrow.Author.Tests.{ltb-false, eqb-true, eq-eqb, ne_eqb, not-false, le-ltb}
use lib.ListN.{length}
use Rattle.octets.proofs.Conditions.{cond-by}
use Rattle.octets.proofs.Overlay.{length_run}
use Rattle.rot.specs.Limits.{rot_header_length, longest_payload}
use Rattle.rot.specs.Crc.{crc}
use Rattle.rot.specs.Message.{version_1, echo_request, echo_response, listed_type, RotMessage, rot_message}
use Rattle.rot.specs.Answers.{handed, rot_outcome, rot_write_into}
use Rattle.rot.specs.Writing.{rot_message_with, rot_write_promise}
use Rattle.rot.specs.Reading.{protocol_of, type_of, payload_length, crc_field, rot_payload, checked, RotVerdict, failure, unsent, good}
use Rattle.rot.specs.Reading.{no_input, nothing_sent, wrong_protocol, short_header, long_payload, cut_short, wrong_crc, wrong_type}
use Rattle.rot.specs.Reading.{judge_message, judge_length, rot_judge, judged_as, serve_message, answer_to, rot_read_promise, handed_part}
use Rattle.rot.specs.Reading.{payload_promise, payload_offset}
use Rattle.std.specs.Prelude.{Ok, Some}

-- what is known of a message that was read: its fields, and that it passed the tests
pub record Sound (input : List ℕ) (m : RotMessage) : Type 0 where
  pub fields : m ≡ rot_message_with (type_of input) (rot_payload input)
  pub protocol : protocol_of input ≡ version_1
  pub short : payload_length input ≤ longest_payload
  pub whole : rot_header_length + payload_length input ≤ length input
  pub sum : crc_field input ≡ crc (checked input)
  pub type : listed_type (type_of input) ≡ true

abbrev Judges : List ℕ → RotVerdict → Type 0
Judges input (failure n) = Unit {0}
Judges input unsent = Unit {0}
Judges input (good m) = Sound input m

judges : (input : List ℕ) → Judges input (rot_judge input)
unfolding judge_message judge_length rot_judge
judges input =
    let P = Judges input in
    cond-by P (no_input input) _ _ (λ _. tt) (λ _.
    cond-by P (nothing_sent input) _ _ (λ _. tt) (λ _.
    cond-by P (wrong_protocol input) _ _ (λ _. tt) (λ p.
    cond-by P (short_header input) _ _ (λ _. tt) (λ _.
    cond-by P (long_payload input) _ _ (λ _. tt) (λ s.
    cond-by P (cut_short input) _ _ (λ _. tt) (λ l.
    cond-by P (wrong_crc input) _ _ (λ _. tt) (λ c.
    cond-by P (wrong_type input) _ _ (λ _. tt) (λ t. record {
      fields = refl;
      protocol = eqb-true (protocol_of input) version_1 (not-false _ p);
      short = ltb-false longest_payload (payload_length input) s;
      whole = ltb-false (length input) (rot_header_length + payload_length input) l;
      sum = eqb-true (crc_field input) (crc (checked input)) (not-false _ c);
      type = not-false _ t;
    }))))))))

pub judged-sound : (input : List ℕ) (m : RotMessage) → rot_judge input ≡ good m → Sound input m
judged-sound input m e = rw e at (judges input)

-- its payload is as long as its header says
pub sound-length : (input : List ℕ) {m : RotMessage} → Sound input m → length (rot_payload input) ≡ payload_length input
sound-length input s = length_run rot_header_length (payload_length input) input s.whole

-- and the input goes on behind its header
pub header-there : (input : List ℕ) (m : RotMessage) → rot_judge input ≡ good m → rot_header_length ≤ length input
header-there input m e = omega (arith, (judged-sound input m e).whole)

-- what the writer does not refuse is sent
write-sends : (m : RotMessage) (out : List ℕ) → length m.payload ≤ longest_payload → listed_type m.type ≡ true
    → rot_write_into (rot_message m) out ≡ rot_write_promise m out
unfolding rot_write_promise
write-sends m out fits l = rw (le-ltb longest_payload (length m.payload) fits, l)

-- ---- a message by the code's verdict

module _ (input : List ℕ) {kind : ℕ} (j : judged_as input (Ok (Some kind)) ≡ rot_judge input) where
  pub found : rot_judge input ≡ good (rot_message_with kind (rot_payload input))
  unfolding judged_as
  found = sym j

  pub payload-echo : kind ≡ echo_request → [] ≡ payload_promise input
  unfolding handed_part payload_promise
  payload-echo k = rw (found, eq-eqb kind echo_request k)

  pub payload-handed : (kind ≡ echo_request → ⊥) → rot_payload input ≡ payload_promise input
  unfolding handed_part payload_promise
  payload-handed k = rw (found, ne_eqb kind echo_request k)

  pub offset-echo : kind ≡ echo_request → payload_offset (rot_judge input) ≡ 0
  unfolding payload_offset
  offset-echo k = rw (found, eq-eqb kind echo_request k)

  pub offset-handed : (kind ≡ echo_request → ⊥) → payload_offset (rot_judge input) ≡ rot_header_length
  unfolding payload_offset
  offset-handed k = rw (found, ne_eqb kind echo_request k)

  -- the writer's answer to an echo request is the reader's
  pub read-echo : (out : List ℕ) → kind ≡ echo_request
      → rot_write_promise (rot_message_with echo_response (rot_payload input)) out ≡ rot_read_promise input out
  unfolding serve_message answer_to rot_read_promise
  read-echo out k =
      let s = judged-sound input _ found in
      let l : length (rot_payload input) ≤ longest_payload = rw (sound-length input s) s.short in
      rw (found, eq-eqb kind echo_request k) (sym (write-sends (rot_message_with echo_response (rot_payload input)) out l refl))

  pub read-handed : (out : List ℕ) → (kind ≡ echo_request → ⊥)
      → rot_outcome (handed kind (payload_length input)) out ≡ rot_read_promise input out
  unfolding serve_message answer_to rot_read_promise
  read-handed out k =
      let s = judged-sound input _ found in
      rw (found, ne_eqb kind echo_request k, sound-length input s)
