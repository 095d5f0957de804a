-- What was written is read back, bytes behind it or not. The echo's answer is an echo response.
-- Equal bytes were written of equal messages alone. Assumes nothing.
use mathlib.Core.Path.{◌≡◌, refl, sym, ap, ◌∙◌}
use mathlib.Core.Bool.{true}
use mathlib.Core.List.{List, [], ◌∷◌, ◌++◌, append_assoc}
use Prim.Native.Nat.{ℕ, ◌+◌, ◌≤◌}
use native.Mathlib.Omega.{arith}
use lib.Dec.{eqb, ltb}
use lib.ListN.{length, take, drop, length-append, take-append-drop}
use lib.Seq.{take_at, drop_at}
use borrow.Author.Tests.{eq-eqb, ne_eqb, le-ltb, ltb-false, eqb-true}
use Rattle.octets.specs.Bytes.{Byte, Each, number, bytes, run}
use Rattle.octets.proofs.Numbers.{length-bytes, one_byte, number-bytes, number_small}
use Rattle.octets.proofs.Overlay.{run-add, number-run, overlay-inside}
use Rattle.octets.proofs.Conditions.{cond-by}
use Rattle.rot.specs.Limits.{crc_field_offset, rot_header_length, longest_payload}
use Rattle.rot.specs.Crc.{crc}
use Rattle.rot.specs.Message.{version_1, echo_request, listed_type, RotMessage, header_start, crc_of, rot_message, echoed}
use Rattle.rot.specs.Answers.{RotReport, wrote, RotOutcome, rot_write_into}
use Rattle.rot.specs.Reading
use Rattle.rot.specs.Reading.{protocol_of, type_of, payload_length, crc_field, rot_payload, checked, failure, unsent, good, judge_message}
use Rattle.rot.specs.Reading.{judge_length, rot_judge, serve_message, answer_to, rot_read_promise, handed_part, payload_promise}
use Rattle.rot.specs.Writing.{rot_message_with, rot_write_promise}
use Rattle.rot.proofs.Register.{crc-lt}
use Rattle.rot.proofs.Message.{length-start, length-message}
use Rattle.rot.proofs.Reading.{Sound, judged-sound, sound-length}
use Rattle.rot_claims.specs.Item7.{Sendable, ReadAs, Echoed, ReadsBack, EchoReads, EchoBack, OneMessage, JudgedGood, ReadBytes}
use Rattle.rot_claims.specs.Item7.{BehindIgnored}

-- ---- a message's bytes, with bytes behind them, are judged as that message

-- what stands between two lists
between : (xs ys zs : List ℕ) (at n : ℕ) → length xs ≡ at → length ys ≡ n → run at n (xs ++ (ys ++ zs)) ≡ ys
between xs ys zs at n e f = rw (drop_at xs (ys ++ zs) at e) (take_at ys zs n f)

-- the tests, all passed
passes : (input : List ℕ) → protocol_of input ≡ version_1 → rot_header_length ≤ length input → payload_length input ≤ longest_payload
    → rot_header_length + payload_length input ≤ length input → crc_field input ≡ crc (checked input) → listed_type (type_of input) ≡ true
    → rot_judge input ≡ good (rot_message_with (type_of input) (rot_payload input))
unfolding judge_message judge_length rot_judge
passes input p h n l c t =
    rw (
      ne_eqb (length input) 0 (λ e. omega arith),
      p,
      le-ltb (length input) rot_header_length h,
      le-ltb longest_payload (payload_length input) n,
      le-ltb (length input) (rot_header_length + payload_length input) l,
      eq-eqb (crc_field input) (crc (checked input)) c,
      t,
    )

-- the payload of a message that was read
payload-short : (input : List ℕ) (m : RotMessage) → rot_judge input ≡ good m → length m.payload ≤ longest_payload
payload-short input m e =
    let s = judged-sound input m e in
    rw (s.fields, sound-length input s) s.short

module _ (m : RotMessage) (behind : List ℕ) (s : Sendable m) where
  rest : List ℕ
  rest = bytes 4 (crc_of m) ++ (m.payload ++ behind)

  grouped : rot_message m ++ behind ≡ header_start m ++ rest
  unfolding rot_message rest
  grouped = simp append_assoc

  fields : (protocol_of (header_start m ++ rest) ≡ version_1) × (type_of (header_start m ++ rest) ≡ m.type)
      × (payload_length (header_start m ++ rest) ≡ length m.payload)
  unfolding header_start number bytes
  fields = let l = s.short in (refl, omega arith, omega arith)

  sum : crc_field (header_start m ++ rest) ≡ crc_of m
  unfolding rest crc_of
  sum =
      let e =
      between (header_start m) (bytes 4 (crc_of m)) (m.payload ++ behind) crc_field_offset 4 (length-start m) (length-bytes 4 (crc_of m)) in
      ap number e ∙ number-bytes 4 (crc_of m) (crc-lt (header_start m ++ m.payload))

  carried : rot_payload (header_start m ++ rest) ≡ m.payload
  unfolding rest
  carried =
      let l : length (header_start m ++ bytes 4 (crc_of m)) ≡ rot_header_length = simp (length-append, length-start, length-bytes) in
      rw (fields.2, ← append_assoc (header_start m) (bytes 4 (crc_of m)) (m.payload ++ behind))
      (between (header_start m ++ bytes 4 (crc_of m)) m.payload behind rot_header_length (length m.payload) l refl)

pub judged : JudgedGood
unfolding rest crc_of
judged m behind s =
    let f = fields m behind s in
    let short = s.short in
    let r = rest m behind s in
    let long : length (header_start m ++ r) ≡ rot_header_length + length m.payload + length behind =
    simp (length-append, length-start, length-bytes) (omega arith) in
    let c = carried m behind s in
    let over : checked (header_start m ++ r) ≡ header_start m ++ m.payload =
    rw (take_at (header_start m) r crc_field_offset (length-start m), c) in
    rw (
      grouped m behind s,
      passes (header_start m ++ r) f.0 (omega arith) (omega arith) (omega arith) (sum m behind s ∙ ap crc (sym over))
          (rw f.1 s.type),
      f.1,
      c,
    )

-- ---- how a message is read: an echo request is answered, any other is handed out

pub read_as : (m : RotMessage) (input : List ℕ) → rot_judge input ≡ good m → ReadAs m input
unfolding serve_message answer_to rot_read_promise handed_part payload_promise
read_as m input e = record {
  handed_out = λ k out. (rw (e, ne_eqb m.type echo_request k), rw (e, ne_eqb m.type echo_request k));
  echo = λ k out. (rw (e, eq-eqb m.type echo_request k), rw (e, eq-eqb m.type echo_request k));
}

-- ---- bytes sent to a room stand at its start

-- what a call that sent bytes answers
abbrev Sent : List ℕ → ℕ → RotOutcome → Type 0
Sent bs n o = o.answer ≡ wrote n → take n o.out ≡ bs

refused-not-wrote : (k n : ℕ) → RotReport.refused k ≡ wrote n → ⊥
refused-not-wrote k n e = cc

sent-bytes : (bs out : List ℕ) (n : ℕ) → Sent bs n (rot_write_into bs out)
unfolding rot_write_into
sent-bytes bs out n =
    cond-by (Sent bs n) (ltb (length out) (length bs)) _ _ (λ _ e. cc) (λ _ e.
    let l : length bs ≡ n = cc in
    rw (← l) (overlay-inside 0 bs out (omega arith)))

-- ---- the claims

-- a call of the writer that wrote: the message is not to be refused, and its bytes stand at the start of the room
pub record Wrote (m : RotMessage) (n : ℕ) (o : RotOutcome) : Type 0 where
  pub sendable : Sendable m
  pub bytes : take n o.out ≡ rot_message m

pub wrote-message : (m : RotMessage) (room : List ℕ) (n : ℕ) → (rot_write_promise m room).answer ≡ wrote n
    → Wrote m n (rot_write_promise m room)
unfolding rot_write_promise
wrote-message m room n =
    let P : RotOutcome → Type 0 = λ o. o.answer ≡ wrote n → Wrote m n o in
    cond-by P (ltb longest_payload (length m.payload)) _ _ (λ _ e. absurd (refused-not-wrote 23 n e)) (λ l.
    cond-by P (listed_type m.type) _ _ (λ t e.
    record {
      sendable = record { type = t; short = ltb-false longest_payload (length m.payload) l };
      bytes = sent-bytes (rot_message m) room n e;
    })
    (λ _ e. absurd (refused-not-wrote 26 n e)))

pub reads_back : ReadsBack
reads_back m room n e behind =
    let w = wrote-message m room n e in
    read_as m _ (rw w.bytes (judged m behind w.sendable))

pub one_message : OneMessage
one_message m k room hall i j e f behind after same =
    let v = wrote-message m room i e in
    let w = wrote-message k hall j f in
    let p = judged m behind v.sendable in
    let q = judged k after w.sendable in
    let r : rot_message m ++ behind ≡ rot_message k ++ after = rw (v.bytes, w.bytes) at same in
    cc

served-by : (input out : List ℕ) (n : ℕ) (m : RotMessage) → rot_judge input ≡ good m → (serve_message m out).answer ≡ wrote n
    → Echoed input n (serve_message m out)
unfolding serve_message
served-by input out n m j =
    cond-by (λ (o : RotOutcome). o.answer ≡ wrote n → Echoed input n o) (eqb m.type echo_request) _ _ (λ t f.
    record { asked = m; judged = j; request = eqb-true m.type echo_request t; bytes = sent-bytes (rot_message (echoed m)) out n f })
    (λ _ f. cc)

echoed-by : (input out : List ℕ) (n : ℕ) (j : Reading.RotVerdict) → rot_judge input ≡ j → (answer_to j out).answer ≡ wrote n
    → Echoed input n (answer_to j out)
unfolding answer_to
echoed-by input out n (failure k) j e = absurd (refused-not-wrote k n e)
echoed-by input out n unsent j e = cc
echoed-by input out n (good m) j e = served-by input out n m j e

echo-answered : (input out : List ℕ) (n : ℕ) → (rot_read_promise input out).answer ≡ wrote n → Echoed input n (rot_read_promise input out)
unfolding rot_read_promise
echo-answered input out n e = echoed-by input out n (rot_judge input) refl e

pub echo_reads : EchoReads
echo_reads input out n e =
    let a = echo-answered input out n e in
    let short = payload-short input a.asked a.judged in
    (a, λ behind. read_as _ _ (rw a.bytes (judged (echoed a.asked) behind (record { type = refl; short = short }))))

pub echo_back : EchoBack
echo_back payload room out n k w behind e after =
    let m = rot_message_with echo_request payload in
    let input = take n (rot_write_promise m room).out ++ behind in
    let p = wrote-message m room n w in
    let j : rot_judge input ≡ good m = rw p.bytes (judged m behind p.sendable) in
    let a = echo_reads input out k e in
    let same : a.0.asked ≡ m = cc (a.0.judged, j) in
    rw same at (a.1 after)

-- ---- what is read as a message begins with that message's bytes

module _ (input : List ℕ) (each : Each Byte input) {m : RotMessage} (s : Sound input m) where
  found : RotMessage
  found = rot_message_with (type_of input) (rot_payload input)

  -- the header ahead of its CRC
  start-read : take crc_field_offset input ≡ header_start found
  unfolding found header_start
  start-read =
      let l = s.whole in
      let p : run 0 1 input ≡ version_1 ∷ [] =
      sym (number-run 1 0 input (omega arith) each) ∙ rw s.protocol (one_byte version_1 (omega arith)) in
      let t : run 1 1 input ≡ type_of input ∷ [] =
      sym (number-run 1 1 input (omega arith) each) ∙ one_byte (type_of input) (number_small 1 1 input each) in
      let n : run 2 2 input ≡ bytes 2 (payload_length input) = sym (number-run 2 2 input (omega arith) each) in
      cc (run-add 0 1 3 input, run-add 1 1 2 input, p, t, n, sound-length input s)

  sum-read : crc_field input ≡ crc_of found
  unfolding found crc_of
  sum-read = s.sum ∙ rw start-read

  message-read : take (rot_header_length + payload_length input) input ≡ rot_message found
  unfolding found rot_message
  message-read =
      let l = s.whole in
      let c : run 4 4 input ≡ bytes 4 (crc_of found) = sym (number-run 4 4 input (omega arith) each) ∙ ap (bytes 4) sum-read in
      let h : take rot_header_length input ≡ header_start found ++ bytes 4 (crc_of found) = cc (run-add 0 4 4 input, start-read, c) in
      run-add 0 8 (payload_length input) input ∙ ap (λ (x : List ℕ). x ++ rot_payload input) h
      ∙ append_assoc (header_start found) (bytes 4 (crc_of found)) (rot_payload input)

  message-whole : input ≡ rot_message found ++ drop (length (rot_message found)) input
  unfolding found
  message-whole =
      let l : length (rot_message found) ≡ rot_header_length + payload_length input =
      length-message found ∙ ap (λ (x : ℕ). rot_header_length + x) (sound-length input s) in
      let t : take (length (rot_message found)) input ≡ rot_message found = rw l message-read in
      sym (take-append-drop (length (rot_message found)) input) ∙ ap (λ (x : List ℕ). x ++ drop (length (rot_message found)) input) t

pub read_bytes : ReadBytes
unfolding found
read_bytes input m each e =
    let s = judged-sound input m e in
    rw (← s.fields) at (message-whole input each s)

pub behind_ignored : BehindIgnored
behind_ignored input m each e behind =
    let s = judged-sound input m e in
    let t : listed_type m.type ≡ true = rw s.fields s.type in
    let rest = drop (length (rot_message m)) input in
    rw (read_bytes input m each e, append_assoc (rot_message m) rest behind)
    (judged m (rest ++ behind) (record { type = t; short = payload-short input m e }))
