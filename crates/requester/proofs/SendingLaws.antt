-- Laws of the calls that put a frame out: what the line layer's writer answered, and what they answer and leave.
-- Assumes nothing.
use mathlib.Core.Path.{◌≡◌, refl, ap}
use mathlib.Core.Bool.{Bool, true, false, cond}
use mathlib.Core.List.{List, [], ◌++◌, append-nil}
use Rattle.std.specs.Prelude as Std
use Prim.Native.Nat.{ℕ, ◌+◌, ◌-◌, ◌≤◌, ◌<◌}
use native.Mathlib.Nat.{add-sub_cancel_left}
use native.Mathlib.Numerals.{add-one}
use native.Mathlib.Omega.{arith}
use lib.Dec.{ltb}
use lib.ListN.{length, take, drop, set, length-take}
use borrow.Author.Tests.{le-ltb, lt-ltb, le-leb, lt-leb}
use Rattle.octets.specs.Bytes.{overlay, run}
use Rattle.octets.proofs.Overlay.{overlay-one}
use Rattle.line.specs.Limits.{longest_data}
use Rattle.line.specs.Writer
use Rattle.requester.specs.Limits.{last_number}
use Rattle.requester.specs.State.{Request, step_request, request_frame}
use Rattle.requester.specs.Layout
use Rattle.requester.specs.Valid.{valid_requester}
use Rattle.requester.specs.Calls
use Rattle.requester.specs.Calls.{PutOutcome, put_outcome, put_into, wrote, refused, with_request, request_promise}
use Rattle.requester.specs.Progress.{ProgressIn, recovery_report, step_command}
use Rattle.requester.specs.declared.step.Step.{Step}
use Rattle.requester.specs.declared.step.Step.TheVariants as step
use Rattle.requester.specs.declared.progress.Progress.{Progress}
use Rattle.requester.proofs.ValidLaws.{RequesterValid, requester-valid}

-- ---- what the writer answered

abbrev answering : Writer.WriteReport → List ℕ → Writer.WriteOutcome
answering a room = record { answer = a; out = room }

-- bytes that did not fit, or did
abbrev sent_if : Bool → List ℕ → List ℕ → Writer.WriteOutcome
sent_if b bs out = cond b (answering (Writer.refused 8) out) (answering (Writer.wrote (length bs)) (overlay 0 bs out))

abbrev put_if : Bool → List ℕ → List ℕ → List ℕ → List ℕ → PutOutcome
put_if b bs out before after = cond b (put_outcome (refused 8) out before) (put_outcome (wrote (length bs)) (overlay 0 bs out) after)

module _ (bs out before after : List ℕ) {n : ℕ} {room : List ℕ} where
  wrote_by : (b : Bool) → answering (Writer.wrote n) room ≡ sent_if b bs out
      → put_outcome (wrote n) room after ≡ put_if b bs out before after
  wrote_by true e = let f = ap (λ (o : Writer.WriteOutcome). o.answer) e in cc
  wrote_by false e = let f = ap (λ (o : Writer.WriteOutcome). o.answer) e in let g = ap (λ (o : Writer.WriteOutcome). o.out) e in cc

  refused-by : (b : Bool) → answering (Writer.refused n) room ≡ sent_if b bs out
      → put_outcome (refused n) room before ≡ put_if b bs out before after
  refused-by true e = let f = ap (λ (o : Writer.WriteOutcome). o.answer) e in let g = ap (λ (o : Writer.WriteOutcome). o.out) e in cc
  refused-by false e = let f = ap (λ (o : Writer.WriteOutcome). o.answer) e in cc

  pub put-wrote : answering (Writer.wrote n) room ≡ Writer.write_into bs out
      → put_outcome (wrote n) room after ≡ put_into bs out before after
  unfolding Writer.write_into put_into
  put-wrote e = wrote_by (ltb (length out) (length bs)) e

  pub put-refused : answering (Writer.refused n) room ≡ Writer.write_into bs out
      → put_outcome (refused n) room before ≡ put_into bs out before after
  unfolding Writer.write_into put_into
  put-refused e = refused-by (ltb (length out) (length bs)) e

-- the frame of a message whose data fit
pub written : (n : ℕ) (q : Request) (out head rest : List ℕ) {o : Writer.WriteOutcome} → length q.payload ≤ longest_data
    → head ++ rest ≡ q.payload
    → o ≡ Writer.write_promise (Writer.message_of_parts 1 n q.command head rest) out → o ≡ Writer.write_into (request_frame n q) out
unfolding Writer.write_promise request_frame
written n q out head rest l e w =
    rw (e, le-ltb longest_data (length q.payload) l) at w

-- ---- a request

module _ (r : List ℕ) (command : ℕ) (d out : List ℕ) where
  pub request-refused : valid_requester r ≡ false → put_outcome (refused 12) out r ≡ request_promise r command d out
  unfolding request_promise
  request-refused v = rw v

  module _ (v : valid_requester r ≡ true) where
    pub request-long : longest_data < length d → put_outcome (refused 9) out r ≡ request_promise r command d out
    unfolding request_promise
    request-long h = rw (v, lt-ltb longest_data (length d) h)

    module _ (h : length d ≤ longest_data) where
      pub request-out : Layout.is_outstanding r ≡ true → put_outcome (refused 17) out r ≡ request_promise r command d out
      unfolding request_promise
      request-out f = rw (v, le-ltb longest_data (length d) h, f)

      module _ (f : Layout.is_outstanding r ≡ false) {n : ℕ} (e : n ≡ Layout.newest_number r) where
        pub request-spent : last_number ≤ n → put_outcome (refused 14) out r ≡ request_promise r command d out
        unfolding request_promise
        request-spent l = rw (v, le-ltb longest_data (length d) h, f, ← e, le-leb last_number n l)

        module _ (l : n < last_number) where
          abbrev asked : Request
          asked = record { command = command; payload = d }

          accepted : request_promise r command d out ≡ put_into (request_frame (n + 1) asked) out r (with_request (n + 1) command d r)
          unfolding request_promise
          accepted = rw (v, le-ltb longest_data (length d) h, f, ← e, lt-leb last_number n l, add-one)

          module _ {k : ℕ} {room : List ℕ} where
            pub request-done : {r' : List ℕ}
                → answering (Writer.wrote k) room ≡ Writer.write_promise (Writer.message_of_parts 1 (n + 1) command d []) out
                → r' ≡ with_request (n + 1) command d r → put_outcome (wrote k) room r' ≡ request_promise r command d out
            request-done w u = rw (accepted, u) (put-wrote _ out r _ (written (n + 1) asked out d [] h (append-nil d) w))

            pub request-unwritten :
                answering (Writer.refused k) room ≡ Writer.write_promise (Writer.message_of_parts 1 (n + 1) command d []) out
                → put_outcome (refused k) room r ≡ request_promise r command d out
            request-unwritten w = rw accepted (put-refused _ out r _ (written (n + 1) asked out d [] h (append-nil d) w))

-- ---- the one outstanding

pub step-request : (t : Step) (q : Request)
    → Layout.request_in (recovery_report (Std.Some t)) q ≡ record { command = step_command t; payload = [] }
unfolding step_request
step-request step.Fetch q = refl
step-request step.Acknowledge q = refl
step-request step.Alert q = refl

module _ (r out : List ℕ) (v : RequesterValid r) (p : Progress) (e : ProgressIn r p) {o : Writer.WriteOutcome} where
  pub kept-written : {command k : ℕ} → p.recovery ≡ Std.None → k ≡ Layout.kept_length r → command ≡ Layout.kept_command r
      → o ≡ Writer.write_promise
      (Writer.message_of_parts 1 p.number command
      (take (Layout.kept_data_offset + k - Layout.kept_data_offset) (drop Layout.kept_data_offset r)) [])
      out
      → o ≡ Writer.write_into (request_frame (Layout.newest_number r) (Layout.out_request r)) out
  unfolding Layout.out_request Layout.kept_request
  kept-written {command} {k} z l q w =
      let d = run Layout.kept_data_offset k r in
      let m = length-take k (drop Layout.kept_data_offset r) in
      rw (← e.number, ← e.recovery, z, ← l, ← q)
      (written p.number (record { command = command; payload = d }) out d [] (omega (arith, v)) (append-nil d)
      (rw add-sub_cancel_left at w))

  pub step-written : (t : Step) → p.recovery ≡ Std.Some t
      → o ≡ Writer.write_promise (Writer.message_of_parts 1 p.number (step_command t) [] []) out
      → o ≡ Writer.write_into (request_frame (Layout.newest_number r) (Layout.out_request r)) out
  unfolding Layout.out_request
  step-written t z w =
      rw (← e.number, ← e.recovery, z, step-request)
      (written p.number (record { command = step_command t; payload = [] }) out [] [] (omega arith) refl w)

-- ---- a call of send

module _ (r out : List ℕ) where
  pub send-refused : valid_requester r ≡ false → put_outcome (refused 12) out r ≡ Calls.send_promise r out
  unfolding Calls.send_promise
  send-refused v = rw v

  module _ (v : valid_requester r ≡ true) where
    pub send-nothing : Layout.is_unsent r ≡ false → put_outcome (wrote 0) out r ≡ Calls.send_promise r out
    unfolding Calls.send_promise
    send-nothing u = rw (v, u)

    module _ (u : Layout.is_unsent r ≡ true) {n : ℕ} {room : List ℕ} where
      pub send-done : answering (Writer.wrote n) room
          ≡ Writer.write_into (request_frame (Layout.newest_number r) (Layout.out_request r)) out
          → put_outcome (wrote n) room (set r Layout.unsent_offset 0) ≡ Calls.send_promise r out
      unfolding Calls.send_promise
      send-done w =
          rw (v, u, overlay-one Layout.unsent_offset 0 r (omega (arith, (requester-valid r v).long)))
          (put-wrote _ out r _ w)

      pub send-unwritten : answering (Writer.refused n) room
          ≡ Writer.write_into (request_frame (Layout.newest_number r) (Layout.out_request r)) out
          → put_outcome (refused n) room r ≡ Calls.send_promise r out
      unfolding Calls.send_promise
      send-unwritten w = rw (v, u) (put-refused _ out r _ w)
