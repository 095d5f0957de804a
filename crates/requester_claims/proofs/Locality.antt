-- What a call does to the published bytes does not depend on the bytes behind them, and leaves those.
-- Assumes nothing.
use mathlib.Core.Path.{◌≡◌, refl, ap}
use mathlib.Core.Bool.{true, cond}
use mathlib.Core.List.{List, [], ◌∷◌, ◌++◌}
use mathlib.Core.Option.{Option, none, some}
use Prim.Native.Nat.{ℕ, zero, suc, ◌+◌, ◌≤◌}
use native.Mathlib.Omega.{arith}
use lib.Dec.{leb, ltb, eqb, eqb-suc-zero}
use lib.ListN.{length, length-append}
use borrow.Author.Tests.{le-leb, ltb-false}
use Rattle.octets.specs.Bytes.{number, bytes, number_at, overlay}
use Rattle.octets.proofs.Conditions.{cond-by, cond_map}
use Rattle.octets.proofs.Overlay.{length-overlay, overlay-append, run-append}
use Rattle.octets.proofs.Zeros.{zeros, length-zeros}
use Rattle.line.specs.Limits.{longest_data}
use Rattle.line.specs.Reader as LineReader
use Rattle.line.proofs.Lent.{tail-append, fresh-append, valid-append, data_of-append, pushed-append, finish-append}
use Rattle.line.proofs.Received.{valid-long, pushed-stays, read_stays}
use Rattle.requester.specs.Limits.{last_number}
use Rattle.requester.specs.State.{request_frame}
use Rattle.requester.specs.Requester
use Rattle.requester.specs.Requester.{Heard, stays_out}
use Rattle.requester.specs.Layout
use Rattle.requester.specs.Valid.{is_numbered, valid_requester}
use Rattle.requester.specs.Calls
use Rattle.requester.specs.Calls.{MainParts, main_parts, progressed, heard_of, heard_outcome_of}
use Rattle.requester.proofs.ValidLaws.{requester-valid, parts-valid}
use Rattle.requester.proofs.ProgressLaws.{length-progressed}

-- ---- the main processor's part

-- the same answer and room, and the part with more behind it
abbrev put_behind : List ℕ → Calls.PutOutcome → Calls.PutOutcome
put_behind u t = Calls.put_outcome t.report t.out (t.requester ++ u)

abbrev interrupt_behind : List ℕ → Calls.InterruptOutcome → Calls.InterruptOutcome
interrupt_behind u t = Calls.interrupt_outcome t.refusal (t.requester ++ u)

abbrev moved_behind : List ℕ → Calls.PartMoved → Calls.PartMoved
moved_behind u m = Calls.part_moved m.ended (m.requester ++ u)

module _ (t u : List ℕ) (long : Layout.requester_length ≤ length t) where
  number_behind : (k at : ℕ) → at + k ≤ Layout.requester_length → number_at k (t ++ u) at ≡ number_at k t at
  number_behind k at h = ap number (run-append t u at k (omega arith))

  valid-behind : valid_requester (t ++ u) ≡ valid_requester t
  unfolding valid_requester is_numbered Layout.is_outstanding
  valid-behind =
      rw (
        le-leb Layout.requester_length (length t) long,
        le-leb Layout.requester_length (length (t ++ u)) (simp length-append (omega arith)),
        number_behind 8 Layout.number_offset (omega arith),
        number_behind 1 Layout.recovery_offset (omega arith),
        number_behind 1 Layout.unsent_offset (omega arith),
        number_behind 1 Layout.kept_offset (omega arith),
        number_behind 2 Layout.length_offset (omega arith),
        number_behind 1 Layout.command_offset (omega arith),
      )

  outstanding-behind : Layout.is_outstanding (t ++ u) ≡ Layout.is_outstanding t
  unfolding Layout.is_outstanding
  outstanding-behind = rw (number_behind 1 Layout.recovery_offset (omega arith), number_behind 1 Layout.kept_offset (omega arith))

  unsent-behind : Layout.is_unsent (t ++ u) ≡ Layout.is_unsent t
  unfolding Layout.is_unsent
  unsent-behind = rw (outstanding-behind, number_behind 1 Layout.unsent_offset (omega arith))

  request-behind : Layout.kept_length t ≤ longest_data → Layout.out_request (t ++ u) ≡ Layout.out_request t
  unfolding Layout.out_request Layout.kept_request
  request-behind h =
      rw (
        number_behind 1 Layout.recovery_offset (omega arith),
        number_behind 1 Layout.command_offset (omega arith),
        number_behind 2 Layout.length_offset (omega arith),
        run-append t u Layout.kept_data_offset (Layout.kept_length t) (omega arith),
      )

  progressed-behind : (a b c d : ℕ) → progressed a b c d (t ++ u) ≡ progressed a b c d t ++ u
  unfolding progressed bytes
  progressed-behind a b c d = overlay-append t u 0 (bytes 8 a ++ b ∷ c ∷ d ∷ []) (omega arith)

  flag-behind : (x : ℕ) → overlay Layout.unsent_offset (x ∷ []) (t ++ u) ≡ overlay Layout.unsent_offset (x ∷ []) t ++ u
  flag-behind x = overlay-append t u Layout.unsent_offset (x ∷ []) (omega arith)

  kept-behind : (n command : ℕ) (d : List ℕ) → length d ≤ longest_data
      → Calls.with_request n command d (t ++ u) ≡ Calls.with_request n command d t ++ u
  unfolding Calls.with_request bytes
  kept-behind n command d h =
      cond_map (λ x. x ++ u) (stays_out command)
      (λ _.
      rw (progressed-behind n 0 0 1)
      (overlay-append (progressed n 0 0 1 t) u Layout.command_offset (command ∷ bytes 2 (length d) ++ d)
      (omega (arith, length-progressed t long n 0 0 1))))
      (λ _. progressed-behind n 0 0 0)

  put-behind : (bs room x : List ℕ) {after : List ℕ} → after ≡ x ++ u
      → Calls.put_into bs room (t ++ u) after ≡ put_behind u (Calls.put_into bs room t x)
  unfolding Calls.put_into
  put-behind bs room x e = cond_map (put_behind u) (ltb (length room) (length bs)) (λ _. refl) (λ _. rw e)

  pub requesting-behind : (command : ℕ) (d room : List ℕ)
      → Calls.request_promise (t ++ u) command d room ≡ put_behind u (Calls.request_promise t command d room)
  unfolding Calls.request_promise
  requesting-behind command d room =
      rw (valid-behind, outstanding-behind, number_behind 8 Layout.number_offset (omega arith))
      (cond_map (put_behind u) (valid_requester t) (λ _.
      cond_map (put_behind u) (ltb longest_data (length d)) (λ _. refl) (λ e.
      cond_map (put_behind u) (Layout.is_outstanding t) (λ _. refl) (λ _.
      cond_map (put_behind u) (leb last_number (Layout.newest_number t)) (λ _. refl) (λ _.
      put-behind (request_frame (suc (Layout.newest_number t)) (record { command = command; payload = d })) room _
      (kept-behind (suc (Layout.newest_number t)) command d (ltb-false _ _ e))))))
      (λ _. refl))

  pub sending-behind : (room : List ℕ) → Calls.send_promise (t ++ u) room ≡ put_behind u (Calls.send_promise t room)
  unfolding Calls.send_promise
  sending-behind room =
      rw (valid-behind, unsent-behind, number_behind 8 Layout.number_offset (omega arith))
      (cond_map (put_behind u) (valid_requester t) (λ v.
      rw (request-behind (requester-valid t v).size)
      (cond_map (put_behind u) (Layout.is_unsent t)
      (λ _. put-behind (request_frame (Layout.newest_number t) (Layout.out_request t)) room _ (flag-behind 0)) (λ _. refl)))
      (λ _. refl))

  pub interrupting-behind : Calls.interrupt_promise (t ++ u) ≡ interrupt_behind u (Calls.interrupt_promise t)
  unfolding Calls.interrupt_promise
  interrupting-behind =
      rw (
        valid-behind,
        number_behind 1 Layout.recovery_offset (omega arith),
        number_behind 8 Layout.number_offset (omega arith),
        number_behind 1 Layout.kept_offset (omega arith),
      )
      (cond_map (interrupt_behind u) (valid_requester t) (λ _.
      cond_map (interrupt_behind u) (eqb (Layout.recovery_of t) 0) (λ _.
      cond_map (interrupt_behind u) (leb last_number (Layout.newest_number t)) (λ _. refl)
      (λ _. rw (progressed-behind (suc (Layout.newest_number t)) _ 1 (Layout.kept_flag t))))
      (λ _. refl))
      (λ _. refl))

  standing-behind : Layout.kept_length t ≤ longest_data → Calls.part_standing (t ++ u) ≡ Calls.part_standing t
  unfolding Calls.part_standing
  standing-behind h =
      rw (
        request-behind h,
        number_behind 8 Layout.number_offset (omega arith),
        number_behind 1 Layout.recovery_offset (omega arith),
        number_behind 1 Layout.unsent_offset (omega arith),
        number_behind 1 Layout.kept_offset (omega arith),
      )

  pub stating-behind : Calls.state_promise (t ++ u) ≡ Calls.state_promise t
  unfolding Calls.state_promise
  stating-behind =
      rw (valid-behind, outstanding-behind)
      (cond_map (λ x. x) (valid_requester t) (λ v. rw (standing-behind (requester-valid t v).size)) (λ _. refl))

  outcome-behind : (h : Option Heard) → heard_outcome_of (t ++ u) h ≡ heard_outcome_of t h
  unfolding heard_outcome_of
  outcome-behind none = refl
  outcome-behind (some h) = rw (number_behind 1 Layout.recovery_offset (omega arith), number_behind 1 Layout.kept_offset (omega arith))

  moved-behind : (x : Requester.Next) → Calls.part_moved_to x (t ++ u) ≡ moved_behind u (Calls.part_moved_to x t)
  unfolding Calls.part_moved_to
  moved-behind Requester.same = refl
  moved-behind Requester.again = rw (flag-behind 1)
  moved-behind (Requester.anew s) =
      rw (number_behind 8 Layout.number_offset (omega arith), number_behind 1 Layout.kept_offset (omega arith))
      (cond_map (moved_behind u) (leb last_number (Layout.newest_number t)) (λ _. rw (progressed-behind (Layout.newest_number t) 0 0 0))
      (λ _. rw (progressed-behind (suc (Layout.newest_number t)) _ 1 (Layout.kept_flag t))))
  moved-behind Requester.idle = rw (number_behind 8 Layout.number_offset (omega arith), progressed-behind (Layout.newest_number t) 0 0 0)

  moved-long : (x : Requester.Next) → length (Calls.part_moved_to x t).requester ≡ length t
  unfolding Calls.part_moved_to
  moved-long Requester.same = refl
  moved-long Requester.again = length-overlay Layout.unsent_offset (1 ∷ []) t (omega arith)
  moved-long (Requester.anew s) =
      cond-by (λ (m : Calls.PartMoved). length m.requester ≡ length t) (leb last_number (Layout.newest_number t)) _ _
      (λ _. length-progressed t long _ 0 0 0) (λ _. length-progressed t long _ _ 1 _)
  moved-long Requester.idle = length-progressed t long _ 0 0 0

-- ---- the line reader's part

abbrev outcome_behind : List ℕ → LineReader.ReadOutcome → LineReader.ReadOutcome
outcome_behind u o = record { used = o.used; answer = o.answer; state = o.state ++ u }

read_behind : (piece s u : List ℕ) → LineReader.valid_reader s ≡ true
    → LineReader.read_piece (s ++ u) piece ≡ outcome_behind u (LineReader.read_piece s piece)
unfolding LineReader.read_piece LineReader.one_byte_later
read_behind [] s u v = refl
read_behind (zero ∷ bs) s u v = rw (finish-append s u (valid-long s v))
read_behind (suc b ∷ bs) s u v =
    rw (eqb-suc-zero, pushed-append s u (valid-long s v) (suc b))
    (rw (read_behind bs (LineReader.pushed s (suc b)) u (pushed-stays s (suc b) v).valid))

heard-behind : (n : ℕ) (s u : List ℕ) → LineReader.reader_length ≤ length s → (a : LineReader.ReadReport)
    → heard_of n (s ++ u) a ≡ heard_of n s a
unfolding heard_of
heard-behind n s u h (LineReader.refused k) = refl
heard-behind n s u h LineReader.more = rw (tail-append s u h)
heard-behind n s u h LineReader.empty = refl
heard-behind n s u h (LineReader.failed reason sequence) = refl
heard-behind n s u h (LineReader.message version sequence command k) = rw (data_of-append s u h k)

-- ---- both parts

abbrev pub parts_behind : List ℕ → List ℕ → MainParts → MainParts
parts_behind a u p = main_parts (p.reader ++ a) (p.requester ++ u)

abbrev receipt_behind : List ℕ → List ℕ → Calls.MainReceiveOutcome → Calls.MainReceiveOutcome
receipt_behind a u x =
    record { used = x.used; report = x.report; ended = x.ended; unsent = x.unsent; parts = parts_behind a u x.parts }

module _ (p : MainParts) (a u : List ℕ) (reader : LineReader.reader_length ≤ length p.reader)
    (requester : Layout.requester_length ≤ length p.requester) where
  valid-parts-behind : Calls.main_valid_parts (parts_behind a u p) ≡ Calls.main_valid_parts p
  unfolding Calls.main_valid_parts
  valid-parts-behind = rw (valid-append p.reader a reader, valid-behind p.requester u requester)

  received-behind : Calls.main_valid_parts p ≡ true → (piece : List ℕ)
      → Calls.main_receive_valid (parts_behind a u p) piece ≡ receipt_behind a u (Calls.main_receive_valid p piece)
  unfolding Calls.main_receive_valid
  received-behind v piece =
      let r = (parts-valid p v).reader in
      let q = Calls.readable p.reader piece in
      let o = LineReader.read_piece p.reader q in
      let w = valid-long o.state (read_stays q p.reader r).valid in
      let h = cond (Calls.is_overlong p.reader) none (heard_of (Layout.newest_number p.requester) o.state o.answer) in
      let x = heard_outcome_of p.requester h in
      rw (
        tail-append p.reader a reader,
        read_behind q p.reader a r,
        number_behind p.requester u requester 8 Layout.number_offset (omega arith),
        heard-behind (Layout.newest_number p.requester) o.state a w o.answer,
        outcome-behind p.requester u requester h,
        moved-behind p.requester u requester x.next,
        unsent-behind (Calls.part_moved_to x.next p.requester).requester u
            (omega (arith, moved-long p.requester u requester x.next)),
      )

  pub receiving-behind : (piece : List ℕ)
      → Calls.main_receive_promise (parts_behind a u p) piece ≡ receipt_behind a u (Calls.main_receive_promise p piece)
  unfolding Calls.main_receive_promise
  receiving-behind piece =
      rw valid-parts-behind (cond_map (receipt_behind a u) (Calls.main_valid_parts p) (λ v. received-behind v piece) (λ _. refl))

  pub starting-behind : Calls.main_start_promise (parts_behind a u p)
      ≡ record { refusal = (Calls.main_start_promise p).refusal; parts = parts_behind a u (Calls.main_start_promise p).parts }
  unfolding Calls.main_start_promise Calls.main_long_enough Calls.main_fresh_parts LineReader.reader_start_promise
  starting-behind =
      rw (
        le-leb LineReader.reader_length (length p.reader) reader,
        le-leb LineReader.reader_length (length (p.reader ++ a)) (simp length-append (omega arith)),
        le-leb Layout.requester_length (length p.requester) requester,
        le-leb Layout.requester_length (length (p.requester ++ u)) (simp length-append (omega arith)),
        fresh-append p.reader a reader,
        overlay-append p.requester u 0 (zeros Layout.requester_length) (rw (length-zeros Layout.requester_length) requester),
      )
