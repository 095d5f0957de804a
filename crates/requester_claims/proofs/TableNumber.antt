-- Each call's number, on any parts whatever, is that of its first test that fails; a start is accepted where the parts are long enough.
-- Assumes nothing.
use mathlib.Core.Path.{◌≡◌}
use mathlib.Core.Bool.{Bool, true, false, cond, not, ◌&&◌}
use mathlib.Core.List.{List, []}
use mathlib.Core.Logic.{◌↔◌}
use mathlib.Core.Option.{Option, none, some}
use Prim.Native.Nat.{ℕ}
use native.Mathlib.Omega.{arith}
use lib.Dec.{leb, ltb, eqb}
use lib.ListN.{length}
use borrow.Author.Tests.{le-ltb}
use Rattle.octets.proofs.Conditions.{cond-by, cond_both, cond-not, zero_one}
use Rattle.line.specs.Limits.{longest_data}
use Rattle.octets.specs.TableTests.{first_failing}
use Rattle.requester.specs.Limits.{last_number}
use Rattle.requester.specs.State.{Request, Standing, request_frame}
use Rattle.requester.specs.Layout
use Rattle.requester.specs.Valid.{valid_requester}
use Rattle.requester.specs.Calls
use Rattle.requester.specs.Calls.{MainParts, MainLongEnough}
use Rattle.requester.proofs.ProgressLaws.{step-none}
use Rattle.requester.proofs.ValidLaws.{is-long-enough, long-enough-is}
use Rattle.requester_claims.specs.View.{main_view}
use Rattle.requester_claims.specs.Histories
use Rattle.requester_claims.specs.Histories.{MainAnswer, refused, done, main_did, main_refusal, receipt_did}
use Rattle.requester_claims.specs.Item2.{frame_out, main_tests, MainRefusedExactly, MainStartAccepted}
use Rattle.requester_claims.proofs.CallClaims.{report-received, outstanding-is, outstanding-some}

module _ (n : ℕ) where
  abbrev Numbered : MainAnswer → Option ℕ → Type 0
  Numbered a k = (a ≡ refused n) ↔ (k ≡ some n)

  same : (k : ℕ) → Numbered (refused k) (some k)
  same k = (λ e. cc, λ e. cc)

  none_done : Numbered done none
  none_done = (λ e. absurd (zero_one cc), λ e. absurd (zero_one cc))

  none-put : (k : ℕ) → Numbered (Histories.put k) none
  none-put k = (λ e. absurd (zero_one cc), λ e. absurd (zero_one cc))

  none-received : (used : ℕ) (t : Calls.HandedReport) (e : Option ℕ) (u : Bool) → Numbered (Histories.received used t e u) none
  none-received used t e u = (λ f. absurd (zero_one cc), λ f. absurd (zero_one cc))

  none-stands : (x : Standing) → Numbered (Histories.stands x) none
  none-stands x = (λ e. absurd (zero_one cc), λ e. absurd (zero_one cc))

  abbrev PutBy : Calls.PutOutcome → Option ℕ → Type 0
  PutBy t k = Numbered (Histories.put_answer t.report) k

  abbrev StartBy : Calls.MainStartOutcome → Option ℕ → Type 0
  StartBy t k = Numbered (main_refusal t.refusal) k

  abbrev InterruptBy : Calls.InterruptOutcome → Option ℕ → Type 0
  InterruptBy t k = Numbered (main_refusal t.refusal) k

  abbrev ReceiptBy : Calls.MainReceiveOutcome → Option ℕ → Type 0
  ReceiptBy x k = Numbered (receipt_did x).answer k

  abbrev StateBy : Calls.StateReport → Option ℕ → Type 0
  StateBy t k = Numbered (Histories.state_answer t) k

-- 14 where no recovery runs and there is no number
interrupt-number : (n : ℕ) (r t : List ℕ) (b c : Bool)
    → InterruptBy n
    (cond b (cond c (Calls.interrupt_outcome (some 14) r) (Calls.interrupt_outcome none t)) (Calls.interrupt_outcome none r))
    (cond (not (not b) && c) (some 14) none)
interrupt-number n r t true true = same n 14
interrupt-number n r t true false = none_done n
interrupt-number n r t false c = none_done n

-- 8 where a frame is to go out and does not fit
send-number : (n : ℕ) (room r t : List ℕ) (k : ℕ) (q : Request) (a u : Bool)
    → PutBy n (cond (a && u) (Calls.put_into (request_frame k q) room r t) (Calls.put_outcome (Calls.wrote 0) room r))
    (cond (ltb (length room) (length (cond u (frame_out k (cond a (some q) none)) []))) (some 8) none)
unfolding Calls.put_into
send-number n room r t k q true true =
    cond_both (PutBy n) (ltb (length room) (length (request_frame k q))) (λ _. same n 8) (λ _. none-put n (length (request_frame k q)))
send-number n room r t k q true false = rw (le-ltb (length room) 0 (omega arith)) (none-put n 0)
send-number n room r t k q false true = rw (le-ltb (length room) 0 (omega arith)) (none-put n 0)
send-number n room r t k q false false = rw (le-ltb (length room) 0 (omega arith)) (none-put n 0)

receive-number : (n : ℕ) (p : MainParts) (piece : List ℕ)
    → ReceiptBy n (Calls.main_receive_promise p piece) (cond (not (Calls.main_valid_parts p)) (some 12) none)
unfolding receipt_did Calls.main_receive_promise Calls.main_receive_valid
receive-number n p piece = cond-not (ReceiptBy n) (Calls.main_valid_parts p) (rw report-received (none-received n _ _ _ _)) (same n 12)

pub main_refused_exactly : MainRefusedExactly
unfolding main_did main_tests first_failing main_view Calls.main_start_promise Calls.request_promise Calls.put_into Calls.interrupt_promise
    Calls.send_promise Calls.state_promise Layout.is_unsent
main_refused_exactly p Histories.start n = cond-not (StartBy n) (Calls.main_long_enough p) (none_done n) (same n 12)
main_refused_exactly p (Histories.request command d room) n =
    let r = p.requester in
    rw (outstanding-some r)
    (cond-not (PutBy n) (valid_requester r)
    (cond_both (PutBy n) (ltb longest_data (length d)) (λ _. same n 9) (λ _.
    cond_both (PutBy n) (Layout.is_outstanding r) (λ _. same n 17) (λ _.
    cond_both (PutBy n) (leb last_number (Layout.newest_number r)) (λ _. same n 14) (λ _.
    cond_both (PutBy n) (ltb (length room) _) (λ _. same n 8) (λ _. none-put n _)))))
    (same n 12))
main_refused_exactly p Histories.interrupt n =
    let r = p.requester in
    rw (step-none (Layout.recovery_of r))
    (cond-not (InterruptBy n) (valid_requester r)
    (interrupt-number n r _ (eqb (Layout.recovery_of r) 0) (leb last_number (Layout.newest_number r))) (same n 12))
main_refused_exactly p (Histories.send room) n =
    let r = p.requester in
    rw (outstanding-is r)
    (cond-not (PutBy n) (valid_requester r)
    (send-number n room r _ (Layout.newest_number r) (Layout.out_request r) (Layout.is_outstanding r) (eqb (Layout.unsent_of r) 1))
    (same n 12))
main_refused_exactly p (Histories.receive piece) n = receive-number n p piece
main_refused_exactly p Histories.state n = cond-not (StateBy n) (valid_requester p.requester) (none-stands n _) (same n 12)

pub main_start_accepted : MainStartAccepted
unfolding main_did Calls.main_start_promise
main_start_accepted p = (
  cond-by (λ (t : Calls.MainStartOutcome). main_refusal t.refusal ≡ done → MainLongEnough p) (Calls.main_long_enough p) _ _
      (λ e _. is-long-enough p e) (λ _ e. absurd (zero_one cc)),
  λ l. rw (long-enough-is p l),
)
