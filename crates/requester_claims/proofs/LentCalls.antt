-- A call that is lent enough of each part that it takes does what it does on the whole parts.
-- Any other is refused as 12 and changes nothing. Assumes nothing.
use mathlib.Core.Path.{◌≡◌, refl, sym, ◌∙◌}
use mathlib.Core.Bool.{Bool, true, false, ◌&&◌, false≢true, and-eq-true_iff}
use mathlib.Core.List.{List, ◌++◌}
use Prim.Native.Nat.{ℕ, ◌≤◌}
use native.Mathlib.Omega.{arith}
use lib.ListN.{length}
use Rattle.octets.proofs.Conditions.{cond-by}
use Rattle.line.specs.Reader as LineReader
use Rattle.line.proofs.Received.{valid-long, read_stays}
use Rattle.line.proofs.Lent.{data_of-append}
use Rattle.line_claims.proofs.LoanLaws.{back-same, lent-long, lent-enough, Front, front}
use Rattle.requester.specs.Layout
use Rattle.requester.specs.Valid.{valid_requester}
use Rattle.requester.specs.Calls
use Rattle.requester.specs.Calls.{MainParts, HandedReport, MainLongEnough}
use Rattle.requester.proofs.Cases.{untrue}
use Rattle.requester.proofs.ValidLaws.{requester-valid, parts-valid, is-long-enough}
use Rattle.requester_claims.specs.Histories
use Rattle.requester_claims.specs.Histories.{MainCall, MainLent, main_did, main_lent_of, enough_reader, enough_requester, main_enough}
use Rattle.requester_claims.specs.Histories.{main_made, handed_data_in, receipt_did}
use Rattle.requester_claims.specs.Item2.{TooLittle, MainWholeParts}
use Rattle.requester_claims.proofs.Locality

-- ---- enough of each part that a call takes

-- the data given do not depend on what stands behind the reader's published bytes
data-behind : (a : HandedReport) (s u : List ℕ) → LineReader.reader_length ≤ length s → handed_data_in a (s ++ u) ≡ handed_data_in a s
unfolding handed_data_in
data-behind (HandedReport.refused n) s u h = refl
data-behind Calls.nothing s u h = refl
data-behind (Calls.answered v q c n) s u h = data_of-append s u h n
data-behind (Calls.status x o n) s u h = refl
data-behind (Calls.alerted v q c n) s u h = data_of-append s u h n

-- a call of receive keeps the reader's length
receiving-long : (p : MainParts) (piece : List ℕ) → length (Calls.main_receive_promise p piece).parts.reader ≡ length p.reader
unfolding Calls.main_receive_promise Calls.main_receive_valid
receiving-long p piece =
    cond-by (λ (x : Calls.MainReceiveOutcome). length x.parts.reader ≡ length p.reader) (Calls.main_valid_parts p) _ _
    (λ v. (read_stays (Calls.readable p.reader piece) p.reader (parts-valid p v).reader).long) (λ _. refl)

module _ (l : MainLent) (p : MainParts) (room : MainLongEnough p) where
  abbrev q : MainParts
  q = main_lent_of l p

  abbrev AsWhole : MainCall → Type 0
  AsWhole c = main_made p (record { lent = l; call = c }) ≡ main_did p c

  module _ (e : enough_requester l ≡ true) where
    requester-front : Front Layout.requester_length l.requester p.requester
    requester-front = front Layout.requester_length l.requester p.requester e

    requester-long : Layout.requester_length ≤ length q.requester
    requester-long = lent-long Layout.requester_length p.requester l.requester e room.requester

    request-whole : (command : ℕ) (d out : List ℕ) → AsWhole (Histories.request command d out)
    unfolding main_made main_did
    request-whole command d out =
        let f = requester-front in
        rw (
          rw f.whole at (Locality.requesting-behind q.requester f.rest requester-long command d out),
          back-same LineReader.reader_length p.reader l.reader,
          f.back (Calls.request_promise q.requester command d out).requester,
        )

    send-whole : (out : List ℕ) → AsWhole (Histories.send out)
    unfolding main_made main_did
    send-whole out =
        let f = requester-front in
        rw (
          rw f.whole at (Locality.sending-behind q.requester f.rest requester-long out),
          back-same LineReader.reader_length p.reader l.reader,
          f.back (Calls.send_promise q.requester out).requester,
        )

    interrupt-whole : AsWhole Histories.interrupt
    unfolding main_made main_did
    interrupt-whole =
        let f = requester-front in
        rw (
          rw f.whole at (Locality.interrupting-behind q.requester f.rest requester-long),
          back-same LineReader.reader_length p.reader l.reader,
          f.back (Calls.interrupt_promise q.requester).requester,
        )

    state-whole : AsWhole Histories.state
    unfolding main_made main_did
    state-whole =
        let f = requester-front in
        rw (rw f.whole at (Locality.stating-behind q.requester f.rest requester-long)) (simp back-same)

    module _ (g : enough_reader l ≡ true) where
      reader-front : Front LineReader.reader_length l.reader p.reader
      reader-front = front LineReader.reader_length l.reader p.reader g

      reader-long : LineReader.reader_length ≤ length q.reader
      reader-long = lent-long LineReader.reader_length p.reader l.reader g room.reader

      start-whole : AsWhole Histories.start
      unfolding main_made main_did
      start-whole =
          let f = requester-front in
          let h = reader-front in
          rw (
            rw (f.whole, h.whole) at (Locality.starting-behind q h.rest f.rest reader-long requester-long),
            h.back (Calls.main_start_promise q).parts.reader,
            f.back (Calls.main_start_promise q).parts.requester,
          )

      receive-whole : (piece : List ℕ) → AsWhole (Histories.receive piece)
      unfolding main_made main_did receipt_did
      receive-whole piece =
          let f = requester-front in
          let h = reader-front in
          let x = Calls.main_receive_promise q piece in
          rw (
            rw (f.whole, h.whole) at (Locality.receiving-behind q h.rest f.rest reader-long requester-long piece),
            h.back x.parts.reader,
            f.back x.parts.requester,
            data-behind x.report x.parts.reader h.rest (omega (arith, receiving-long q piece, reader-long)),
          )

pub whole : MainWholeParts
unfolding main_enough
whole l p room Histories.start e = let b = (and-eq-true_iff _ _).0 e in start-whole l p room b.1 b.0
whole l p room (Histories.request command d out) e = request-whole l p room e command d out
whole l p room Histories.interrupt e = interrupt-whole l p room e
whole l p room (Histories.send out) e = send-whole l p room e out
whole l p room (Histories.receive piece) e = let b = (and-eq-true_iff _ _).0 e in receive-whole l p room b.1 b.0 piece
whole l p room Histories.state e = state-whole l p room e

-- ---- too little

-- a test that fails where another does
fails : (a b : Bool) → b ≡ false → (a ≡ true → b ≡ true) → a ≡ false
fails a b e f = sym (untrue a (λ t. false≢true (sym e ∙ f t)))

module _ (l : MainLent) (p : MainParts) where
  requester-enough : valid_requester (main_lent_of l p).requester ≡ true → enough_requester l ≡ true
  requester-enough v = lent-enough Layout.requester_length p.requester l.requester (omega arith) (requester-valid _ v).long

  pub room_enough : Calls.main_long_enough (main_lent_of l p) ≡ true → (enough_reader l && enough_requester l) ≡ true
  room_enough e =
      let r = is-long-enough (main_lent_of l p) e in
      (and-eq-true_iff _ _).1 (
        lent-enough LineReader.reader_length p.reader l.reader (omega arith) r.reader,
        lent-enough Layout.requester_length p.requester l.requester (omega arith) r.requester,
      )

  parts-enough : Calls.main_valid_parts (main_lent_of l p) ≡ true → (enough_reader l && enough_requester l) ≡ true
  parts-enough e =
      let v = parts-valid (main_lent_of l p) e in
      (and-eq-true_iff _ _).1 (
        lent-enough LineReader.reader_length p.reader l.reader (omega arith) (valid-long _ v.reader),
        requester-enough v.requester,
      )

pub too_little : TooLittle
unfolding main_enough main_made main_did Calls.main_start_promise Calls.request_promise Calls.interrupt_promise Calls.send_promise
    Calls.main_receive_promise Calls.state_promise receipt_did handed_data_in
too_little l p Histories.start e = rw (fails _ _ e (room_enough l p)) (simp back-same)
too_little l p (Histories.request command d out) e = rw (fails _ _ e (requester-enough l p)) (simp back-same)
too_little l p Histories.interrupt e = rw (fails _ _ e (requester-enough l p)) (simp back-same)
too_little l p (Histories.send out) e = rw (fails _ _ e (requester-enough l p)) (simp back-same)
too_little l p (Histories.receive piece) e = rw (fails _ _ e (parts-enough l p)) (simp back-same)
too_little l p Histories.state e = rw (fails _ _ e (requester-enough l p)) (simp back-same)
