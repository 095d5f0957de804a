-- Each call, on valid parts, answers, writes and leaves what document 02 has of it.
-- Assumes nothing.
use mathlib.Core.Path.{◌≡◌, refl, ap, ◌∙◌}
use mathlib.Core.Bool.{Bool, true, false, cond, not, ◌&&◌, ◌||◌, false≢true}
use mathlib.Core.List.{List, [], ◌∷◌}
use mathlib.Core.Option.{Option, none, some}
use Prim.Native.Nat.{ℕ, suc, ◌+◌, ◌≤◌}
use native.Mathlib.Omega.{arith}
use lib.Dec.{leb, ltb, eqb}
use lib.ListN.{length, replicate}
use borrow.Author.Tests.{le-leb, ltb-false, leb-false}
use native.Mathlib.Nat.{zero-add}
use Rattle.line.specs.Reader.{received_of}
use Rattle.octets.specs.Bytes.{number, run, overlay}
use Rattle.octets.proofs.Conditions.{cond-by, cond_both}
use Rattle.octets.proofs.Overlay.{length-overlay, overlay-part, overlay-none}
use Rattle.line.specs.Limits.{longest_data}
use Rattle.line.specs.Reader as LineReader
use Rattle.line.proofs.Received.{valid-long, fresh-received, fresh-stays}
use Rattle.requester.specs.Limits.{last_number}
use Rattle.requester.specs.State.{Request, RecoveryStep, fetch, acknowledge, alert, MainState, main_state, main_fresh, is_some}
use Rattle.requester.specs.State.{outstanding_of}
use Rattle.requester.specs.State.{request_frame, idle_standing, standing_of, standing}
use Rattle.requester.specs.Requester
use Rattle.requester.specs.Requester.{stays_out}
use Rattle.requester.specs.Layout
use Rattle.requester.specs.Calls
use Rattle.requester.specs.Calls.{MainParts, handed_report_of, MainPartsValid, MainLongEnough}
use Rattle.requester.proofs.ValidLaws.{RequesterValid, requester-valid, valid-requester, valid-parts, long-enough-is}
use Rattle.requester_claims.specs.View.{kept_request_of, held, main_view}
use Rattle.requester_claims.specs.Histories
use Rattle.requester_claims.specs.Histories.{MainCall, MainAnswer, main_did_by, main_did, main_refusal, with_requester, put_did, main_means}
use Rattle.requester_claims.specs.Histories.{put_means, main_meant}
use Rattle.requester_claims.specs.Histories.{receipt_did, receive_answer, state_answer}
use Rattle.requester_claims.proofs.FieldLaws.{progressed-held, progressed-valid, progressed-long, progressed-number}
use Rattle.requester_claims.proofs.FieldLaws.{progressed-recovery, progressed-unsent, progressed-kept}
use Rattle.requester_claims.proofs.FieldLaws.{flagged-held, flagged-valid, flagged-long, asked-held, asked-valid, asked-long}
use Rattle.requester_claims.specs.Demand1.{MainMeets}
use Rattle.requester_claims.proofs.NextClaim.{kept-some}
use Rattle.requester_claims.proofs.ByteClaim.{lengths-same, walk-follows, received-walk}
use Rattle.requester_claims.proofs.OneByte.{walk}

-- a call that changes nothing
module _ (p : MainParts) (v : MainPartsValid p) where
  unchanged : (a : MainAnswer) (bs : List ℕ) → MainMeets p (main_did_by a bs p) (main_means a bs (main_view p))
  unchanged a bs = record { answer = refl; out = refl; state = refl; valid = v; lengths = lengths-same }

  -- or the main processor's part alone
  changed : (a : MainAnswer) (bs r : List ℕ) (s : MainState) → held r (received_of p.reader) ≡ s → RequesterValid r
      → length r ≡ length p.requester → MainMeets p (main_did_by a bs (with_requester p r)) (main_means a bs s)
  unfolding main_view
  changed a bs r s e w l = record {
    answer = refl;
    out = refl;
    state = e;
    valid = record { reader = v.reader; requester = valid-requester r w };
    lengths = record { reader = refl; requester = l };
  }

-- ---- the one outstanding

step-some : (t : ℕ) → (P : Option RecoveryStep → Type 0) → P (some fetch) → P (some acknowledge) → P (some alert)
    → P (cond (eqb t 1) (some fetch) (cond (eqb t 2) (some acknowledge) (some alert)))
step-some t P a b c = cond-by P (eqb t 1) _ _ (λ _. a) (λ _. cond-by P (eqb t 2) _ _ (λ _. b) (λ _. c))

module _ (r : List ℕ) where
  pub outstanding-is : outstanding_of (Layout.recovery_step r) (kept_request_of r)
      ≡ cond (Layout.is_outstanding r) (some (Layout.out_request r)) none
  unfolding Layout.step_at Layout.is_outstanding Layout.out_request kept_request_of
  outstanding-is = by (eqb (Layout.recovery_of r) 0)
    where
      q : Request
      q = Layout.kept_request r

      k : Option Request
      k = cond (Layout.is_kept r) (some q) none

      P : Option RecoveryStep → Type 0
      P t = outstanding_of t k ≡ some (Layout.request_in t q)

      by : (b : Bool)
          → let t = cond b none (cond (eqb (Layout.recovery_of r) 1) (some fetch)
          (cond (eqb (Layout.recovery_of r) 2) (some acknowledge) (some alert))) in
          outstanding_of t k ≡ cond (not b || Layout.is_kept r) (some (Layout.request_in t q)) none
      by true = refl
      by false = step-some (Layout.recovery_of r) P refl refl refl

  pub outstanding-some : is_some (outstanding_of (Layout.recovery_step r) (kept_request_of r)) ≡ Layout.is_outstanding r
  outstanding-some = rw outstanding-is (by (Layout.is_outstanding r))
    where
      by : (b : Bool) → is_some (cond b (some (Layout.out_request r)) none) ≡ b
      by true = refl
      by false = refl

pub to-go-out : (p : MainParts) → Requester.to_go_out (main_view p) ≡ Layout.is_unsent p.requester
unfolding main_view Layout.is_unsent
to-go-out p = rw (outstanding-some p.requester)

-- ---- start

module _ (p : MainParts) (room : MainLongEnough p) where
  abbrev t : List ℕ
  t = overlay 0 (replicate Layout.requester_length 0) p.requester

  zeros : (j k : ℕ) → j + k ≤ Layout.kept_data_offset → run j k t ≡ run j k (replicate Layout.requester_length 0)
  zeros j k h = rw zero-add at (overlay-part 0 j k (replicate Layout.requester_length 0) p.requester (omega arith) (omega arith))

  fresh-held : held t (some []) ≡ main_fresh
  unfolding main_fresh kept_request_of Layout.step_at number
  fresh-held = rw (zeros 0 8 (omega arith), zeros 8 1 (omega arith), zeros 9 1 (omega arith), zeros 10 1 (omega arith))

  fresh-valid : RequesterValid t
  unfolding stays_out number Layout.is_outstanding
  fresh-valid = record {
    long =
        omega
        (arith, length-overlay 0 (replicate Layout.requester_length 0) p.requester (omega (arith, room.requester)), room.requester);
    number = rw (zeros 0 8 (omega arith)) (omega arith);
    recovery = rw (zeros 8 1 (omega arith)) (omega arith);
    unsent = rw (zeros 9 1 (omega arith)) (omega arith);
    kept = rw (zeros 10 1 (omega arith)) (omega arith);
    size = rw (zeros 12 2 (omega arith)) (omega arith);
    command = rw (zeros 11 1 (omega arith)) refl;
    numbered = λ o. absurd (false≢true (rw (zeros 8 1 (omega arith), zeros 10 1 (omega arith)) at o));
  }

  pub start-meets : (s : MainState) → MainMeets p (main_did p Histories.start) (main_meant s Histories.start)
  unfolding main_did main_meant Calls.main_start_promise Calls.main_fresh_parts LineReader.reader_start_promise main_view
  start-meets s =
      let k = fresh-stays p.reader room.reader in
      rw (long-enough-is p room, le-leb LineReader.reader_length (length p.reader) room.reader)
      (record {
        answer = refl;
        out = refl;
        state = rw (fresh-received p.reader room.reader) fresh-held;
        valid = record { reader = k.valid; requester = valid-requester t fresh-valid };
        lengths = record {
          reader = k.long;
          requester = length-overlay 0 (replicate Layout.requester_length 0) p.requester (omega (arith, room.requester));
        };
      })

-- what is handed out is no refusal
pub report-received : (used : ℕ) (h : Requester.Handed) (e : Option ℕ) (u : Bool)
    → receive_answer used (handed_report_of h) e u ≡ Histories.received used (handed_report_of h) e u
unfolding handed_report_of
report-received used Requester.nothing e u = refl
report-received used (Requester.answered m) e u = refl
report-received used (Requester.status s o k) e u = refl
report-received used (Requester.alerted m) e u = refl

module _ (p : MainParts) (v : MainPartsValid p) where
  abbrev r : List ℕ
  r = p.requester

  abbrev bs : Option (List ℕ)
  bs = received_of p.reader

  w : RequesterValid r
  w = requester-valid r v.requester

  -- ---- request

  module _ (command : ℕ) (d room : List ℕ) where
    abbrev n : ℕ
    n = suc (Layout.newest_number r)

    abbrev q : Request
    q = record { command = command; payload = d }

    -- a part that holds the request, or none
    abbrev Keeps : List ℕ → Option Request → Type 0
    Keeps t k = (held t bs ≡ main_state n k none false bs) × RequesterValid t × (length t ≡ length r)

    request-kept : length d ≤ longest_data → n ≤ last_number → Keeps (Calls.with_request n command d r) (Requester.keep q)
    unfolding Calls.with_request Layout.step_at
    request-kept l s =
        cond_both Keeps (stays_out command)
        (λ e.
        let t = Calls.progressed n 0 0 1 r in
        let x = progressed-valid n 0 0 1 r w s (omega arith) (omega arith) (omega arith) (λ _. omega arith) in (
          asked-held command d t x l bs
              ∙ rw (
                progressed-number n 0 0 1 r w s,
                progressed-recovery n 0 0 1 r w,
                progressed-unsent n 0 0 1 r w,
                progressed-kept n 0 0 1 r w,
              ),
          asked-valid command d t x l e,
          asked-long command d t x l ∙ progressed-long n 0 0 1 r w,
        ))
        (λ e. (
          progressed-held n 0 0 0 r w s bs,
          progressed-valid n 0 0 0 r w s (omega arith) (omega arith) (omega arith) (λ _. omega arith),
          progressed-long n 0 0 0 r w,
        ))

    abbrev Asks : Calls.PutOutcome → Requester.MainDone → Type 0
    Asks t x = MainMeets p (put_did p t) (put_means x.refusal room x.out x.state)

    request-meets : Asks (Calls.request_promise r command d room) (Requester.request (length room) q (main_view p))
    unfolding Calls.request_promise Requester.request Calls.put_into main_view
    request-meets =
        rw (v.requester, outstanding-some r)
        (cond_both Asks (ltb longest_data (length d)) (λ _. unchanged p v (Histories.refused 9) room) (λ e.
        cond_both Asks (Layout.is_outstanding r) (λ _. unchanged p v (Histories.refused 17) room) (λ _.
        cond_both Asks (leb last_number (Layout.newest_number r)) (λ _. unchanged p v (Histories.refused 14) room) (λ f.
        cond_both Asks (ltb (length room) (length (request_frame n q))) (λ _. unchanged p v (Histories.refused 8) room) (λ _.
        let k = request-kept (ltb-false _ _ e) (leb-false _ _ f) in
        changed p v _ _ _ _ k.0 k.1 k.2)))))

  -- ---- interrupt

  abbrev Interrupts : Calls.InterruptOutcome → Requester.MainDone → Type 0
  Interrupts t x =
      MainMeets p (main_did_by (main_refusal t.refusal) [] (with_requester p t.requester))
      (Histories.main_done_means x.refusal x.state)

  -- a recovery is begun, or there is no number for it
  begin-meets : Interrupts
      (cond (leb last_number (Layout.newest_number r)) (Calls.interrupt_outcome (some 14) r)
      (Calls.interrupt_outcome none (Calls.progressed (suc (Layout.newest_number r)) 1 1 (Layout.kept_flag r) r)))
      (Requester.interrupted_in none (main_view p))
  unfolding main_view Layout.step_at kept_request_of
  begin-meets =
      cond_both Interrupts (leb last_number (Layout.newest_number r)) (λ _. unchanged p v (Histories.refused 14) []) (λ e.
      let s = leb-false last_number (Layout.newest_number r) e in
      let n = suc (Layout.newest_number r) in
      changed p v Histories.done [] _ _ (progressed-held n 1 1 (Layout.kept_flag r) r w (omega arith) bs)
      (progressed-valid n 1 1 (Layout.kept_flag r) r w (omega arith) (omega arith) (omega arith) w.kept (λ _. omega arith))
      (progressed-long n 1 1 (Layout.kept_flag r) r w))

  -- in a recovery nothing is added
  meanwhile-meets : (t : RecoveryStep) → Interrupts (Calls.interrupt_outcome none r) (Requester.interrupted_in (some t) (main_view p))
  meanwhile-meets t = unchanged p v Histories.done []

  interrupt-meets : Interrupts (Calls.interrupt_promise r) (Requester.interrupt (main_view p))
  unfolding Calls.interrupt_promise Requester.interrupt main_view Layout.step_at Layout.step_number
  interrupt-meets =
      let t = Layout.recovery_of r in
      rw v.requester
      (cond_both (λ (x : Calls.InterruptOutcome) (y : Option RecoveryStep). Interrupts x (Requester.interrupted_in y (main_view p)))
      (eqb t 0)
      (λ _. begin-meets)
      (λ _.
      step-some t (λ y. Interrupts (Calls.interrupt_outcome none r) (Requester.interrupted_in y (main_view p))) (meanwhile-meets fetch)
      (meanwhile-meets acknowledge) (meanwhile-meets alert)))

  -- ---- send

  module _ (room : List ℕ) where
    abbrev Sends : Calls.PutOutcome → Requester.MainDone → Type 0
    Sends t x = MainMeets p (put_did p t) (put_means x.refusal room x.out x.state)

    abbrev frame : List ℕ
    frame = request_frame (Layout.newest_number r) (Layout.out_request r)

    flag-meets : Sends (Calls.put_into frame room r (overlay Layout.unsent_offset (0 ∷ []) r))
        (Requester.put_out (length room) frame (main_view p)
        (main_state (Layout.newest_number r) (kept_request_of r) (Layout.recovery_step r) false bs))
    unfolding Calls.put_into
    flag-meets =
        cond_both Sends (ltb (length room) (length frame)) (λ _. unchanged p v (Histories.refused 8) room) (λ _.
        changed p v _ _ _ _ (flagged-held 0 r w bs) (flagged-valid 0 r w (omega arith)) (flagged-long 0 r w))

    nothing-meets : Sends (Calls.put_outcome (Calls.wrote 0) room r) (Requester.done_with [] (main_view p))
    nothing-meets = rw (overlay-none 0 room) (unchanged p v (Histories.put 0) room)

    send-meets : Sends (Calls.send_promise r room) (Requester.send (length room) (main_view p))
    unfolding Calls.send_promise Requester.send Layout.is_unsent main_view
    send-meets = rw (v.requester, outstanding-is r) (by (Layout.is_outstanding r) (eqb (Layout.unsent_of r) 1) refl)
      where
        by : (a b : Bool) → eqb (Layout.unsent_of r) 1 ≡ b
            → Sends
            (cond (a && b) (Calls.put_into frame room r (overlay Layout.unsent_offset (0 ∷ []) r))
            (Calls.put_outcome (Calls.wrote 0) room r))
            (Requester.sent_of (length room) (cond a (some (Layout.out_request r)) none) (main_view p))
        by true true e = rw e (rw e at flag-meets)
        by true false e = rw e (rw e at nothing-meets)
        by false b e = nothing-meets

  -- ---- receive

  receive-meets : (piece : List ℕ)
      → MainMeets p (receipt_did (Calls.main_receive_promise p piece)) (Histories.receive_means (Requester.receive (main_view p) piece))
  unfolding Calls.main_receive_promise receipt_did
  receive-meets piece =
      let f = walk-follows piece p v in
      let x = f.1 in
      rw (valid-parts p v, received-walk piece p v.reader, report-received _ (walk p piece).fed.handed _ _)
      (record {
        answer = rw (f.0, x.handed, x.ended, ← x.state, to-go-out (walk p piece).fed.parts);
        out = x.given ∙ ap Histories.handed_data x.handed;
        state = x.state;
        valid = x.valid;
        lengths = x.lengths;
      })

  -- ---- state

  standing-is : cond (Layout.is_outstanding r) (Calls.part_standing r) idle_standing ≡ standing (main_view p)
  unfolding Calls.part_standing standing main_view
  standing-is = rw (outstanding-is r) (by (Layout.is_outstanding r))
    where
      by : (b : Bool)
          → cond b (Calls.part_standing r) idle_standing ≡ standing_of (cond b (some (Layout.out_request r)) none) (main_view p)
      by true = rw (kept-some r)
      by false = refl

  state-meets : MainMeets p (main_did_by (state_answer (Calls.state_promise r)) [] p)
      (main_means (Histories.stands (standing (main_view p))) [] (main_view p))
  unfolding Calls.state_promise
  state-meets = rw (v.requester, standing-is) (unchanged p v (Histories.stands (standing (main_view p))) [])

  -- ---- any call

  pub call-meets : (c : MainCall) → MainMeets p (main_did p c) (main_meant (main_view p) c)
  unfolding main_did main_meant
  call-meets Histories.start =
      start-meets p (record { reader = valid-long p.reader v.reader; requester = w.long }) (main_view p)
  call-meets (Histories.request command d room) = request-meets command d room
  call-meets Histories.interrupt = interrupt-meets
  call-meets (Histories.send room) = send-meets room
  call-meets (Histories.receive piece) = receive-meets piece
  call-meets Histories.state = state-meets
