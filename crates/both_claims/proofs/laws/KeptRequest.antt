-- What a call of the main processor's end does with the caller's request that is outstanding, or held through a recovery.
-- Assumes nothing.
use mathlib.Core.Path.{◌≡◌, refl, sym}
use mathlib.Core.Bool.{true, false, cond, ◌&&◌, false≢true}
use mathlib.Core.List.{List, []}
use mathlib.Core.Logic.{◌⊎◌, inl, inr}
use mathlib.Core.Option.{Option, none, some}
use Prim.Native.Nat.{ℕ, suc, ◌≤◌, ◌<◌}
use native.Mathlib.Omega.{arith}
use lib.Dec.{leb, ltb, eqb}
use lib.ListN.{length}
use borrow.Author.Tests.{leb-true, leb-false, ltb-false}
use Rattle.octets.specs.Bytes.{bit}
use Rattle.octets.proofs.Conditions.{cond-by}
use Rattle.line.specs.Limits.{longest_data}
use Rattle.line.specs.Numbers.{status_length}
use Rattle.line.specs.Message.{Message}
use Rattle.requester.specs.Limits.{last_number}
use Rattle.requester.specs.State.{Request, RecoveryStep, fetch, acknowledge, alert, MainState, is_some, outstanding, request_frame}
use Rattle.requester.specs.Requester
use Rattle.requester.specs.Requester.{Handed, Heard, ground, other, answer, settle, MainResult, main_with_received}
use Rattle.requester.specs.Calls.{handed_report_of}
use Rattle.requester_claims.specs.Histories as Main
use Rattle.requester_claims.specs.Histories.{MainMeans, main_means, put_means, main_done_means, main_meant, main_meant_made, main_enough}
use Rattle.requester_claims.specs.Histories.{MainCall}
use Rattle.requester_claims.specs.Histories.{MainMade}
use Rattle.requester_claims.specs.Numbers.{frames_put_out}
use Rattle.requester_claims.proofs.Numbers.{frames_of, framed, frames-put, some_bytes}
use Rattle.requester_claims.specs.CameAs.{restarts}
use Rattle.both_claims.specs.Ends.{message_handed, request_of, puts_request}
use Rattle.both_claims.proofs.laws.MainReads.{Came, quiet, hearing}

-- ---- what is heard

-- it stays, or ends with the answer that is handed out, outside a recovery, or with 14
pub data KeptAfter (s : MainState) (h : Handed) (t : MainState) : Type 0 where
  same : t.kept ≡ s.kept → s.newest ≤ t.newest → KeptAfter s h t
  answered : s.recovery ≡ none → (r : Message) → h ≡ Requester.answered r → t.kept ≡ none → t.newest ≡ s.newest → KeptAfter s h t
  ended : last_number ≤ s.newest → t.kept ≡ none → t.newest ≡ s.newest → KeptAfter s h t

module _ (s : MainState) (h : Handed) where
  abbrev Next : Requester.Next → Type 0
  Next x = KeptAfter s h (Requester.main_moved_to x s).state

  anew-after : (t : Option RecoveryStep) → Next (Requester.anew t)
  unfolding Requester.main_moved_to
  anew-after t =
      cond-by (λ (m : Requester.MainMoved). KeptAfter s h m.state) (leb last_number s.newest) _ _
      (λ e. ended (leb-true last_number s.newest e) refl refl) (λ _. same refl (omega arith))

  same_after : Next Requester.same
  unfolding Requester.main_moved_to
  same_after = same refl (omega arith)

  again-after : Next Requester.again
  unfolding Requester.main_moved_to
  again-after = same refl (omega arith)

  -- the original goes out, or there is none
  last-after : (k : Option Request) → s.kept ≡ k → Next (cond (is_some k) (Requester.anew none) Requester.idle)
  unfolding Requester.main_moved_to
  last-after none e = same (sym e) (omega arith)
  last-after (some q) e = anew-after none

  served-after : (k : Option Request) → s.kept ≡ k → (n : ℕ) → Next (Requester.serve (is_some k) n)
  unfolding Requester.serve
  served-after k e n =
      cond-by Next (eqb (bit n 0) 1) _ _ (λ _. anew-after (some acknowledge)) (λ _.
      cond-by Next (eqb (bit n 1) 1) _ _ (λ _. anew-after (some alert)) (λ _. last-after k e))

module _ (s : MainState) where
  abbrev Outcome : Requester.HeardOutcome → Type 0
  Outcome o = KeptAfter s o.handed (Requester.main_moved_to o.next s).state

  fetched-after : (k : Option Request) → s.kept ≡ k → (m : Message) → Outcome (Requester.fetched (is_some k) m)
  unfolding Requester.fetched
  fetched-after k e m =
      cond-by Outcome (eqb m.command 0x06 && eqb (length m.payload) status_length) _ _
      (λ _. served-after s _ k e (Requester.message_status m)) (λ _. again-after s _)

  settled-after : (t : Option RecoveryStep) (k : Option Request) → s.recovery ≡ t → s.kept ≡ k → (h : Heard)
      → Outcome (settle t (is_some k) h)
  unfolding settle Requester.main_moved_to
  settled-after none none i e h = same refl (omega arith)
  settled-after none (some q) i e ground = same refl (omega arith)
  settled-after none (some q) i e other = same refl (omega arith)
  settled-after none (some q) i e (answer m) = answered i m refl refl refl
  settled-after (some t) k i e ground = same refl (omega arith)
  settled-after (some t) k i e other = same refl (omega arith)
  settled-after (some fetch) k i e (answer m) = fetched-after k e m
  settled-after (some acknowledge) k i e (answer m) = anew-after s _ (some fetch)
  settled-after (some alert) k i e (answer m) = anew-after s _ (some fetch)

-- the receive progress does not matter
progress-after : (s : MainState) (bs : Option (List ℕ)) {h : Handed} {t : MainState} → KeptAfter (main_with_received s bs) h t
    → KeptAfter s h t
progress-after s bs (same e n) = same e n
progress-after s bs (answered i r e k n) = answered i r e k n
progress-after s bs (ended l k n) = ended l k n

pub came-after : {ms : List Message} (s : MainState) (x : MainResult) → Came s ms x → KeptAfter s x.handed x.state
came-after s x (quiet bs e) = rw e (same refl (omega arith))
came-after s x (hearing bs h e f) = rw e (progress-after s bs (settled-after (main_with_received s bs) s.recovery s.kept refl refl h))

-- ---- calls

-- no new one: it stays, and the frame of the one outstanding goes out or none, or it ends
pub data NoNew (s : MainState) (x : MainMeans) : Type 0 where
  keeps : x.state.kept ≡ s.kept → s.newest ≤ x.state.newest
      → (frames_of x ≡ []) ⊎ ((q : Request) × (outstanding s ≡ some q) × (frames_of x ≡ framed s.newest q)) → NoNew s x
  answers : s.recovery ≡ none → (r : Message) → message_handed x.answer x.out ≡ some r → x.state.kept ≡ none
      → x.state.newest ≡ s.newest → frames_of x ≡ [] → NoNew s x
  ends : last_number ≤ s.newest → x.state.kept ≡ none → x.state.newest ≡ s.newest → frames_of x ≡ [] → NoNew s x

-- a new one, under the next number
pub record PutsNew (s : MainState) (c : MainCall) (x : MainMeans) : Type 0 where
  pub request : Request
  pub called : request_of c ≡ some request
  pub fits : length request.payload ≤ longest_data
  pub none_out : outstanding s ≡ none
  pub not_last : s.newest < last_number
  pub kept : x.state.kept ≡ Requester.keep request
  pub next : x.state.newest ≡ suc s.newest
  pub frame : frames_of x ≡ framed x.state.newest request

abbrev pub RequestBy : MainState → MainCall → MainMeans → Type 0
RequestBy s c x = ((puts_request c x.answer ≡ true) × PutsNew s c x) ⊎ ((puts_request c x.answer ≡ false) × NoNew s x)

not_some : {A : Type 0} (o : Option A) → is_some o ≡ false → o ≡ none
not_some none e = refl
not_some (some x) e = absurd (false≢true (sym e))

after-receive : (s : MainState) (used : ℕ) (x : MainResult) → KeptAfter s x.handed x.state
    → NoNew s (Main.receive_means (Requester.main_received used x))
unfolding frames_put_out handed_report_of Main.handed_data
after-receive s used x (same e n) = keeps e n (inl refl)
after-receive s used x (answered i r e k n) = answers i r (rw e refl) k n refl
after-receive s used x (ended l k n) = ends l k n refl

module _ (s : MainState) where
  refused-by : (c : MainCall) (k : ℕ) (room : List ℕ) → RequestBy s c (main_means (Main.refused k) room s)
  unfolding frames_put_out
  refused-by c k room = inr (refl, keeps refl (omega arith) (inl refl))

  abbrev PutBy : MainCall → List ℕ → Requester.MainDone → Type 0
  PutBy c room x = RequestBy s c (put_means x.refusal room x.out x.state)

  request-by : (command : ℕ) (d room : List ℕ)
      → PutBy (Main.request command d room) room (Requester.request (length room) (record { command = command; payload = d }) s)
  unfolding Requester.request
  request-by command d room =
      let q : Request = record { command = command; payload = d } in
      let n = suc s.newest in
      let c = Main.request command d room in
      cond-by (PutBy c room) (ltb longest_data (length d)) _ _ (λ _. refused-by c 9 room) (λ f.
      cond-by (PutBy c room) (is_some (outstanding s)) _ _ (λ _. refused-by c 17 room) (λ o.
      cond-by (PutBy c room) (leb last_number s.newest) _ _ (λ _. refused-by c 14 room) (λ l.
      cond-by (PutBy c room) (ltb (length room) (length (request_frame n q))) _ _ (λ _. refused-by c 8 room) (λ _.
      inl (
        refl,
        record {
          request = q;
          called = refl;
          fits = ltb-false longest_data (length d) f;
          none_out = not_some (outstanding s) o;
          not_last = leb-false last_number s.newest l;
          kept = refl;
          next = refl;
          frame = frames-put n (request_frame n q) room (some_bytes n q);
        },
      )))))

  interrupt-by : (t : Option RecoveryStep)
      → RequestBy s Main.interrupt (main_done_means (Requester.interrupted_in t s).refusal (Requester.interrupted_in t s).state)
  unfolding frames_put_out
  interrupt-by (some t) = inr (refl, keeps refl (omega arith) (inl refl))
  interrupt-by none =
      cond-by (λ (x : Requester.MainDone). RequestBy s Main.interrupt (main_done_means x.refusal x.state)) (leb last_number s.newest)
      _ _
      (λ _. inr (refl, keeps refl (omega arith) (inl refl))) (λ _. inr (refl, keeps refl (omega arith) (inl refl)))

  send_by : (room : List ℕ) (q : Option Request) → outstanding s ≡ q → PutBy (Main.send room) room (Requester.sent_of (length room) q s)
  unfolding frames_put_out
  send_by room none e = inr (refl, keeps refl (omega arith) (inl refl))
  send_by room (some q) e =
      let c = Main.send room in
      cond-by (PutBy c room) s.unsent _ _
      (λ _. cond-by (PutBy c room) (ltb (length room) (length (request_frame s.newest q))) _ _ (λ _. refused-by c 8 room) (λ _.
      inr
      (refl, keeps refl (omega arith) (inr (q, e, frames-put s.newest (request_frame s.newest q) room (some_bytes s.newest q))))))
      (λ _. inr (refl, keeps refl (omega arith) (inl refl)))

  -- a receive by what came of it
  module _ (came : (piece : List ℕ) → let x = (Requester.receive s piece).result in KeptAfter s x.handed x.state) where
    meant-by : (c : MainCall) → restarts c (main_meant s c).answer ≡ false → RequestBy s c (main_meant s c)
    unfolding main_meant Requester.interrupt Requester.send frames_put_out
    meant-by Main.start n = absurd (false≢true (sym n))
    meant-by (Main.request command d room) n = request-by command d room
    meant-by Main.interrupt n = interrupt-by s.recovery
    meant-by (Main.send room) n = send_by room (outstanding s) refl
    meant-by (Main.receive piece) n = let x = Requester.receive s piece in inr (refl, after-receive s x.used x.result (came piece))
    meant-by Main.state n = inr (refl, keeps refl (omega arith) (inl refl))

    pub made_by : (m : MainMade) → restarts m.call (main_meant_made s m).answer ≡ false → RequestBy s m.call (main_meant_made s m)
    unfolding main_meant_made
    made_by m =
        cond-by (λ (x : MainMeans). restarts m.call x.answer ≡ false → RequestBy s m.call x) (main_enough m.call m.lent) _ _
        (λ _ n. meant-by m.call n) (λ _ n. refused-by m.call 12 _)
