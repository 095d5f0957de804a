-- Where a call of the main processor's end hands an answer out, it leaves a higher newest number, or none outstanding.
-- A recovery's alert request stays outstanding until its answer is handed out. Assumes nothing.
use mathlib.Core.Path.{◌≡◌, refl, sym, ◌∙◌}
use mathlib.Core.Bool.{Bool, true, false, cond, ◌&&◌, false≢true}
use mathlib.Core.List.{List, ◌++◌}
use mathlib.Core.Logic.{◌⊎◌, inl, inr}
use mathlib.Core.Option.{Option, none, some}
use Prim.Native.Nat.{ℕ, suc, ◌≤◌, ◌<◌}
use native.Mathlib.Omega.{arith}
use lib.Dec.{leb, ltb, eqb}
use lib.ListN.{length}
use Rattle.octets.proofs.Conditions.{cond-by}
use Rattle.line.specs.Limits.{longest_data}
use Rattle.line.specs.Numbers.{status_length}
use Rattle.line.specs.Message.{Message}
use Rattle.requester.specs.Limits.{last_number}
use Rattle.requester.specs.State.{Request, RecoveryStep, fetch, acknowledge, alert, MainState, is_some, outstanding, request_frame}
use Rattle.requester.specs.Requester
use Rattle.requester.specs.Requester.{Handed, Heard, ground, other, answer, settle, MainResult, main_with_received}
use Rattle.requester.specs.Calls.{handed_report_of}
use Rattle.requester_claims.specs.Histories as Main
use Rattle.requester_claims.specs.Histories.{MainMeans, main_means, put_means, main_done_means, main_meant, main_meant_made, main_enough}
use Rattle.requester_claims.specs.Histories.{MainCall}
use Rattle.requester_claims.specs.Histories.{MainMade, main_made}
use Rattle.requester_claims.specs.Numbers.{Frame, is_start, NoMainStart}
use Rattle.requester_claims.proofs.Numbers.{frames_of, Goes, stays, takes, call-goes}
use Rattle.requester_claims.specs.CameAs.{restarts}
use Rattle.requester_claims.specs.View.{main_view}
use Rattle.requester_claims.proofs.History as MainHistory
use Rattle.both_claims.specs.Ends
use Rattle.both_claims.specs.Ends.{message_handed, MainGoesOn, ends_after, main_logged}
use Rattle.both_claims.specs.AlertsTaken.{asks_alert}
use Rattle.both_claims.proofs.laws.MainCalls.{reads_of}
use Rattle.both_claims.proofs.laws.BothCalls.{Both, main_meant_at, main-log}
use Rattle.both_claims.proofs.laws.Lists.{none-some}
use Rattle.both_claims.proofs.laws.MainReads.{Came, quiet, hearing}

-- ---- what is heard

-- the number is used up, or none is outstanding
abbrev pub Moved : MainState → MainState → Type 0
Moved s t = (s.newest < t.newest) ⊎ (outstanding t ≡ none)

abbrev pub Same : MainState → MainState → Type 0
Same s t = (t.newest ≡ s.newest) × (outstanding t ≡ outstanding s)

abbrev HandsOn : Handed → Type 0
HandsOn Requester.nothing = ⊥
HandsOn (Requester.answered m) = Unit {0}
HandsOn (Requester.status x o k) = ⊥
HandsOn (Requester.alerted m) = Unit {0}

abbrev After : MainState → Handed → MainState → Type 0
After s h t = (HandsOn h → Moved s t × (is_some (outstanding s) ≡ true)) × (s.recovery ≡ some alert → Same s t ⊎ HandsOn h)

fetches : (o : Option RecoveryStep) → o ≡ some fetch → o ≡ some alert → ⊥
fetches o e f = let z : ◌≡◌ {A = ℕ} 0 1 = cc in omega arith

acknowledges : (o : Option RecoveryStep) → o ≡ some acknowledge → o ≡ some alert → ⊥
acknowledges o e f = let z : ◌≡◌ {A = ℕ} 0 1 = cc in omega arith

module _ (s : MainState) where
  abbrev Outcome : Requester.HeardOutcome → Type 0
  Outcome o = After s o.handed (Requester.main_moved_to o.next s).state

  fetched-after : s.recovery ≡ some fetch → (original : Bool) (m : Message) → Outcome (Requester.fetched original m)
  unfolding Requester.fetched
  fetched-after i original m =
      cond-by Outcome (eqb m.command 0x06 && eqb (length m.payload) status_length) _ _
      (λ _. (λ b. absurd b, λ e. absurd (fetches s.recovery i e))) (λ _. (λ b. absurd b, λ e. absurd (fetches s.recovery i e)))

  alerted-after : s.recovery ≡ some alert → (m : Message)
      → Outcome (Requester.heard_outcome (Requester.alerted m) (Requester.anew (some fetch)))
  unfolding Requester.main_moved_to
  alerted-after i m =
      let moved : Moved s (Requester.main_moved_to (Requester.anew (some fetch)) s).state =
      cond-by (λ (x : Requester.MainMoved). Moved s x.state) (leb last_number s.newest) _ _ (λ _. inr refl)
      (λ _. inl (omega arith)) in
      (λ _. (moved, rw i), λ _. inr tt)

  settled-after : (t : Option RecoveryStep) (k : Option Request) → s.recovery ≡ t → s.kept ≡ k → (h : Heard)
      → Outcome (settle t (is_some k) h)
  unfolding settle Requester.main_moved_to
  settled-after none none i e h = (λ b. absurd b, λ _. inl (refl, refl))
  settled-after none (some q) i e ground = (λ b. absurd b, λ _. inl (refl, refl))
  settled-after none (some q) i e other = (λ b. absurd b, λ _. inl (refl, refl))
  settled-after none (some q) i e (answer m) = (λ _. (inr refl, rw (i, e)), λ _. inr tt)
  settled-after (some t) k i e ground = (λ b. absurd b, λ _. inl (refl, refl))
  settled-after (some t) k i e other = (λ b. absurd b, λ _. inl (refl, refl))
  settled-after (some fetch) k i e (answer m) = fetched-after i (is_some k) m
  settled-after (some acknowledge) k i e (answer m) = (λ b. absurd b, λ f. absurd (acknowledges s.recovery i f))
  settled-after (some alert) k i e (answer m) = alerted-after i m

came-after : {ms : List Message} (s : MainState) (x : MainResult) → Came s ms x → After s x.handed x.state
came-after s x (quiet bs e) = rw e (λ b. absurd b, λ _. inl (refl, refl))
came-after s x (hearing bs h e f) = rw e (settled-after (main_with_received s bs) s.recovery s.kept refl refl h)

-- ---- calls

pub record AfterCall (s : MainState) (x : MainMeans) : Type 0 where
  pub moved : (r : Message) → message_handed x.answer x.out ≡ some r → Moved s x.state × (is_some (outstanding s) ≡ true)
  pub until : s.recovery ≡ some alert → Same s x.state ⊎ ((r : Message) × (message_handed x.answer x.out ≡ some r))

-- nothing is handed out
nothing-out : (s : MainState) (x : MainMeans) → message_handed x.answer x.out ≡ none → (s.recovery ≡ some alert → Same s x.state)
    → AfterCall s x
nothing-out s x e f = record { moved = λ r h. absurd (none-some (sym e ∙ h)); until = λ i. inl (f i) }

or-never : {A : Type 0} → A ⊎ ⊥ → A
or-never (inl a) = a
or-never (inr b) = absurd b

after-receive : (s : MainState) (used : ℕ) (x : MainResult) → After s x.handed x.state
    → AfterCall s (Main.receive_means (Requester.main_received used x))
unfolding handed_report_of Main.handed_data
after-receive s used x h = by x.handed refl h
  where
    by : (y : Handed) → x.handed ≡ y → After s y x.state → AfterCall s (Main.receive_means (Requester.main_received used x))
    by Requester.nothing e h = nothing-out s _ (rw e) (λ i. or-never (h.1 i))
    by (Requester.answered m) e h = record { moved = λ r f. h.0 tt; until = λ i. inr (m, rw e) }
    by (Requester.status y o k) e h = nothing-out s _ (rw e) (λ i. or-never (h.1 i))
    by (Requester.alerted m) e h = record { moved = λ r f. h.0 tt; until = λ i. inr (m, rw e) }

module _ (s : MainState) where
  refused-after : (k : ℕ) (room : List ℕ) → AfterCall s (main_means (Main.refused k) room s)
  refused-after k room = nothing-out s _ refl (λ _. (refl, refl))

  abbrev PutAfter : List ℕ → Requester.MainDone → Type 0
  PutAfter room x = AfterCall s (put_means x.refusal room x.out x.state)

  request-after : (command : ℕ) (d room : List ℕ)
      → PutAfter room (Requester.request (length room) (record { command = command; payload = d }) s)
  unfolding Requester.request
  request-after command d room =
      let q : Request = record { command = command; payload = d } in
      cond-by (PutAfter room) (ltb longest_data (length d)) _ _ (λ _. refused-after 9 room) (λ _.
      cond-by (PutAfter room) (is_some (outstanding s)) _ _ (λ _. refused-after 17 room) (λ o.
      cond-by (PutAfter room) (leb last_number s.newest) _ _ (λ _. refused-after 14 room) (λ _.
      cond-by (PutAfter room) (ltb (length room) (length (request_frame (suc s.newest) q))) _ _ (λ _. refused-after 8 room) (λ _.
      nothing-out s _ refl (λ i. absurd (false≢true (sym (rw i at o))))))))

  interrupt-after : (t : Option RecoveryStep) → s.recovery ≡ t
      → AfterCall s (main_done_means (Requester.interrupted_in t s).refusal (Requester.interrupted_in t s).state)
  interrupt-after (some t) e = nothing-out s _ refl (λ _. (refl, refl))
  interrupt-after none e =
      cond-by (λ (x : Requester.MainDone). AfterCall s (main_done_means x.refusal x.state)) (leb last_number s.newest) _ _
      (λ _. nothing-out s _ refl (λ _. (refl, refl))) (λ _. nothing-out s _ refl (λ i. absurd (none-some (sym e ∙ i))))

  send-after : (room : List ℕ) (q : Option Request) → PutAfter room (Requester.sent_of (length room) q s)
  send-after room none = nothing-out s _ refl (λ _. (refl, refl))
  send-after room (some q) =
      cond-by (PutAfter room) s.unsent _ _
      (λ _. cond-by (PutAfter room) (ltb (length room) (length (request_frame s.newest q))) _ _ (λ _. refused-after 8 room) (λ _.
      nothing-out s _ refl (λ _. (refl, refl))))
      (λ _. nothing-out s _ refl (λ _. (refl, refl)))

  -- a receive by what came of it
  module _ (came : (piece : List ℕ) → let x = (Requester.receive s piece).result in After s x.handed x.state) where
    meant-after : (c : MainCall) → restarts c (main_meant s c).answer ≡ false → AfterCall s (main_meant s c)
    unfolding main_meant Requester.interrupt Requester.send
    meant-after Main.start n = absurd (false≢true (sym n))
    meant-after (Main.request command d room) n = request-after command d room
    meant-after Main.interrupt n = interrupt-after s.recovery refl
    meant-after (Main.send room) n = send-after room (outstanding s)
    meant-after (Main.receive piece) n = let x = Requester.receive s piece in after-receive s x.used x.result (came piece)
    meant-after Main.state n = nothing-out s _ refl (λ _. (refl, refl))

    made_after : (m : MainMade) → restarts m.call (main_meant_made s m).answer ≡ false → AfterCall s (main_meant_made s m)
    unfolding main_meant_made
    made_after m =
        cond-by (λ (x : MainMeans). restarts m.call x.answer ≡ false → AfterCall s x) (main_enough m.call m.lent) _ _
        (λ _ n. meant-after m.call n) (λ _ n. refused-after 12 _)

-- no accepted start
pub no_start : (s : MainState) (m : MainMade) → restarts m.call (main_meant_made s m).answer ≡ false → NoMainStart m
unfolding main_meant_made main_meant
no_start s m n i = by (main_enough m.call m.lent) refl
  where
    started : (c : MainCall) → is_start c ≡ true → restarts c (main_meant s c).answer ≡ true
    started Main.start e = refl
    started (Main.request command d room) e = absurd (false≢true e)
    started Main.interrupt e = absurd (false≢true e)
    started (Main.send room) e = absurd (false≢true e)
    started (Main.receive piece) e = absurd (false≢true e)
    started Main.state e = absurd (false≢true e)

    by : (b : Bool) → main_enough m.call m.lent ≡ b → b ≡ false
    by true e = absurd (false≢true (sym (rw e at n) ∙ started m.call i))
    by false e = refl

-- ---- the numbers left

-- the lowest number under which the answer to an alert request can still be handed out
abbrev lowest_of : Option Request → ℕ → ℕ
lowest_of o n = cond (asks_alert o) n (suc n)

unfoldable pub lowest : MainState → ℕ
lowest s = lowest_of (outstanding s) s.newest

module _ (s : MainState) where
  pub lowest-least : s.newest ≤ lowest s
  unfolding lowest
  lowest-least = cond-by (λ k. s.newest ≤ k) (asks_alert (outstanding s)) _ _ (λ _. omega arith) (λ _. omega arith)

  lowest-most : lowest s ≤ suc s.newest
  unfolding lowest
  lowest-most = cond-by (λ k. k ≤ suc s.newest) (asks_alert (outstanding s)) _ _ (λ _. omega arith) (λ _. omega arith)

  pub lowest-asks : asks_alert (outstanding s) ≡ true → lowest s ≡ s.newest
  unfolding lowest
  lowest-asks e = rw e

  pub lowest-else : asks_alert (outstanding s) ≡ false → lowest s ≡ suc s.newest
  unfolding lowest
  lowest-else e = rw e

pub lowest-same : (s t : MainState) → Same s t → lowest t ≡ lowest s
unfolding lowest
lowest-same s t (e, f) = rw (e, f)

none-lowest : (t : MainState) → outstanding t ≡ none → lowest t ≡ suc t.newest
none-lowest t e = lowest-else t (rw e)

newest-goes : {s t : MainState} {fs : List Frame} → Goes s t fs → s.newest ≤ t.newest
newest-goes (stays e k f) = omega (arith, e)
newest-goes (takes e f) = omega (arith, e)

pub lowest-goes : {s t : MainState} {fs : List Frame} → Goes s t fs → lowest s ≤ lowest t
lowest-goes {s} {t} (stays e (inl o) f) = let z = lowest-same s t (e, o) in omega (arith, z)
lowest-goes {s} {t} (stays e (inr o) f) = let z = none-lowest t o in let m = lowest-most s in omega (arith, z, m, e)
lowest-goes {s} {t} (takes e f) = let m = lowest-most s in let l = lowest-least t in omega (arith, l, m, e)

pub lowest-moved : {s t : MainState} {fs : List Frame} → Goes s t fs → Moved s t → suc s.newest ≤ lowest t
lowest-moved {s} {t} g (inl k) = let l = lowest-least t in omega (arith, l, k)
lowest-moved {s} {t} g (inr k) = let z = none-lowest t k in let n = newest-goes g in omega (arith, z, n)

-- ---- both ends

module _ (e : Ends.Ends) (both : Both e) (m : MainMade) (goes : MainGoesOn e (Ends.main m)) where
  abbrev s : MainState
  s = main_view e.main

  abbrev does : MainMeans
  does = main_meant_at e m

  pub goes-meant : restarts m.call does.answer ≡ false
  goes-meant = rw (MainHistory.one_call e.main m both.main).answer at goes

  pub main-goes : Goes (s) does.state (frames_of does)
  main-goes = call-goes (s) m (no_start (s) m goes-meant)

  pub main-after : AfterCall (s) does
  main-after =
      made_after (s) (λ piece. came-after (s) _ (reads_of (s) e.log both.kept piece).came)
      m goes-meant

  pub state-after : main_view (ends_after e (Ends.main m)).main ≡ does.state
  unfolding ends_after
  state-after = (MainHistory.one_call e.main m both.main).state

  -- the log
  pub log-after : let l = e.log in let a = (ends_after e (Ends.main m)).log in
      (a.handled ≡ l.handled) × (a.heard ≡ l.heard) × (a.asked ≡ l.asked ++ frames_of does)
  unfolding main_logged
  log-after = rw (main-log e both m, goes-meant) (refl, refl, refl)

  -- an answer is handed out
  module _ (r : Message) (h : let d = main_made e.main m in message_handed d.answer d.out ≡ some r) where
    handed-after : Moved s does.state × (is_some (outstanding s) ≡ true)
    handed-after = let k = MainHistory.one_call e.main m both.main in main-after.moved r (rw (k.answer, k.out) at h)

    pub out-moves : suc s.newest ≤ lowest (main_view (ends_after e (Ends.main m)).main)
    out-moves = rw state-after (lowest-moved main-goes handed-after.0)

    pub out-waits : is_some (outstanding s) ≡ true
    out-waits = handed-after.1

  pub lowest-after : lowest s ≤ lowest (main_view (ends_after e (Ends.main m)).main)
  lowest-after = rw state-after (lowest-goes main-goes)
