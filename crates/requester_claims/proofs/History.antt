-- The claim over lists of calls: what each answers, writes and leaves is document 02's, whatever is lent.
-- Other claims are of refusals, and that 12 comes only where too little is lent. Assumes nothing.
use mathlib.Core.Path.{◌≡◌, refl, sym, subst, ◌∙◌}
use mathlib.Core.Bool.{Bool, true, false, and-eq-true_iff}
use mathlib.Core.List.{List, [], ◌∷◌}
use mathlib.Core.Option.{Option, none, some}
use Prim.Native.Nat.{ℕ}
use native.Mathlib.Omega.{arith}
use lib.Dec.{leb, ltb, eqb}
use lib.ListN.{length, length-append}
use Rattle.octets.proofs.Conditions.{cond-by}
use Rattle.line.specs.Limits.{longest_data}
use Rattle.line.specs.Reader as LineReader
use Rattle.line_claims.proofs.LoanLaws.{back-same, front}
use Rattle.requester.specs.Limits.{last_number}
use Rattle.requester.specs.State.{Request, RecoveryStep, MainState, main_fresh, is_some, outstanding, request_frame}
use Rattle.requester.specs.Requester
use Rattle.requester.specs.Layout
use Rattle.requester.specs.Valid.{valid_requester}
use Rattle.requester.specs.Calls
use Rattle.requester.specs.Calls.{MainParts, MainPartsValid, MainLongEnough}
use Rattle.requester.proofs.ValidLaws.{requester-valid, is-long-enough}
use Rattle.line.proofs.Received.{valid-long}
use Rattle.requester_claims.specs.View.{main_view}
use Rattle.requester_claims.specs.Histories
use Rattle.requester_claims.specs.Histories.{MainCall, MainAnswer, refused, done, put, received, stands, MainDid, main_did_by, main_did}
use Rattle.requester_claims.specs.Histories.{put_did, main_refusal, receipt_did, handed_data_in}
use Rattle.requester_claims.specs.Histories.{main_means, put_means, main_done_means, main_meant, MainLent, main_lent_of, main_enough}
use Rattle.requester_claims.specs.Histories.{MainMade, main_untouched, main_made, main_meant_made}
use Rattle.requester_claims.specs.Histories.{main_outputs, main_left, main_outputs_meant, main_left_meant, main_start_call, Accepted}
use Rattle.requester_claims.specs.Histories.{OfReached, OfValid}
use Rattle.requester_claims.specs.Item2.{MainFollow, MainCallsMeant, MainNo12, MainRefusedHolds, MainRefusedMade, StateHolds}
use Rattle.requester_claims.proofs.ByteClaim.{lengths-same, lengths-then}
use Rattle.requester_claims.specs.Demand1.{MainMeets, CallAsMeant}
use Rattle.requester_claims.proofs.CallClaims.{report-received, start-meets, call-meets}
use Rattle.requester_claims.proofs.LentCalls.{whole, room_enough, too_little}

-- ---- refusals change nothing

abbrev WhereRefused : MainAnswer → (ℕ → Type 0) → Type 0
WhereRefused (refused n) P = P n
WhereRefused done P = Unit {0}
WhereRefused (put n) P = Unit {0}
WhereRefused (received used t e u) P = Unit {0}
WhereRefused (stands x) P = Unit {0}

module _ (p : MainParts) where
  abbrev Held : MainCall → MainDid → Type 0
  Held c d = WhereRefused d.answer (λ n. (d.parts ≡ p) × (d.out ≡ main_untouched c))

  held : (c : MainCall) → Held c (main_did p c)
  unfolding main_did Calls.main_start_promise Calls.request_promise Calls.put_into Calls.interrupt_promise Calls.send_promise
      Calls.main_receive_promise Calls.main_receive_valid Calls.state_promise receipt_did handed_data_in
  held Histories.start = cond-by P (Calls.main_long_enough p) _ _ (λ _. tt) (λ _. (refl, refl))
    where
      P : Calls.MainStartOutcome → Type 0
      P t = Held Histories.start (main_did_by (main_refusal t.refusal) [] t.parts)
  held (Histories.request command d room) =
      cond-by P (valid_requester p.requester) _ _
      (λ _. cond-by P (ltb longest_data (length d)) _ _ (λ _. (refl, refl)) (λ _.
      cond-by P (Layout.is_outstanding p.requester) _ _ (λ _. (refl, refl)) (λ _.
      cond-by P (leb last_number (Layout.newest_number p.requester)) _ _ (λ _. (refl, refl)) (λ _.
      cond-by P (ltb (length room) _) _ _ (λ _. (refl, refl)) (λ _. tt)))))
      (λ _. (refl, refl))
    where
      P : Calls.PutOutcome → Type 0
      P t = Held (Histories.request command d room) (put_did p t)
  held Histories.interrupt =
      cond-by P (valid_requester p.requester) _ _
      (λ _. cond-by P (eqb (Layout.recovery_of p.requester) 0) _ _
      (λ _. cond-by P (leb last_number (Layout.newest_number p.requester)) _ _ (λ _. (refl, refl)) (λ _. tt)) (λ _. tt))
      (λ _. (refl, refl))
    where
      P : Calls.InterruptOutcome → Type 0
      P t = Held Histories.interrupt (main_did_by (main_refusal t.refusal) [] (Histories.with_requester p t.requester))
  held (Histories.send room) =
      cond-by P (valid_requester p.requester) _ _
      (λ _.
      cond-by P (Layout.is_unsent p.requester) _ _ (λ _. cond-by P (ltb (length room) _) _ _ (λ _. (refl, refl)) (λ _. tt)) (λ _. tt))
      (λ _. (refl, refl))
    where
      P : Calls.PutOutcome → Type 0
      P t = Held (Histories.send room) (put_did p t)
  held (Histories.receive piece) = cond-by P (Calls.main_valid_parts p) _ _ (λ _. rw report-received tt) (λ _. (refl, refl))
    where
      P : Calls.MainReceiveOutcome → Type 0
      P x = Held (Histories.receive piece) (receipt_did x)
  held Histories.state = cond-by P (valid_requester p.requester) _ _ (λ _. tt) (λ _. (refl, refl))
    where
      P : Calls.StateReport → Type 0
      P t = Held Histories.state (main_did_by (Histories.state_answer t) [] p)

pub refused_holds : MainRefusedHolds
refused_holds p c n e = rw e at (held p c)

pub refused_made : MainRefusedMade
unfolding main_made
refused_made p m n e =
    let h = refused_holds (main_lent_of m.lent p) m.call n e in
    (rw h.0 (simp back-same), h.1)

pub state_holds : StateHolds
unfolding main_made main_did
state_holds l p = simp back-same

-- ---- 12 only where too little is lent

abbrev Not12 : MainAnswer → Type 0
Not12 a = WhereRefused a (λ n. n ≡ 12 → ⊥)

module _ (s : MainState) where
  abbrev PutNot12 : List ℕ → Requester.MainDone → Type 0
  PutNot12 room x = Not12 (put_means x.refusal room x.out x.state).answer

  sent-12 : (room : List ℕ) (q : Option Request) → PutNot12 room (Requester.sent_of (length room) q s)
  sent-12 room none = tt
  sent-12 room (some q) =
      cond-by (PutNot12 room) s.unsent _ _
      (λ _. cond-by (PutNot12 room) (ltb (length room) (length (request_frame s.newest q))) _ _ (λ _ f. omega (arith, f)) (λ _. tt))
      (λ _. tt)

  interrupted-12 : (t : Option RecoveryStep) → Not12 (main_done_means (Requester.interrupted_in t s).refusal s).answer
  interrupted-12 (some t) = tt
  interrupted-12 none =
      cond-by (λ (x : Requester.MainDone). Not12 (main_done_means x.refusal s).answer) (leb last_number s.newest) _ _
      (λ _ f. omega (arith, f)) (λ _. tt)

  meant-12 : (c : MainCall) → Not12 (main_meant s c).answer
  unfolding main_meant Requester.request Requester.interrupt Requester.send
  meant-12 Histories.start = tt
  meant-12 (Histories.request command d room) =
      cond-by (PutNot12 room) (ltb longest_data (length d)) _ _ (λ _ f. omega (arith, f)) (λ _.
      cond-by (PutNot12 room) (is_some (outstanding s)) _ _ (λ _ f. omega (arith, f)) (λ _.
      cond-by (PutNot12 room) (leb last_number s.newest) _ _ (λ _ f. omega (arith, f)) (λ _.
      cond-by (PutNot12 room) (ltb (length room) _) _ _ (λ _ f. omega (arith, f)) (λ _. tt))))
  meant-12 Histories.interrupt = interrupted-12 s.recovery
  meant-12 (Histories.send room) = sent-12 room (outstanding s)
  meant-12 (Histories.receive piece) = tt
  meant-12 Histories.state = tt

pub never_12 : (s : MainState) (m : MainMade) → main_enough m.call m.lent ≡ true → (main_meant_made s m).answer ≡ refused 12 → ⊥
unfolding main_meant_made
never_12 s m e f = let h : (main_meant s m.call).answer ≡ refused 12 = rw e at f in (rw h at (meant-12 s m.call)) refl

-- ---- one call

pub valid-long-enough : (p : MainParts) → MainPartsValid p → MainLongEnough p
valid-long-enough p v =
    record { reader = valid-long p.reader v.reader; requester = (requester-valid p.requester v.requester).long }

-- whatever is lent: the answer, what is written outside the state, and the valid parts that are left
pub one_call : (p : MainParts) (m : MainMade) → MainPartsValid p → MainMeets p (main_made p m) (main_meant_made (main_view p) m)
unfolding main_meant_made
one_call p m v =
    cond-by (MainMeets p (main_made p m)) (main_enough m.call m.lent) _ _
    (λ e. rw (whole m.lent p (valid-long-enough p v) m.call e) (call-meets p v m.call))
    (λ e. rw (too_little m.lent p m.call e) (record { answer = refl; out = refl; state = refl; valid = v; lengths = lengths-same }))

pub call_as_meant : OfValid CallAsMeant
call_as_meant p v m = one_call p m v

-- valid parts never earn 12
pub earns-no-12 : OfValid MainNo12
earns-no-12 p v m e h = never_12 (main_view p) m e (sym (one_call p m v).answer ∙ h)

-- ---- a list of calls, on valid parts

pub follow : (q : MainParts) → MainPartsValid q → (ms : List MainMade) → MainFollow q q (main_view q) ms
unfolding main_outputs main_left main_outputs_meant main_left_meant
follow q v [] = (refl, refl, v, lengths-same)
follow q v (m ∷ ms) =
    let k = one_call q m v in
    let i : MainFollow (main_made q m).parts (main_made q m).parts (main_meant_made (main_view q) m).state ms =
    rw k.state at (follow (main_made q m).parts k.valid ms) in
    (rw (k.answer, k.out, i.0), i.1, i.2, lengths-then k.lengths i.3)

-- ---- the first start, on any bytes

module _ (p : MainParts) (l : MainLent) where
  undone : (n : ℕ) → refused n ≡ done → ⊥
  undone n e = subst (λ a. WhereRefused a (λ _. ⊥)) (sym e) tt

  -- a start that is accepted had the published length of each part
  accepted : (x : Bool) → Calls.main_long_enough (main_lent_of l p) ≡ x → Accepted p l
      → MainLongEnough p × (main_enough Histories.start l ≡ true)
  unfolding main_made main_did Calls.main_start_promise main_enough
  accepted false e h = absurd (undone 12 (rw e at h))
  accepted true e h =
      let r = is-long-enough (main_lent_of l p) e in
      let g = room_enough l p e in
      let b = (and-eq-true_iff _ _).0 g in
      let f = front LineReader.reader_length l.reader p.reader b.0 in
      let k = front Layout.requester_length l.requester p.requester b.1 in (
        record {
          reader = rw (← f.whole, length-append) (omega (arith, r.reader));
          requester = rw (← k.whole, length-append) (omega (arith, r.requester));
        },
        g,
      )

  pub started : Accepted p l → MainMeets p (main_made p (main_start_call l)) (main_means done [] main_fresh)
  unfolding main_meant
  started h =
      let a = accepted _ refl h in
      rw (whole l p a.0 Histories.start a.1) (start-meets p a.0 main_fresh)

-- ---- the claim

pub history : MainCallsMeant
history p l h ms =
    let k = started p l h in
    let i = rw k.state at (follow _ k.valid ms) in
    (i.0, i.1, i.2, lengths-then k.lengths i.3)

pub no_12 : OfReached MainNo12
no_12 p l h ms = earns-no-12 _ (history p l h ms).2
