-- An alert that is handed out was taken by the request outstanding, and none that was taken before it can be handed out behind it.
-- Assumes nothing.
use mathlib.Core.Path.{◌≡◌, refl, sym, ap, ◌∙◌}
use mathlib.Core.Bool.{Bool, true, false}
use mathlib.Core.List.{List, [], ◌∷◌, ◌++◌, map, append_assoc, append-nil, map-append}
use mathlib.Core.Logic.{◌⊎◌, inl, inr}
use mathlib.Core.Option.{Option, none, some}
use Prim.Native.Nat.{ℕ, suc, ◌≤◌, ◌<◌}
use native.Mathlib.Omega.{arith}
use lib.Dec.{eqb}
use borrow.Author.Tests.{eqb-true, eq-eqb}
use Rattle.octets.specs.Bytes.{Each}
use Rattle.octets.proofs.Each.{each_append}
use Rattle.line.specs.Message.{Message}
use Rattle.requester.specs.State as RequesterState
use Rattle.requester.specs.State.{Request, step_request, outstanding, MainState}
use Rattle.requester.specs.Calls as MainCalls
use Rattle.requester_claims.specs.Histories.{MainAnswer}
use Rattle.requester_claims.specs.Histories as Main
use Rattle.responder.specs.Requests.{verdict}
use Rattle.both_claims.specs.Ends.{Any, Handled, Log, CarriedOut, Fresh, FreshReport, FreshBy, AlertTaken, message_handed}
use Rattle.both_claims.specs.Ends.{as_message}
use Rattle.both_claims.specs.AlertsTaken.{with_action, alert_handed}
use Rattle.both_claims.proofs.laws.Lists.{none-some, any_left, any-right, any-so, each-then, each-so}
use Rattle.both_claims.proofs.laws.ReplyRange.{reply-of}
use Rattle.both_claims.proofs.laws.AlertQueue.{with_actions, actions-append, Taken, taken_data, taken_by, taken}
use Rattle.both_claims.proofs.laws.AlertNumbers.{Rising, pairs-right}
use Rattle.both_claims.proofs.InOrderAge.{Pairs, pairs-across}

-- ---- what is handed out

-- an alert request is outstanding
abbrev pub AlertOutstanding : MainState → Type 0
AlertOutstanding s = (q : Request) × (outstanding s ≡ some q) × (q.command ≡ 0x0a)

-- and its answer is handed out
pub record AlertOut (s : MainState) (a : MainAnswer) (d : List ℕ) : Type 0 where
  pub reply : Message
  pub handed : message_handed a d ≡ some reply
  pub alerts : alert_handed a d ≡ with_action reply.payload
  pub waits : AlertOutstanding s

module _ (s : MainState) (l : Log) where
  fresh_alert : (r : Message) → Fresh s l r → r.command ≡ 0x07 → AlertOutstanding s
  fresh_alert r f c = (
    f.request,
    f.waiting,
    any-so (CarriedOut s.newest f.request r)
        (λ h k. (reply-of h.image h.state (as_message s.newest f.request) r k.reply).alert c) l.handled f.made,
  )

  step-alert : s.recovery ≡ some RequesterState.alert → AlertOutstanding s
  unfolding step_request
  step-alert e = (step_request RequesterState.alert, rw e, refl)

  -- in a recovery, to its alert request
  pub recovered-alert : s.recovery ≡ some RequesterState.alert → (a : MainAnswer) (d : List ℕ) → FreshBy s l a d → (r : Message)
      → message_handed a d ≡ some r → AlertOut s a d
  recovered-alert i (Main.refused n) d h r e = absurd (none-some e)
  recovered-alert i Main.done d h r e = absurd (none-some e)
  recovered-alert i (Main.put n) d h r e = absurd (none-some e)
  recovered-alert i (Main.received used (MainCalls.HandedReport.refused n) k u) d h r e = absurd (none-some e)
  recovered-alert i (Main.received used MainCalls.nothing k u) d h r e = absurd (none-some e)
  recovered-alert i (Main.received used (MainCalls.answered v q c n) k u) d h r e = absurd (none-some (sym h.0 ∙ i))
  recovered-alert i (Main.received used (MainCalls.status x o n) k u) d h r e = absurd (none-some e)
  recovered-alert i (Main.received used (MainCalls.alerted v q c n) k u) d h r e = record {
    reply = record { version = v; sequence = q; command = c; payload = d };
    handed = refl;
    alerts = refl;
    waits = step-alert i;
  }
  recovered-alert i (Main.stands x) d h r e = absurd (none-some e)

  answered-alert : (used : ℕ) (t : MainCalls.HandedReport) (k : Option ℕ) (u : Bool) (d : List ℕ) → FreshReport s l t d
      → let a = Main.received used t k u in (alert_handed a d ≡ []) ⊎ AlertOut s a d
  answered-alert used (MainCalls.HandedReport.refused n) k u d h = inl refl
  answered-alert used MainCalls.nothing k u d h = inl refl
  answered-alert used (MainCalls.answered v q c n) k u d h = by (eqb c 0x07) refl
    where
      r : Message
      r = record { version = v; sequence = q; command = c; payload = d }

      by : (b : Bool) → eqb c 0x07 ≡ b
          → let a = Main.received used (MainCalls.answered v q c n) k u in (alert_handed a d ≡ []) ⊎ AlertOut s a d
      by true e = inr (record { reply = r; handed = refl; alerts = rw e; waits = fresh_alert r h.1 (eqb-true c 0x07 e) })
      by false e = inl (rw e)
  answered-alert used (MainCalls.status x o j) k u d h = inl refl
  answered-alert used (MainCalls.alerted v q c n) k u d h =
      inr (recovered-alert h.0 (Main.received used (MainCalls.alerted v q c n) k u) d h _ refl)

  pub answer-alert : (a : MainAnswer) (d : List ℕ) → FreshBy s l a d → (alert_handed a d ≡ []) ⊎ AlertOut s a d
  answer-alert (Main.refused n) d h = inl refl
  answer-alert Main.done d h = inl refl
  answer-alert (Main.put n) d h = inl refl
  answer-alert (Main.received used t k u) d h = answered-alert used t k u d h
  answer-alert (Main.stands x) d h = inl refl

-- nothing is handed out
pub none-handed : (a : MainAnswer) (d : List ℕ) → message_handed a d ≡ none → alert_handed a d ≡ []
none-handed (Main.refused n) d e = refl
none-handed Main.done d e = refl
none-handed (Main.put n) d e = refl
none-handed (Main.received used (MainCalls.HandedReport.refused n) k u) d e = refl
none-handed (Main.received used MainCalls.nothing k u) d e = refl
none-handed (Main.received used (MainCalls.answered v q c n) k u) d e = absurd (none-some (sym e))
none-handed (Main.received used (MainCalls.status x o n) k u) d e = refl
none-handed (Main.received used (MainCalls.alerted v q c n) k u) d e = absurd (none-some (sym e))
none-handed (Main.stands x) d e = refl

-- ---- it was taken

-- under this number, with these data
abbrev pub TakenAs : ℕ → List ℕ → Taken → Type 0
TakenAs n d u = (u.number ≡ n) × (taken_data u ≡ d)

pub taken_in : (n : ℕ) (q : Request) (r : Message) → q.command ≡ 0x0a → (hs : List Handled) → Any (AlertTaken n q r) hs
    → Any (TakenAs n r.payload) (taken hs)
unfolding taken
taken_in n q r a [] h = h
taken_in n q r a (h ∷ hs) (inl k) =
    let e = eq-eqb q.command 0x0a a in
    any_left (TakenAs n r.payload) (taken_by h.state (verdict h.form)) (taken hs)
    (rw (k.carried-out.passed, e, k.none_retained) (inl (refl, sym k.oldest_waiting)))
taken_in n q r a (h ∷ hs) (inr k) =
    any-right (TakenAs n r.payload) (taken_by h.state (verdict h.form)) (taken hs) (taken_in n q r a hs k)

-- ---- lists

pub any-either : {A : Type 0} (P : A → Type 0) (xs ys : List A) → Any P (xs ++ ys) → Any P xs ⊎ Any P ys
any-either P [] ys h = inr h
any-either P (x ∷ xs) ys (inl h) = inl (inl h)
any-either P (x ∷ xs) ys (inr h) = by (any-either P xs ys h)
  where
    by : Any P xs ⊎ Any P ys → Any P (x ∷ xs) ⊎ Any P ys
    by (inl k) = inl (inr k)
    by (inr k) = inr k

-- an element that has it, with those ahead of it and behind it
pub record Found {A : Type 0} (P : A → Type 0) (xs : List A) : Type 0 where
  pub ahead : List A
  pub one : A
  pub behind : List A
  pub whole : xs ≡ ahead ++ (one ∷ behind)
  pub has : P one

any_found : {A : Type 0} (P : A → Type 0) (xs : List A) → Any P xs → Found P xs
any_found P [] h = absurd h
any_found P (x ∷ xs) (inl h) = record { ahead = []; one = x; behind = xs; whole = refl; has = h }
any_found P (x ∷ xs) (inr h) =
    let f = any_found P xs h in
    record { ahead = x ∷ f.ahead; one = f.one; behind = f.behind; whole = ap (λ ys. x ∷ ys) f.whole; has = f.has }

-- ---- those that can no longer be handed out

-- the alerts taken in two parts: all numbers of the first are below this one
pub record Parted (low : ℕ) (us : List Taken) : Type 0 where
  pub settled : List Taken
  pub rest : List Taken
  pub whole : us ≡ settled ++ rest
  pub below : Each (λ (u : Taken). u.number < low) settled

-- an alert is handed out under this number: it is in the second part, and those ahead of it there have lower numbers
pub record NextOut (n : ℕ) (d : List ℕ) (us : List Taken) (p : Parted n us) : Type 0 where
  pub found : Found (TakenAs n d) p.rest
  pub ahead_below : Each (λ (u : Taken). u.number < n) found.ahead
  pub behind_above : Each (λ (u : Taken). n < u.number) found.behind

pub next-out : (n : ℕ) (d : List ℕ) (us : List Taken) (p : Parted n us) → Pairs Rising us → Any (TakenAs n d) us → NextOut n d us p
next-out n d us p rising a = by (any-either (TakenAs n d) p.settled p.rest (rw p.whole at a))
  where
    by : Any (TakenAs n d) p.settled ⊎ Any (TakenAs n d) p.rest → NextOut n d us p
    by (inl h) =
        absurd (each-so (λ (u : Taken). u.number < n) (TakenAs n d) (λ u k t. omega (arith, k, t.0)) p.settled p.below h)
    by (inr h) =
        let f = any_found (TakenAs n d) p.rest h in
        let e = f.has.0 in
        let order : Pairs Rising (f.ahead ++ (f.one ∷ f.behind)) =
        rw f.whole at (pairs-right Rising p.settled p.rest (rw p.whole at rising)) in
        record {
          found = f;
          ahead_below = each-then _ _ (λ (u : Taken) k. omega (arith, k, e)) f.ahead (pairs-across Rising f.ahead _ order).0;
          behind_above = each-then _ _ (λ (u : Taken) k. omega (arith, k, e)) f.behind (pairs-right Rising f.ahead _ order).0;
        }

module _ {n : ℕ} {d : List ℕ} {us : List Taken} (p : Parted n us) (o : NextOut n d us p) where
  abbrev pub new : List Taken
  new = o.found.ahead ++ (o.found.one ∷ [])

  -- it is settled then, and so are those ahead of it
  abbrev pub parted-next : Parted (suc n) us
  parted-next = record {
    settled = p.settled ++ new;
    rest = o.found.behind;
    whole =
        p.whole
        ∙ rw (o.found.whole, append_assoc p.settled new o.found.behind, append_assoc o.found.ahead (o.found.one ∷ []));
    below = each_append _ p.settled new (each-then _ _ (λ (u : Taken) k. omega (arith, k)) p.settled p.below)
        (each_append _ o.found.ahead (o.found.one ∷ []) (each-then _ _ (λ (u : Taken) k. omega (arith, k)) o.found.ahead
        o.ahead_below) (let e = o.found.has.0 in omega (arith, e), tt));
  }

  -- the data of these
  pub next-data : with_actions (map taken_data (p.settled ++ new))
      ≡ with_actions (map taken_data p.settled) ++ (with_actions (map taken_data o.found.ahead) ++ with_action d)
  unfolding with_actions
  next-data =
      rw (
        map-append taken_data p.settled,
        map-append taken_data o.found.ahead,
        actions-append,
        actions-append,
        o.found.has.1,
        append-nil,
      )

-- more are taken
abbrev pub parted_more : {low : ℕ} {us : List Taken} (new : List Taken) → Parted low us → Parted low (us ++ new)
parted_more new p = record {
  settled = p.settled;
  rest = p.rest ++ new;
  whole = rw p.whole (append_assoc p.settled p.rest new);
  below = p.below;
}

abbrev pub parted_low : {low high : ℕ} {us : List Taken} → low ≤ high → Parted low us → Parted high us
parted_low h p = record {
  settled = p.settled;
  rest = p.rest;
  whole = p.whole;
  below = each-then _ _ (λ (u : Taken) k. omega (arith, h, k)) p.settled p.below;
}
