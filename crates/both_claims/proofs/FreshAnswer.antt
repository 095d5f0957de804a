-- An answer that is handed out was made by the supervisor in carrying out exactly the request that is outstanding, after it was put out.
-- Assumes nothing.
use mathlib.Core.Path.{◌≡◌, refl}
use mathlib.Core.Bool.{true, false≢true}
use mathlib.Core.List.{List, [], ◌∷◌, ◌++◌, map}
use mathlib.Core.Option.{some}
use Prim.Native.Nat.{ℕ}
use native.Mathlib.Omega.{arith}
use Rattle.octets.specs.Bytes.{Each}
use Rattle.octets.proofs.Conditions.{cond-by}
use Rattle.line.specs.Message.{Message}
use Rattle.line.specs.Frame.{frame, split, non_empty, closed_behind}
use Rattle.line.proofs.Pieces.{closed-join, non_empty-append}
use Rattle.line_claims.specs.Calls.{good_of, good_messages}
use Rattle.line_claims.proofs.ReaderClaim.{gathered-append}
use Rattle.requester.specs.State.{MainState}
use Rattle.requester.specs.Calls as MainCalls
use Rattle.requester_claims.specs.View.{main_view}
use Rattle.requester_claims.specs.Histories.{MainAnswer, MainCall, main_made}
use Rattle.requester_claims.specs.Histories as Main
use Rattle.requester_claims.specs.CameAs.{bytes_read_by, restarts}
use Rattle.requester_claims.specs.Numbers.{Frame}
use Rattle.requester_claims.proofs.History.{one_call}
use Rattle.both_claims.specs.Ends
use Rattle.both_claims.specs.Ends.{EndCallTyped, ends_after, Fresh, FreshReport, FreshBy, CallFresh, message_reported, message_handed}
use Rattle.both_claims.specs.Ends.{CallOf, Any, Log, got, main_logged, is_set_of, sets_among, InTurn, empty, past, read}
use Rattle.both_claims.specs.Ends.{InOrder, InOrderAfter, RequestUnder}
use Rattle.both_claims.specs.Ends.{FromMain, FromSupervisor, hands_out, taken_behind, ToMain, WireUnder, UnderNumber}
use Rattle.both_claims.proofs.laws.Lists.{none-some, each-then, each_right, among-turn, turn-images}
use Rattle.both_claims.proofs.laws.Kept.{AllFromMain}
use Rattle.both_claims.proofs.laws.FromMain.{call-from-main, begun-from-main}
use Rattle.both_claims.proofs.laws.MainFresh.{main-fresh}
use Rattle.both_claims.proofs.laws.BothCalls.{Both, main-answer, each-call, begun-both}
use Rattle.both_claims.specs.BothEnds.{FreshAnswer, InOrderWire}

-- what holds under the number n, beside what holds over any wire
abbrev pub FromMainUnder : ℕ → Ends.Ends → Type 0
FromMainUnder n e = AllFromMain (RequestUnder n) e.log

pub keeps-from-main : (n : ℕ) (e : Ends.Ends) → FromMainUnder n e → (t : Ends.EndCall) → WireUnder n e t → FromMainUnder n (ends_after e t)
keeps-from-main n e h t w = call-from-main (RequestUnder n) e h t w.to_supervisor

pub fresh-call : (n : ℕ) (e : Ends.Ends) → Both e → FromMainUnder n e → (t : Ends.EndCall) → EndCallTyped t → WireUnder n e t
    → UnderNumber n CallFresh e t
fresh-call n e both from (Ends.main m) typed w z =
    let s = main_view e.main in
    main-answer e both (FreshBy s e.log) m
    (main-fresh s e.log both.kept (rw (← z) at from) m typed (rw (one_call e.main m both.main).answer at (w.to_main z)))
fresh-call n e both from (Ends.supervisor m) typed w z = tt

-- an answer, or an alert's
report-fresh : (s : MainState) (l : Log) (t : MainCalls.HandedReport) (d : List ℕ) → FreshReport s l t d → (r : Message)
    → message_reported t d ≡ some r → Fresh s l r
report-fresh s l (MainCalls.HandedReport.refused n) d h r e = absurd (none-some e)
report-fresh s l MainCalls.nothing d h r e = absurd (none-some e)
report-fresh s l (MainCalls.answered v q c n) d h r e =
    let z : record { version = v; sequence = q; command = c; payload = d } ≡ r = cc in rw (← z) h.1
report-fresh s l (MainCalls.status x o k) d h r e = absurd (none-some e)
report-fresh s l (MainCalls.alerted v q c n) d h r e =
    let z : record { version = v; sequence = q; command = c; payload = d } ≡ r = cc in rw (← z) h.1

by-fresh : (s : MainState) (l : Log) (a : MainAnswer) (d : List ℕ) → FreshBy s l a d → (r : Message) → message_handed a d ≡ some r
    → Fresh s l r
by-fresh s l (Main.refused n) d h r e = absurd (none-some e)
by-fresh s l Main.done d h r e = absurd (none-some e)
by-fresh s l (Main.put n) d h r e = absurd (none-some e)
by-fresh s l (Main.received used t x u) d h r e = report-fresh s l t d h r e
by-fresh s l (Main.stands x) d h r e = absurd (none-some e)

pub answer-fresh : (n : ℕ) (e : Ends.Ends) → Both e → FromMainUnder n e → (t : Ends.EndCall) → EndCallTyped t → WireUnder n e t
    → UnderNumber n (CallOf Fresh) e t
answer-fresh n e both from (Ends.main m) typed w z =
    let d = main_made e.main m in
    by-fresh (main_view e.main) e.log d.answer d.out (fresh-call n e both from (Ends.main m) typed w z)
answer-fresh n e both from (Ends.supervisor m) typed w z = tt

pub fresh_answer : FreshAnswer
fresh_answer n e b ts t w =
    each-call (FromMainUnder n) (WireUnder n) (UnderNumber n CallFresh)
    (λ e both from t typed v. (fresh-call n e both from t typed v, keeps-from-main n e from t v)) e (begun-both e b)
    (begun-from-main (RequestUnder n) e b) ts t w

-- ---- a wire that keeps the order

-- of all good messages that were read, those that a call takes as an answer
module _ (P : Message → Type 0) (w : List ℕ) (c : MainCall) (a : MainAnswer) where
  last-read : Each P (good_messages (non_empty (split (w ++ bytes_read_by c a)).closed)) → Each P (taken_behind w c a)
  last-read h =
      let bs = bytes_read_by c a in
      let fs = (split w).closed in
      let new = good_messages (non_empty (closed_behind w bs)) in
      let e : good_messages (non_empty (split (w ++ bs)).closed) ≡ good_messages (non_empty fs) ++ new =
      rw (closed-join w bs, non_empty-append fs _, gathered-append good_of (non_empty fs) _) in
      cond-by (Each P) (hands_out a) _ [] (λ _. each_right P (good_messages (non_empty fs)) _ (rw e at h)) (λ _. tt)

order-from-main : (P : Message → Type 0) (l : Log) → InOrder l → FromMain P l
order-from-main P l o =
    each-then (λ (m : Message). Any (λ (x : Frame). x.bytes ≡ frame m) l.asked) _ (λ m h p. h) l.heard
    (turn-images frame (λ (x : Frame). x.bytes) l.heard l.asked (among-turn o.to_supervisor))

order-from-supervisor : (l : Log) → InOrder l → Each (FromSupervisor l) (got l)
order-from-supervisor l o = turn-images frame frame (got l) l.sent (among-turn o.to_main)

order-taken : (l : Log) (c : MainCall) (a : MainAnswer) (out : List ℕ) (k : ℕ) → InOrder (main_logged l c a out k)
    → Each (FromSupervisor l) (taken_behind l.read c a)
unfolding main_logged
order-taken l c a out k =
    cond-by (λ (x : Log). InOrder x → Each (FromSupervisor l) (taken_behind l.read c a)) (restarts c a) _ _ (λ e o. started a e)
    (λ _ o. last-read (FromSupervisor l) l.read c a (order-from-supervisor _ o))
  where
    -- a start takes nothing as an answer
    started : (a : MainAnswer) → restarts c a ≡ true → Each (FromSupervisor l) (taken_behind l.read c a)
    started (Main.refused n) e = tt
    started Main.done e = tt
    started (Main.put n) e = tt
    started (Main.received used t x u) e = absurd (false≢true e)
    started (Main.stands x) e = absurd (false≢true e)

order-to-main : (n : ℕ) (e : Ends.Ends) (t : Ends.EndCall) → InOrder (ends_after e t).log → ToMain n e t
unfolding ends_after
order-to-main n e (Ends.main m) o z = order-taken e.log m.call _ _ _ o
order-to-main n e (Ends.supervisor m) o z = tt

order-wire : (n : ℕ) (e : Ends.Ends) (t : Ends.EndCall) → InOrderAfter e t → WireUnder n e t
order-wire n e t o = record {
  to_supervisor = let l = (ends_after e t).log in order-from-main (RequestUnder n) l o;
  to_main = order-to-main n e t o;
}

-- the sets of key k alone
module _ (k : ℕ) where
  pub turn-sets : {zs ys : List (List ℕ)} → InTurn (List ℕ) zs ys → (ms : List Message) → map frame ms ≡ zs
      → InTurn (List ℕ) (map frame (sets_among k ms)) ys
  unfolding sets_among
  turn-sets empty [] e = empty
  turn-sets empty (m ∷ ms) e = let z : ◌≡◌ {A = ℕ} 0 1 = cc in absurd (omega arith)
  turn-sets (past a) ms e = past (turn-sets a ms e)
  turn-sets (read a) [] e = let z : ◌≡◌ {A = ℕ} 0 1 = cc in absurd (omega arith)
  turn-sets (read {x = x} {xs = xs} {ys = ys} a) (m ∷ ms) e =
      let h : map frame ms ≡ xs = cc in
      let i : frame m ≡ x = cc in
      cond-by (λ (ks : List Message). InTurn (List ℕ) (map frame ks) (x ∷ ys)) (is_set_of k m) (m ∷ sets_among k ms) (sets_among k ms)
      (λ _. rw i (read (turn-sets a ms h))) (λ _. turn-sets a ms h)

pub in_order_wire : InOrderWire
in_order_wire e [] o n k = (tt, tt)
in_order_wire e (t ∷ ts) o n k =
    let h = in_order_wire (ends_after e t) ts o.1 n k in
    ((order-wire n e t o.0, h.0), (turn-sets k (among-turn o.0.to_supervisor) _ refl, h.1))
