-- The supervisor made what a call of the main processor's end hands out, in carrying out the request outstanding.
-- This asks that the supervisor put it out, and the main processor's end the requests under the newest number. Assumes nothing.
use mathlib.Core.Path.{◌≡◌, refl}
use mathlib.Core.Bool.{Bool, true, false, ◌&&◌, and-eq-true_iff}
use mathlib.Core.List.{List, []}
use mathlib.Core.Option.{Option, none, some}
use Prim.Native.Nat.{ℕ}
use native.Mathlib.Omega.{arith}
use lib.Dec.{eqb}
use lib.ListN.{length, take}
use borrow.Author.Tests.{eqb-true}
use Rattle.octets.specs.Bytes.{Each, Byte}
use Rattle.octets.proofs.Conditions.{cond-by}
use Rattle.octets.proofs.Each.{each_take}
use Rattle.line.specs.Numbers.{status_length}
use Rattle.line.specs.Message.{Message, InRange}
use Rattle.line.specs.Frame.{frame}
use Rattle.line.specs.Judge.{good}
use Rattle.line.proofs.Pieces.{closed-rest}
use Rattle.requester.specs.State.{Request, RecoveryStep, fetch, acknowledge, alert, outstanding, outstanding_of, is_some, MainState}
use Rattle.requester.specs.Requester
use Rattle.requester.specs.Requester.{Heard, ground, other, answer, hear, settle}
use Rattle.requester.specs.Calls.{handed_report_of}
use Rattle.requester_claims.specs.Histories as Main
use Rattle.requester_claims.specs.Histories.{main_meant, main_meant_made, main_enough, MainCall, MainMade, MainMeans, main_done_means}
use Rattle.requester_claims.specs.Answers.{Matching}
use Rattle.requester_claims.proofs.AnswerBytes.{heard-matches}
use Rattle.both_claims.specs.Ends.{MainTyped, FreshBy, Any, Handled, Log, reply_made, Fresh, FreshReport, hands_report, taken_behind}
use Rattle.both_claims.specs.Ends.{RequestUnder, FromSupervisor}
use Rattle.both_claims.proofs.laws.Lists.{any-so, each-any}
use Rattle.both_claims.proofs.laws.GoodFrames.{closed-nonzero, good-range}
use Rattle.both_claims.proofs.laws.MainReads.{HeardFrom, Came, quiet, hearing}
use Rattle.both_claims.proofs.laws.ThatRequest.{carried-out}
use Rattle.both_claims.proofs.laws.Kept.{KnownFrom, known_from, AllFromMain, MadeTo, Kept}
use Rattle.both_claims.proofs.laws.MainCalls.{reads_of}

module _ (s : MainState) (l : Log) (kept : Kept s l) (from : AllFromMain (RequestUnder s.newest) l) where
  -- of the replies that were sent, one that has this frame
  sent-made : (r : Message) → FromSupervisor l r → Any (λ (y : Message). MadeTo l.handled y × (frame y ≡ frame r)) l.sent
  sent-made r i = each-any (MadeTo l.handled) (λ (y : Message). frame y ≡ frame r) _ (λ y a b. (a, b)) l.sent kept.sent i

  fresh-sent : (r : Message) → InRange r → hear s.newest (good r) ≡ answer r → FromSupervisor l r → (q : Request)
      → outstanding s ≡ some q → Fresh s l r
  fresh-sent r range e i q w =
      let match : Matching s.newest r.version r.sequence r.command = rw e at (heard-matches s.newest (good r)) in
      record {
        request = q;
        waiting = w;
        made = any-so (λ (y : Message). MadeTo l.handled y × (frame y ≡ frame r)) (λ y a.
            each-any (KnownFrom s) (λ (h : Handled). reply_made h ≡ some y) _
            (λ h k m. carried-out s kept.ranged q w r h k.0 k.1 match range y a.1 m) l.handled (known_from s l kept from)
            a.0)
            l.sent (sent-made r i);
      }

  abbrev Reports : Requester.HeardOutcome → Type 0
  Reports o = FreshReport s l (handed_report_of o.handed) (Main.handed_data o.handed)

  -- by what is outstanding, where a message that is handed out is so
  abbrev FreshIn : Option RecoveryStep → Option Request → Message → Requester.HeardOutcome → Type 0
  FreshIn t k r o = hands_report (handed_report_of o.handed) ≡ true → (q : Request) → outstanding_of t k ≡ some q → Fresh s l r

  settled-fresh : (t : Option RecoveryStep) (k : Option Request) (r : Message) → s.recovery ≡ t
      → let o = settle t (is_some k) (answer r) in FreshIn t k r o → Reports o
  unfolding settle handed_report_of Main.handed_data Requester.fetched
  settled-fresh none none r i f = tt
  settled-fresh none (some q) r i f = (i, f refl q refl)
  settled-fresh (some fetch) k r i f =
      cond-by (λ (o : Requester.HeardOutcome). FreshIn (some fetch) k r o → Reports o)
      (eqb r.command 0x06 && eqb (length r.payload) status_length) _ _
      (λ e g. let b = (and-eq-true_iff _ _).0 e in (i, r, g refl _ refl, refl, refl, refl, eqb-true _ _ b.0, eqb-true _ _ b.1))
      (λ _ g. tt) f
  settled-fresh (some acknowledge) k r i f = tt
  settled-fresh (some alert) k r i f = (i, f refl _ refl)

  -- nothing is handed out
  silent : (t : Option RecoveryStep) (k : Bool) (h : Heard) → HeardFrom 0 [] h
      → Reports (settle t k h)
  unfolding settle handed_report_of
  silent t k (answer m) f = let z : ◌≡◌ {A = ℕ} 0 1 = (let e = f.1 in cc) in absurd (omega arith)
  silent none false ground f = tt
  silent none true ground f = tt
  silent (some t) k ground f = tt
  silent none false other f = tt
  silent none true other f = tt
  silent (some t) k other f = tt

  came-fresh : (ms : List Message) (x : Requester.MainResult) → Came s ms x → Each InRange ms
      → (hands_report (handed_report_of x.handed) ≡ true → Each (FromSupervisor l) ms)
      → FreshReport s l (handed_report_of x.handed) (Main.handed_data x.handed)
  unfolding handed_report_of
  came-fresh ms x (quiet bs e) g i = rw e tt
  came-fresh ms x (hearing bs ground e f) g i = rw e (silent s.recovery (is_some s.kept) ground tt)
  came-fresh ms x (hearing bs other e f) g i = rw e (silent s.recovery (is_some s.kept) other tt)
  came-fresh ms x (hearing bs (answer r) e f) g i =
      let j = rw e at i in
      rw e
      (settled-fresh s.recovery s.kept r refl (λ h.
      fresh-sent r (rw f.1 at g).0 f.0 (rw f.1 at (j h)).0))

  -- ---- what it hands out

  put-fresh : (room : List ℕ) (x : Requester.MainDone)
      → let y = Main.put_means x.refusal room x.out x.state in FreshBy s l y.answer y.out
  put-fresh room x = by x.refusal
    where
      by : (k : Option ℕ) → let y = Main.put_means k room x.out x.state in FreshBy s l y.answer y.out
      by none = tt
      by (some k) = tt

  done-fresh : (k : Option ℕ) (t : MainState) → let y = main_done_means k t in FreshBy s l y.answer y.out
  done-fresh none t = tt
  done-fresh (some k) t = tt

  -- the message that it takes as an answer was put out
  call-fresh : (c : MainCall) → MainTyped c → Each (FromSupervisor l) (taken_behind l.read c (main_meant s c).answer)
      → FreshBy s l (main_meant s c).answer (main_meant s c).out
  unfolding main_meant
  call-fresh Main.start t i = tt
  call-fresh (Main.request command d room) t i =
      put-fresh room (Requester.request (length room) (record { command = command; payload = d }) s)
  call-fresh Main.interrupt t i = done-fresh (Requester.interrupt s).refusal (Requester.interrupt s).state
  call-fresh (Main.send room) t i = put-fresh room (Requester.send (length room) s)
  call-fresh (Main.receive piece) t i =
      let bs = take (Requester.receive s piece).used piece in
      came-fresh _ (Requester.receive s piece).result (reads_of s l kept piece).came
      (good-range _ (closed-nonzero l.read bs kept.read (each_take Byte (Requester.receive s piece).used piece t)))
      (λ h. rw (h, closed-rest l.read bs) at i)
  call-fresh Main.state t i = tt

  pub main-fresh : (m : MainMade) → MainTyped m.call → let x = main_meant_made s m in
      Each (FromSupervisor l) (taken_behind l.read m.call x.answer) → FreshBy s l x.answer x.out
  unfolding main_meant_made
  main-fresh m typed =
      cond-by (λ (x : MainMeans). Each (FromSupervisor l) (taken_behind l.read m.call x.answer) → FreshBy s l x.answer x.out)
      (main_enough m.call m.lent) _ _ (λ _ i. call-fresh m.call typed i) (λ _ i. tt)
