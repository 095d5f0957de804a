-- Calls of both ends in any order, from two starts on: what holds of both ends' parts, and of what was put out and read.
-- Claims about each call follow from it. Assumes nothing.
use mathlib.Core.Path.{◌≡◌, refl}
use mathlib.Core.Bool.{Bool, true}
use mathlib.Core.List.{List, [], ◌∷◌, ◌++◌}
use Prim.Native.Nat.{ℕ}
use Rattle.octets.specs.Bytes.{Each, Byte}
use Rattle.line.specs.Message.{Message}
use Rattle.line.specs.Frame.{split}
use Rattle.requester.specs.State.{MainState, main_fresh}
use Rattle.requester.specs.Requester.{answer}
use Rattle.requester.specs.Calls.{MainPartsValid}
use Rattle.requester_claims.specs.View.{main_view}
use Rattle.requester_claims.proofs.History as MainHistory
use Rattle.requester_claims.specs.Histories as Main
use Rattle.requester_claims.specs.Histories.{main_meant_made, MainAnswer, MainMade, MainMeans, main_made}
use Rattle.requester_claims.proofs.Numbers.{newest-after}
use Rattle.supervisor_claims.specs.View.{view}
use Rattle.supervisor_claims.specs.Sound.{Sound}
use Rattle.supervisor_claims.specs.Histories as Supervisor
use Rattle.supervisor_claims.proofs.claims.History as SupervisorHistory
use Rattle.line.specs.Judge.{progress_of}
use Rattle.supervisor_claims.specs.LastSet.{Origin}
use Rattle.both_claims.specs.Ends
use Rattle.both_claims.specs.Ends.{Log, empty_log, CallOf, BothStarts, ends_begun, Begun, together}
use Rattle.both_claims.specs.Ends.{MainTyped, EndCallTyped, ends_after, ends_after_all, Always, UnderNumber, main_logged}
use Rattle.both_claims.proofs.laws.Ranges.{fresh-ranged}
use Rattle.both_claims.proofs.laws.Held.{held-parts}
use Rattle.both_claims.proofs.laws.Lists.{none-some}
use Rattle.both_claims.proofs.laws.Kept.{Kept}
use Rattle.both_claims.proofs.laws.MainCalls.{main-kept}
use Rattle.both_claims.proofs.laws.SupervisorCalls.{supervisor-kept}

-- ---- what holds

-- both ends hold what their promises ask for, and the main processor's state is as what was put out and read has it
pub record Both (e : Ends.Ends) : Type 0 where
  pub main : MainPartsValid e.main
  pub supervisor : Sound e.supervisor
  pub kept : Kept (main_view e.main) e.log

-- a call of the main processor's end by document 02
abbrev pub main_meant_at : Ends.Ends → MainMade → MainMeans
main_meant_at e m = main_meant_made (main_view e.main) m

module _ (e : Ends.Ends) (both : Both e) where
  pub main-log : (m : MainMade) → let x = main_meant_at e m in
      (ends_after e (Ends.main m)).log ≡ main_logged e.log m.call x.answer x.out x.state.newest
  unfolding ends_after
  main-log m = let k = MainHistory.one_call e.main m both.main in rw (k.answer, k.out, newest-after e.main both.main m)

  -- a claim about its answer
  pub main-answer : (P : MainAnswer → List ℕ → Type 0) (m : MainMade) → let x = main_meant_at e m in
      P x.answer x.out → let d = main_made e.main m in P d.answer d.out
  main-answer P m h = let k = MainHistory.one_call e.main m both.main in rw (k.answer, k.out) h

  main-call : (m : MainMade) → MainTyped m.call → Both (ends_after e (Ends.main m))
  unfolding ends_after
  main-call m typed =
      let k = MainHistory.one_call e.main m both.main in
      record {
        main = k.valid;
        supervisor = both.supervisor;
        kept = rw (k.state, main-log m) (main-kept (main_view e.main) e.log both.kept m typed);
      }

  supervisor-call : (m : Supervisor.Made) → Supervisor.Typed m.call → Both (ends_after e (Ends.supervisor m))
  unfolding ends_after
  supervisor-call m typed = record {
    main = both.main;
    supervisor = (SupervisorHistory.one_call e.supervisor m both.supervisor typed).leaves.1;
    kept =
        supervisor-kept (main_view e.main) e.log both.kept (view e.supervisor) (held-parts e.supervisor both.supervisor) m
        typed _;
  }

  pub keeps-both : (t : Ends.EndCall) → EndCallTyped t → Both (ends_after e t)
  keeps-both (Ends.main m) typed = main-call m typed
  keeps-both (Ends.supervisor m) typed = supervisor-call m typed

-- ---- claims about each call

-- with what is given of each call, and what else each call keeps
module _ (Else : Ends.Ends → Type 0) (Given C : Ends.Ends → Ends.EndCall → Type 0)
    (of-call : (e : Ends.Ends) → Both e → Else e → (t : Ends.EndCall) → EndCallTyped t → Given e t → C e t × Else (ends_after e t)) where
  pub each-call : (e : Ends.Ends) → Both e → Else e → (ts : List Ends.EndCall) → Each EndCallTyped ts → Always Given e ts → Always C e ts
  each-call e both other [] typed g = tt
  each-call e both other (t ∷ ts) typed g =
      let k = of-call e both other t typed.0 g.0 in
      (k.0, each-call (ends_after e t) (keeps-both e both t typed.0) k.1 ts typed.1 g.1)

  -- what holds after calls
  pub after-calls : (e : Ends.Ends) → Both e → Else e → (ts : List Ends.EndCall) → Each EndCallTyped ts → Always Given e ts
      → Both (ends_after_all e ts) × Else (ends_after_all e ts)
  unfolding ends_after_all
  after-calls e both other [] typed g = (both, other)
  after-calls e both other (t ∷ ts) typed g =
      let k = of-call e both other t typed.0 g.0 in
      after-calls (ends_after e t) (keeps-both e both t typed.0) k.1 ts typed.1 g.1

-- two things that are given of each call
pub always-and : (C D : Ends.Ends → Ends.EndCall → Type 0) (e : Ends.Ends) (ts : List Ends.EndCall) → Always C e ts → Always D e ts
    → Always (λ x t. C x t × D x t) e ts
always-and C D e [] c d = tt
always-and C D e (t ∷ ts) c d = ((c.0, d.0), always-and C D (ends_after e t) ts c.1 d.1)

pub always-second : (C D : Ends.Ends → Ends.EndCall → Type 0) (e : Ends.Ends) (ts : List Ends.EndCall) → Always (λ x t. C x t × D x t) e ts
    → Always D e ts
always-second C D e [] h = tt
always-second C D e (t ∷ ts) h = (h.0.1, always-second C D (ends_after e t) ts h.1)

pub always-then : (C D : Ends.Ends → Ends.EndCall → Type 0) → ((x : Ends.Ends) (t : Ends.EndCall) → C x t → D x t) → (e : Ends.Ends)
    (ts : List Ends.EndCall) → Always C e ts → Always D e ts
always-then C D so e [] h = tt
always-then C D so e (t ∷ ts) h = (so e t h.0, always-then C D so (ends_after e t) ts h.1)

-- the first calls and those behind them
pub always-split : (C : Ends.Ends → Ends.EndCall → Type 0) (e : Ends.Ends) (xs ys : List Ends.EndCall) → Always C e (xs ++ ys)
    → Always C e xs × Always C (ends_after_all e xs) ys
unfolding ends_after_all
always-split C e [] ys h = (tt, h)
always-split C e (x ∷ xs) ys h = let k = always-split C (ends_after e x) xs ys h.1 in ((h.0, k.0), k.1)

-- what follows from a claim
module _ (P Q : MainState → Log → Message → Type 0) where
  pub call-so : (e : Ends.Ends) → ((r : Message) → P (main_view e.main) e.log r → Q (main_view e.main) e.log r)
      → (t : Ends.EndCall) → CallOf P e t → CallOf Q e t
  call-so e so (Ends.main m) h = λ r o. so r (h r o)
  call-so e so (Ends.supervisor m) h = tt

  pub always-so : (n : ℕ) → ((s : MainState) (l : Log) (r : Message) → P s l r → Q s l r) → (e : Ends.Ends) (ts : List Ends.EndCall)
      → Always (UnderNumber n (CallOf P)) e ts → Always (UnderNumber n (CallOf Q)) e ts
  always-so n so e [] h = tt
  always-so n so e (t ∷ ts) h =
      (λ z. call-so e (so (main_view e.main) e.log) t (h.0 z), always-so n so (ends_after e t) ts h.1)

-- ---- the main processor's end just started

started-kept : (b : Bool) (w : List ℕ) (o : ℕ → Origin) → Each Byte w → Kept main_fresh (empty_log b w o)
unfolding main_fresh progress_of split
started-kept b w o h = record {
  progress = refl;
  ranged = fresh-ranged;
  read = tt;
  bytes = h;
  asked = tt;
  ordered = tt;
  heard = tt;
  handled = tt;
  before = tt;
  pending = λ r e. absurd (none-some e);
  sent = tt;
}

together-both : (s : BothStarts) → Both (ends_begun s)
together-both s =
    let x = MainHistory.started s.main-parts s.main_lent s.main_accepted in
    record {
      main = x.valid;
      supervisor =
          (SupervisorHistory.started s.supervisor_parts s.supervisor_bytes s.supervisor_lent s.start_data s.start_typed
          s.supervisor_accepted).1;
      kept = rw x.state (started-kept true [] _ tt);
    }

-- calls of which nothing is given
pub any-calls : (Else : Ends.Ends → Type 0)
    → ((e : Ends.Ends) → Both e → Else e → (t : Ends.EndCall) → EndCallTyped t → Else (ends_after e t))
    → (e : Ends.Ends) → Both e → Else e → (ts : List Ends.EndCall) → Each EndCallTyped ts
    → Both (ends_after_all e ts) × Else (ends_after_all e ts)
any-calls Else of-call e both other ts typed =
    after-calls Else Nothing Nothing (λ e both other t typed g. (tt, of-call e both other t typed)) e both other ts typed (all e ts)
  where
    Nothing : Ends.Ends → Ends.EndCall → Type 0
    Nothing e t = Unit {0}

    all : (e : Ends.Ends) (ts : List Ends.EndCall) → Always Nothing e ts
    all e [] = tt
    all e (t ∷ ts) = (tt, all (ends_after e t) ts)

module _ (Else : Ends.Ends → Type 0) (first : (s : BothStarts) → Else (ends_begun s))
    (of-call : (e : Ends.Ends) → Both e → Else e → (t : Ends.EndCall) → EndCallTyped t → Else (ends_after e t)) where
  begun : (e : Ends.Ends) → Begun e → Both e × Else e
  begun e (together s) = (together-both s, first s)
  begun e (Ends.later s ts t l a) =
      let x = ends_after_all (ends_begun s) ts in
      let k = any-calls Else of-call (ends_begun s) (together-both s) (first s) ts t in
      let c = Ends.main (record { lent = l; call = Main.start }) in
      (keeps-both x k.0 c tt, of-call x k.0 k.1 c tt)

  pub begun-else : (e : Ends.Ends) → Begun e → Else e
  begun-else e b = (begun e b).1

pub begun-both : (e : Ends.Ends) → Begun e → Both e
begun-both e b = (begun (λ x. Unit {0}) (λ s. tt) (λ x both u t typed. tt) e b).0
