-- A call of the main processor's end keeps what holds of both.
-- Assumes nothing.
use mathlib.Core.Path.{◌≡◌, refl, sym, ap, ◌∙◌}
use mathlib.Core.Bool.{Bool, true, false, false≢true}
use mathlib.Core.List.{List, [], ◌++◌, append-nil}
use Prim.Native.Nat.{ℕ}
use lib.ListN.{length, take}
use Rattle.octets.specs.Bytes.{Each, Byte}
use Rattle.octets.proofs.Each.{each_append, each_take}
use Rattle.line.specs.Frame.{split}
use Rattle.line.proofs.Pieces.{split-join}
use Rattle.requester.specs.State.{Request, outstanding, MainState}
use Rattle.requester.specs.State.{main_fresh}
use Rattle.requester.specs.Requester
use Rattle.requester.specs.Requester.{answer}
use Rattle.requester_claims.specs.Histories as Main
use Rattle.requester_claims.specs.Histories.{main_meant, main_meant_made, main_enough, MainAnswer, MainCall, MainMade, MainMeans}
use Rattle.requester_claims.specs.Histories.{main_means, main_untouched}
use Rattle.requester_claims.proofs.AnswerFrame.{request-keeps, interrupt-keeps, send-keeps, put_keeps}
use Rattle.requester_claims.specs.Numbers.{Frame, is_start}
use Rattle.requester_claims.proofs.Numbers.{frames_of, Goes, Agrees, agrees-goes, put-goes, joined, call-goes}
use Rattle.line.specs.Judge.{progress_of}
use Rattle.supervisor_claims.proofs.laws.Progress.{rest-nonzero}
use Rattle.requester_claims.specs.CameAs.{bytes_read_by, restarts}
use Rattle.both_claims.specs.Ends
use Rattle.both_claims.specs.Ends.{MainTyped, main_logged, Handled, Log}
use Rattle.both_claims.proofs.laws.Lists.{front-more, none-some, each-then, each_and}
use Rattle.both_claims.proofs.laws.MainReads.{Reads, piece-reads}
use Rattle.both_claims.proofs.laws.Ranges.{Ranged, RangedFrame, fresh-ranged, made-ranged, reads-ranged}
use Rattle.both_claims.proofs.laws.Kept.{PutOut, Known, Kept}

-- a call that is refused reads nothing
read-refused : (c : MainCall) → bytes_read_by c (Main.refused 12) ≡ []
read-refused Main.start = refl
read-refused (Main.request command d room) = refl
read-refused Main.interrupt = refl
read-refused (Main.send room) = refl
read-refused (Main.receive piece) = refl
read-refused Main.state = refl

read_bytes : (c : MainCall) → MainTyped c → (a : MainAnswer) → Each Byte (bytes_read_by c a)
read_bytes Main.start t a = tt
read_bytes (Main.request command d room) t a = tt
read_bytes Main.interrupt t a = tt
read_bytes (Main.send room) t a = tt
read_bytes (Main.receive piece) t (Main.refused n) = tt
read_bytes (Main.receive piece) t Main.done = tt
read_bytes (Main.receive piece) t (Main.put n) = tt
read_bytes (Main.receive piece) t (Main.received used x e u) = each_take Byte used piece t
read_bytes (Main.receive piece) t (Main.stands x) = tt
read_bytes Main.state t a = tt

start_is : (c : MainCall) → is_start c ≡ true → c ≡ Main.start
start_is Main.start e = refl
start_is (Main.request command d room) e = absurd (false≢true e)
start_is Main.interrupt e = absurd (false≢true e)
start_is (Main.send room) e = absurd (false≢true e)
start_is (Main.receive piece) e = absurd (false≢true e)
start_is Main.state e = absurd (false≢true e)

pub no-restart : (c : MainCall) → is_start c ≡ false → (a : MainAnswer) → restarts c a ≡ false
no-restart c e (Main.refused n) = refl
no-restart c e Main.done = e
no-restart c e (Main.put n) = refl
no-restart c e (Main.received used t x u) = refl
no-restart c e (Main.stands x) = refl

module _ (s : MainState) (l : Log) (kept : Kept s l) where
  -- ---- a call of the main processor's end

  abbrev tail : List ℕ
  tail = (split l.read).rest

  pub reads_of : (piece : List ℕ) → let r = Requester.receive s piece in Reads s tail (take r.used piece) r.result
  reads_of piece = piece-reads piece s tail (rest-nonzero l.read) kept.progress

  -- the bytes since the last 00
  call-progress : (c : MainCall) → is_start c ≡ false
      → let x = main_meant s c in x.state.received ≡ progress_of (split (l.read ++ bytes_read_by c x.answer)).rest
  unfolding main_meant Requester.interrupt Requester.send
  call-progress Main.start h = absurd (false≢true (sym h))
  call-progress (Main.request command d room) h =
      let q : Request = record { command = command; payload = d } in
      ap (λ (x : MainState). x.received) (put_keeps s (Requester.request (length room) q s) room)
      ∙ request-keeps s (length room) q ∙ rw append-nil kept.progress
  call-progress Main.interrupt h = interrupt-keeps s s.recovery ∙ rw append-nil kept.progress
  call-progress (Main.send room) h =
      ap (λ (x : MainState). x.received) (put_keeps s (Requester.sent_of (length room) (outstanding s) s) room)
      ∙ send-keeps s (length room) (outstanding s) ∙ rw append-nil kept.progress
  call-progress (Main.receive piece) h = rw (split-join l.read (take (Requester.receive s piece).used piece)) (reads_of piece).progress
  call-progress Main.state h = rw append-nil kept.progress

  -- ---- the state that it leaves

  module _ (m : MainMade) (typed : MainTyped m.call) where
    abbrev does : MainMeans
    does = main_meant_made s m

    abbrev logged : Log
    logged = main_logged l m.call does.answer does.out does.state.newest

    left-ranged : Ranged does.state × Each RangedFrame (frames_of does)
    left-ranged = made-ranged s kept.ranged m typed (λ piece. reads-ranged s _ kept.ranged (reads_of piece))

    -- a call that is no accepted start
    goes_kept : Goes s does.state (frames_of does)
        → does.state.received ≡ progress_of (split (l.read ++ bytes_read_by m.call does.answer)).rest
        → restarts m.call does.answer ≡ false → Kept does.state logged
    unfolding main_logged
    goes_kept g e n =
        rw n
        (record {
          progress = e;
          ranged = left-ranged.0;
          read = each_append Byte l.read _ kept.read (read_bytes m.call typed does.answer);
          bytes = kept.bytes;
          asked = each_append (PutOut does.state) l.asked (frames_of does) (each-then (PutOut s) _ still l.asked kept.asked)
              (each_and (λ (x : Frame). Agrees x does.state) RangedFrame _ (λ x a r. record { agrees = a; ranged = r }) (frames_of does)
              (put-goes g).0 left-ranged.1);
          ordered =
              joined l.asked (frames_of does) (each-then (PutOut s) _ (λ x w. (agrees-goes x w.agrees g).1) l.asked kept.asked)
              kept.ordered (put-goes g).1;
          heard = kept.heard;
          before = each-then _ _ (λ (h : Handled) f. front-more (frames_of does) f) l.handled kept.before;
          handled =
              each-then (Known s) _
              (λ h k.
              record {
                nonzero = k.nonzero;
                asked = each-then (PutOut s) _ still h.asked k.asked;
                reply = k.reply;
              }) l.handled kept.handled;
          pending = kept.pending;
          sent = kept.sent;
        })
      where
        still : (x : Frame) → PutOut s x → PutOut does.state x
        still x w = record { agrees = (agrees-goes x w.agrees g).0; ranged = w.ranged }

    -- an accepted start
    fresh_kept : Kept main_fresh (Ends.empty_log false l.received l.origin)
    unfolding main_fresh progress_of split
    fresh_kept = record {
      progress = refl;
      ranged = fresh-ranged;
      read = tt;
      bytes = kept.bytes;
      asked = tt;
      ordered = tt;
      heard = tt;
      handled = tt;
      before = tt;
      pending = λ r e. absurd (none-some e);
      sent = tt;
    }

    -- lent too little
    little : main_enough m.call m.lent ≡ false → does ≡ main_means (Main.refused 12) (main_untouched m.call) s
    unfolding main_meant_made
    little e = rw e

    whole : main_enough m.call m.lent ≡ true → does ≡ main_meant s m.call
    unfolding main_meant_made
    whole e = rw e

    start-kept : does ≡ main_means Main.done [] main_fresh → is_start m.call ≡ true → Kept does.state logged
    unfolding main_logged
    start-kept e i = rw (e, i) fresh_kept

    pub main-kept : Kept does.state logged
    unfolding main_meant
    main-kept = by (main_enough m.call m.lent) (is_start m.call) refl refl
      where
        by : (t u : Bool) → main_enough m.call m.lent ≡ t → is_start m.call ≡ u → Kept does.state logged
        by false u e i =
            goes_kept (call-goes s m (λ _. e)) (rw (little e, read-refused m.call, append-nil) kept.progress) (rw (little e))
        by true true e i = start-kept (whole e ∙ rw (start_is m.call i)) i
        by true false e i =
            goes_kept (call-goes s m (λ f. absurd (false≢true (sym i ∙ f)))) (rw (whole e) (call-progress m.call i))
            (no-restart m.call i does.answer)
