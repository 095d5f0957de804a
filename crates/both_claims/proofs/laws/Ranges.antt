-- What the main processor's end keeps and puts out is in range.
-- Numbers go to the last one, commands and data are bytes, and data fit a message. Assumes nothing.
use mathlib.Core.Path.{◌≡◌, refl}
use mathlib.Core.List.{List}
use mathlib.Core.Option.{Option, none, some}
use Prim.Native.Nat.{ℕ, suc, ◌≤◌, ◌<◌}
use native.Mathlib.Omega.{arith}
use lib.Dec.{leb, ltb}
use lib.ListN.{length}
use borrow.Author.Tests.{leb-false, ltb-false}
use Rattle.octets.specs.Bytes.{Each, Byte}
use Rattle.octets.proofs.Conditions.{cond-by}
use Rattle.line.specs.Limits.{longest_data}
use Rattle.line.specs.Message.{InRange}
use Rattle.requester.specs.Limits.{last_number}
use Rattle.requester.specs.State.{Request, RecoveryStep, fetch, acknowledge, alert, MainState, main_fresh, step_request, is_some}
use Rattle.requester.specs.State.{outstanding}
use Rattle.requester.specs.State.{outstanding_of, request_frame}
use Rattle.requester.specs.Requester
use Rattle.requester.specs.Requester.{stays_out}
use Rattle.requester_claims.specs.Histories as Main
use Rattle.requester_claims.specs.Histories.{MainMeans, main_means, put_means, main_done_means, main_meant, main_meant_made, main_enough}
use Rattle.requester_claims.specs.Histories.{MainCall}
use Rattle.requester_claims.specs.Histories.{MainMade}
use Rattle.requester_claims.specs.Numbers.{Frame, frames_put_out}
use Rattle.requester_claims.proofs.Numbers.{frames_of, frames-put, some_bytes}
use Rattle.both_claims.specs.Ends.{MainTyped, as_message}
use Rattle.both_claims.proofs.laws.MainReads.{Came, quiet, hearing, Reads}
use Rattle.both_claims.specs.Exchanges.{RangedRequest}

abbrev KeptRanged : Option Request → Type 0
KeptRanged none = Unit {0}
KeptRanged (some q) = RangedRequest q

pub record Ranged (s : MainState) : Type 0 where
  pub newest : s.newest ≤ last_number
  pub kept : KeptRanged s.kept

-- a frame that is put out is a request's, in range
pub record RangedFrame (x : Frame) : Type 0 where
  pub request : Request
  pub bytes : x.bytes ≡ request_frame x.number request
  pub in_range : InRange (as_message x.number request)

pub ranged-message : (n : ℕ) (q : Request) → n ≤ last_number → RangedRequest q → InRange (as_message n q)
ranged-message n q h r = record {
  typed = record { version = omega arith; sequence = omega (arith, h); command = r.command; payload = r.bytes };
  fits = r.fits;
}

pub step-ranged : (t : RecoveryStep) → RangedRequest (step_request t)
unfolding step_request
step-ranged fetch = record { command = omega arith; bytes = tt; fits = omega arith }
step-ranged acknowledge = record { command = omega arith; bytes = tt; fits = omega arith }
step-ranged alert = record { command = omega arith; bytes = tt; fits = omega arith }

outstanding-kept : (t : Option RecoveryStep) (k : Option Request) → KeptRanged k → KeptRanged (outstanding_of t k)
outstanding-kept none k h = h
outstanding-kept (some t) k h = step-ranged t

pub outstanding-ranged : (s : MainState) → Ranged s → (q : Request) → outstanding s ≡ some q → RangedRequest q
outstanding-ranged s r q e = rw e at (outstanding-kept s.recovery s.kept r.kept)

pub fresh-ranged : Ranged main_fresh
unfolding main_fresh
fresh-ranged = record { newest = omega arith; kept = tt }

-- ---- what is heard

moved-ranged : (x : Requester.Next) (s : MainState) → Ranged s → Ranged (Requester.main_moved_to x s).state
unfolding Requester.main_moved_to
moved-ranged Requester.same s r = r
moved-ranged Requester.again s r = record { newest = r.newest; kept = r.kept }
moved-ranged (Requester.anew t) s r =
    cond-by (λ (m : Requester.MainMoved). Ranged m.state) (leb last_number s.newest) _ _
    (λ _. record { newest = r.newest; kept = tt })
    (λ e. record { newest = omega (arith, leb-false last_number s.newest e); kept = r.kept })
moved-ranged Requester.idle s r = record { newest = r.newest; kept = tt }

came-ranged : {ms : List Rattle.line.specs.Message.Message} (s : MainState) (x : Requester.MainResult) → Ranged s → Came s ms x
    → Ranged x.state
came-ranged s x r (quiet bs e) = rw e (record { newest = r.newest; kept = r.kept })
came-ranged s x r (hearing bs h e f) =
    rw e (moved-ranged _ (Requester.main_with_received s bs) (record { newest = r.newest; kept = r.kept }))

-- ---- calls

module _ (s : MainState) (r : Ranged s) where
  abbrev MeansRanged : MainMeans → Type 0
  MeansRanged x = Ranged x.state × Each RangedFrame (frames_of x)

  abbrev PutRanged : List ℕ → Requester.MainDone → Type 0
  PutRanged room x = MeansRanged (put_means x.refusal room x.out x.state)

  refused-ranged : (k : ℕ) (room : List ℕ) → MeansRanged (main_means (Main.refused k) room s)
  unfolding frames_put_out
  refused-ranged k room = (r, tt)

  -- a frame of this request, and the state that is left
  put-ranged : (n : ℕ) (q : Request) (room : List ℕ) (t : MainState) → t.newest ≡ n → n ≤ last_number → RangedRequest q → Ranged t
      → MeansRanged (main_means (Main.put (length (request_frame n q))) (Rattle.octets.specs.Bytes.overlay 0 (request_frame n q) room) t)
  put-ranged n q room t e h k rt = (
    rt,
    rw (e, frames-put n (request_frame n q) room (some_bytes n q))
        (record { request = q; bytes = refl; in_range = ranged-message n q h k }, tt),
  )

  keep-ranged : (q : Request) → RangedRequest q → KeptRanged (Requester.keep q)
  keep-ranged q k = cond-by KeptRanged (stays_out q.command) _ _ (λ _. k) (λ _. tt)

  request-ranged : (command : ℕ) (d room : List ℕ) → command < 256 → Each Byte d
      → PutRanged room (Requester.request (length room) (record { command = command; payload = d }) s)
  unfolding Requester.request
  request-ranged command d room c h =
      let q : Request = record { command = command; payload = d } in
      let n = suc s.newest in
      cond-by (PutRanged room) (ltb longest_data (length d)) _ _ (λ _. refused-ranged 9 room) (λ f.
      cond-by (PutRanged room) (is_some (outstanding s)) _ _ (λ _. refused-ranged 17 room) (λ _.
      cond-by (PutRanged room) (leb last_number s.newest) _ _ (λ _. refused-ranged 14 room) (λ g.
      cond-by (PutRanged room) (ltb (length room) (length (request_frame n q))) _ _ (λ _. refused-ranged 8 room) (λ _.
      let k : RangedRequest q = record { command = c; bytes = h; fits = ltb-false longest_data (length d) f } in
      let l : n ≤ last_number = omega (arith, leb-false last_number s.newest g) in
      put-ranged n q room _ refl l k (record { newest = l; kept = keep-ranged q k })))))

  interrupt-ranged : (t : Option RecoveryStep)
      → MeansRanged (main_done_means (Requester.interrupted_in t s).refusal (Requester.interrupted_in t s).state)
  unfolding frames_put_out
  interrupt-ranged (some t) = (r, tt)
  interrupt-ranged none =
      cond-by (λ (x : Requester.MainDone). MeansRanged (main_done_means x.refusal x.state)) (leb last_number s.newest) _ _
      (λ _. (r, tt)) (λ e. (record { newest = omega (arith, leb-false last_number s.newest e); kept = r.kept }, tt))

  send-ranged : (room : List ℕ) (q : Option Request) → outstanding s ≡ q → PutRanged room (Requester.sent_of (length room) q s)
  unfolding frames_put_out
  send-ranged room none e = (r, tt)
  send-ranged room (some q) e =
      cond-by (PutRanged room) s.unsent _ _
      (λ _. cond-by (PutRanged room) (ltb (length room) (length (request_frame s.newest q))) _ _ (λ _. (r, tt)) (λ _.
      put-ranged s.newest q room _ refl r.newest (outstanding-ranged s r q e) (record { newest = r.newest; kept = r.kept })))
      (λ _. (r, tt))

  -- a receive by what came of it
  meant-ranged : (c : MainCall) → MainTyped c
      → ((piece : List ℕ) → Ranged (Requester.receive s piece).result.state) → MeansRanged (main_meant s c)
  unfolding main_meant Requester.interrupt Requester.send frames_put_out
  meant-ranged Main.start h i = (fresh-ranged, tt)
  meant-ranged (Main.request command d room) h i = request-ranged command d room h.0 h.1
  meant-ranged Main.interrupt h i = interrupt-ranged s.recovery
  meant-ranged (Main.send room) h i = send-ranged room (outstanding s) refl
  meant-ranged (Main.receive piece) h i = (i piece, tt)
  meant-ranged Main.state h i = (r, tt)

  pub made-ranged : (m : MainMade) → MainTyped m.call → ((piece : List ℕ) → Ranged (Requester.receive s piece).result.state)
      → Ranged (main_meant_made s m).state × Each RangedFrame (frames_of (main_meant_made s m))
  unfolding main_meant_made
  made-ranged m h i = cond-by MeansRanged (main_enough m.call m.lent) _ _ (λ _. meant-ranged m.call h i) (λ _. refused-ranged 12 _)

-- a receive where the bytes p of a frame have come
pub reads-ranged : {p bs : List ℕ} (s : MainState) (x : Requester.MainResult) → Ranged s → Reads s p bs x → Ranged x.state
reads-ranged s x r h = came-ranged s x r h.came
