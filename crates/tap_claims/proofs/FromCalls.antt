-- What each step of a run extends holds of the capture of calls; from an accepted start it is a run where each byte is seen at once.
-- Assumes nothing.
use mathlib.Core.Path.{◌≡◌, refl, sym, ap, subst, ◌∙◌}
use mathlib.Core.Bool.{Bool, true, false, cond, not}
use mathlib.Core.List.{List, [], ◌∷◌, ◌++◌, append-nil}
use Prim.Native.Nat.{ℕ, zero, suc}
use native.Mathlib.Omega.{arith}
use lib.Dec.{eqb, ltb}
use lib.ListN as ListN
use lib.ListN.{length}
use Rattle.octets.specs.Bytes.{Each, Byte, overlay}
use Rattle.octets.proofs.Conditions.{cond-by}
use Rattle.octets.proofs.Each.{each_append, each_take}
use Rattle.octets.proofs.Overlay.{overlay-inside}
use Rattle.supervisor.specs.Limits
use Rattle.supervisor.specs.State.{State, fresh}
use Rattle.supervisor.specs.Local
use Rattle.supervisor.specs.Local.{last_non_zero, taken, after_take}
use Rattle.supervisor.specs.Calls
use Rattle.supervisor.specs.Calls.{Parts}
use Rattle.saving.specs.Saving
use Rattle.responder.specs.Requests.{receive_byte, receive_stream}
use Rattle.supervisor_claims.specs.View.{view, factory_of}
use Rattle.supervisor_claims.specs.Sound.{Bytes, Sound}
use Rattle.supervisor_claims.specs.LocalCalls.{LocalCall, Means, done_means, restore_means, save_means}
use Rattle.supervisor_claims.specs.Histories as Histories
use Rattle.supervisor_claims.specs.Histories.{Call, Typed, Answer, done, Did, did, Made, enough, Lent, lent_of, made, left, meant}
use Rattle.supervisor_claims.specs.Histories.{meant_made}
use Rattle.supervisor_claims.specs.Histories.{AllTyped, start_with, up_to}
use Rattle.supervisor_claims.specs.FrameHistory.{piece_read, is_accepted_start, bytes_received_by, starts_anew}
use Rattle.supervisor_claims.specs.LastSet.{is_restore, accepts_restore, records_restored, records_of, some_records}
use Rattle.supervisor_claims.specs.Replies.{moved_bytes}
use Rattle.supervisor_claims.specs.Demand1.{parts_fit_call}
use Rattle.supervisor_claims.proofs.calls.StartClaim.{start-refused}
use Rattle.supervisor_claims.proofs.claims.Refusals.{refused-12}
use Rattle.supervisor_claims.proofs.claims.LentCalls.{made_12}
use Rattle.supervisor_claims.proofs.claims.History.{one_call, started, undone}
use Rattle.tap.specs.Capture as Capture
use Rattle.tap.specs.Capture.{Tick, towards, from, marked, ticks_towards, ticks_from}
use Rattle.tap_claims.specs.Captures.{ticks_of_call, capture_of}
use Rattle.tap_claims.proofs.Fits.{Held}
use Rattle.tap_claims.proofs.System.{Plain, Steps}

-- ---- a take, byte by byte

last_then : (o : Bool) (b : ℕ) (xs : List ℕ) → last_non_zero (last_non_zero o (b ∷ [])) xs ≡ last_non_zero o (b ∷ xs)
unfolding last_non_zero
last_then o b [] = refl
last_then o b (x ∷ xs) = refl

none-taken : (s : State) → after_take s 0 ≡ s
unfolding after_take taken last_non_zero
none-taken s = refl

none_left : (n : ℕ) (s : State) → s.pending ≡ [] → after_take s n ≡ s
unfolding after_take taken last_non_zero
none_left zero s e = refl
none_left (suc n) s e = rw e

one-first : (n : ℕ) (s : State) (b : ℕ) (bs : List ℕ) → s.pending ≡ b ∷ bs → after_take s (suc n) ≡ after_take (after_take s 1) n
unfolding after_take taken
one-first n s b bs e = rw (e, last_then s.terminator_owed b (ListN.take n bs))

pub put-pending : (s : State) (b : ℕ) (bs : List ℕ) → s.pending ≡ b ∷ bs → (after_take s 1).pending ≡ bs
unfolding after_take
put-pending s b bs e = rw e

-- ---- the bytes of a call, one by one

-- the ticks of a call that answers a and writes out
abbrev ticks_by : Bool → Bool → List ℕ → Answer → List ℕ → List Tick
ticks_by starts restores bs a out =
    cond starts (marked Capture.started ∷ [])
    (cond restores (marked Capture.restored ∷ []) (ticks_towards bs ++ ticks_from (moved_bytes a out)))

module _ (P : State → List Tick → Type 0) (K : Steps P) where
  stream-runs : (image : List ℕ) → Each Byte image → (bs : List ℕ) (s : State) (ts : List Tick) → Each Byte bs
      → P (receive_stream image s bs) ts → P s (ticks_towards bs ++ ts)
  unfolding receive_stream ticks_towards
  stream-runs image i [] s ts h k = k
  stream-runs image i (b ∷ bs) s ts h k =
      K.read image b s (ticks_towards bs ++ ts) i h.0 (stream-runs image i bs (receive_byte image s b) ts h.1 k)

  take_runs : (n : ℕ) (bs : List ℕ) (s : State) (ts : List Tick) → s.pending ≡ bs → P (after_take s n) ts
      → P s (ticks_from (ListN.take n bs) ++ ts)
  unfolding ticks_from
  take_runs zero bs s ts e k = subst (λ (x : State). P x ts) (none-taken s) k
  take_runs (suc n) [] s ts e k = subst (λ (x : State). P x ts) (none_left (suc n) s e) k
  take_runs (suc n) (b ∷ bs) s ts e k =
      K.put b bs s (ticks_from (ListN.take n bs) ++ ts) e
      (take_runs n bs (after_take s 1) ts (put-pending s b bs e) (subst (λ (x : State). P x ts) (one-first n s b bs e) k))

  taken_runs : (n : ℕ) (s : State) (ts : List Tick) → P (after_take s n) ts → P s (ticks_from (taken s n) ++ ts)
  unfolding taken
  taken_runs n s ts k = take_runs n s.pending s ts refl k

  -- ---- a call

  module _ (s : State) (ts : List Tick) where
    -- what leaves nothing on the wire
    abbrev Silent : Means → Type 0
    Silent m = Held m.state → P m.state ts → P s ((ticks_from (moved_bytes m.answer m.out)) ++ ts)

    post-silent : (action : ℕ) (text : List ℕ) → Silent (done_means s (Local.post s action text))
    unfolding Local.post Local.with_posted ticks_from
    post-silent action text =
        cond-by (λ (x : Local.Done). Silent (done_means s x)) (eqb action 0) _ _ (λ _ h k. k) (λ _.
        cond-by (λ (x : Local.Done). Silent (done_means s x)) (ltb Limits.longest_alert (length text)) _ _ (λ _ h k. k) (λ _.
        cond-by (λ (x : Local.Done). Silent (done_means s x)) (ltb (length s.waiting) Limits.most_alerts) _ _
        (λ _ h k. K.local s _ ts refl h k) (λ _ h k. k)))

    options-silent : (options : ℕ) → Silent (done_means s (Local.set_options s options))
    unfolding Local.set_options ticks_from
    options-silent options =
        cond-by (λ (x : Local.Done). Silent (done_means s x)) (Local.options_allowed options) _ _
        (λ _ h k. K.local s _ ts refl h k) (λ _ h k. k)

    save-silent : (image room : List ℕ) → Silent (save_means s image room)
    unfolding ticks_from
    save-silent image room = cond-by Silent (ltb (length room) (length image)) _ _ (λ _ h k. k) (λ _ h k. k)

    -- a call that is lent enough
    abbrev Runs : Call → Type 0
    Runs c = Typed c → let m = meant s c in Held m.state → P m.state ts
        → P s (ticks_by (is_accepted_start c) (is_restore c) (piece_read c) m.answer m.out ++ ts)

    restore-runs : (image : List ℕ) (o : Saving.ImageRead) → Saving.read_image image ≡ o
        → let m = restore_means s (Saving.restore s image) in Held m.state → P m.state ts
        → P s (ticks_by false (some_records (records_of (Saving.read_image image))) [] m.answer m.out ++ ts)
    unfolding Saving.restore ticks_towards ticks_from
    restore-runs image (Saving.fault n at) e h k = rw e (rw e at k)
    restore-runs image (Saving.good es) e h k = rw e (K.restores image s _ ts (ap (Saving.restore_read s) e) (rw e at h) (rw e at k))

    local-runs : (c : LocalCall) → Runs (Histories.local c)
    unfolding meant is_accepted_start piece_read ticks_towards ticks_from records_restored
    local-runs (Histories.take room) typed h k =
        let bs = taken s (length room) in
        let e : ListN.take (length bs) (overlay 0 bs room) ≡ bs = overlay-inside 0 bs room (omega arith) in
        rw e (taken_runs (length room) s ts k)
    local-runs (Histories.post action text) typed h k = post-silent action text h k
    local-runs (Histories.set_options options) typed h k = options-silent options h k
    local-runs (Histories.lookup key most) typed h k = k
    local-runs (Histories.edition key) typed h k = k
    local-runs Histories.signal typed h k = k
    local-runs Histories.flags typed h k = k
    local-runs (Histories.read_record kind) typed h k = k
    local-runs (Histories.save room) typed h k = save-silent (Saving.saved s.settings) room h k
    local-runs (Histories.restore image) typed h k = restore-runs image (Saving.read_image image) refl h k

    start-runs : (d : List ℕ) → Runs (Histories.start d)
    unfolding meant is_accepted_start piece_read ticks_towards ticks_from Local.start
    start-runs d typed h k = by (Local.bad_start (factory_of d)) refl h k
      where
        by : (t : Bool) → Local.bad_start (factory_of d) ≡ t
            → let m = done_means s (cond t (Local.refused 11) (Local.left (fresh (factory_of d)))) in Held m.state → P m.state ts
            → P s (ticks_by (not t) false [] m.answer m.out ++ ts)
        by true e h k = k
        by false e h k = K.starts (factory_of d) s ts h k

    call-runs : (c : Call) → Runs c
    unfolding meant is_accepted_start piece_read ticks_from
    call-runs (Histories.start d) typed h k = start-runs d typed h k
    call-runs (Histories.receive image piece) typed h k =
        rw (append-nil (ticks_towards piece)) (stream-runs image typed.0 piece s ts typed.1 k)
    call-runs (Histories.step image piece) typed h k =
        let n = up_to piece in
        rw (append-nil (ticks_towards (ListN.take n piece)))
        (stream-runs image typed.0 (ListN.take n piece) s ts (each_take Byte n piece typed.1) k)
    call-runs (Histories.local c) typed h k = local-runs c typed h k

    -- any call
    made-runs : (m : Made) → Typed m.call → let d = meant_made s m in Held d.state → P d.state ts
        → P s (ticks_by (starts_anew m) (accepts_restore m) (bytes_received_by m) d.answer d.out ++ ts)
    unfolding meant_made starts_anew accepts_restore bytes_received_by ticks_towards ticks_from
    made-runs m typed h k = by (enough m.call m.lent) refl
      where
        by : (t : Bool) → enough m.call m.lent ≡ t
            → P s (ticks_by (starts_anew m) (accepts_restore m) (bytes_received_by m) (meant_made s m).answer (meant_made s m).out ++ ts)
        by true e = rw e (call-runs m.call typed (rw e at h) (rw e at k))
        by false e = rw e (rw e at k)

  -- ---- a list of calls

  pub calls-run : (p : Parts) → Sound p → (ms : List Made) → AllTyped ms → P (view (left p ms)) [] → P (view p) (capture_of p ms)
  unfolding capture_of ticks_of_call left
  calls-run p s [] h e = e
  calls-run p s (m ∷ ms) h e =
      let k = one_call p m s h.0 in
      let held : Held (meant_made (view p) m).state = ((made p m).parts, k.leaves.1, k.leaves.0) in
      rw (k.answer, k.out)
      (made-runs (view p) (capture_of (made p m).parts ms) m h.0 held
      (rw k.leaves.0 at (calls-run (made p m).parts k.leaves.1 ms h.1 e)))

-- ---- a property of each tick of calls without a start

module _ (Q : Tick → Type 0) (of-from : (b : ℕ) → Q (from b)) where
  pub record Brings (m : Made) : Type 0 where
    pub no_start : starts_anew m ≡ false
    pub restored : accepts_restore m ≡ true → Q (marked Capture.restored)
    pub bytes : Each (λ b. Q (towards b)) (bytes_received_by m)

  towards-each : (bs : List ℕ) → Each (λ b. Q (towards b)) bs → Each Q (ticks_towards bs)
  unfolding ticks_towards
  towards-each [] h = tt
  towards-each (b ∷ bs) h = (h.0, towards-each bs h.1)

  from_each : (bs : List ℕ) → Each Q (ticks_from bs)
  unfolding ticks_from
  from_each [] = tt
  from_each (b ∷ bs) = (of-from b, from_each bs)

  pub calls-each : (p : Parts) (ms : List Made) → Each Brings ms → Each Q (capture_of p ms)
  unfolding capture_of ticks_of_call
  calls-each p [] h = tt
  calls-each p (m ∷ ms) h =
      let d = made p m in
      let k = h.0 in
      let us = ticks_towards (bytes_received_by m) in
      let vs = ticks_from (moved_bytes d.answer d.out) in
      rw k.no_start
      (each_append Q (cond (accepts_restore m) (marked Capture.restored ∷ []) (us ++ vs)) (capture_of d.parts ms)
      (cond-by (Each Q) (accepts_restore m) _ _ (λ e. (k.restored e, tt)) (λ _.
      each_append Q us vs (towards-each (bytes_received_by m) k.bytes) (from_each (moved_bytes d.answer d.out))))
      (calls-each d.parts ms h.1))

-- ---- from an accepted start

-- it is lent enough and its start data are not refused
module _ (p : Parts) (l : Lent) (d : List ℕ) (typed : Typed (Histories.start d)) (e : (made p (start_with l d)).answer ≡ done) where
  lent-enough : (t : Bool) → enough (Histories.start d) l ≡ t → t ≡ true
  lent-enough true f = refl
  lent-enough false f = absurd (undone 12 (sym (ap (λ (x : Did). x.answer) (made_12 p (start_with l d) f)) ∙ e))

  data-good : (t bad : Bool) → Calls.long_enough (lent_of l p) ≡ t → Local.bad_start (factory_of d) ≡ bad → bad ≡ false
  unfolding made did parts_fit_call Calls.long_enough
  data-good false bad f g = absurd (undone 12 (sym (ap (λ (x : Did). x.answer) (refused-12 (lent_of l p) (Histories.start d) f)) ∙ e))
  data-good true true f g = absurd (undone 11 (rw (start-refused d typed.0 (lent_of l p) f g) at e))
  data-good true false f g = refl

  starts-anew : starts_anew (start_with l d) ≡ true
  unfolding starts_anew is_accepted_start
  starts-anew = rw (lent-enough _ refl, data-good _ _ refl refl)

  pub start-ticks : (ms : List Made)
      → capture_of p (start_with l d ∷ ms) ≡ marked Capture.started ∷ capture_of (made p (start_with l d)).parts ms
  unfolding capture_of ticks_of_call
  start-ticks ms = rw starts-anew

-- ---- runs

plain-steps : Steps Plain
plain-steps = record {
  read = λ image b s ts i y k. Plain.read image b i y k;
  put = λ b bs s ts e k. Plain.put b bs e k;
  local = λ s t ts e h k. Plain.local e h k;
  starts = λ f s ts h k. Plain.starts f s h k;
  restores = λ image s t ts e h k. Plain.restores image e h k;
}

pub capture-plain : (p : Parts) → Bytes p → (l : Lent) (d : List ℕ) → Typed (Histories.start d) → (made p (start_with l d)).answer ≡ done
    → (ms : List Made) → AllTyped ms
    → Held (fresh (factory_of d)) × Plain (fresh (factory_of d)) (capture_of p (start_with l d ∷ ms))
capture-plain p b l d typed e ms t =
    let q = (made p (start_with l d)).parts in
    let k = started p b l d typed e in
    let held : Held (fresh (factory_of d)) = (q, k.1, k.0) in
    let rest = rw k.0 at (calls-run Plain plain-steps q k.1 ms t (Plain.over _)) in
    (held, rw (start-ticks p l d typed e ms) (Plain.starts (factory_of d) (fresh (factory_of d)) held rest))
