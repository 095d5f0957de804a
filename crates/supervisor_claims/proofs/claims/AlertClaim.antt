-- Alerts over any calls (document 02, item 1).
-- After a reboot or power-off request the next alert request takes a fresh alert, whatever was retained before. Assumes nothing.
use mathlib.Core.Path.{◌≡◌, refl, sym, ap, subst, ◌∙◌}
use mathlib.Core.Bool.{Bool, true, false, cond}
use mathlib.Core.Logic.{inl, inr}
use mathlib.Core.List.{List, [], ◌∷◌, ◌++◌, append_assoc, append-nil}
use mathlib.Core.Option.{Option, none, some}
use Prim.Native.Nat.{ℕ}
use native.Mathlib.Omega.{arith}
use lib.Dec.{eqb}
use borrow.Author.Tests.{eqb-true}
use Rattle.octets.specs.Bytes.{Each, Byte}
use Rattle.octets.proofs.Conditions.{cond-by}
use Rattle.octets.proofs.Each.{each_append}
use Rattle.line.specs.Message.{Message}
use Rattle.line.specs.Frame.{split, non_empty, closed_behind}
use Rattle.line.proofs.Pieces.{split-close, non_empty-append}
use Rattle.supervisor.specs.State.{Factory, Retained, State, fresh}
use Rattle.supervisor.specs.Calls.{Parts}
use Rattle.responder.specs.Commands.{command_number, with_number, command_of_number}
use Rattle.responder.specs.Requests
use Rattle.responder.specs.Requests.{Verdict, failure, good, Carried, verdict, effect, carry_out, after_verdict, sent, receive_stream, owed}
use Rattle.responder.specs.Requests.{reply_of, reply_frame, oldest}
use Rattle.supervisor_claims.specs.View.{factory_of, view}
use Rattle.supervisor_claims.specs.Sound.{Bytes}
use Rattle.supervisor_claims.specs.LocalCalls.{Change, local_row}
use Rattle.supervisor_claims.specs.Histories
use Rattle.supervisor_claims.specs.Histories.{Typed, done, Means, meant}
use Rattle.supervisor_claims.specs.Histories.{Lent, Made, enough, meant_made, made, left_meant, AllTyped, reached, start_with}
use Rattle.supervisor_claims.specs.Histories.{receive_with}
use Rattle.supervisor_claims.specs.FrameHistory.{piece_read, is_accepted_start, bytes_received_by, starts_anew, received_since}
use Rattle.supervisor_claims.specs.FrameHistory.{received_since_all, frames_closed_by, frame_carried, frames_carried, carried_out}
use Rattle.supervisor_claims.specs.LastSet.{request_ahead, requests_in, requests_of}
use Rattle.supervisor_claims.specs.Alerts.{retains, retains_after, retains_all, Drops, NoAlert, alert_message, alert_reply, added_by}
use Rattle.supervisor_claims.specs.Alerts.{NoStarts}
use Rattle.supervisor_claims.specs.Item1.{LocalKeeps, FailedKeeps, RequestRetains, RetainedExactly, FreshAlertAnswered}
use Rattle.supervisor_claims.specs.Item1.{FreshAfterReboot}
use Rattle.supervisor_claims.proofs.laws.CallsKeep.{calls-keep}
use Rattle.supervisor_claims.proofs.calls.RowLaws.{state_by}
use Rattle.supervisor_claims.proofs.calls.LocalLaws.{row_laws}
use Rattle.supervisor_claims.proofs.claims.History.{history, one_call}
use Rattle.supervisor_claims.proofs.claims.FramesClaim.{stream-carried, stream-closes, by_frames}
use Rattle.supervisor_claims.proofs.claims.LastSetLaws.{requests-append, requests-behind, frames-owed}
use Rattle.supervisor_claims.proofs.claims.WithdrawnKeys.{empty-none, framed-pending}
use Rattle.supervisor_claims.proofs.claims.RetainedClaim.{retained_stays, reboot_forgets, power_off_forgets}

-- ---- a local call

pub local_keeps : LocalKeeps
local_keeps s c =
    let e = (row_laws c).keeps_rest s in
    let k = by (local_row c).change in
    (ap (λ (t : State). t.retained) e ∙ k.0, ap (λ (t : State). t.waiting) e ∙ k.1)
  where
    m : Means
    m = meant s (Histories.local c)

    by : (x : Change) → let t = state_by x m.answer s m.state in
        (t.retained ≡ s.retained) × (t.waiting ≡ s.waiting ++ added_by x m.answer)
    by Change.nothing = (refl, rw append-nil)
    by Change.outbox = (refl, rw append-nil)
    by (Change.registers added) = (refl, refl)
    by (Change.settings image) = (refl, rw append-nil)

pub failed_keeps : FailedKeeps
unfolding frame_carried after_verdict sent
failed_keeps image s [] reason version sequence e = (refl, refl)
failed_keeps image s (b ∷ bs) reason version sequence e = rw e (refl, refl)

-- ---- requests and frames

alert-asked : (version : ℕ) (s : State) (n : ℕ) (r : Option Retained) → s.retained ≡ r
    → retains (Requests.alert_asked version s n r).state.retained ≡ true
unfolding Requests.alert_asked Requests.alert_taken
alert-asked version s n none e = refl
alert-asked version s n (some r) e =
    cond-by (λ (x : Carried). retains x.state.retained ≡ true) (eqb r.sequence n) _ _ (λ f. rw e) (λ f. refl)

alert-retains : (image : List ℕ) (s : State) (m : Message) → m.command ≡ 0x0a → retains (carry_out image s m).state.retained ≡ true
unfolding carry_out command_of_number with_number command_number effect
alert-retains image s m e = rw e (alert-asked m.version s m.sequence s.retained refl)

pub request_retains : RequestRetains
unfolding retains_after
request_retains image s m = by (eqb m.command 0x01) (eqb m.command 0x02) (eqb m.command 0x0a) refl refl refl
  where
    by : (x y z : Bool) → eqb m.command 0x01 ≡ x → eqb m.command 0x02 ≡ y → eqb m.command 0x0a ≡ z
        → retains (carry_out image s m).state.retained ≡ retains_after (retains s.retained) m
    by true y z e f g = rw (e, (reboot_forgets image s m (eqb-true _ _ e)).retained)
    by false true z e f g = rw (e, f, (power_off_forgets image s m (eqb-true _ _ f)).retained)
    by false false true e f g = rw (e, f, g, alert-retains image s m (eqb-true _ _ g))
    by false false false e f g = rw (e, f, g, (retained_stays image s m e f g).0)

module _ (image : List ℕ) where
  judged-retains : (s : State) (v : Verdict) (rs : List Message)
      → retains_all (retains (after_verdict image s v).retained) rs ≡ retains_all (retains s.retained) (request_ahead v rs)
  unfolding after_verdict sent retains_all
  judged-retains s (failure reason version sequence) rs = refl
  judged-retains s (good m) rs = rw (request_retains image s m)

  frames-retain : (fs : List (List ℕ)) (s : State) → let gs = non_empty fs in
      retains (frames_carried image s gs).retained ≡ retains_all (retains s.retained) (requests_in gs)
  unfolding non_empty frames_carried frame_carried requests_in retains_all
  frames-retain [] s = refl
  frames-retain ([] ∷ fs) s = frames-retain fs s
  frames-retain ((b ∷ bs) ∷ fs) s =
      let v = verdict (b ∷ bs) in
      frames-retain fs (after_verdict image s v) ∙ judged-retains s v (requests_in (non_empty fs))

retains-append : (b : Bool) (ms ns : List Message) → retains_all b (ms ++ ns) ≡ retains_all (retains_all b ms) ns
unfolding retains_all
retains-append b [] ns = refl
retains-append b (m ∷ ms) ns = retains-append (retains_after b m) ms ns

-- none is retained behind a reboot or power-off where no alert request follows
after_none : (m : Message) → NoAlert m → retains_after false m ≡ false
unfolding retains_after
after_none m e =
    rw e
    (cond-by (λ x. x ≡ false) (eqb m.command 0x01) _ _ (λ f. refl) (λ f.
    cond-by (λ x. x ≡ false) (eqb m.command 0x02) _ _ (λ g. refl) (λ g. refl)))

none-asked : (rs : List Message) → Each NoAlert rs → retains_all false rs ≡ false
unfolding retains_all
none-asked [] h = refl
none-asked (m ∷ rs) h = rw (after_none m h.0) (none-asked rs h.1)

drops-none : (b : Bool) (m : Message) → Drops m → retains_after b m ≡ false
unfolding retains_after
drops-none b m (inl e) = rw e
drops-none b m (inr e) = rw e

behind-none : (os rs : List Message) (r : Message) → Drops r → Each NoAlert rs → retains_all false (os ++ (r ∷ rs)) ≡ false
unfolding retains_all
behind-none os rs r d h = rw (retains-append false os (r ∷ rs), drops-none (retains_all false os) r d) (none-asked rs h)

-- ---- received bytes and calls

-- a reply is retained as the requests of the bytes w have it
abbrev pub RetainedBy : List ℕ → State → Type 0
RetainedBy w s = retains s.retained ≡ retains_all false (requests_of w)

fresh-retained : (f : Factory) → RetainedBy [] (fresh f)
unfolding fresh split non_empty requests_of requests_in retains_all
fresh-retained f = refl

frames-retained : (w : List ℕ) (s : State) → RetainedBy w s → (image bs : List ℕ)
    → RetainedBy (w ++ bs) (frames_carried image s (frames_closed_by w bs))
unfolding frames_closed_by
frames-retained w s x image bs =
    frames-retain image (closed_behind w bs) s
    ∙ rw (x, requests-behind w bs, retains-append false (requests_of w) (requests_in (frames_closed_by w bs)))

bytes-retained : (w : List ℕ) (s : State) → RetainedBy w s → (image bs : List ℕ) → RetainedBy (w ++ bs) (carried_out image w s bs)
unfolding carried_out
bytes-retained w s x image bs = frames-retained w s x image bs

calls-retained : (f : Factory) (ms : List Made) → RetainedBy (received_since_all [] ms) (left_meant (fresh f) ms)
calls-retained f ms =
    rw (by_frames f ms).1
    at (calls-keep RetainedBy fresh-retained bytes-retained (λ w s x c. rw (local_keeps s c).0 x) ms [] (fresh f) (fresh-retained f))

-- ---- a fresh alert

none_retained : (r : Option Retained) → retains r ≡ false → r ≡ none
none_retained none e = refl
none_retained (some r) e = absurd (subst (λ b. cond b (Unit {0}) ⊥) e tt)

-- where none is retained, an alert request takes the oldest alert that waits
taken-reply : (image : List ℕ) (s : State) (version n : ℕ) → s.retained ≡ none
    → reply_frame (reply_of n (carry_out image s (alert_message version n)).reply) ≡ alert_reply version n (oldest s.waiting)
unfolding carry_out command_of_number with_number command_number effect Requests.alert_asked Requests.alert_taken reply_of reply_frame
    alert_reply
taken-reply image s version n e = rw e

-- A start that is accepted, on any bytes, then any calls.
module _ (p : Parts) (b : Bytes p) (l : Lent) (d : List ℕ) (typed : Typed (Histories.start d))
    (accepted : (made p (start_with l d)).answer ≡ done) (ms : List Made) (t : AllTyped ms) where
  pub retained_exactly : RetainedExactly ms (reached p l d ms)
  retained_exactly = rw (history p b l d typed accepted ms t).1 (calls-retained (factory_of d) ms)

  pub fresh_alert_answered : FreshAlertAnswered ms (reached p l d ms)
  unfolding meant_made meant enough carried_out
  fresh_alert_answered version n j image bs c e v os rs r split-so drops no-alert =
      let f = factory_of d in
      let hist = history p b l d typed accepted ms t in
      let q = reached p l d ms in
      let w = received_since_all [] ms in
      let s = left_meant (fresh f) ms in
      let since = (by_frames f ms).2 in
      let a = frames_carried image s (frames_closed_by w bs) in
      let x = rw e at (one_call q (receive_with image j bs) hist.2 c) in
      let y = rw e at (one_call q (receive_with image j (bs ++ (0 ∷ []))) hist.2
      (c.0, each_append Byte bs (0 ∷ []) c.1 (omega arith, tt))) in
      let kept : a.retained ≡ none =
      none_retained a.retained (frames-retained w s (calls-retained f ms) image bs ∙ rw split-so (behind-none os rs r drops no-alert)) in
      let waits : (view (made q (receive_with image j bs)).parts).waiting ≡ a.waiting =
      ap (λ (z : State). z.waiting) x.leaves.0
      ∙ rw hist.1 (ap (λ (z : State). z.waiting) (sym (stream-carried w s since image bs))) in
      let answered : (receive_stream image s (bs ++ (0 ∷ []))).pending
      ≡ owed s.terminator_owed ++ alert_reply version n (oldest a.waiting) =
      ap (λ (z : State). z.pending) (stream-closes w s since image bs)
      ∙ framed-pending image a (split (w ++ bs)).rest (alert_message version n) v
      ∙ rw (taken-reply image a version n kept, frames-owed image (frames_closed_by w bs) s) in
      (y.answer, ap (λ (z : State). z.pending) y.leaves.0 ∙ rw (hist.1, waits) answered)

-- ---- a reboot or power-off among the calls

one-request : (f : List ℕ) (r : Message) → verdict f ≡ good r → requests_in (non_empty (f ∷ [])) ≡ r ∷ []
unfolding non_empty requests_in
one-request [] r e = absurd (empty-none r e)
one-request (b ∷ bs) r e = rw e

-- the 00 of a valid request
closes-request : (w : List ℕ) (r : Message) → verdict (split w).rest ≡ good r → requests_of (w ++ (0 ∷ [])) ≡ requests_of w ++ (r ∷ [])
unfolding requests_of
closes-request w r e =
    let fs = (split w).closed in
    let f = (split w).rest in
    rw (split-close w, non_empty-append fs (f ∷ []), requests-append (non_empty fs) (non_empty (f ∷ [])), one-request f r e)

joined-append : (ms ns : List Made) (w : List ℕ) → received_since_all w (ms ++ ns) ≡ received_since_all (received_since_all w ms) ns
unfolding received_since_all
joined-append [] ns w = refl
joined-append (m ∷ ms) ns w = joined-append ms ns (received_since w m)

joined-behind : (ns : List Made) → NoStarts ns → (w : List ℕ) → received_since_all w ns ≡ w ++ received_since_all [] ns
unfolding received_since_all received_since
joined-behind [] h w = rw append-nil
joined-behind (m ∷ ns) h w =
    rw h.0
    (joined-behind ns h.1 (w ++ bytes_received_by m)
    ∙ append_assoc w (bytes_received_by m) (received_since_all [] ns)
    ∙ ap (λ x. w ++ x) (sym (joined-behind ns h.1 (bytes_received_by m))))

joined-receive : (w : List ℕ) (k : Lent) (image bs : List ℕ) → enough (Histories.receive image bs) k ≡ true
    → received_since w (receive_with image k bs) ≡ w ++ bs
unfolding received_since starts_anew bytes_received_by is_accepted_start piece_read
joined-receive w k image bs e = rw e

joined-all : (ms ns : List Made) → NoStarts ns → (k : Lent) (image bs : List ℕ) → enough (Histories.receive image bs) k ≡ true
    → received_since_all [] (ms ++ ((receive_with image k bs) ∷ ns)) ≡ (received_since_all [] ms ++ bs) ++ received_since_all [] ns
unfolding received_since_all
joined-all ms ns h k image bs e =
    joined-append ms ((receive_with image k bs) ∷ ns) []
    ∙ ap (λ x. received_since_all x ns) (joined-receive (received_since_all [] ms) k image bs e)
    ∙ joined-behind ns h (received_since_all [] ms ++ bs)

pub fresh_after_reboot : FreshAfterReboot
fresh_after_reboot p b l d typed accepted ms t k image₁ cs c₁ e₁ r v₁ drops ns u h version n j image bs c e no-alert v =
    let first : Made = receive_with image₁ k (cs ++ (0 ∷ [])) in
    let w₀ = received_since_all [] ms in
    let w = w₀ ++ (cs ++ (0 ∷ [])) in
    let later = received_since_all [] ns ++ bs in
    let os = requests_of (w₀ ++ cs) in
    let rs = requests_in (frames_closed_by w later) in
    let whole : received_since_all [] (ms ++ (first ∷ ns)) ++ bs ≡ w ++ later =
    ap (λ x. x ++ bs) (joined-all ms ns h k image₁ (cs ++ (0 ∷ [])) e₁) ∙ append_assoc w (received_since_all [] ns) bs in
    let asked : requests_of w ≡ os ++ (r ∷ []) = ap requests_of (sym (append_assoc w₀ cs (0 ∷ []))) ∙ closes-request (w₀ ++ cs) r v₁ in
    let all : requests_of (w ++ later) ≡ os ++ (r ∷ rs) = requests-behind w later ∙ ap (λ x. x ++ rs) asked ∙ append_assoc os (r ∷ []) rs in
    fresh_alert_answered p b l d typed accepted (ms ++ (first ∷ ns)) (each_append (λ (m : Made). Typed m.call) ms (first ∷ ns) t (c₁, u))
    version n j image bs c e (rw whole v) os rs r (rw whole all) drops no-alert
