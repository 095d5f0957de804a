-- What a lookup of the withdrawn-key list, or of another settings key that is read back, answers.
-- It is the value of its last successful set, or what a later restore left. A lookup of the passphrase answers 4. Assumes nothing.
use mathlib.Core.Path.{◌≡◌, refl, ap, ◌∙◌}
use mathlib.Core.Bool.{true, and-false}
use mathlib.Core.List.{List, [], ◌∷◌, ◌++◌}
use mathlib.Core.Option.{Option, some}
use Prim.Native.Nat.{ℕ, ◌+◌, ◌*◌, ◌%◌, ◌<◌, ◌≤◌}
use native.Mathlib.Omega.{arith}
use lib.ListN.{length, length-append}
use borrow.Author.Tests.{le-ltb, ne_eqb}
use Rattle.octets.specs.Bytes.{number, bytes, number_at}
use Rattle.octets.proofs.Numbers.{number-bytes}
use Rattle.line.specs.Numbers.{second_version}
use Rattle.line.specs.Message.{Message}
use Rattle.line.specs.Judge
use Rattle.line.specs.Cobs
use Rattle.line.specs.Frame.{split}
use Rattle.supervisor.specs.Limits
use Rattle.supervisor.specs.Limits.{SettingsKey}
use Rattle.supervisor.specs.State.{setting, State, fresh}
use Rattle.supervisor.specs.Local
use Rattle.supervisor.specs.Calls.{Parts}
use Rattle.responder.specs.Commands.{command_number, with_number, command_of_number}
use Rattle.responder.specs.Requests.{good, verdict, store_value, key_set, effect, carry_out, receive_stream, owed, reply_of, reply_frame}
use Rattle.supervisor_claims.specs.View.{factory_of, view}
use Rattle.supervisor_claims.specs.Sound.{Bytes}
use Rattle.supervisor_claims.specs.Histories
use Rattle.supervisor_claims.specs.Histories.{Typed, done, Lent, Made, enough, meant, meant_made, made, left_meant, AllTyped, reached}
use Rattle.supervisor_claims.specs.Histories.{start_with}
use Rattle.supervisor_claims.specs.Histories.{receive_with, locally}
use Rattle.supervisor_claims.specs.FrameHistory.{frames_closed_by, received_since_all, frame_carried, frames_carried, RepliedWith}
use Rattle.supervisor_claims.specs.LastSet.{successful, last_or, set_after, Origin, since_start, since_more, set_since, lookup_message}
use Rattle.supervisor_claims.specs.LastSet.{lookup_reply, requests_in}
use Rattle.supervisor_claims.specs.LastSet.{fitted_of, ReadBack, origin, origin_behind, set_message, set_reply, SetAnswered}
use Rattle.supervisor_claims.specs.Demand2.{ValueLastSet, LastSet, WithdrawnListAnswered, LookupLastSet}
use Rattle.supervisor_claims.specs.SameEdition.{edition_reply}
use Rattle.supervisor_claims.specs.Item5.{ListEditionAnswered}
use Rattle.supervisor_claims.specs.Item14.{passphrase_reply, PassphraseUnread, PassphraseUnreadLocally}
use Rattle.supervisor_claims.proofs.laws.Progress.{Since}
use Rattle.supervisor_claims.proofs.claims.History.{history, one_call}
use Rattle.supervisor_claims.proofs.claims.InOrder.{request_carried}
use Rattle.supervisor_claims.proofs.claims.FramesClaim.{stream-closes, by_frames}
use Rattle.supervisor_claims.proofs.claims.SetResults.{set-result}
use Rattle.supervisor_claims.proofs.claims.LastSetLaws.{after_sets, entry-held, after-sets, frames-owed, Holds, fresh_holds}
use Rattle.supervisor_claims.proofs.claims.LastSetLaws.{frames-hold, calls-hold, since-low}

-- ---- a lookup carried out

-- key and maxresponse in a lookup's data
pub lookup-data : (k most : ℕ) → k < 256 → most < 65536
    → let bs = bytes 1 k ++ bytes 2 most in (number_at 1 bs 0 ≡ k) × (number_at 2 bs 1 ≡ most)
unfolding number bytes
lookup-data k most h i = (number-bytes 1 k (omega arith), number-bytes 2 most (omega arith))

pub found-value : (s : State) (most : ℕ) {k : ℕ} → ReadBack k → Local.lookup s k most ≡ fitted_of most (Local.entry_of s k)
unfolding Local.lookup
found-value s most {k} h = rw (le-ltb Limits.highest_key k h.key.upper, ne_eqb k Limits.passphrase_key h.other)

-- the reply's frame
reply-found : (image : List ℕ) (s : State) (version n most : ℕ) {k : ℕ} → ReadBack k → most < 65536
    → reply_frame (reply_of n (carry_out image s (lookup_message version n k most)).reply)
    ≡ lookup_reply version n most (Local.entry_of s k)
unfolding carry_out command_of_number with_number command_number effect reply_of reply_frame lookup_reply
reply-found image s version n most {k} h i =
    let m = h.key.upper in
    let e = lookup-data k most (omega arith) i in
    rw (e.0, e.1, found-value s most h)

-- an empty frame is no request
pub empty-none : (m : Message) → verdict [] ≡ good m → ⊥
unfolding verdict Judge.judge Judge.judge_form Cobs.uncobs Cobs.group_bytes
empty-none m e = let z : ◌≡◌ {A = ℕ} 0 1 = cc in omega arith

pub framed-pending : (image : List ℕ) (s : State) (f : List ℕ) (m : Message) → verdict f ≡ good m
    → (frame_carried image s f).pending ≡ owed s.terminator_owed ++ reply_frame (reply_of m.sequence (carry_out image s m).reply)
framed-pending image s [] m e = absurd (empty-none m e)
framed-pending image s (b ∷ bs) m e = ap (λ (x : State). x.pending) (request_carried image s b bs m e)

reply-refused : (image : List ℕ) (s : State) (version n most : ℕ) → most < 65536
    → reply_frame (reply_of n (carry_out image s (lookup_message version n Limits.passphrase_key most)).reply) ≡ passphrase_reply version n
unfolding carry_out command_of_number with_number command_number effect reply_of reply_frame Local.lookup
reply-refused image s version n most i = rw ((lookup-data Limits.passphrase_key most (omega arith) i).0, and-false)

-- of a set
reply-set : (image : List ℕ) (s : State) (version n k : ℕ) (v : List ℕ) → k < 256
    → reply_frame (reply_of n (carry_out image s (set_message version n k v)).reply)
    ≡ set_reply version n (store_value s.settings k v).result
unfolding carry_out command_of_number with_number command_number effect key_set reply_of reply_frame number bytes
reply-set image s version n k v h = let e : k % 256 + 0 * 256 ≡ k = omega arith in rw e

-- the 00 of a request behind the bytes w and bs
stream-replies : (w : List ℕ) (s : State) → Since (split w).rest s → (image bs : List ℕ) (m : Message)
    → verdict (split (w ++ bs)).rest ≡ good m → let a = frames_carried image s (frames_closed_by w bs) in
    (receive_stream image s (bs ++ (0 ∷ []))).pending
    ≡ owed s.terminator_owed ++ reply_frame (reply_of m.sequence (carry_out image a m).reply)
stream-replies w s since image bs m e =
    ap (λ (x : State). x.pending) (stream-closes w s since image bs)
    ∙ framed-pending image (frames_carried image s (frames_closed_by w bs)) (split (w ++ bs)).rest m e
    ∙ rw (frames-owed image (frames_closed_by w bs) s)

-- of a lookup, where key k has what x says
stream-answers : {k : ℕ} (h : ReadBack k) (w : List ℕ) (x : Origin) (s : State) → Since (split w).rest s → Holds k x s
    → x.setting.edition ≤ Limits.last_edition
    → (image bs : List ℕ) (version n most : ℕ) → most < 65536 → verdict (split (w ++ bs)).rest ≡ good (lookup_message version n k most)
    → (receive_stream image s (bs ++ (0 ∷ []))).pending
    ≡ owed s.terminator_owed ++ lookup_reply version n most (set_since k (since_more x (requests_in (frames_closed_by w bs))))
stream-answers h w x s since holds low image bs version n most i e =
    let a = frames_carried image s (frames_closed_by w bs) in
    stream-replies w s since image bs (lookup_message version n _ most) e
    ∙ rw (
      reply-found image a version n most h i,
      entry-held a h.key,
      (frames-hold h.key w x s holds image bs).held,
      after-sets _ x.setting (x.requests ++ requests_in (frames_closed_by w bs)) low,
    )

last-behind : (o : Option (List ℕ)) (vs : List (List ℕ)) (v : List ℕ) → last_or o (vs ++ (v ∷ [])) ≡ some v
unfolding last_or
last-behind o [] v = refl
last-behind o (w ∷ vs) v = last-behind (some w) vs v

edition-reply : (n most k : ℕ) (x : Origin) (vs : List (List ℕ)) (v : List ℕ)
    → successful x.setting.edition k x.requests ≡ vs ++ (v ∷ []) → length v ≤ most
    → lookup_reply second_version n most (set_since k x) ≡ edition_reply n (x.setting.edition + (length vs + 1)) v
unfolding lookup_reply edition_reply set_after Local.fitted
edition-reply n most k x vs v g h = rw (g, last-behind x.setting.value vs v, length-append, le-ltb most (length v) h)

-- ---- the claims: a start that is accepted, on any bytes, then any calls

module _ (p : Parts) (b : Bytes p) (l : Lent) (d : List ℕ) (typed : Typed (Histories.start d))
    (accepted : (made p (start_with l d)).answer ≡ done) (ms : List Made) (t : AllTyped ms) where
  abbrev state : State
  state = left_meant (fresh (factory_of d)) ms

  state_holds : {k : ℕ} (h : SettingsKey k) → Holds k (origin k ms) state
  state_holds h =
      let f = factory_of d in
      rw (by_frames f ms).1 at (calls-hold h ms [] since_start (fresh f) (fresh_holds h f))

  -- the setting that the store has, by the sets one after the other
  pub setting-then : {k : ℕ} → SettingsKey k
      → setting (view (reached p l d ms)).settings k ≡ after_sets k (origin k ms).setting (origin k ms).requests
  setting-then h = rw (history p b l d typed accepted ms t).1 (state_holds h).held

  origin-low : (k : ℕ) → (origin k ms).setting.edition ≤ Limits.last_edition
  origin-low k = since-low k ms t

  pub value_last_set : ValueLastSet ms (reached p l d ms)
  value_last_set k h =
      rw (history p b l d typed accepted ms t).1
      (entry-held state h ∙ (state_holds h).held ∙ after-sets k (origin k ms).setting (origin k ms).requests (origin-low k))

  -- what the 00 of a request behind the bytes bs does
  replied-made : (j : Lent) (image bs : List ℕ)
      → let c = receive_with image j (bs ++ (0 ∷ [])) in Typed c.call → enough c.call j ≡ true → (reply : List ℕ)
      → (receive_stream image state (bs ++ (0 ∷ []))).pending ≡ owed state.terminator_owed ++ reply
      → let q = reached p l d ms in RepliedWith q (made q c) reply
  unfolding meant_made meant
  replied-made j image bs c e reply x =
      let hist = history p b l d typed accepted ms t in
      let meets = rw e at (one_call (reached p l d ms) (receive_with image j (bs ++ (0 ∷ []))) hist.2 c) in
      (meets.answer, ap (λ (y : State). y.pending) meets.leaves.0 ∙ rw hist.1 x)

  pub last_set : LastSet ms (reached p l d ms)
  last_set k h version n most i j image bs c e v =
      replied-made j image bs c e _
      (stream-answers h (received_since_all [] ms) (origin k ms) state (by_frames (factory_of d) ms).2 (state_holds h.key) (origin-low k)
      image bs version n most i v)

  pub set_answered : SetAnswered ms (reached p l d ms)
  set_answered version n k v i j image bs c e u =
      let w = received_since_all [] ms in
      let a = frames_carried image state (frames_closed_by w bs) in
      let x = origin_behind k ms bs in
      let g : SettingsKey k → setting a.settings k ≡ set_since k x = λ h.
      (frames-hold h w (origin k ms) state (state_holds h) image bs).held ∙ after-sets k x.setting x.requests (origin-low k) in
      replied-made j image bs c e _
      (stream-replies w state (by_frames (factory_of d) ms).2 image bs (set_message version n k v) u
      ∙ rw (reply-set image a version n k v i, set-result a.settings k v (set_since k x) g))

  pub passphrase_unread : PassphraseUnread ms (reached p l d ms)
  passphrase_unread version n most i j image bs c e v =
      let w = received_since_all [] ms in
      replied-made j image bs c e _
      (stream-replies w state (by_frames (factory_of d) ms).2 image bs (lookup_message version n Limits.passphrase_key most) v
      ∙ rw (reply-refused image (frames_carried image state (frames_closed_by w bs)) version n most i))

  pub passphrase_unread_locally : PassphraseUnreadLocally ms (reached p l d ms)
  unfolding meant_made meant enough Local.lookup Local.edition
  passphrase_unread_locally most i j e =
      let s = (history p b l d typed accepted ms t).2 in
      let q = reached p l d ms in
      let r = rw e at (one_call q (locally j (Histories.lookup Limits.passphrase_key most)) s (omega arith, i)) in
      let f = rw e at (one_call q (locally j (Histories.edition Limits.passphrase_key)) s (omega arith)) in
      (r.answer, r.out, f.answer)

  pub withdrawn_list_answered : WithdrawnListAnswered ms (reached p l d ms)
  withdrawn_list_answered = last_set 5 (record { key = record { lower = omega arith; upper = omega arith }; other = λ e. omega arith })

  pub list_edition_answered : ListEditionAnswered ms (reached p l d ms)
  list_edition_answered n most i j image bs c e f vs v g h =
      let a = withdrawn_list_answered second_version n most i j image bs c e f in
      (a.0, rw (edition-reply n most 5 (origin_behind 5 ms bs) vs v g h) at a.1)

  pub lookup_last_set : LookupLastSet ms (reached p l d ms)
  unfolding meant_made meant
  lookup_last_set k h most i j e =
      let m = h.key.upper in
      let q = reached p l d ms in
      let meets = rw e at (one_call q (locally j (Histories.lookup k most)) (history p b l d typed accepted ms t).2 (omega arith, i)) in
      rw (meets.answer, meets.out, found-value (view q) most h, value_last_set k h.key) (refl, refl)
