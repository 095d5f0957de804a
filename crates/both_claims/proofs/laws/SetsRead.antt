-- The sets of a key that were put out. While none of them is outstanding, none of them is newer than all that the supervisor has read.
-- Assumes nothing.
use mathlib.Core.Path.{◌≡◌, refl, sym, ap, ◌∙◌}
use mathlib.Core.Bool.{Bool, true, false, false≢true}
use mathlib.Core.List.{List, [], ◌∷◌, ◌++◌, append-nil}
use mathlib.Core.Logic.{◌⊎◌, inl, inr}
use mathlib.Core.Option.{Option, none, some}
use Prim.Native.Nat.{ℕ, ◌≤◌, ◌<◌}
use native.Mathlib.Omega.{arith}
use Rattle.octets.specs.Bytes.{Each}
use Rattle.octets.proofs.Conditions.{cond-by}
use Rattle.octets.proofs.Each.{each_append}
use Rattle.line.specs.Message.{Message, InRange}
use Rattle.line.specs.Frame.{frame}
use Rattle.line.specs.Judge as Line
use Rattle.line.specs.Judge.{judge}
use Rattle.line_claims.specs.Calls.{good_messages}
use Rattle.requester.specs.Limits.{last_number}
use Rattle.requester.specs.State.{Request, RecoveryStep, fetch, acknowledge, alert, step_request, is_some, outstanding, outstanding_of}
use Rattle.requester.specs.State.{request_frame, MainState}
use Rattle.requester.specs.Requester.{stays_out, keep}
use Rattle.requester_claims.specs.View.{main_view}
use Rattle.requester_claims.proofs.History as MainHistory
use Rattle.requester_claims.specs.Histories as Main
use Rattle.requester_claims.specs.Histories.{MainMeans, MainCall, MainMade, main_made}
use Rattle.requester_claims.specs.Numbers.{Frame}
use Rattle.requester_claims.proofs.Numbers.{frames_of, framed}
use Rattle.supervisor.specs.State.{State}
use Rattle.supervisor_claims.specs.Histories as Supervisor
use Rattle.supervisor_claims.specs.FrameHistory as Received
use Rattle.supervisor_claims.specs.LastSet.{set_by}
use Rattle.requester_claims.specs.CameAs.{restarts}
use Rattle.both_claims.specs.Ends
use Rattle.both_claims.specs.Ends.{Any, Handled, Log, CarriedOut, Fresh, CallOf, MainTyped, EndCallTyped, ends_after, message_handed}
use Rattle.both_claims.specs.Ends.{request_of, puts_request, as_message, is_set_of, sets_among, SetOutstanding, WireUnder}
use Rattle.both_claims.specs.Ends.{RequestUnder, image_lent, brought, main_logged, supervisor_logged, Begun, together, ends_after_all}
use Rattle.both_claims.specs.Ends.{Always, Ever, GoesOn, NoRequest}
use Rattle.both_claims.specs.Exchanges.{RangedRequest}
use Rattle.both_claims.specs.BothEnds.{SetsAnswered}
use Rattle.both_claims.proofs.FreshAnswer.{FromMainUnder, keeps-from-main, answer-fresh}
use Rattle.both_claims.proofs.laws.Lists.{none-some, any-so, any-then, any_left, any-right, each-then, each-any, each_in}
use Rattle.both_claims.proofs.laws.Table.{frame_same, passes}
use Rattle.both_claims.proofs.laws.SetsAmong.{sets-append, set-in, set_value, set-shape, set-passes}
use Rattle.both_claims.proofs.laws.Ranges.{Ranged, outstanding-ranged, ranged-message}
use Rattle.both_claims.proofs.laws.Kept.{PutOut, Kept}
use Rattle.both_claims.proofs.laws.KeptRequest.{NoNew, keeps, answers, ends, PutsNew, RequestBy, came-after, made_by}
use Rattle.both_claims.proofs.laws.MainCalls.{reads_of}
use Rattle.both_claims.proofs.laws.FromMain.{frames-good, begun-from-main}
use Rattle.both_claims.proofs.laws.BothCalls.{Both, main_meant_at, main-log, main-answer, keeps-both, begun-both}

-- ---- requests

-- whether a request that is outstanding or kept has a value for key k, whatever its number
abbrev has_value : ℕ → Option Request → Bool
has_value k none = false
has_value k (some q) = is_some (set_by k (as_message 0 q))

-- a recovery's requests have none
step-no-set : (k : ℕ) (t : RecoveryStep) → has_value k (some (step_request t)) ≡ false
unfolding step_request set_by
step-no-set k fetch = refl
step-no-set k acknowledge = refl
step-no-set k alert = refl

outstanding-no-set : (k : ℕ) (t : Option RecoveryStep) (o : Option Request) → has_value k o ≡ false → has_value k (outstanding_of t o)
    ≡ false
outstanding-no-set k none o h = h
outstanding-no-set k (some t) o h = step-no-set k t

-- a set stays outstanding
set-stays : (command : ℕ) → command ≡ 0x10 → stays_out command ≡ true
unfolding stays_out
set-stays command e = rw e

keep-set : (k : ℕ) (q : Request) (b : Bool) → has_value k (some q) ≡ b → has_value k (keep q) ≡ b
keep-set k q true h = rw (set-stays q.command (set-shape k (as_message 0 q) h).0) h
keep-set k q false h = cond-by (λ (o : Option Request). has_value k o ≡ false) (stays_out q.command) (some q) none (λ _. h) (λ _. refl)

pub called-ranged : (c : MainCall) → MainTyped c → (s : MainState) (x : MainMeans) → (p : PutsNew s c x) → RangedRequest p.request
called-ranged c typed s x p = by c typed p.called
  where
    by : (c : MainCall) → MainTyped c → request_of c ≡ some p.request → RangedRequest p.request
    by Main.start t e = absurd (none-some e)
    by (Main.request command d room) t e =
        let z : record { command = command; payload = d } ≡ p.request = cc in
        record {
          command = rw (← ap (λ (q : Request). q.command) z) t.0;
          bytes = rw (← ap (λ (q : Request). q.payload) z) t.1;
          fits = p.fits;
        }
    by Main.interrupt t e = absurd (none-some e)
    by (Main.send room) t e = absurd (none-some e)
    by (Main.receive piece) t e = absurd (none-some e)
    by Main.state t e = absurd (none-some e)

none_kept : (t : Option RecoveryStep) (o : Option Request) → outstanding_of t o ≡ none → o ≡ none
none_kept none o e = e
none_kept (some t) o e = absurd (none-some (sym e))

-- the message of a frame that was handled had been read
abbrev HeardOf : List Message → Handled → Type 0
HeardOf heard h = (m : Message) → judge h.form ≡ Line.good m → Any (λ (y : Message). y ≡ m) heard

module _ (k : ℕ) where
  -- ---- frames that are put out

  -- a set of key k in this frame is not newer than all of these that are sets of key k
  abbrev pub NotNewer : List Message → Frame → Type 0
  NotNewer heard x =
      (m : Message) → InRange m → x.bytes ≡ frame m → is_set_of k m ≡ true
      → Any (λ (y : Message). m.sequence ≤ y.sequence) (sets_among k heard)

  other-frame : (n : ℕ) (q : Request) → InRange (as_message n q) → has_value k (some q) ≡ false → (heard : List Message)
      → Each (NotNewer heard) (framed n q)
  unfolding request_frame set_by
  other-frame n q range h heard = (
    λ m r e s.
        let z : m ≡ as_message n q = frame_same r range (sym e) in
        absurd (false≢true (sym h ∙ set_value k (as_message n q) (rw z at s))),
    tt,
  )

  not-newer-more : (heard new : List Message) (asked : List Frame) → Each (NotNewer heard) asked → Each (NotNewer (heard ++ new)) asked
  not-newer-more heard new asked h =
      each-then (NotNewer heard) _ (λ x f m range e c.
      rw (sets-append k heard new) (any_left _ (sets_among k heard) (sets_among k new) (f m range e c))) asked h

  -- what a call puts out that puts no new request out
  sent-frames : (s : MainState) → Ranged s → has_value k s.kept ≡ false → (heard : List Message) (fs : List Frame)
      → (fs ≡ []) ⊎ ((q : Request) × (outstanding s ≡ some q) × (fs ≡ framed s.newest q)) → Each (NotNewer heard) fs
  sent-frames s ranged h heard fs (inl e) = rw e tt
  sent-frames s ranged h heard fs (inr (q, o, e)) =
      rw e
      (other-frame s.newest q (ranged-message s.newest q ranged.newest (outstanding-ranged s ranged q o))
      (rw o at (outstanding-no-set k s.recovery s.kept h)) heard)

  -- ---- what holds of them

  -- What holds since the main processor's end was started.
  -- A set of key k is kept, or the numbers are used up, or none is newer than all read.
  abbrev Settled : MainState → List Frame → List Message → Type 0
  Settled s asked heard = (has_value k s.kept ≡ true) ⊎ ((last_number ≤ s.newest) ⊎ Each (NotNewer heard) asked)

  pub record SetsKnown (s : MainState) (l : Log) : Type 0 where
    settled : Settled s l.asked l.heard
    heard : Each (HeardOf l.heard) l.handled

  -- What holds since a moment at which a request was put out that is no set of key k.
  -- None is newer than all that had been read by then.
  pub record SinceMoment (e : Ends.Ends) (s : MainState) (l : Log) : Type 0 where
    pub asked : Each (NotNewer e.log.heard) l.asked
    kept : has_value k s.kept ≡ false
    pub above : (main_view e.main).newest < s.newest

  -- none is kept, and there are numbers left
  all-not-newer : (s : MainState) (l : Log) → SetsKnown s l → outstanding s ≡ none → s.newest < last_number
      → Each (NotNewer l.heard) l.asked
  all-not-newer s l h o n = by h.settled
    where
      by : Settled s l.asked l.heard → Each (NotNewer l.heard) l.asked
      by (inl e) = absurd (false≢true (rw (none_kept s.recovery s.kept o) at e))
      by (inr (inl e)) = absurd (omega (arith, e, n))
      by (inr (inr e)) = e

  -- a new request that is no set of key k
  put-frames : (s : MainState) (c : MainCall) (x : MainMeans) → MainTyped c → (p : PutsNew s c x) → has_value k (some p.request) ≡ false
      → (heard : List Message) → Each (NotNewer heard) (frames_of x)
  put-frames s c x typed p h heard =
      let n : x.state.newest ≤ last_number = omega (arith, p.next, p.not_last) in
      rw p.frame (other-frame x.state.newest p.request (ranged-message _ _ n (called-ranged c typed s x p)) h heard)

  -- ---- a call of the main processor's end

  -- a set of key k is outstanding
  abbrev Waits : MainState → Type 0
  Waits s = (q : Request) × (outstanding s ≡ some q) × (is_set_of k (as_message s.newest q) ≡ true)

  kept-waits : (s : MainState) → Ranged s → s.recovery ≡ none → (o : Option Request) → s.kept ≡ o → has_value k o ≡ true → Waits s
  unfolding set_by
  kept-waits s ranged i none e h = absurd (false≢true h)
  kept-waits s ranged i (some q) e h = (q, rw (i, e), set-passes k s.newest q (omega (arith, ranged.newest)) h)

  -- an answer to it is the supervisor's
  abbrev FreshSet : MainState → Log → MainMeans → Type 0
  FreshSet s l x = Waits s → (r : Message) → message_handed x.answer x.out ≡ some r → Fresh s l r

  module _ (s : MainState) (l : Log) (kept : Kept s l) (known : SetsKnown s l) where
    -- the set that was answered had been read
    newest-read : (w : Waits s) (r : Message) → Fresh s l r → Any (λ (y : Message). y.sequence ≡ s.newest) (sets_among k l.heard)
    newest-read (q, o, set) r f =
        let z : f.request ≡ q = (let w = f.waiting in cc) in
        any-so _ (λ h a. a) l.handled
        (each-any (HeardOf l.heard) (CarriedOut s.newest q r) (λ (h : Handled).
        Any (λ (y : Message). y.sequence ≡ s.newest) (sets_among k l.heard))
        (λ h a c.
        any-then _ _ (λ (y : Message) e. ap (λ (m : Message). m.sequence) e) (sets_among k l.heard)
        (set-in k (as_message s.newest q) set l.heard (a _ (passes h.form _ c.passed).judged)))
        l.handled known.heard (rw z at f.made))

    -- and no number is higher
    answered-all : Waits s → (r : Message) → Fresh s l r → Each (NotNewer l.heard) l.asked
    unfolding request_frame
    answered-all w r f = each-then (PutOut s) _ not-newer l.asked kept.asked
      where
        not-newer : (x : Frame) → PutOut s x → NotNewer l.heard x
        not-newer x p m range e c =
            let g = p.ranged in
            let z : m ≡ as_message x.number g.request = frame_same range g.in_range (sym e ∙ g.bytes) in
            let n : m.sequence ≡ x.number = ap (λ (y : Message). y.sequence) z in
            any-then _ _ (λ (y : Message) i. omega (arith, p.agrees.most, n, i)) (sets_among k l.heard) (newest-read w r f)

    module _ (x : MainMeans) where
      abbrev Left : Type 0
      Left = Settled x.state (l.asked ++ frames_of x) l.heard

      -- nothing more is put out
      as-asked : frames_of x ≡ [] → Each (NotNewer l.heard) l.asked → Each (NotNewer l.heard) (l.asked ++ frames_of x)
      as-asked e h = rw (e, append-nil) h

      no-new-settled : FreshSet s l x → NoNew s x → Left
      no-new-settled fresh (keeps e n f) = by (has_value k s.kept) refl known.settled
        where
          by : (b : Bool) → has_value k s.kept ≡ b → Settled s l.asked l.heard → Left
          by true h t = inl (rw e h)
          by false h (inl t) = absurd (false≢true (sym h ∙ t))
          by false h (inr (inl t)) = inr (inl (omega (arith, t, n)))
          by false h (inr (inr t)) =
              inr (inr (each_append _ l.asked (frames_of x) t (sent-frames s kept.ranged h l.heard (frames_of x) f)))
      no-new-settled fresh (answers i r o e n f) = by known.settled
        where
          by : Settled s l.asked l.heard → Left
          by (inl h) =
              let w = kept-waits s kept.ranged i s.kept refl h in inr (inr (as-asked f (answered-all w r (fresh w r o))))
          by (inr (inl h)) = inr (inl (omega (arith, h, n)))
          by (inr (inr h)) = inr (inr (as-asked f h))
      no-new-settled fresh (ends h e n f) = inr (inl (omega (arith, h, n)))

      puts-settled : (c : MainCall) → MainTyped c → PutsNew s c x → Left
      puts-settled c typed p = by (has_value k (some p.request)) refl
        where
          by : (b : Bool) → has_value k (some p.request) ≡ b → Left
          by true h = inl (rw p.kept (keep-set k p.request true h))
          by false h =
              inr (inr (each_append _ l.asked (frames_of x) (all-not-newer s l known p.none_out p.not_last)
              (put-frames s c x typed p h l.heard)))

      call_settled : (c : MainCall) → MainTyped c → FreshSet s l x → RequestBy s c x → Left
      call_settled c typed fresh (inl (e, p)) = puts-settled c typed p
      call_settled c typed fresh (inr (e, p)) = no-new-settled fresh p

  abbrev pub SetsKnownIn : Ends.Ends → Type 0
  SetsKnownIn e = SetsKnown (main_view e.main) e.log

  abbrev pub SinceMomentIn : Ends.Ends → Ends.Ends → Type 0
  SinceMomentIn e x = SinceMoment e (main_view x.main) x.log

  module _ (e : Ends.Ends) (both : Both e) (m : MainMade) where
    abbrev pub before : MainState
    before = main_view e.main

    abbrev pub does : MainMeans
    does = main_meant_at e m

    abbrev pub logged : Log
    logged = main_logged e.log m.call does.answer does.out does.state.newest

    abbrev pub GoesOnMeant : Type 0
    GoesOnMeant = restarts m.call does.answer ≡ false

    -- a property of what it leaves
    pub leaves : (P : MainState → Log → Type 0) → P does.state logged
        → let x = ends_after e (Ends.main m) in P (main_view x.main) x.log
    unfolding ends_after
    leaves P h = rw ((MainHistory.one_call e.main m both.main).state, main-log e both m) h

    pub request-by : GoesOnMeant → RequestBy before m.call does
    request-by n = made_by before (λ piece. came-after before _ (reads_of before e.log both.kept piece).came) m n

    fresh_set : (Waits before → CallOf Fresh e (Ends.main m)) → FreshSet before e.log does
    fresh_set f w r o = f w r (main-answer e both (λ a d. message_handed a d ≡ some r) m o)

    main-known : MainTyped m.call → SetsKnownIn e → (Waits before → CallOf Fresh e (Ends.main m)) → SetsKnown does.state logged
    unfolding main_logged
    main-known typed h f =
        cond-by (SetsKnown does.state) (restarts m.call does.answer) _ _ (λ _. record { settled = inr (inr tt); heard = tt })
        (λ n. record {
          settled = call_settled before e.log both.kept h does m.call typed (fresh_set f) (request-by n);
          heard = h.heard;
        })

    -- it puts no new request out
    module _ (e₀ : Ends.Ends) (h : SinceMomentIn e₀ e) where
      ended-since : GoesOnMeant → does.state.kept ≡ none → does.state.newest ≡ before.newest → frames_of does ≡ []
          → SinceMoment e₀ does.state logged
      unfolding main_logged
      ended-since n o l f = rw n (record { asked = rw (f, append-nil) h.asked; kept = rw o; above = omega (arith, l, h.above) })

      no-new-since : GoesOnMeant → NoNew before does → SinceMoment e₀ does.state logged
      unfolding main_logged
      no-new-since n (keeps o l f) =
          rw n
          (record {
            asked =
                each_append _ e.log.asked (frames_of does) h.asked
                (sent-frames before both.kept.ranged h.kept e₀.log.heard (frames_of does) f);
            kept = rw o h.kept;
            above = omega (arith, l, h.above);
          })
      no-new-since n (answers i r a o l f) = ended-since n o l f
      no-new-since n (ends g o l f) = ended-since n o l f

      main-since : GoesOnMeant → puts_request m.call does.answer ≡ false → RequestBy before m.call does
          → SinceMomentIn e₀ (ends_after e (Ends.main m))
      main-since n f (inl (g, p)) = absurd (false≢true (sym f ∙ g))
      main-since n f (inr (g, p)) = leaves (SinceMoment e₀) (no-new-since n p)

    -- it puts a request out that is no set of key k
    module _ (typed : MainTyped m.call) (known : SetsKnownIn e) where
      puts-since : GoesOnMeant → (p : PutsNew before m.call does) → has_value k (some p.request) ≡ false
          → SinceMoment e does.state logged
      unfolding main_logged
      puts-since n p h =
          rw n
          (record {
            asked = each_append _ e.log.asked (frames_of does) (all-not-newer before e.log known p.none_out p.not_last)
                (put-frames before m.call does typed p h e.log.heard);
            kept = rw p.kept (keep-set k p.request false h);
            above = omega (arith, p.next);
          })

      pub put-since : (n : ℕ) → (main_made e.main m).answer ≡ Main.put n → (q : Request) → request_of m.call ≡ some q
          → has_value k (some q) ≡ false → SinceMomentIn e (ends_after e (Ends.main m))
      put-since n a q f h = by (request-by (rw z))
        where
          z : does.answer ≡ Main.put n
          z = sym (MainHistory.one_call e.main m both.main).answer ∙ a

          by : RequestBy before m.call does → SinceMomentIn e (ends_after e (Ends.main m))
          by (inl (g, p)) = let w : q ≡ p.request = (let c = p.called in cc) in leaves (SinceMoment e) (puts-since (rw z) p (rw (← w) h))
          by (inr (g, p)) = absurd (false≢true (sym (rw (z, f) at g)))

  -- ---- a call of the supervisor

  supervisor-known : (s : MainState) (l : Log) → SetsKnown s l → (x : State) (m : Supervisor.Made) (waiting : List ℕ)
      → SetsKnown s (supervisor_logged l x m waiting)
  unfolding supervisor_logged brought
  supervisor-known s l h x m waiting = record {
    settled = more h.settled;
    heard = each_append _ l.handled _
        (each-then (HeardOf l.heard) (HeardOf (l.heard ++ new)) (λ y f m e. any_left _ l.heard new (f m e)) l.handled h.heard)
        (frames-good (λ asked m. Any (λ (y : Message). y ≡ m) (l.heard ++ new)) l.asked (image_lent m.call) fs l.cleared x
        l.origin _ (each-then _ _ (λ (m : Message) a. any-right _ l.heard new a) new (each_in new)));
  }
    where
      fs : List (List ℕ)
      fs = Received.frames_closed_by l.received (Received.bytes_received_by m)

      new : List Message
      new = good_messages fs

      more : Settled s l.asked l.heard → Settled s l.asked (l.heard ++ new)
      more (inl e) = inl e
      more (inr (inl e)) = inr (inl e)
      more (inr (inr e)) = inr (inr (not-newer-more l.heard new l.asked e))

  -- ---- calls

  -- with the wire under the number of a set of key k that is outstanding
  call_known : (e : Ends.Ends) → Both e → SetsKnownIn e → (t : Ends.EndCall) → EndCallTyped t
      → ((i : ℕ) → SetOutstanding k i e t → FromMainUnder i e × WireUnder i e t) → SetsKnownIn (ends_after e t)
  unfolding ends_after
  call_known e both h (Ends.main m) typed w =
      leaves e both m SetsKnown (main-known e both m typed h (λ s.
      let n = (main_view e.main).newest in
      let g = w n (refl, s.0, s.1, s.2) in
      answer-fresh n e both g.0 (Ends.main m) typed g.1 refl))
  call_known e both h (Ends.supervisor m) typed w = supervisor-known (main_view e.main) e.log h _ m _

  known-calls : (e : Ends.Ends) → Both e → SetsKnownIn e → (ts : List Ends.EndCall) → Each EndCallTyped ts
      → ((i : ℕ) → Ever (SetOutstanding k i) e ts → FromMainUnder i e × Always (WireUnder i) e ts) → SetsKnownIn (ends_after_all e ts)
  unfolding ends_after_all
  known-calls e both h [] typed w = h
  known-calls e both h (t ∷ ts) typed w =
      known-calls (ends_after e t) (keeps-both e both t typed.0)
      (call_known e both h t typed.0 (λ i s. let g = w i (inl s) in (g.0, g.1.0))) ts typed.1
      (λ i s. let g = w i (inr s) in (keeps-from-main i e g.0 t g.1.0, g.1.1))

  begun-known : (b : Ends.Ends) → Begun b → SetsKnownIn b
  unfolding ends_after main_logged
  begun-known b (together s) = record { settled = inr (inr tt); heard = tt }
  begun-known b (Ends.later s ts t l a) = rw a (record { settled = inr (inr tt); heard = tt })

  pub sets-known : (b : Ends.Ends) → Begun b → (ts : List Ends.EndCall) → Each EndCallTyped ts → SetsAnswered k b ts
      → SetsKnownIn (ends_after_all b ts)
  sets-known b begins ts t w =
      known-calls b (begun-both b begins) (begun-known b begins) ts t (λ i s. (begun-from-main (RequestUnder i) b begins, w i s))

  pub call-since : (e₀ e : Ends.Ends) → Both e → SinceMomentIn e₀ e → (t : Ends.EndCall) → GoesOn e t → NoRequest e t
      → SinceMomentIn e₀ (ends_after e t)
  unfolding ends_after supervisor_logged
  call-since e₀ e both h (Ends.main m) g n =
      let a = (MainHistory.one_call e.main m both.main).answer in
      let goes = rw a at g in
      let since = main-since e both m e₀ h goes (rw a at n) in
      since (request-by e both m goes)
  call-since e₀ e both h (Ends.supervisor m) g n = record { asked = h.asked; kept = h.kept; above = h.above }
