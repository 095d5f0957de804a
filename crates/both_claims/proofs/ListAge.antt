-- An answer to a lookup of a settings key is the value that the key had at a moment after the lookup was put out.
-- That is the value of its last successful set, or what a later restore left. Key 5 is the withdrawn-key list. Assumes nothing.
use mathlib.Core.Path.{◌≡◌, refl, sym, ap, ◌∙◌}
use mathlib.Core.Bool.{Bool, ◌||◌}
use mathlib.Core.List.{List, [], ◌∷◌, ◌++◌, append_assoc, append-nil}
use mathlib.Core.Logic.{◌⊎◌, inl, inr}
use mathlib.Core.Option.{Option, some}
use Prim.Native.Nat.{ℕ, ◌≤◌, ◌<◌}
use native.Mathlib.Omega.{arith}
use lib.Seq.{append_snoc}
use Rattle.octets.specs.Bytes.{Each}
use Rattle.octets.proofs.Conditions.{cond-by}
use Rattle.octets.proofs.Each.{each_append}
use Rattle.line.specs.Message.{Message}
use Rattle.line.specs.Frame.{split, non_empty, closed_behind}
use Rattle.line.proofs.Pieces.{non_empty-append, closed-join}
use Rattle.requester.specs.State.{MainState}
use Rattle.requester.specs.Requester.{reply_sequence}
use Rattle.requester_claims.specs.View.{main_view}
use Rattle.requester_claims.specs.Histories.{MainAnswer, MainCall}
use Rattle.requester_claims.specs.Numbers.{Frame}
use Rattle.supervisor.specs.Limits.{SettingsKey, last_edition}
use Rattle.supervisor.specs.State.{State}
use Rattle.supervisor.specs.Local
use Rattle.responder.specs.Requests.{ReplyContent, carry_out, effect, reply_of}
use Rattle.responder.specs.Commands.{command_number, with_number, command_of_number}
use Rattle.supervisor.specs.Number.{top_set}
use Rattle.supervisor_claims.specs.View.{view, factory_of}
use Rattle.supervisor_claims.specs.Histories as Supervisor
use Rattle.supervisor_claims.specs.FrameHistory as Received
use Rattle.supervisor_claims.specs.FrameHistory.{frame_carried, frames_carried}
use Rattle.supervisor_claims.specs.LastSet.{requests_in, set_after, Origin, since_more}
use Rattle.supervisor_claims.specs.LastSet.{since_made, since_all}
use Rattle.supervisor_claims.proofs.claims.WithdrawnKeys.{lookup-data, found-value}
use Rattle.supervisor_claims.specs.LastSet.{fitted_of, ReadBack}
use Rattle.supervisor_claims.proofs.laws.Progress.{Since}
use Rattle.supervisor_claims.proofs.claims.FramesClaim.{made-carried, by_frames}
use Rattle.supervisor_claims.proofs.claims.LastSetLaws.{after_sets, after-append, after-sets, entry-held, requests-append}
use Rattle.supervisor_claims.proofs.claims.LastSetLaws.{frames-have, Holds, fresh_holds, made_holds, since-keeps, in-low, read_low}
use Rattle.supervisor_claims.proofs.claims.LastSetLaws.{sets-low}
pub use Rattle.supervisor_claims.proofs.claims.StaysLaws.{more-none, stays-since}
use Rattle.supervisor_claims.proofs.claims.History as SupervisorHistory
use Rattle.requester_claims.specs.CameAs.{restarts}
use Rattle.both_claims.specs.Ends
use Rattle.both_claims.specs.Ends.{Any, Handled, Log, CarriedOut, Fresh, reply_message, as_message, drops, origin_by, handled_by}
use Rattle.both_claims.specs.Ends.{image_lent, brought, supervisor_logged, main_logged}
use Rattle.both_claims.specs.Ends.{ends_after_all, handled_frames, Stays, CallStays, NotAsked, ValueSince}
use Rattle.both_claims.specs.Ends.{ValueAgainst}
use Rattle.both_claims.specs.Ends.{EndCallTyped, ends_after, BothStarts, ends_begun, Begun, Always, RequestUnder, WireUnder}
use Rattle.both_claims.specs.Ends.{UnderNumber, CallOf}
use Rattle.both_claims.specs.Ends.{lookup_request, ValueThen, FreshValue}
use Rattle.both_claims.proofs.laws.Lists.{Front, any-so, any-then, each-then, each_and, each-any}
use Rattle.both_claims.proofs.laws.Table.{top_set_lem}
use Rattle.both_claims.proofs.laws.Kept.{Kept, not-asked-by}
use Rattle.both_claims.proofs.FreshAnswer.{FromMainUnder, keeps-from-main, answer-fresh}
use Rattle.both_claims.proofs.laws.FromMain.{begun-from-main}
use Rattle.both_claims.proofs.laws.BothCalls.{Both, keeps-both, each-call, after-calls, begun-both, begun-else, call-so, always-so}
use Rattle.both_claims.specs.BothEnds.{ListAge, NotReplaced}

-- ---- what holds of the supervisor's settings

-- a settings key has what its sets come to since the last accepted restore, or else start
pub record SetKey (k : ℕ) (o : Origin) (x : State) : Type 0 where
  pub holds : Holds k o x
  low : o.setting.edition ≤ last_edition

abbrev pub Set : (ℕ → Origin) → State → Type 0
Set o x = (k : ℕ) → SettingsKey k → SetKey k (o k) x

set-frame : (image : List ℕ) (x : State) (o : ℕ → Origin) (b : ℕ) (bs : List ℕ) → Set o x
    → Set (origin_by o (b ∷ bs)) (frame_carried image x (b ∷ bs))
unfolding non_empty frames_carried
set-frame image x o b bs h k s = record {
  holds =
      rw (after-append k (o k).setting (o k).requests (requests_in ((b ∷ bs) ∷ [])))
      (frames-have image s ((b ∷ bs) ∷ []) x _ (h k s).holds);
  low = (h k s).low;
}

-- frames, one after the other
module _ (asked : List Frame) (image : List ℕ) where
  frames-set : (ps : List (List ℕ)) (cleared : Bool) (x : State) (o : ℕ → Origin) (earlier : List (List ℕ)) → Set o x
      → Each (λ (h : Handled). Set h.origin h.state) (handled_by asked image cleared x o earlier (non_empty ps))
  unfolding non_empty handled_by
  frames-set [] cleared x o earlier h = tt
  frames-set ([] ∷ ps) cleared x o earlier h = frames-set ps cleared x o earlier h
  frames-set ((b ∷ bs) ∷ ps) cleared x o earlier h = (
    h,
    frames-set ps (cleared || drops (b ∷ bs)) (frame_carried image x (b ∷ bs)) (origin_by o (b ∷ bs)) (earlier ++ ((b ∷ bs) ∷ []))
        (set-frame image x o b bs h),
  )

pub record Aged (x : State) (l : Log) : Type 0 where
  since : Since (split l.received).rest x
  pub set : Set l.origin x
  pub each : Each (λ (h : Handled). Set h.origin h.state) l.handled

-- a call of the supervisor
module _ (x : State) (l : Log) (a : Aged x l) (m : Supervisor.Made) (typed : Supervisor.Typed m.call) (waiting : List ℕ) where
  abbrev left : State
  left = (Supervisor.meant_made x m).state

  left-set : Set (λ k. since_made k l.received (l.origin k) m) left
  unfolding since_all
  left-set k s = record {
    holds =
        rw (ap (λ (y : Supervisor.Means). y.state) (made-carried l.received x a.since m).0) at
        (made_holds s l.received (l.origin k) x (a.set k s).holds m);
    low =
        since-keeps k (λ y. y.edition ≤ last_edition) (omega arith) (λ image b es e. in-low k es (read_low image b es e)) (m ∷ [])
        (typed, tt) l.received (l.origin k) (a.set k s).low;
  }

  supervisor-ages : Aged left (supervisor_logged l x m waiting)
  unfolding supervisor_logged brought Received.frames_closed_by
  supervisor-ages = record {
    since = (made-carried l.received x a.since m).1;
    set = left-set;
    each = each_append _ l.handled (brought l x m) a.each
        (frames-set l.asked (image_lent m.call) (closed_behind l.received (Received.bytes_received_by m)) l.cleared x l.origin
        (non_empty (split l.received).closed) a.set);
  }

-- a call of the main processor's end
main-ages : (x : State) (l : Log) → Aged x l → (c : MainCall) (a : MainAnswer) (out : List ℕ) (n : ℕ) → Aged x (main_logged l c a out n)
unfolding main_logged
main-ages x l r c a out n =
    cond-by (Aged x) (restarts c a) _ _ (λ _. record { since = r.since; set = r.set; each = tt })
    (λ _. record { since = r.since; set = r.set; each = r.each })

-- ---- an answer

-- a lookup carried out
carried-lookup : (image : List ℕ) (x : State) (n k most : ℕ) → ReadBack k → most < 65536 → let f = fitted_of most (Local.entry_of x k) in
    (carry_out image x (as_message n (lookup_request k most))).reply
    ≡ some (record { version = 1; command = 0x0a; payload = f.result ∷ f.value })
unfolding carry_out command_of_number with_number command_number effect
carried-lookup image x n k most s i =
    let m = s.key.upper in
    let e = lookup-data k most (omega arith) i in
    rw (e.0, e.1, found-value x most s)

record Replied (n : ℕ) (d : List ℕ) (r : Message) : Type 0 where
  version : r.version ≡ 1
  sequence : r.sequence ≡ top_set n
  command : r.command ≡ 0x0a
  payload : r.payload ≡ d

replied : (n : ℕ) (o : Option ReplyContent) (d : List ℕ) (r : Message) → o ≡ some (record { version = 1; command = 0x0a; payload = d })
    → reply_message (reply_of n o) ≡ some r → Replied n d r
unfolding reply_of
replied n o d r e f = let g = rw e at f in record { version = cc; sequence = cc; command = cc; payload = cc }

module _ (s : MainState) (l : Log) (kept : Kept s l) (x : State) (aged : Aged x l) (r : Message) (k most : ℕ) (key : ReadBack k)
    (i : most < 65536) where
  -- at the moment at which it was carried out
  at-moment : (h : Handled) → CarriedOut s.newest (lookup_request k most) r h
      → let f = fitted_of most (Local.entry_of h.state k) in Replied s.newest (f.result ∷ f.value) r
  at-moment h c = replied s.newest _ _ r (carried-lookup h.image h.state s.newest k most key i) c.reply

  value_then : (h : Handled) → Set h.origin h.state → CarriedOut s.newest (lookup_request k most) r h
      → ValueThen s.newest k most r h
  value_then h z c = record {
    carried-out = c;
    value = (at-moment h c).payload;
    last_set =
        let y = z k key.key in
        entry-held h.state key.key ∙ y.holds.held ∙ after-sets k (h.origin k).setting (h.origin k).requests y.low;
  }

  fresh-value : Any (CarriedOut s.newest (lookup_request k most) r) l.handled
      → (r.version ≡ 1) × (r.sequence ≡ reply_sequence s.newest) × (r.command ≡ 0x0a)
      × Any (ValueThen s.newest k most r) l.handled
  fresh-value a = (
    any-so _ (λ h c. (at-moment h c).version) l.handled a,
    any-so _ (λ h c. (at-moment h c).sequence) l.handled a ∙ top_set_lem s.newest (omega (arith, kept.ranged.newest)),
    any-so _ (λ h c. (at-moment h c).command) l.handled a,
    each-any _ _ _ value_then l.handled aged.each a,
  )

value-fresh : (s : MainState) (l : Log) → Kept s l → (x : State) → Aged x l → (r : Message) → Fresh s l r → FreshValue s l r
value-fresh s l kept x aged r f k most key i e =
    let q : f.request ≡ lookup_request k most = (let w = f.waiting in cc) in
    fresh-value s l kept x aged r k most key i (rw q at f.made)

-- ---- the claim

abbrev pub AgedIn : Ends.Ends → Type 0
AgedIn e = Aged (view e.supervisor) e.log

pub call-ages : (e : Ends.Ends) → Both e → AgedIn e → (t : Ends.EndCall) → EndCallTyped t → AgedIn (ends_after e t)
unfolding ends_after
call-ages e both a (Ends.main m) typed = main-ages (view e.supervisor) e.log a m.call _ _ _
call-ages e both a (Ends.supervisor m) typed =
    let k = (SupervisorHistory.one_call e.supervisor m both.supervisor typed).leaves.0 in
    rw k (supervisor-ages (view e.supervisor) e.log a m typed _)

-- under the number n
abbrev AgedUnder : ℕ → Ends.Ends → Type 0
AgedUnder n e = AgedIn e × FromMainUnder n e

keeps-aged : (n : ℕ) (e : Ends.Ends) → Both e → AgedUnder n e → (t : Ends.EndCall) → EndCallTyped t → WireUnder n e t
    → AgedUnder n (ends_after e t)
keeps-aged n e both (a, from) t typed w = (call-ages e both a t typed, keeps-from-main n e from t w)

call-aged : (n : ℕ) (e : Ends.Ends) → Both e → AgedUnder n e → (t : Ends.EndCall) → EndCallTyped t → WireUnder n e t
    → UnderNumber n (CallOf FreshValue) e t × AgedUnder n (ends_after e t)
call-aged n e both (a, from) t typed w = (
  λ z. call-so Fresh FreshValue e (value-fresh (main_view e.main) e.log both.kept (view e.supervisor) a) t
      (answer-fresh n e both from t typed w z),
  keeps-aged n e both (a, from) t typed w,
)

together-aged : (s : BothStarts) → AgedIn (ends_begun s)
unfolding Received.received_since_all Supervisor.left_meant
together-aged s =
    let f = factory_of s.start_data in
    let k =
    (SupervisorHistory.started s.supervisor_parts s.supervisor_bytes s.supervisor_lent s.start_data s.start_typed
    s.supervisor_accepted).0 in
    rw k (record { since = (by_frames f []).2; set = λ k key. record { holds = fresh_holds key f; low = omega arith }; each = tt })

pub begun-aged : (e : Ends.Ends) → Begun e → AgedIn e
begun-aged = begun-else AgedIn together-aged call-ages

begun-aged-under : (n : ℕ) (e : Ends.Ends) → Begun e → AgedUnder n e
begun-aged-under n e b = (begun-aged e b, begun-from-main (RequestUnder n) e b)

pub list_age : ListAge
list_age n e b ts t w = each-call (AgedUnder n) (WireUnder n) _ (call-aged n) e (begun-both e b) (begun-aged-under n e b) ts t w

-- ---- against an earlier moment

-- with what is known of the frames since then, and so of the first of them
module _ (e₀ : Ends.Ends) (Is : List (List ℕ) → Type 0) (fewer : (fs gs : List (List ℕ)) → Is (fs ++ gs) → Is fs) where
  -- frames since then, and where the keys' values come from behind them
  pub record Behind (fs : List (List ℕ)) (o : ℕ → Origin) : Type 0 where
    pub later : List (List ℕ)
    pub frames : fs ≡ handled_frames e₀ ++ later
    pub origin : (k : ℕ) → o k ≡ since_more (e₀.log.origin k) (requests_in later)
    known : Is later

  behind_more : (fs gs : List (List ℕ)) (o p : ℕ → Origin) → ((k : ℕ) → p k ≡ since_more (o k) (requests_in gs)) → (b : Behind fs o)
      → Is (b.later ++ gs) → Behind (fs ++ gs) p
  behind_more fs gs o p e b i = record {
    later = b.later ++ gs;
    frames = rw b.frames (append_assoc (handled_frames e₀) b.later gs);
    origin = λ k. e k ∙ rw (b.origin k, requests-append b.later gs, append_assoc);
    known = i;
  }

  -- what was handled since then came behind those frames; what was handled before came when no more had been put out
  abbrev pub Placed : Handled → Type 0
  Placed h = Behind h.earlier h.origin ⊎ Front h.asked e₀.log.asked

  pub record Later (l : Log) : Type 0 where
    received : Behind (non_empty (split l.received).closed) l.origin
    pub each : Each Placed l.handled

  frames-placed : (asked : List Frame) (image : List ℕ) (fs : List (List ℕ)) (cleared : Bool) (x : State) (o : ℕ → Origin)
      (earlier : List (List ℕ)) (b : Behind earlier o)
      → Is (b.later ++ fs) → Each Placed (handled_by asked image cleared x o earlier fs)
  unfolding handled_by behind_more
  frames-placed asked image [] cleared x o earlier b i = tt
  frames-placed asked image (f ∷ fs) cleared x o earlier b i =
      let j : Is ((b.later ++ (f ∷ [])) ++ fs) = rw (append_snoc b.later f fs) i in
      let c = behind_more earlier (f ∷ []) o (origin_by o f) (λ k. refl) b (fewer (b.later ++ (f ∷ [])) fs j) in
      (inl b, frames-placed asked image fs (cleared || drops f) (frame_carried image x f) (origin_by o f) (earlier ++ (f ∷ [])) c j)

  -- what is known after a call
  abbrev pub KnownOf : Log → Type 0
  KnownOf l = (fs : List (List ℕ)) → non_empty (split l.received).closed ≡ handled_frames e₀ ++ fs → Is fs

  supervisor-later : (x : State) (l : Log) (m : Supervisor.Made) (waiting : List ℕ) → Stays m → Later l
      → KnownOf (supervisor_logged l x m waiting) → Later (supervisor_logged l x m waiting)
  unfolding supervisor_logged brought Received.received_since Received.frames_closed_by
  supervisor-later x l m waiting n h known =
      let w = l.received in
      let bs = Received.bytes_received_by m in
      let new = non_empty (closed_behind w bs) in
      let b = h.received in
      let e : non_empty (split (w ++ bs)).closed ≡ non_empty (split w).closed ++ new =
      rw (closed-join w bs, non_empty-append (split w).closed (closed_behind w bs)) in
      let i : Is (b.later ++ new) =
      (rw n.no_start at known) (b.later ++ new) (e ∙ rw b.frames (append_assoc (handled_frames e₀) b.later new)) in
      record {
        received = rw (n.no_start, e) (behind_more _ new l.origin _ (λ k. stays-since k w (l.origin k) m n) b i);
        each = each_append Placed l.handled _ h.each (frames-placed l.asked (image_lent m.call) new l.cleared x _ _ b i);
      }

  main-later : (l : Log) → Later l → (c : MainCall) (a : MainAnswer) (out : List ℕ) (n : ℕ) → Later (main_logged l c a out n)
  unfolding main_logged
  main-later l h c a out n =
      cond-by Later (restarts c a) _ _ (λ _. record { received = h.received; each = tt })
      (λ _. record { received = h.received; each = h.each })

  pub call-later : (e : Ends.Ends) (t : Ends.EndCall) → CallStays t → Later e.log → KnownOf (ends_after e t).log
      → Later (ends_after e t).log
  unfolding ends_after
  call-later e (Ends.main m) n h known = main-later e.log h m.call _ _ _
  call-later e (Ends.supervisor m) n h known = supervisor-later _ e.log m _ n h known

  -- at the moment itself
  pub moment-later : Both e₀ → Is [] → Later e₀.log
  unfolding requests_in
  moment-later both i = record {
    received =
        record { later = []; frames = sym (append-nil (handled_frames e₀)); origin = λ k. sym (more-none (e₀.log.origin k)); known = i };
    each = each-then _ _ (λ (h : Handled) f. inr f) e₀.log.handled both.kept.before;
  }

  -- the value, and what is known
  abbrev pub ValueKnown : ℕ → ℕ → ℕ → Message → Handled → Type 0
  ValueKnown n k most r h = (v : ValueSince e₀ n k most r h) × Is v.later

  module _ (aged₀ : AgedIn e₀) (s : MainState) (l : Log) (kept : Kept s l) (x : State) (aged : Aged x l) (later : Later l) (r : Message)
      (k most : ℕ) (key : ReadBack k) (i : most < 65536) (new : NotAsked e₀ s.newest) where
    abbrev Carried : Handled → Type 0
    Carried = CarriedOut s.newest (lookup_request k most) r

    -- the last set of all is the last since then, or else the value then
    last_since : (x : State) (o : Origin) → SetKey k o x → (ms : List Message) → o ≡ since_more (e₀.log.origin k) ms
        → Local.entry_of x k ≡ set_after k (Local.entry_of (view e₀.supervisor) k) ms
    last_since x o h ms e =
        let o₀ = e₀.log.origin k in
        let y = aged₀.set k key.key in
        let z = o₀.setting in
        let v : Local.entry_of (view e₀.supervisor) k ≡ after_sets k z o₀.requests =
        entry-held (view e₀.supervisor) key.key ∙ y.holds.held in
        entry-held x key.key ∙ h.holds.held
        ∙ rw (e, after-append k z o₀.requests ms, v)
        (after-sets k (after_sets k z o₀.requests) ms (sets-low k z o₀.requests y.low))

    since_at : (h : Handled) → Set h.origin h.state × Placed h → Carried h → ValueKnown s.newest k most r h
    since_at h z c = by z.1
      where
        by : Placed h → ValueKnown s.newest k most r h
        by (inl b) =
            let v = value_then s l kept x aged r k most key i h z.0 c in
            let y = last_since h.state (h.origin k) (z.0 k key.key) (requests_in b.later) (b.origin k) in
            (record { value_then = v; later = b.later; behind = b.frames; last_since = y }, b.known)
        by (inr front) = absurd (not-asked-by e₀ s.newest new h front _ c.put-out)

    value_since : Any Carried l.handled → Any (ValueKnown s.newest k most r) l.handled
    value_since a =
        each-any _ Carried _ since_at l.handled
        (each_and (λ (h : Handled). Set h.origin h.state) Placed _ (λ h y z. (y, z)) l.handled aged.each later.each) a

  abbrev pub Against : ℕ → MainState → Log → Message → Type 0
  Against k = ValueAgainst e₀ k ValueKnown

  against-fresh : (k : ℕ) → AgedIn e₀ → (s : MainState) (l : Log) → Kept s l → (x : State) → Aged x l → Later l → (r : Message)
      → Fresh s l r → Against k s l r
  against-fresh k a₀ s l kept x aged later r f most key i e new =
      let q : f.request ≡ lookup_request k most = (let w = f.waiting in cc) in
      value_since a₀ s l kept x aged later r k most key i new (rw q at f.made)

  module _ (n k : ℕ) where
    call-since : AgedIn e₀ → (e : Ends.Ends) → Both e → AgedUnder n e → Later e.log → (t : Ends.EndCall) → EndCallTyped t
        → WireUnder n e t → UnderNumber n (CallOf (Against k)) e t
    call-since a₀ e both (a, from) h t typed w z =
        call-so Fresh (Against k) e (against-fresh k a₀ (main_view e.main) e.log both.kept (view e.supervisor) a h) t
        (answer-fresh n e both from t typed w z)

    -- calls after that moment
    since-calls : AgedIn e₀ → (e : Ends.Ends) → Both e → AgedUnder n e → Later e.log → (ts : List Ends.EndCall) → Each EndCallTyped ts
        → Each CallStays ts → Always (WireUnder n) e ts → Always (λ x t. KnownOf (ends_after x t).log) e ts
        → Always (UnderNumber n (CallOf (Against k))) e ts
    since-calls a₀ e both a h [] typed stays w known = tt
    since-calls a₀ e both a h (t ∷ ts) typed stays w known = (
      call-since a₀ e both a h t typed.0 w.0,
      since-calls a₀ (ends_after e t) (keeps-both e both t typed.0) (keeps-aged n e both a t typed.0 w.0)
          (call-later e t stays.0 h known.0) ts typed.1 stays.1 w.1 known.1,
    )

    -- from a start of the main processor's end on
    pub against : (b : Ends.Ends) → Begun b → (ts : List Ends.EndCall) → e₀ ≡ ends_after_all b ts → Is [] → Each EndCallTyped ts
        → Always (WireUnder n) b ts
        → (us : List Ends.EndCall) → Each EndCallTyped us → Each CallStays us → Always (WireUnder n) e₀ us
        → Always (λ x t. KnownOf (ends_after x t).log) e₀ us → Always (UnderNumber n (CallOf (Against k))) e₀ us
    against b begins ts e i t w us u stays v known =
        let first = begun-aged-under n b begins in
        let h = rw (← e) at (after-calls (AgedUnder n) (WireUnder n) _ (call-aged n) b (begun-both b begins) first ts t w) in
        since-calls h.1.0 e₀ h.0 h.1 (moment-later h.0 i) us u stays v known

-- nothing is asked of the frames
nothing_known : (e₀ e : Ends.Ends) (ts : List Ends.EndCall)
    → Always (λ x t. KnownOf e₀ (λ fs. Unit {0}) (λ fs gs i. tt) (ends_after x t).log) e ts
nothing_known e₀ e [] = tt
nothing_known e₀ e (t ∷ ts) = (λ fs f. tt, nothing_known e₀ (ends_after e t) ts)

pub not_replaced : NotReplaced
not_replaced n k b begins ts us t u w stays v =
    let e = ends_after_all b ts in
    always-so (ValueAgainst e k (ValueKnown e (λ fs. Unit {0}) (λ fs gs i. tt))) (ValueAgainst e k (ValueSince e)) n
    (λ x l r a most key i o new. any-then _ _ (λ h v. v.0) l.handled (a most key i o new)) e us
    (against e (λ fs. Unit {0}) (λ fs gs i. tt) n k b begins ts refl tt t w us u stays v (nothing_known e e us))
