-- A set of a key was put out, and since then no other of that key. Every set of the key that goes out since has its value.
-- A lookup goes out under a newer number. Assumes nothing.
use mathlib.Core.Path.{◌≡◌, refl, sym, ap, ◌∙◌}
use mathlib.Core.Bool.{true, false, false≢true}
use mathlib.Core.List.{List, [], ◌++◌, append_assoc}
use mathlib.Core.Logic.{◌⊎◌, inl, inr}
use mathlib.Core.Option.{Option, none, some}
use Prim.Native.Nat.{ℕ, ◌%◌, ◌≤◌, ◌<◌}
use native.Mathlib.Omega.{arith}
use lib.Dec.{eqb}
use lib.ListN.{length}
use Rattle.octets.specs.Bytes.{Each, bytes}
use Rattle.octets.proofs.Conditions.{cond-by}
use Rattle.octets.proofs.Each.{each_append}
use Rattle.line.specs.Message.{Message, InRange}
use Rattle.line.specs.Frame.{frame}
use Rattle.requester.specs.Limits.{last_number}
use Rattle.requester.specs.State.{Request, RecoveryStep, fetch, acknowledge, alert, step_request, outstanding, outstanding_of}
use Rattle.requester.specs.State.{request_frame, MainState}
use Rattle.requester.specs.Requester.{stays_out, keep}
use Rattle.requester_claims.specs.View.{main_view}
use Rattle.requester_claims.proofs.History as MainHistory
use Rattle.requester_claims.specs.Histories.{MainMeans, MainCall, MainMade, main_made}
use Rattle.requester_claims.specs.Numbers.{Frame}
use Rattle.requester_claims.proofs.Numbers.{frames_of, framed}
use Rattle.responder.specs.Requests.{wrong_value_length}
use Rattle.supervisor_claims.specs.LastSet.{set_by, value_for}
use Rattle.both_claims.specs.Ends
use Rattle.both_claims.specs.Ends.{Log, MainTyped, EndCallTyped, ends_after, main_logged, supervisor_logged, request_of, puts_request}
use Rattle.both_claims.specs.Ends.{as_message, lookup_request, GoesOn}
use Rattle.both_claims.specs.Exchanges.{set_request}
use Rattle.both_claims.specs.SetThenGot.{sets_key, NoNewSet}
use Rattle.both_claims.proofs.laws.Lists.{none-some}
use Rattle.both_claims.proofs.laws.Table.{frame_same}
use Rattle.both_claims.proofs.laws.SetsAmong.{set-passes}
use Rattle.both_claims.proofs.laws.Ranges.{Ranged, outstanding-ranged, ranged-message}
use Rattle.both_claims.proofs.laws.KeptRequest.{keeps, answers, ends, PutsNew, RequestBy}
use Rattle.both_claims.proofs.laws.SetsRead.{called-ranged, leaves, request-by, before, does, logged, GoesOnMeant}
use Rattle.both_claims.proofs.laws.BothCalls.{Both}

-- ---- sets to one value

module _ (k : ℕ) (v : List ℕ) where
  -- where it is a set of key k, its value is v
  abbrev pub SetsTo : Message → Type 0
  SetsTo m = (u : List ℕ) → set_by k m ≡ some u → u ≡ v

  abbrev RequestTo : Option Request → Type 0
  RequestTo none = Unit {0}
  RequestTo (some q) = SetsTo (as_message 0 q)

  -- a recovery's requests are no sets
  outstanding-to : (t : Option RecoveryStep) (o : Option Request) → RequestTo o → RequestTo (outstanding_of t o)
  unfolding step_request set_by
  outstanding-to none o h = h
  outstanding-to (some fetch) o h = λ u e. absurd (none-some e)
  outstanding-to (some acknowledge) o h = λ u e. absurd (none-some e)
  outstanding-to (some alert) o h = λ u e. absurd (none-some e)

  keep-to : (q : Request) → SetsTo (as_message 0 q) → RequestTo (keep q)
  keep-to q h = cond-by RequestTo (stays_out q.command) (some q) none (λ _. h) (λ _. tt)

  same-to : SetsTo (as_message 0 (set_request k v))
  unfolding set_by value_for bytes
  same-to u =
      let P : Option (List ℕ) → Type 0 = λ o. o ≡ some u → u ≡ v in
      cond-by P (eqb (k % 256) k) _ none
      (λ _. cond-by P (wrong_value_length k (length v)) none (some v) (λ _ e. absurd (none-some e)) (λ _ e. cc))
      (λ _ e. absurd (none-some e))

  other-to : (o : Option Request) → sets_key k o ≡ false → RequestTo o
  other-to none h = tt
  other-to (some q) h = λ u e. absurd (false≢true (sym h ∙ set-passes k 0 q (omega arith) (rw e)))

  -- a frame of one
  abbrev pub FrameTo : Frame → Type 0
  FrameTo x = (m : Message) → InRange m → x.bytes ≡ frame m → SetsTo m

  framed-to : (n : ℕ) (q : Request) → InRange (as_message n q) → SetsTo (as_message 0 q) → Each FrameTo (framed n q)
  unfolding request_frame set_by
  framed-to n q range h = (λ m r e. let z : m ≡ as_message n q = frame_same r range (sym e) in rw z h, tt)

  -- ---- since a set of key k to v was put out, at the moment e₀

  module _ (e₀ : Ends.Ends) where
    pub record SinceSet (s : MainState) (l : Log) : Type 0 where
      -- the frames put out since
      pub more : List Frame
      pub asked : l.asked ≡ e₀.log.asked ++ more
      pub each : Each FrameTo more
      kept : RequestTo s.kept
      pub above : (main_view e₀.main).newest < s.newest

    abbrev pub SinceSetIn : Ends.Ends → Type 0
    SinceSetIn e = SinceSet (main_view e.main) e.log

    -- frames that a call puts out
    puts-to : (s : MainState) (c : MainCall) (x : MainMeans) → MainTyped c → (p : PutsNew s c x) → RequestTo (request_of c)
        → Each FrameTo (frames_of x) × RequestTo x.state.kept
    puts-to s c x typed p h =
        let q = rw p.called at h in
        let n : x.state.newest ≤ last_number = omega (arith, p.next, p.not_last) in (
          rw p.frame (framed-to x.state.newest p.request (ranged-message _ _ n (called-ranged c typed s x p)) q),
          rw p.kept (keep-to p.request q),
        )

    sent-to : (s : MainState) → Ranged s → RequestTo s.kept → (fs : List Frame)
        → (fs ≡ []) ⊎ ((q : Request) × (outstanding s ≡ some q) × (fs ≡ framed s.newest q)) → Each FrameTo fs
    sent-to s ranged h fs (inl e) = rw e tt
    sent-to s ranged h fs (inr (q, o, e)) =
        rw e
        (framed-to s.newest q (ranged-message s.newest q ranged.newest (outstanding-ranged s ranged q o))
        (rw o at (outstanding-to s.recovery s.kept h)))

    module _ (e : Ends.Ends) (both : Both e) (m : MainMade) (typed : MainTyped m.call) (goes : GoesOnMeant k e both m) where
      abbrev then : MainMeans
      then = does k e both m

      -- it adds frames to those put out since
      adds : SinceSetIn e → Each FrameTo (frames_of then) → RequestTo then.state.kept → (before k e both m).newest ≤ then.state.newest
          → SinceSet then.state (logged k e both m)
      unfolding main_logged
      adds h f q n =
          rw goes
          (record {
            more = h.more ++ frames_of then;
            asked = rw h.asked (append_assoc e₀.log.asked h.more (frames_of then));
            each = each_append FrameTo h.more (frames_of then) h.each f;
            kept = q;
            above = omega (arith, n, h.above);
          })

      main-since-set : SinceSetIn e → (puts_request m.call then.answer ≡ true → sets_key k (request_of m.call) ≡ false)
          → RequestBy (before k e both m) m.call then → SinceSet then.state (logged k e both m)
      main-since-set h new (inl (f, p)) =
          let z = puts-to _ m.call then typed p (other-to (request_of m.call) (new f)) in adds h z.0 z.1 (omega (arith, p.next))
      main-since-set h new (inr (f, keeps o n fs)) =
          adds h (sent-to _ both.kept.ranged h.kept (frames_of then) fs) (rw o h.kept) n
      main-since-set h new (inr (f, answers i r a o n fs)) = adds h (rw fs tt) (rw o tt) (omega (arith, n))
      main-since-set h new (inr (f, ends g o n fs)) = adds h (rw fs tt) (rw o tt) (omega (arith, n))

    -- a call that puts no new set of key k out
    pub call-since-set : (e : Ends.Ends) → Both e → SinceSetIn e → (t : Ends.EndCall) → EndCallTyped t → GoesOn e t → NoNewSet k e t
        → SinceSetIn (ends_after e t)
    unfolding ends_after supervisor_logged
    call-since-set e both h (Ends.main m) typed g n =
        let a = (MainHistory.one_call e.main m both.main).answer in
        let goes = rw a at g in
        leaves k e both m SinceSet (main-since-set e both m typed goes h (rw a at n) (request-by k e both m goes))
    call-since-set e both h (Ends.supervisor m) typed g n =
        record { more = h.more; asked = h.asked; each = h.each; kept = h.kept; above = h.above }

  -- the call that puts the set out
  module _ (e : Ends.Ends) (both : Both e) (m : MainMade) (typed : MainTyped m.call) (goes : GoesOnMeant k e both m) where
    puts-set : PutsNew (before k e both m) m.call (does k e both m) → RequestTo (request_of m.call)
        → SinceSet e (does k e both m).state (logged k e both m)
    unfolding main_logged
    puts-set p q =
        let z = puts-to e _ m.call (does k e both m) typed p q in
        rw goes
        (record { more = frames_of (does k e both m); asked = refl; each = z.0; kept = z.1; above = omega (arith, p.next) })

    first-since-set : puts_request m.call (does k e both m).answer ≡ true → RequestTo (request_of m.call)
        → RequestBy (before k e both m) m.call (does k e both m) → SinceSetIn e (ends_after e (Ends.main m))
    first-since-set put q (inl (f, p)) = leaves k e both m (SinceSet e) (puts-set p q)
    first-since-set put q (inr (f, p)) = absurd (false≢true (sym f ∙ put))

  pub put-since-set : (e : Ends.Ends) (both : Both e) (m : MainMade) → MainTyped m.call → GoesOn e (Ends.main m)
      → request_of m.call ≡ some (set_request k v) → puts_request m.call (main_made e.main m).answer ≡ true
      → SinceSetIn e (ends_after e (Ends.main m))
  put-since-set e both m typed g q put =
      let a = (MainHistory.one_call e.main m both.main).answer in
      let goes = rw a at g in
      first-since-set e both m typed goes (rw a at put) (rw q same-to) (request-by k e both m goes)

-- ---- a lookup that is put out since a set was outstanding, at the moment e₀

-- a recovery's requests have lower commands than a lookup or a set
step-low : (t : RecoveryStep) → (step_request t).command ≤ 0x0a
unfolding step_request
step-low fetch = omega arith
step-low acknowledge = omega arith
step-low alert = omega arith

is-kept : (t : Option RecoveryStep) (o : Option Request) (q : Request) → 0x0a < q.command → outstanding_of t o ≡ some q → o ≡ some q
is-kept none o q h e = e
is-kept (some t) o q h e = let z : step_request t ≡ q = cc in absurd (omega (arith, h, step-low t, ap (λ (r : Request). r.command) z))

-- no lookup
abbrev NoLookup : Option Request → Type 0
NoLookup none = Unit {0}
NoLookup (some q) = q.command ≡ 0x0e → ⊥

module _ (e₀ : Ends.Ends) where
  abbrev Newer : MainState → Type 0
  Newer s = ((main_view e₀.main).newest < s.newest) ⊎ NoLookup s.kept

  pub record Lookups (s : MainState) : Type 0 where
    least : (main_view e₀.main).newest ≤ s.newest
    newer : Newer s

  abbrev pub LookupsIn : Ends.Ends → Type 0
  LookupsIn e = Lookups (main_view e.main)

  main-lookups : (s : MainState) (c : MainCall) (x : MainMeans) → Lookups s → RequestBy s c x → Lookups x.state
  main-lookups s c x h (inl (f, p)) = record { least = omega (arith, h.least, p.next); newer = inl (omega (arith, h.least, p.next)) }
  main-lookups s c x h (inr (f, keeps o n fs)) = record { least = omega (arith, h.least, n); newer = by h.newer }
    where
      by : Newer s → Newer x.state
      by (inl l) = inl (omega (arith, l, n))
      by (inr l) = inr (rw o l)
  main-lookups s c x h (inr (f, answers i r a o n fs)) = record { least = omega (arith, h.least, n); newer = inr (rw o tt) }
  main-lookups s c x h (inr (f, ends g o n fs)) = record { least = omega (arith, h.least, n); newer = inr (rw o tt) }

  pub call-lookups : (e : Ends.Ends) → Both e → LookupsIn e → (t : Ends.EndCall) → GoesOn e t → LookupsIn (ends_after e t)
  unfolding ends_after
  call-lookups e both h (Ends.main m) g =
      let a = (MainHistory.one_call e.main m both.main).answer in
      leaves 0 e both m (λ s l. Lookups s) (main-lookups _ m.call _ h (request-by 0 e both m (rw a at g)))
  call-lookups e both h (Ends.supervisor m) g = h

  pub first-lookups : (k : ℕ) (v : List ℕ) → outstanding (main_view e₀.main) ≡ some (set_request k v) → LookupsIn e₀
  first-lookups k v o =
      let s = main_view e₀.main in
      record { least = omega arith; newer = inr (rw (is-kept s.recovery s.kept (set_request k v) (omega arith) o) (λ e. omega arith)) }

  -- its number is new
  pub lookup-newer : (s : MainState) → Lookups s → (k most : ℕ) → outstanding s ≡ some (lookup_request k most)
      → (main_view e₀.main).newest < s.newest
  lookup-newer s h k most o = by h.newer
    where
      by : Newer s → (main_view e₀.main).newest < s.newest
      by (inl l) = l
      by (inr l) = absurd ((rw (is-kept s.recovery s.kept (lookup_request k most) (omega arith) o) at l) refl)
