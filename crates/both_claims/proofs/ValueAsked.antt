-- The answer to a lookup is the value that the key had as the lookup was put out.
-- This asks that no further request of the caller's is put out before the answer.
-- It asks that the sets of the key are read in order and were answered by the supervisor.
-- It asks for no restore and no start of the supervisor since the main processor's end was started. Assumes nothing.
use mathlib.Core.Path.{◌≡◌, refl, ◌∙◌}
use mathlib.Core.Bool.{true, false}
use mathlib.Core.List.{List, [], ◌∷◌, ◌++◌}
use mathlib.Core.Logic.{◌⊎◌, inl, inr}
use mathlib.Core.Option.{Option, none, some}
use Prim.Native.Nat.{ℕ, ◌≤◌, ◌<◌}
use native.Mathlib.Omega.{arith}
use lib.Dec.{ltb}
use lib.ListN.{length}
use Rattle.octets.specs.Bytes.{Each, bytes}
use Rattle.octets.proofs.Conditions.{cond_both}
use Rattle.octets.proofs.Each.{each_append}
use Rattle.octets.proofs.Numbers.{bytes-each}
use Rattle.line.specs.Message.{Message, InRange}
use Rattle.line.specs.Frame.{frame}
use Rattle.line_claims.specs.Calls.{good_messages}
use Rattle.requester.specs.State.{is_some}
use Rattle.requester_claims.specs.View.{main_view}
use Rattle.requester_claims.specs.Histories.{MainMade}
use Rattle.requester_claims.specs.Histories as Main
use Rattle.requester_claims.specs.Numbers.{Frame}
use Rattle.supervisor.specs.Limits.{last_edition}
use Rattle.supervisor.specs.State.{Setting}
use Rattle.supervisor.specs.Local
use Rattle.supervisor.specs.Local.{entry_of, fitted}
use Rattle.supervisor_claims.specs.View.{view}
use Rattle.supervisor_claims.specs.LastSet.{requests_in, set_by, fitted_of, ReadBack}
use Rattle.both_claims.specs.Ends
use Rattle.both_claims.specs.Ends.{Any, Handled, Log, is_set_of, sets_among, SetsInOrder, SetsInOrderAfter, sets_read_by, ends_after_all}
use Rattle.both_claims.specs.Ends.{Always, EndCallTyped, ends_after, CallOf, UnderNumber, GoesOn, NotAsked, NotOlder, NoRequest}
use Rattle.both_claims.specs.Ends.{HadValue, lookup_request, as_message}
use Rattle.both_claims.proofs.ListAge.{KnownOf, ValueKnown, Against, against}
use Rattle.both_claims.proofs.InOrderAge.{EachSet, sets-fewer, no-set, ReadSince, read_known, read-not-older, call-reads, first_read}
use Rattle.both_claims.proofs.InOrderAge.{sets-from-main, stays_of, value_stays}
use Rattle.both_claims.proofs.NeverReplaced.{Below, Moment, moment, set-newer}
use Rattle.both_claims.proofs.laws.Lists.{any-so, each_right, each-then, each_and, each-any}
use Rattle.both_claims.proofs.laws.SetsAmong.{sets-append, sets-each, sets-all, set-after-only}
use Rattle.both_claims.proofs.laws.Kept.{PutOut}
use Rattle.both_claims.proofs.laws.BothCalls.{Both, keeps-both, always-second, call-so}
use Rattle.both_claims.proofs.laws.SetsRead.{NotNewer, sets-known, SinceMomentIn, put-since, call-since}
use Rattle.both_claims.specs.BothEnds.{ValueAsked}

-- ---- what is read since the lookup was put out

-- the value alone counts
value-fits : (most : ℕ) (x y : Setting) → x.value ≡ y.value
    → ((fitted_of most x).result ≡ (fitted_of most y).result) × ((fitted_of most x).value ≡ (fitted_of most y).value)
unfolding fitted
value-fits most x y e = rw e (by y.value)
  where
    by : (v : Option (List ℕ))
        → let f = fitted most x.edition v in let g = fitted most y.edition v in (f.result ≡ g.result) × (f.value ≡ g.value)
    by none = (refl, refl)
    by (some v) =
        cond_both (λ (f g : Local.Found). (f.result ≡ g.result) × (f.value ≡ g.value)) (ltb most (length v)) (λ _. (refl, refl))
        (λ _. (refl, refl))

module _ (k : ℕ) (e : Ends.Ends) where
  -- a set of key k no older than those that had been read by that moment, nor newer than all of them
  abbrev Asked : Message → Type 0
  Asked m = NotOlder k e m × Any (λ (y : Message). m.sequence ≤ y.sequence) (sets_read_by k e)

  abbrev KnownAsked : Log → Type 0
  KnownAsked = KnownOf e (EachSet k Asked) (sets-fewer k Asked)

  asked-known : (x : Ends.Ends) → Both x → SetsInOrder k x.log → ReadSince e x.log → SinceMomentIn k e x → KnownAsked x.log
  asked-known x both o r h =
      read_known k e Asked l r
      (each_and _ _ Asked (λ m a b. (a, b)) later (read-not-older k e (main_view x.main) l both.kept o r) not-newer)
    where
      l : Log
      l = x.log

      later : List Message
      later = sets_among k (good_messages r.later)

      P : Message → Type 0
      P m = Any (λ (y : Message). m.sequence ≤ y.sequence) (sets_read_by k e)

      -- each was put out
      put-out : (m : Message) → InRange m × (is_set_of k m ≡ true) → Any (λ (x : Frame). x.bytes ≡ frame m) l.asked → P m
      put-out m (range, set) a =
          any-so _ (λ x z. z) l.asked
          (each-any (NotNewer k e.log.heard) (λ (x : Frame). x.bytes ≡ frame m) (λ (x : Frame). P m) (λ x f b. f m range b set)
          l.asked h.asked a)

      not-newer : Each P later
      not-newer =
          each_right P (sets_read_by k e) later
          (rw (r.heard, sets-append k e.log.heard (good_messages r.later)) at
          (each_and _ _ P put-out (sets_among k l.heard)
          (each_and InRange _ _ (λ m a b. (a, b)) (sets_among k l.heard) (sets-each k InRange l.heard both.kept.heard)
          (sets-all k l.heard))
          (sets-from-main k l o)))

  -- calls that put nothing new out
  asked-calls : (x : Ends.Ends) → Both x → ReadSince e x.log → SinceMomentIn k e x → (us : List Ends.EndCall) → Each EndCallTyped us
      → Always GoesOn x us → Always NoRequest x us
      → Always (SetsInOrderAfter k) x us → Always (λ y t. SinceMomentIn k e y × KnownAsked (ends_after y t).log) x us
  asked-calls x both r h [] typed g n o = tt
  asked-calls x both r h (t ∷ us) typed g n o =
      let b = keeps-both x both t typed.0 in
      let z = call-reads e x t g.0 r in
      let i = call-since k e x both h t g.0 n.0 in
      ((h, asked-known (ends_after x t) b o.0 z i), asked-calls (ends_after x t) b z i us typed.1 g.1 n.1 o.1)

  -- ---- the value

  module _ (b : Ends.Ends) (now : Moment k b e) (most : ℕ) (key : ReadBack k) where
    abbrev had : Setting
    had = entry_of (view e.supervisor) k

    below_none : (m : Message) → Each (Below m) (sets_read_by k e) → Any (λ (y : Message). m.sequence ≤ y.sequence) (sets_read_by k e) → ⊥
    below_none m h a =
        any-so _ (λ y z. z) (sets_read_by k e)
        (each-any (Below m) _ (λ (y : Message). ⊥) (λ y l n. omega (arith, l, n)) (sets_read_by k e) h a)

    set_same : (m : Message) → Asked m → (u : List ℕ) → set_by k m ≡ some u → had.edition < last_edition → ⊥ ⊎ (had.value ≡ some u)
    set_same m (q, f) u sets low = by (set-newer k b e now key.key m q u sets low)
      where
        by : Each (Below m) (sets_read_by k e) ⊎ (had.value ≡ some u) → ⊥ ⊎ (had.value ≡ some u)
        by (inl h) = inl (below_none m h f)
        by (inr h) = inr h

    value_same : (n : ℕ) (r : Message) (h : Handled) → ValueKnown e (EachSet k Asked) (sets-fewer k Asked) n k most r h
        → let f = fitted_of most had in r.payload ≡ f.result ∷ f.value
    value_same n r h (v, known) =
        let ss = sets_among k (requests_in v.later) in
        let z : (entry_of h.state k).value ≡ had.value =
        rw (v.last_since, ← set-after-only k had v.later) (value_stays k had ss (each-then Asked _ set_same ss known)) in
        let w = value-fits most (entry_of h.state k) had z in
        v.value_then.value ∙ rw (w.0, w.1)

    -- the lookup's number is new
    not-asked : (x : Ends.Ends) → SinceMomentIn k e x → NotAsked e (main_view x.main).newest
    not-asked x h =
        each-then (PutOut (main_view e.main)) _ (λ (y : Frame) p n. omega (arith, p.agrees.most, n, h.above)) e.log.asked
        now.both.kept.asked

    asked-values : (n : ℕ) → most < 65536 → (x : Ends.Ends) (us : List Ends.EndCall)
        → Always (λ y t. SinceMomentIn k e y × KnownAsked (ends_after y t).log) x us
        → Always (UnderNumber n (CallOf (Against e (EachSet k Asked) (sets-fewer k Asked) k))) x us
        → Always (UnderNumber n (CallOf (HadValue e k most))) x us
    asked-values n i x [] s h = tt
    asked-values n i x (t ∷ us) s h = (
      λ z. call-so (Against e (EachSet k Asked) (sets-fewer k Asked) k) (HadValue e k most) x
          (λ r a q. any-so _ (value_same (main_view x.main).newest r) x.log.handled (a most key i q (not-asked x s.0.0))) t
          (h.0 z),
      asked-values n i (ends_after x t) us s.1 h.1,
    )

-- a lookup is no set
lookup-no-set : (k j most : ℕ) → is_some (set_by k (as_message 0 (lookup_request j most))) ≡ false
unfolding set_by
lookup-no-set k j most = refl

pub value_asked : ValueAsked
value_asked n k b begins ts us t u (on, sets) most key i j room count put-out more quiet =
    let e = ends_after_all b ts in
    let c : MainMade = record { lent = j; call = Main.request 0x0e (bytes 1 k ++ bytes 2 most) room } in
    let a = ends_after e (Ends.main c) in
    let all = Ends.main c ∷ us in
    let P = Asked k e in
    let typed : EndCallTyped (Ends.main c) = (omega arith, each_append _ (bytes 1 k) (bytes 2 most) (bytes-each 1 k) (bytes-each 2 most)) in
    let now = moment k b begins ts t on.goes_on on.sets in
    let known = sets-known k b begins ts t sets in
    let since = put-since k e now.both c typed known count put-out (lookup_request k most) refl (lookup-no-set k k most) in
    let both = keeps-both e now.both (Ends.main c) typed in
    let reads = call-reads e e (Ends.main c) more.goes_on.0 (first_read e) in
    let calls = asked-calls k e a both reads since us u more.goes_on.1 quiet more.sets.1 in
    asked-values k e b now most key n i a us calls
    (against e (EachSet k P) (sets-fewer k P) n k b begins ts refl (no-set k P) t on.wire all (typed, u) (stays_of e all more.goes_on)
    more.wire
    (asked-known k e a both more.sets.0 reads since, always-second (λ y z. SinceMomentIn k e y) _ a us calls)).1
