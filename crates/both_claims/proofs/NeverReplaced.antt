-- An answer to a lookup is no value that was replaced before the lookup was put out, unless a newer set sets it.
-- This asks that the sets of the key are read in order. It also asks for no restore and no start of the supervisor since the main
-- processor's end was started. Assumes nothing.
use mathlib.Core.Path.{◌≡◌, refl, sym, ap, ◌∙◌}
use mathlib.Core.List.{List, [], ◌∷◌}
use mathlib.Core.Logic.{◌⊎◌, inl, inr}
use mathlib.Core.Option.{some}
use Prim.Native.Nat.{ℕ, ◌<◌}
use native.Mathlib.Omega.{arith}
use lib.Dec.{eqb}
use borrow.Author.Tests.{eqb-true}
use Rattle.octets.specs.Bytes.{Each}
use Rattle.octets.proofs.Conditions.{cond-by}
use Rattle.line.specs.Message.{Message}
use Rattle.line_claims.specs.Calls.{good_messages}
use Rattle.requester_claims.specs.View.{main_view}
use Rattle.supervisor.specs.Limits.{SettingsKey, last_edition}
use Rattle.supervisor.specs.State.{Setting}
use Rattle.supervisor.specs.Local.{entry_of}
use Rattle.supervisor_claims.specs.View.{view}
use Rattle.supervisor_claims.specs.LastSet.{requests_in, set_by}
use Rattle.supervisor_claims.proofs.claims.LastSetLaws.{onto, after_sets, after-append, entry-held}
use Rattle.both_claims.specs.Ends
use Rattle.both_claims.specs.Ends.{Handled, sets_among, empty, SetsInOrder, SetsInOrderAfter, Begun, together, ends_after_all, Always}
use Rattle.both_claims.specs.Ends.{EndCallTyped, ends_after, main_logged, GoesOn, sets_read_by, NotOlder, ValueAgainst, ValueNotOlder}
use Rattle.both_claims.specs.Ends.{ValueNewer}
use Rattle.both_claims.proofs.ListAge.{AgedIn, call-ages, begun-aged}
use Rattle.both_claims.proofs.InOrderAge.{Pairs, Ordered, sets-ordered, ReadSince, call-reads, first_read, value-from}
use Rattle.both_claims.proofs.InOrderAge.{list_not_older}
use Rattle.both_claims.proofs.laws.Lists.{any-then, each-then, each_and}
use Rattle.both_claims.proofs.laws.SetsAmong.{after-sets-only, set-after-only}
use Rattle.both_claims.proofs.laws.BothCalls.{Both, always-so, any-calls, begun-both}
use Rattle.both_claims.specs.BothEnds.{NeverReplaced}

-- ---- a set that comes once more

abbrev pub Below : Message → Message → Type 0
Below m y = y.sequence < m.sequence

none_left : {A : Type 0} (xs : List A) → Each (λ (x : A). ⊥) xs → xs ≡ []
none_left [] h = refl
none_left (x ∷ xs) h = absurd h.0

set_value : (x : Setting) (v : List ℕ) → (onto x (some v)).edition < last_edition → (onto x (some v)).value ≡ some v
set_value x v =
    cond-by (λ (y : Setting). y.edition < last_edition → y.value ≡ some v) (eqb x.edition last_edition) _ _
    (λ e l. absurd (omega (arith, eqb-true x.edition last_edition e, l))) (λ e l. refl)

-- A set m of key k stands behind sets of key k in order, none of which is newer.
-- Then all of them are older, or the last is m itself and key k has its value.
module _ (k : ℕ) (m : Message) (v : List ℕ) (sets : set_by k m ≡ some v) where
  not-both : (z : Message) → Ordered m z → Below m z → ⊥
  not-both z (inl h) l = omega (arith, h, l)
  not-both z (inr e) l = omega (arith, rw (← e) at l)

  -- m itself, with nothing behind it
  itself : (x : Setting) (y : Message) → y ≡ m → (ss : List Message) → Each (Ordered y) ss → Each (Below m) ss
      → (after_sets k x (y ∷ ss)).edition < last_edition → (after_sets k x (y ∷ ss)).value ≡ some v
  unfolding after_sets
  itself x y e ss h l = rw (none_left ss (each_and _ _ _ not-both ss (rw e at h) l), e, sets) (set_value x v)

  follows : (ss : List Message) (x : Setting) → Pairs Ordered ss → Each (λ (y : Message). Ordered y m) ss
      → (after_sets k x ss).edition < last_edition → Each (Below m) ss ⊎ ((after_sets k x ss).value ≡ some v)
  unfolding after_sets
  follows [] x p q low = inl tt
  follows (y ∷ ss) x p q low = by q.0 (follows ss (onto x (set_by k y)) p.1 q.1 low)
    where
      by : Ordered y m → Each (Below m) ss ⊎ ((after_sets k x (y ∷ ss)).value ≡ some v)
          → Each (Below m) (y ∷ ss) ⊎ ((after_sets k x (y ∷ ss)).value ≡ some v)
      by t (inr e) = inr e
      by (inl t) (inl l) = inl (t, l)
      by (inr t) (inl l) = inr (itself x y t ss p.0 l low)

-- ---- since the main processor's end was started

just-started : (k : ℕ) (b : Ends.Ends) → Begun b → SetsInOrder k b.log × (b.log.heard ≡ [])
unfolding ends_after main_logged sets_among
just-started k b (together s) = (empty, refl)
just-started k b (Ends.later s ts t l a) = rw a (empty, refl)

order-last : (k : ℕ) (e : Ends.Ends) → SetsInOrder k e.log → (ts : List Ends.EndCall) → Always (SetsInOrderAfter k) e ts
    → SetsInOrder k (ends_after_all e ts).log
unfolding ends_after_all
order-last k e h [] o = h
order-last k e h (t ∷ ts) o = order-last k (ends_after e t) o.0 ts o.1

read-last : (b e : Ends.Ends) → ReadSince b e.log → (ts : List Ends.EndCall) → Always GoesOn e ts → ReadSince b (ends_after_all e ts).log
unfolding ends_after_all
read-last b e r [] g = r
read-last b e r (t ∷ ts) g = read-last b (ends_after e t) (call-reads b e t g.0 r) ts g.1

-- a moment since
pub record Moment (k : ℕ) (b e : Ends.Ends) : Type 0 where
  empty : b.log.heard ≡ []
  pub both : Both e
  aged : AgedIn e
  read : ReadSince b e.log
  ordered : Pairs Ordered (sets_read_by k e)

pub moment : (k : ℕ) (b : Ends.Ends) → Begun b → (ts : List Ends.EndCall) → Each EndCallTyped ts → Always GoesOn b ts
    → Always (SetsInOrderAfter k) b ts → Moment k b (ends_after_all b ts)
moment k b begins ts t g o =
    let start = just-started k b begins in
    let known = any-calls AgedIn call-ages b (begun-both b begins) (begun-aged b begins) ts t in
    let e = ends_after_all b ts in
    record {
      empty = start.1;
      both = known.0;
      aged = known.1;
      read = read-last b b (first_read b) ts g;
      ordered = sets-ordered k (main_view e.main) e.log known.0.kept (order-last k b start.0 ts o);
    }

module _ (k : ℕ) (b e : Ends.Ends) (now : Moment k b e) (key : SettingsKey k) where
  abbrev had : Setting
  had = entry_of (view e.supervisor) k

  -- What key k has comes of the sets of it read by then, which are in order.
  -- A set of key k that is no older is newer than all of them, or sets the value that is there.
  pub set-newer : (m : Message) → NotOlder k e m → (u : List ℕ) → set_by k m ≡ some u → had.edition < last_edition
      → Each (Below m) (sets_read_by k e) ⊎ (had.value ≡ some u)
  set-newer m q u sets = rw (entry, sets-since) (follows k m u sets ss x (rw sets-since at now.ordered) (rw sets-since at q))
    where
      x : Setting
      x = after_sets k (b.log.origin k).setting (b.log.origin k).requests

      ss : List Message
      ss = sets_among k (good_messages now.read.later)

      sets-since : sets_read_by k e ≡ ss
      sets-since = ap (sets_among k) (rw now.empty at now.read.heard)

      entry : had ≡ after_sets k x ss
      entry =
          entry-held (view e.supervisor) key ∙ (now.aged.set k key).holds.held
          ∙ rw (now.read.origin k)
          (after-append k (b.log.origin k).setting (b.log.origin k).requests (requests_in now.read.later))
          ∙ sym (after-sets-only k x now.read.later)

  value-newer : (n most : ℕ) (r : Message) (h : Handled) → ValueNotOlder e n k most r h → ValueNewer e n k most r h
  value-newer n most r h v = record {
    value_since = v.value_since;
    from =
        let fs = v.value_since.later in
        let ss = sets_among k (requests_in fs) in
        rw (v.value_since.last_since, ← set-after-only k had fs)
        (value-from _ k had ss (each-then (NotOlder k e) _ set-newer ss v.not_older));
  }

pub never_replaced : NeverReplaced
never_replaced n k b begins ts us t u on more =
    let e = ends_after_all b ts in
    let now = moment k b begins ts t on.goes_on on.sets in
    always-so (ValueAgainst e k (ValueNotOlder e)) (ValueAgainst e k (ValueNewer e)) n
    (λ x l r a most key i q new. any-then _ _ (value-newer k b e now key.key x.newest most r) l.handled (a most key i q new)) e us
    (list_not_older n k b begins ts us t u on.wire more)
