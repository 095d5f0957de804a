-- How old a list can be where the sets of its key are read in order.
-- No set sets a lookup's answer if it is older than those that had been read by an earlier moment. Assumes nothing.
use mathlib.Core.Path.{◌≡◌, refl, sym, ◌∙◌}
use mathlib.Core.Bool.{Bool, true, false}
use mathlib.Core.List.{List, [], ◌∷◌, ◌++◌, map, append_assoc, append-nil}
use mathlib.Core.Logic.{◌⊎◌, inl, inr}
use mathlib.Core.Option.{Option, none, some}
use Prim.Native.Nat.{ℕ, zero, suc, ◌-◌, ◌≤◌, ◌<◌}
use native.Mathlib.Omega.{arith}
use lib.Dec.{ltb}
use lib.ListN.{take}
use borrow.Author.Tests.{ltb-true, ltb-false}
use Rattle.octets.specs.Bytes.{Each}
use Rattle.line.specs.Message.{Message, InRange}
use Rattle.line.specs.Frame.{frame, split, non_empty, closed_behind}
use Rattle.line.proofs.Pieces.{non_empty-append, closed-join}
use Rattle.line_claims.specs.Calls.{gathered, good_of, good_messages}
use Rattle.line_claims.proofs.ReaderClaim.{gathered-append}
use Rattle.requester.specs.State.{request_frame, MainState}
use Rattle.requester_claims.specs.View.{main_view}
use Rattle.requester_claims.specs.Numbers.{Frame, OnePerNumber}
use Rattle.supervisor.specs.Limits.{last_edition}
use Rattle.supervisor.specs.State.{Setting, State}
use Rattle.supervisor.specs.Local.{entry_of}
use Rattle.supervisor_claims.specs.View.{view}
use Rattle.supervisor_claims.specs.Histories as Supervisor
use Rattle.supervisor_claims.specs.FrameHistory as Received
use Rattle.supervisor_claims.specs.LastSet.{requests_in, set_by, listed_if, sets_of, successful, last_or, set_after, since_more}
use Rattle.supervisor_claims.proofs.claims.LastSetLaws.{requests-append}
use Rattle.both_claims.specs.Ends
use Rattle.both_claims.specs.Ends.{Any, Handled, Log, sets_among, InTurn, empty, past, read, SetsInOrder, SetsInOrderAfter}
use Rattle.both_claims.specs.Ends.{ends_after_all, Always, EndCallTyped, ends_after, main_logged, supervisor_logged, handled_frames}
use Rattle.both_claims.specs.Ends.{Stays, CallStays, GoesOn}
use Rattle.both_claims.specs.Ends.{sets_read_by, NotOlder, ValueAgainst, ValueNotOlder, as_message}
use Rattle.both_claims.proofs.ListAge.{more-none, stays-since, KnownOf, ValueKnown, against}
use Rattle.both_claims.proofs.laws.Lists.{any-so, any-or, any-then, each_left, each_right, each-then, each_and, each-any}
use Rattle.both_claims.proofs.laws.Lists.{turn-each, turn-images}
use Rattle.both_claims.proofs.laws.Table.{frame_same}
use Rattle.both_claims.proofs.laws.SetsAmong.{sets-append, sets-each, sets-requests, set-after-only}
use Rattle.both_claims.proofs.laws.Ranges.{RangedFrame}
use Rattle.both_claims.proofs.laws.Kept.{PutOut, Kept}
use Rattle.both_claims.proofs.laws.BothCalls.{Both, keeps-both, always-so, any-calls, begun-both}
use Rattle.both_claims.specs.BothEnds.{ListNotOlder}

-- ---- lists in order

-- each element with each behind it
abbrev pub Pairs : {A : Type 0} → (A → A → Type 0) → List A → Type 0
Pairs R [] = Unit {0}
Pairs R (x ∷ xs) = Each (R x) xs × Pairs R xs

-- one that comes again behind itself
turn-pairs : {A : Type 0} (R : A → A → Type 0) → ((x : A) → R x x) → {xs ys : List A} → InTurn A xs ys → Pairs R ys → Pairs R xs
turn-pairs R same empty h = tt
turn-pairs R same (past a) h = turn-pairs R same a h.1
turn-pairs R same (read {x = x} a) h = (turn-each (R x) a (same x, h.0), turn-pairs R same a h)

-- the elements of a second part are behind all of the first
pub pairs-across : {A : Type 0} (R : A → A → Type 0) (xs ys : List A) → Pairs R (xs ++ ys) → Each (λ (y : A). Each (λ (x : A). R x y) xs) ys
pairs-across {A} R [] ys h = all ys
  where
    all : (ys : List A) → Each (λ (y : A). Unit {0}) ys
    all [] = tt
    all (y ∷ ys) = (tt, all ys)
pairs-across {A} R (x ∷ xs) ys h =
    each_and (R x) (λ (y : A). Each (λ (z : A). R z y) xs) _ (λ y a b. (a, b)) ys (each_right (R x) xs ys h.0)
    (pairs-across R xs ys h.1)

pairs-map : {A B : Type 0} (f : A → B) (R : B → B → Type 0) (xs : List A) → Pairs (λ (x y : A). R (f x) (f y)) xs → Pairs R (map f xs)
pairs-map f R [] h = tt
pairs-map {A} f R (x ∷ xs) h = (each xs h.0, pairs-map f R xs h.1)
  where
    each : (ys : List A) → Each (λ (y : A). R (f x) (f y)) ys → Each (R (f x)) (map f ys)
    each [] k = tt
    each (y ∷ ys) k = (k.0, each ys k.1)

pub same_rest : {A : Type 0} (xs ys zs : List A) → xs ++ ys ≡ xs ++ zs → ys ≡ zs
same_rest [] ys zs e = e
same_rest (x ∷ xs) ys zs e = same_rest xs ys zs (let z : xs ++ ys ≡ xs ++ zs = cc in z)

-- ---- the sets of a key that the supervisor has read

-- the second has a higher number, or they are one message
abbrev pub Ordered : Message → Message → Type 0
Ordered y m = (y.sequence < m.sequence) ⊎ (y ≡ m)

-- of the messages in range with these frames
abbrev FramesOrdered : List ℕ → List ℕ → Type 0
FramesOrdered b c = (y m : Message) → InRange y → InRange m → frame y ≡ b → frame m ≡ c → Ordered y m

asked-ordered : (x z : Frame) → RangedFrame x → RangedFrame z → (x.number ≤ z.number) × (z.number ≡ x.number → z.bytes ≡ x.bytes)
    → FramesOrdered x.bytes z.bytes
unfolding request_frame
asked-ordered x z p q h y m i j e f = by (ltb x.number z.number) refl
  where
    first : y ≡ as_message x.number p.request
    first = frame_same i p.in_range (e ∙ p.bytes)

    second : m ≡ as_message z.number q.request
    second = frame_same j q.in_range (f ∙ q.bytes)

    by : (t : Bool) → ltb x.number z.number ≡ t → Ordered y m
    by true k = inl (rw (first, second) (ltb-true x.number z.number k))
    by false k =
        let l = ltb-false x.number z.number k in
        let n : z.number ≡ x.number = omega (arith, l, h.0) in
        inr (frame_same i j (e ∙ sym (h.1 n) ∙ sym f))

asked-pairs : (xs : List Frame) → Each RangedFrame xs → OnePerNumber xs → Pairs (λ (x z : Frame). FramesOrdered x.bytes z.bytes) xs
asked-pairs [] r h = tt
asked-pairs (x ∷ xs) r h = (each_and RangedFrame _ _ (λ z q k. asked-ordered x z r.0 q k) xs r.1 h.0, asked-pairs xs r.1 h.1)

ordered-messages : (ms : List Message) → Each InRange ms → Pairs FramesOrdered (map frame ms) → Pairs Ordered ms
ordered-messages [] r h = tt
ordered-messages (y ∷ ms) r h = (each ms r.1 h.0, ordered-messages ms r.1 h.1)
  where
    each : (ks : List Message) → Each InRange ks → Each (FramesOrdered (frame y)) (map frame ks) → Each (Ordered y) ks
    each [] i k = tt
    each (m ∷ ks) i k = (k.0 y m r.0 i.0 refl refl, each ks i.1 k.1)

frames-same : (b : List ℕ) → FramesOrdered b b
frames-same b y m i j e f = inr (frame_same i j (e ∙ sym f))

-- of what is read in the order put out: numbers never fall, and what comes again under one number is the same message
pub turn-ordered : (s : MainState) (l : Log) → Kept s l → (ms : List Message) → Each InRange ms
    → InTurn (List ℕ) (map frame ms) (map (λ (x : Frame). x.bytes) l.asked) → Pairs Ordered ms
turn-ordered s l kept ms range o =
    let ranged = each-then (PutOut s) RangedFrame (λ x w. w.ranged) l.asked kept.asked in
    ordered-messages ms range
    (turn-pairs FramesOrdered frames-same o
    (pairs-map (λ (x : Frame). x.bytes) FramesOrdered l.asked (asked-pairs l.asked ranged kept.ordered)))

pub sets-ordered : (k : ℕ) (s : MainState) (l : Log) → Kept s l → SetsInOrder k l → Pairs Ordered (sets_among k l.heard)
sets-ordered k s l kept o =
    turn-ordered s l kept (sets_among k l.heard) (sets-each k InRange l.heard kept.heard) o

-- each was put out
pub sets-from-main : (k : ℕ) (l : Log) → SetsInOrder k l
    → Each (λ (m : Message). Any (λ (x : Frame). x.bytes ≡ frame m) l.asked) (sets_among k l.heard)
sets-from-main k l o = turn-images frame (λ (x : Frame). x.bytes) (sets_among k l.heard) l.asked o

-- ---- what is read since a moment

module _ (e₀ : Ends.Ends) where
  -- the frames and the messages read since, and where the keys' values come from
  pub record ReadSince (l : Log) : Type 0 where
    pub later : List (List ℕ)
    pub frames : non_empty (split l.received).closed ≡ handled_frames e₀ ++ later
    pub heard : l.heard ≡ e₀.log.heard ++ good_messages later
    pub origin : (k : ℕ) → l.origin k ≡ since_more (e₀.log.origin k) (requests_in later)

  supervisor-reads : (x : State) (l : Log) (m : Supervisor.Made) (waiting : List ℕ) → Stays m → ReadSince l
      → ReadSince (supervisor_logged l x m waiting)
  unfolding supervisor_logged Received.received_since Received.frames_closed_by
  supervisor-reads x l m waiting n r =
      let w = l.received in
      let bs = Received.bytes_received_by m in
      let new = non_empty (closed_behind w bs) in
      record {
        later = r.later ++ new;
        frames =
            rw (n.no_start, closed-join w bs, non_empty-append (split w).closed (closed_behind w bs), r.frames)
            (append_assoc (handled_frames e₀) r.later new);
        heard =
            rw (r.heard, gathered-append good_of r.later new)
            (append_assoc e₀.log.heard (good_messages r.later) (good_messages new));
        origin = λ k. stays-since k w (l.origin k) m n ∙ rw (r.origin k, requests-append r.later new, append_assoc);
      }

  pub call-reads : (e : Ends.Ends) (t : Ends.EndCall) → GoesOn e t → ReadSince e.log → ReadSince (ends_after e t).log
  unfolding ends_after main_logged
  call-reads e (Ends.main m) g r = rw g (record { later = r.later; frames = r.frames; heard = r.heard; origin = r.origin })
  call-reads e (Ends.supervisor m) g r = supervisor-reads _ e.log m _ g r

-- ---- its sets of key k

module _ (k : ℕ) where
  -- of each set of key k among frames
  abbrev pub EachSet : (Message → Type 0) → List (List ℕ) → Type 0
  EachSet P fs = Each P (sets_among k (requests_in fs))

  pub sets-fewer : (P : Message → Type 0) (fs gs : List (List ℕ)) → EachSet P (fs ++ gs) → EachSet P fs
  sets-fewer P fs gs h =
      each_left P (sets_among k (requests_in fs)) (sets_among k (requests_in gs))
      (rw (requests-append fs gs, sets-append k (requests_in fs) (requests_in gs)) at h)

  pub no-set : (P : Message → Type 0) → EachSet P []
  unfolding requests_in sets_among
  no-set P = tt

module _ (k : ℕ) (e₀ : Ends.Ends) where
  -- what holds of the sets read since
  pub read_known : (P : Message → Type 0) (l : Log) (r : ReadSince e₀ l) → Each P (sets_among k (good_messages r.later))
      → KnownOf e₀ (EachSet k P) (sets-fewer k P) l
  read_known P l r h fs e =
      let z : r.later ≡ fs = same_rest (handled_frames e₀) r.later fs (sym r.frames ∙ e) in
      rw (← z, sets-requests k r.later) h

  pub read-not-older : (s : MainState) (l : Log) → Kept s l → SetsInOrder k l → (r : ReadSince e₀ l)
      → Each (NotOlder k e₀) (sets_among k (good_messages r.later))
  read-not-older s l kept o r =
      pairs-across Ordered (sets_read_by k e₀) (sets_among k (good_messages r.later))
      (rw (r.heard, sets-append k e₀.log.heard (good_messages r.later)) at (sets-ordered k s l kept o))

  known-calls : (e : Ends.Ends) → Both e → ReadSince e₀ e.log → (ts : List Ends.EndCall) → Each EndCallTyped ts → Always GoesOn e ts
      → Always (SetsInOrderAfter k) e ts
      → Always (λ x t. KnownOf e₀ (EachSet k (NotOlder k e₀)) (sets-fewer k (NotOlder k e₀)) (ends_after x t).log) e ts
  known-calls e both r [] typed g o = tt
  known-calls e both r (t ∷ ts) typed g o =
      let b = keeps-both e both t typed.0 in
      let h = call-reads e₀ e t g.0 r in
      let l = (ends_after e t).log in (
        read_known (NotOlder k e₀) l h (read-not-older (main_view (ends_after e t).main) l b.kept o.0 h),
        known-calls (ends_after e t) b h ts typed.1 g.1 o.1,
      )

-- ---- the value

last-from : (before : Option (List ℕ)) (vs : List (List ℕ))
    → (last_or before vs ≡ before) ⊎ Any (λ (v : List ℕ). some v ≡ last_or before vs) vs
unfolding last_or
last-from before [] = inl refl
last-from before (v ∷ vs) = by (last-from (some v) vs)
  where
    by : (last_or (some v) vs ≡ some v) ⊎ Any (λ (u : List ℕ). some u ≡ last_or (some v) vs) vs
        → (last_or (some v) vs ≡ before) ⊎ Any (λ (u : List ℕ). some u ≡ last_or (some v) vs) (v ∷ vs)
    by (inl e) = inr (inl (sym e))
    by (inr a) = inr (inr a)

any-take : {A : Type 0} (P : A → Type 0) (n : ℕ) (xs : List A) → Any P (take n xs) → Any P xs
any-take P zero xs h = absurd h
any-take P (suc n) [] h = absurd h
any-take P (suc n) (x ∷ xs) (inl h) = inl h
any-take P (suc n) (x ∷ xs) (inr h) = inr (any-take P n xs h)

-- a value that was set, by one of the requests
set-by : (k : ℕ) (o : Option (List ℕ)) (ms : List Message) → Any (λ (v : List ℕ). some v ≡ o) (sets_of k ms)
    → Any (λ (m : Message). set_by k m ≡ o) ms
unfolding sets_of
set-by k o [] h = absurd h
set-by k o (m ∷ ms) h = by (set_by k m) refl (set-by k o ms) h
  where
    by : (x : Option (List ℕ)) → set_by k m ≡ x
        → (Any (λ (v : List ℕ). some v ≡ o) (sets_of k ms) → Any (λ (m : Message). set_by k m ≡ o) ms)
        → Any (λ (v : List ℕ). some v ≡ o) (listed_if x ++ sets_of k ms) → Any (λ (m : Message). set_by k m ≡ o) (m ∷ ms)
    by none e others h = inr (others h)
    by (some v) e others (inl f) = inl (e ∙ f)
    by (some v) e others (inr h) = inr (others h)

-- ---- the claim

pub first_read : (e : Ends.Ends) → ReadSince e e.log
unfolding gathered requests_in
first_read e = record {
  later = [];
  frames = sym (append-nil (handled_frames e));
  heard = sym (append-nil e.log.heard);
  origin = λ k. sym (more-none (e.log.origin k));
}

pub stays_of : (e : Ends.Ends) (ts : List Ends.EndCall) → Always GoesOn e ts → Each CallStays ts
stays_of e [] g = tt
stays_of e (Ends.main m ∷ ts) g = (tt, stays_of (ends_after e (Ends.main m)) ts g.1)
stays_of e (Ends.supervisor m ∷ ts) g = (g.0, stays_of (ends_after e (Ends.supervisor m)) ts g.1)

-- N holds of each set that can succeed, unless it sets the value that is there.
-- Then the value stayed, or a request of which N holds set it.
pub value-from : (N : Message → Type 0) (k : ℕ) (x : Setting) (ms : List Message)
    → Each (λ (m : Message). (v : List ℕ) → set_by k m ≡ some v → x.edition < last_edition → N m ⊎ (x.value ≡ some v)) ms
    → let y = set_after k x ms in
    (y.value ≡ x.value) ⊎ Any (λ (m : Message). (set_by k m ≡ y.value) × N m) ms
unfolding set_after successful
value-from N k x ms each = by (last-from x.value (successful x.edition k ms))
  where
    o : Option (List ℕ)
    o = last_or x.value (successful x.edition k ms)

    room : (n : ℕ) → last_edition - x.edition ≡ n → Any (λ (v : List ℕ). some v ≡ o) (take n (sets_of k ms)) → x.edition < last_edition
    room zero e a = absurd a
    room (suc n) e a = omega (arith, e)

    swap : Any (λ (m : Message). (set_by k m ≡ o) × N m) ms ⊎ (o ≡ x.value)
        → (o ≡ x.value) ⊎ Any (λ (m : Message). (set_by k m ≡ o) × N m) ms
    swap (inl a) = inr a
    swap (inr e) = inl e

    set : (m : Message) (v : List ℕ) → some v ≡ o → set_by k m ≡ o → N m ⊎ (x.value ≡ some v) → ((set_by k m ≡ o) × N m) ⊎ (o ≡ x.value)
    set m v f s (inl n) = inl (s, n)
    set m v f s (inr e) = inr (sym (e ∙ f))

    by : (o ≡ x.value) ⊎ Any (λ (v : List ℕ). some v ≡ o) (successful x.edition k ms)
        → (o ≡ x.value) ⊎ Any (λ (m : Message). (set_by k m ≡ o) × N m) ms
    by (inl e) = inl e
    by (inr a) =
        let n = last_edition - x.edition in
        let low = room n refl a in
        any-so (λ (v : List ℕ). some v ≡ o)
        (λ v f.
        swap (any-or _ ms
        (each-any _ (λ (m : Message). set_by k m ≡ o) _ (λ m p s. set m v f s (p v (s ∙ sym f) low)) ms each
        (set-by k o ms (any-take _ n (sets_of k ms) a)))))
        (take n (sets_of k ms)) a

-- none of them sets another value
pub value_stays : (k : ℕ) (x : Setting) (ms : List Message)
    → Each (λ (m : Message). (v : List ℕ) → set_by k m ≡ some v → x.edition < last_edition → ⊥ ⊎ (x.value ≡ some v)) ms
    → (set_after k x ms).value ≡ x.value
value_stays k x ms each = by (value-from (λ (m : Message). ⊥) k x ms each)
  where
    v : Option (List ℕ)
    v = (set_after k x ms).value

    by : (v ≡ x.value) ⊎ Any (λ (m : Message). (set_by k m ≡ v) × ⊥) ms → v ≡ x.value
    by (inl f) = f
    by (inr a) = absurd (any-so (λ (m : Message). (set_by k m ≡ v) × ⊥) (λ m z. z.1) ms a)

module _ (k : ℕ) (e : Ends.Ends) where
  value-not-older : (n most : ℕ) (r : Message) (h : Handled)
      → ValueKnown e (EachSet k (NotOlder k e)) (sets-fewer k (NotOlder k e)) n k most r h → ValueNotOlder e n k most r h
  value-not-older n most r h (v, newer) = record {
    value_since = v;
    not_older = newer;
    from =
        let ss = sets_among k (requests_in v.later) in
        let had = entry_of (view e.supervisor) k in
        rw (v.last_since, ← set-after-only k had v.later)
        (value-from (NotOlder k e) k had ss (each-then (NotOlder k e) _ (λ m n w s l. inl n) ss newer));
  }

pub list_not_older : ListNotOlder
list_not_older n k b begins ts us t u w on =
    let e = ends_after_all b ts in
    let P = NotOlder k e in
    let both = (any-calls (λ x. Unit {0}) (λ x b i y typed. tt) b (begun-both b begins) tt ts t).0 in
    always-so (ValueAgainst e k (ValueKnown e (EachSet k P) (sets-fewer k P))) (ValueAgainst e k (ValueNotOlder e)) n
    (λ x l r a most key i q new. any-then _ _ (λ h v. value-not-older k e x.newest most r h v) l.handled (a most key i q new)) e us
    (against e (EachSet k P) (sets-fewer k P) n k b begins ts refl (no-set k P) t w us u (stays_of e us on.goes_on) on.wire
    (known-calls k e e both (first_read e) us u on.goes_on on.sets))
