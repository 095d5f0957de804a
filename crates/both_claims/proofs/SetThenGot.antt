-- What I set is what I get. Where a set of a key was answered with result 0, lookups of the key behind it are answered with its value.
-- Assumes nothing.
use mathlib.Core.Path.{◌≡◌, refl, sym, ap, ◌∙◌}
use mathlib.Core.Bool.{true}
use mathlib.Core.List.{List, [], ◌∷◌, ◌++◌, append_assoc}
use mathlib.Core.Logic.{inl, inr}
use mathlib.Core.Option.{Option, some}
use Prim.Native.Nat.{ℕ, ◌<◌}
use native.Mathlib.Omega.{arith}
use lib.Dec.{ltb}
use lib.ListN.{length, drop}
use lib.Seq.{append_snoc, drop-append_seam}
use Rattle.octets.specs.Bytes.{Each}
use Rattle.octets.proofs.Conditions.{cond_both}
use Rattle.octets.proofs.Each.{each_append}
use Rattle.line.specs.Message.{Message, InRange}
use Rattle.line.specs.Frame.{frame, split, non_empty}
use Rattle.line_claims.specs.Calls.{good_of, good_messages}
use Rattle.line_claims.proofs.ReaderClaim.{gathered-append}
use Rattle.requester.specs.State.{outstanding, request_frame}
use Rattle.requester_claims.specs.View.{main_view}
use Rattle.requester_claims.specs.Histories.{MainMade}
use Rattle.requester_claims.specs.Numbers.{Frame}
use Rattle.responder.specs.Requests.{good, verdict}
use Rattle.supervisor.specs.State.{Setting}
use Rattle.supervisor.specs.Local.{Found, entry_of, fitted}
use Rattle.supervisor_claims.specs.View.{view}
use Rattle.supervisor_claims.specs.LastSet.{requests_in, set_by, fitted_of, ReadBack}
use Rattle.supervisor_claims.proofs.claims.LastSetLaws.{onto, after_sets, after-append, entry-held, requests-append}
use Rattle.both_claims.specs.Ends
use Rattle.both_claims.specs.Ends.{Any, Handled, CarriedOut, Fresh, EndCallTyped, ends_after, ends_after_all, Always}
use Rattle.both_claims.specs.Ends.{handled_frames, is_set_of, sets_among, as_message, GoesOn, NotAsked, WireUnder, UnderNumber}
use Rattle.both_claims.specs.Ends.{CallOf, lookup_request, RequestUnder}
use Rattle.both_claims.specs.Exchanges.{set_request}
use Rattle.both_claims.specs.SetThenGot.{SetAndBehind, at_set, at_answer, NoNewSet, OlderFirst, OlderFirstAfter, SetDone}
use Rattle.both_claims.specs.SetThenGot.{value_answer, GetsValue, all_calls}
use Rattle.both_claims.specs.BothEnds.{SetThenGot}
use Rattle.both_claims.proofs.FreshAnswer.{FromMainUnder, keeps-from-main, answer-fresh}
use Rattle.both_claims.proofs.laws.FromMain.{begun-from-main}
use Rattle.both_claims.proofs.ListAge.{Set, AgedIn, call-ages, begun-aged, Placed, Later, call-later, moment-later, KnownOf}
use Rattle.both_claims.proofs.ListAge.{ValueKnown, Against, against}
use Rattle.both_claims.proofs.InOrderAge.{EachSet, sets-fewer, no-set, ReadSince, call-reads, first_read, read_known, same_rest}
use Rattle.both_claims.proofs.InOrderAge.{stays_of, value_stays}
use Rattle.both_claims.proofs.laws.Lists.{any-so, each_left, each_right, each-then, each_and, each-any}
use Rattle.both_claims.proofs.laws.Table.{frame_same, passes}
use Rattle.both_claims.proofs.laws.SetsAmong.{sets-append, sets-each, set-passes, after-sets-only, set-after-only}
use Rattle.both_claims.proofs.laws.Ranges.{outstanding-ranged, ranged-message}
use Rattle.both_claims.proofs.laws.Kept.{PutOut, not-asked-by}
use Rattle.both_claims.proofs.laws.BothCalls.{Both, keeps-both, always-second, always-split, any-calls, begun-both}
use Rattle.both_claims.proofs.laws.BothCalls.{call-so}
use Rattle.both_claims.proofs.laws.HandledSince.{Stands, AllStand, call-stands, moment-stands}
use Rattle.both_claims.proofs.laws.SameSet.{SetsTo, SinceSetIn, put-since-set, call-since-set, LookupsIn, first-lookups}
use Rattle.both_claims.proofs.laws.SameSet.{call-lookups, lookup-newer}
use Rattle.both_claims.proofs.laws.BehindSet.{after-keeps, zero-set, zero-value, sets_behind}

-- ---- lists of calls

ends-append : (e : Ends.Ends) (xs ys : List Ends.EndCall) → ends_after_all e (xs ++ ys) ≡ ends_after_all (ends_after_all e xs) ys
unfolding ends_after_all
ends-append e [] ys = refl
ends-append e (x ∷ xs) ys = ends-append (ends_after e x) xs ys

abbrev Anything : List (List ℕ) → Type 0
Anything fs = Unit {0}

fewer : (fs gs : List (List ℕ)) → Anything (fs ++ gs) → Anything fs
fewer fs gs i = i

-- a lookup's answer, where the key has the value
fits : (most : ℕ) (v : List ℕ) (x : Setting) → x.value ≡ some v → let f = fitted_of most x in f.result ∷ f.value ≡ value_answer most v
unfolding fitted
fits most v x e =
    rw e (cond_both (λ (f : Found) (d : List ℕ). f.result ∷ f.value ≡ d) (ltb most (length v)) (λ _. refl) (λ _. refl))

-- ---- what holds since a set of key k to v was put out, at the moment e

module _ (k : ℕ) (v : List ℕ) (e : Ends.Ends) where
  record Since (x : Ends.Ends) : Type 0 where
    both : Both x
    aged : AgedIn x
    read : ReadSince e x.log
    placed : Later e Anything fewer x.log
    stand : AllStand e x.log
    set : SinceSetIn k v e x

  call-since : (x : Ends.Ends) → Since x → (t : Ends.EndCall) → EndCallTyped t → GoesOn x t → NoNewSet k x t → Since (ends_after x t)
  call-since x s t typed g n = record {
    both = keeps-both x s.both t typed;
    aged = call-ages x s.both s.aged t typed;
    read = call-reads e x t g s.read;
    placed = call-later e Anything fewer x t (stays_of x (t ∷ []) (g, tt)).0 s.placed (λ fs f. tt);
    stand = call-stands e x t g s.stand;
    set = call-since-set k v e x s.both s.set t typed g n;
  }

  since-calls : (x : Ends.Ends) → Since x → OlderFirst k e x.log → (ts : List Ends.EndCall) → Each EndCallTyped ts → Always GoesOn x ts
      → Always (NoNewSet k) x ts → Always (OlderFirstAfter k e) x ts → Since (ends_after_all x ts)
      × OlderFirst k e (ends_after_all x ts).log
  unfolding ends_after_all
  since-calls x s o [] typed g n i = (s, o)
  since-calls x s o (t ∷ ts) typed g n i =
      since-calls (ends_after x t) (call-since x s t typed.0 g.0 n.0) i.0 ts typed.1 g.1 n.1 i.1

  -- the call that puts it out
  first-since : Both e → AgedIn e → (c : MainMade) → EndCallTyped (Ends.main c) → GoesOn e (Ends.main c)
      → SinceSetIn k v e (ends_after e (Ends.main c)) → Since (ends_after e (Ends.main c))
  first-since both aged c typed g h = record {
    both = keeps-both e both (Ends.main c) typed;
    aged = call-ages e both aged (Ends.main c) typed;
    read = call-reads e e (Ends.main c) g (first_read e);
    placed = call-later e Anything fewer e (Ends.main c) tt (moment-later e Anything fewer both tt) (λ fs f. tt);
    stand = call-stands e e (Ends.main c) g (moment-stands e both);
    set = h;
  }

  -- ---- the set carried out, at a moment x

  module _ (key : ReadBack k) (both₀ : Both e) (x : Ends.Ends) (s : Since x) (r : Message) (zero : r.payload ≡ 0 ∷ [])
      (waits : outstanding (main_view x.main) ≡ some (set_request k v)) where
    abbrev number : ℕ
    number = (main_view x.main).newest

    abbrev message : Message
    message = as_message number (set_request k v)

    -- what key k had at the moment e
    abbrev start : Setting
    start = after_sets k (e.log.origin k).setting (e.log.origin k).requests

    -- its number is new
    not-asked : NotAsked e number
    not-asked =
        each-then (PutOut (main_view e.main)) _ (λ (y : Frame) p n. omega (arith, p.agrees.most, n, s.set.above)) e.log.asked
        both₀.kept.asked

    -- where it stands among the frames read since
    record Stored : Type 0 where
      front : List (List ℕ)
      form : List ℕ
      rest : List (List ℕ)
      later : s.read.later ≡ front ++ (form ∷ rest)
      passed : verdict form ≡ good message
      sets : set_by k message ≡ some v
      value : (onto (after_sets k start (requests_in front)) (some v)).value ≡ some v

    abbrev Since₁ : Handled → Type 0
    Since₁ h = Placed e Anything fewer h × Stands e (non_empty (split x.log.received).closed) h

    abbrev Known : Handled → Type 0
    Known h = Set h.origin h.state × Since₁ h

    carried : (h : Handled) → Known h → CarriedOut number (set_request k v) r h → Stored
    carried h (has, (inl b, inl f)) c =
        let o = e.log.origin k in
        let y = rw (b.origin k, after-append k o.setting o.requests (requests_in b.later)) at (has k key.key).holds in
        record {
          front = b.later;
          form = h.form;
          rest = f.more;
          later =
              same_rest (handled_frames e) _ _
              (sym s.read.frames ∙ sym f.whole
              ∙ rw b.frames
              (append_snoc (handled_frames e ++ b.later) h.form f.more
              ∙ append_assoc (handled_frames e) b.later (h.form ∷ f.more)));
          passed = c.passed;
          sets = zero-set h.image h.state number key.key v _ y r c.reply zero;
          value = zero-value h.image h.state number key.key v _ y r c.reply zero;
        }
    carried h (has, (inr b, f)) c = absurd (not-asked-by e number not-asked h b _ c.put-out)
    carried h (has, (inl b, inr f)) c = absurd (not-asked-by e number not-asked h f _ c.put-out)

    stored : Any (CarriedOut number (set_request k v) r) x.log.handled → Stored
    stored a =
        let hs = x.log.handled in
        any-so (λ (h : Handled). Stored) (λ h z. z) hs
        (each-any Known _ _ carried hs
        (each_and (λ (h : Handled). Set h.origin h.state) Since₁ Known (λ h y z. (y, z)) hs s.aged.each
        (each_and (Placed e Anything fewer) _ Since₁ (λ h y z. (y, z)) hs
        s.placed.each s.stand))
        a)

    module _ (t : Stored) where
      is_set : is_set_of k message ≡ true
      is_set = set-passes k number (set_request k v) (let l = s.both.kept.ranged.newest in omega arith) (rw t.sets)

      -- nothing that was put out by the moment e is this set
      not_first : Each (λ (y : Frame). y.bytes ≡ frame message → ⊥) e.log.asked
      unfolding request_frame
      not_first =
          each_and (PutOut (main_view e.main)) (λ (y : Frame). y.number ≡ number → ⊥) _
          (λ y p n b.
          let ranged =
          ranged-message number (set_request k v) s.both.kept.ranged.newest (outstanding-ranged _ s.both.kept.ranged _ waits) in
          n (ap (λ (m : Message). m.sequence) (frame_same p.ranged.in_range ranged (sym p.ranged.bytes ∙ b))))
          e.log.asked both₀.kept.asked not-asked

      -- the sets of key k read behind it, at this moment or later
      all_same : (z : Ends.Ends) (u : Since z) → OlderFirst k e z.log → (rest : List (List ℕ))
          → u.read.later ≡ t.front ++ (t.form ∷ rest)
          → Each (SetsTo k v) (sets_among k (good_messages rest))
      all_same z u o rest later =
          let l = z.log in
          let heard : drop (length e.log.heard) l.heard ≡ good_messages (t.front ++ (t.form ∷ rest)) =
          rw (u.read.heard, later) (drop-append_seam e.log.heard (good_messages (t.front ++ (t.form ∷ rest)))) in
          let asked : drop (length e.log.asked) l.asked ≡ u.set.more =
          rw u.set.asked (drop-append_seam e.log.asked u.set.more) in
          sets_behind k message is_set t.front rest t.form (passes t.form message t.passed).judged v e.log.asked
          u.set.more not_first u.set.each o.older o.newer
          (sets-each k InRange _ (each_right InRange e.log.heard _ (rw (u.read.heard, later) at u.both.kept.heard)))
          (rw heard at o.read) o.older_put (rw asked at o.newer_put)

      -- key k has the value
      has_value : OlderFirst k e x.log → (entry_of (view x.supervisor) k).value ≡ some v
      unfolding requests_in after_sets
      has_value o =
          let i = e.log.origin k in
          let x₁ = after_sets k start (requests_in t.front) in
          let y = x.log.origin k in
          let z : after_sets k y.setting y.requests ≡ after_sets k (onto x₁ (some v)) (requests_in t.rest) =
          rw (
            s.read.origin k,
            after-append k i.setting i.requests (requests_in s.read.later),
            t.later,
            requests-append t.front (t.form ∷ t.rest),
            after-append k start (requests_in t.front) (requests_in (t.form ∷ t.rest)),
            t.passed,
          )
          (ap (λ (y : Option (List ℕ)). after_sets k (onto x₁ y) (requests_in t.rest)) t.sets) in
          rw (
            entry-held (view x.supervisor) key.key,
            (s.aged.set k key.key).holds.held,
            z,
            ← after-sets-only k (onto x₁ (some v)) t.rest,
          )
          (after-keeps k v (onto x₁ (some v)) t.value (sets_among k (good_messages t.rest)) (all_same x s o t.rest t.later))

      -- ---- behind the answer

      abbrev Is : List (List ℕ) → Type 0
      Is = EachSet k (SetsTo k v)

      abbrev is_fewer : (fs gs : List (List ℕ)) → Is (fs ++ gs) → Is fs
      is_fewer = sets-fewer k (SetsTo k v)

      known_at : (z : Ends.Ends) → Since z → OlderFirst k e z.log → ReadSince x z.log → KnownOf x Is is_fewer z.log
      known_at z u o m =
          let fs = handled_frames e in
          let later : u.read.later ≡ t.front ++ (t.form ∷ (t.rest ++ m.later)) =
          same_rest fs _ _
          (sym u.read.frames ∙ m.frames
          ∙ rw (s.read.frames, t.later)
          (append_assoc fs (t.front ++ (t.form ∷ t.rest)) m.later
          ∙ ap (λ (gs : List (List ℕ)). fs ++ gs) (append_assoc t.front (t.form ∷ t.rest) m.later))) in
          read_known k x (SetsTo k v) z.log m
          (each_right (SetsTo k v) (sets_among k (good_messages t.rest)) (sets_among k (good_messages m.later))
          (rw (gathered-append good_of t.rest m.later, sets-append k (good_messages t.rest) (good_messages m.later)) at
          (all_same z u o (t.rest ++ m.later) later)))

      known-calls : (z : Ends.Ends) → Since z → ReadSince x z.log → LookupsIn x z → (ts : List Ends.EndCall) → Each EndCallTyped ts
          → Always GoesOn z ts → Always (NoNewSet k) z ts → Always (OlderFirstAfter k e) z ts
          → Always (λ y c. LookupsIn x y × KnownOf x Is is_fewer (ends_after y c).log) z ts
      known-calls z u m f [] typed g n o = tt
      known-calls z u m f (c ∷ ts) typed g n o =
          let w = call-since z u c typed.0 g.0 n.0 in
          let r = call-reads x z c g.0 m in (
            (f, known_at (ends_after z c) w o.0 r),
            known-calls (ends_after z c) w r (call-lookups x z u.both f c g.0) ts typed.1 g.1 n.1 o.1,
          )

      module _ (has : (entry_of (view x.supervisor) k).value ≡ some v) (most : ℕ) where
        gets : (n : ℕ) (r : Message) (h : Handled) → ValueKnown x Is is_fewer n k most r h → r.payload ≡ value_answer most v
        gets n r h (f, sets) =
            let had = entry_of (view x.supervisor) k in
            let ss = sets_among k (requests_in f.later) in
            let same : (entry_of h.state k).value ≡ some v =
            rw (f.last_since, ← set-after-only k had f.later)
            (value_stays k had ss (each-then (SetsTo k v) _ (λ m to u i l. inr (rw (to u i) has)) ss sets)) ∙ has in
            f.value_then.value ∙ fits most v (entry_of h.state k) same

        all-get : most < 65536 → (n : ℕ) (z : Ends.Ends) (ts : List Ends.EndCall)
            → Always (λ y c. LookupsIn x y × KnownOf x Is is_fewer (ends_after y c).log) z ts
            → Always (UnderNumber n (CallOf (Against x Is is_fewer k))) z ts → Always (UnderNumber n (CallOf (GetsValue k most v))) z ts
        all-get i n z [] g a = tt
        all-get i n z (c ∷ ts) g a = (
          λ q. call-so (Against x Is is_fewer k) (GetsValue k most v) z
              (λ r b o.
              let y = main_view z.main in
              any-so _ (gets y.newest r) z.log.handled (b most key i o (new-number z g.0.0 o))) c (a.0 q),
          all-get i n (ends_after z c) ts g.1 a.1,
        )
          where
            new-number : (z : Ends.Ends) → LookupsIn x z → outstanding (main_view z.main) ≡ some (lookup_request k most)
                → NotAsked x (main_view z.main).newest
            new-number z f o =
                each-then (PutOut (main_view x.main)) _
                (λ (y : Frame) p n. omega (arith, p.agrees.most, n, lookup-newer x (main_view z.main) f k most o)) x.log.asked
                s.both.kept.asked

-- ---- the claim

-- what holds under a number behind calls
from-calls : (n : ℕ) (e : Ends.Ends) → FromMainUnder n e → (ts : List Ends.EndCall) → Always (WireUnder n) e ts
    → FromMainUnder n (ends_after_all e ts)
unfolding ends_after_all
from-calls n e h [] w = h
from-calls n e h (t ∷ ts) w = from-calls n (ends_after e t) (keeps-from-main n e h t w.0) ts w.1

module _ (k : ℕ) (v : List ℕ) (key : ReadBack k) (s : SetAndBehind) (d : SetDone k v s) where
  abbrev put : Ends.EndCall
  put = Ends.main s.set

  abbrev hands : Ends.EndCall
  hands = Ends.main s.answered

  -- the calls of each part have arguments of their types
  typed-since : Each EndCallTyped (put ∷ (s.between ++ (hands ∷ s.behind)))
  typed-since = each_right EndCallTyped s.earlier _ d.typed

  typed-last : Each EndCallTyped (hands ∷ s.behind)
  typed-last = each_right EndCallTyped s.between _ typed-since.1

  typed-earlier : Each EndCallTyped s.earlier
  typed-earlier = each_left EndCallTyped s.earlier _ d.typed

  typed-between : Each EndCallTyped s.between
  typed-between = each_left EndCallTyped s.between _ typed-since.1

  -- as the set was put out
  at_set_lem : Both (at_set s) × AgedIn (at_set s)
  at_set_lem = any-calls AgedIn call-ages s.begun (begun-both _ d.begins) (begun-aged _ d.begins) s.earlier typed-earlier

  goes : Always GoesOn (ends_after (at_set s) put) s.between × Always GoesOn (at_answer s) (hands ∷ s.behind)
  goes = always-split GoesOn _ s.between (hands ∷ s.behind) d.goes_on.1

  no_new : Always (NoNewSet k) (ends_after (at_set s) put) s.between × Always (NoNewSet k) (at_answer s) (hands ∷ s.behind)
  no_new = always-split (NoNewSet k) _ s.between (hands ∷ s.behind) d.no_other

  orders : let C = OlderFirstAfter k (at_set s) in
      Always C (ends_after (at_set s) put) s.between × Always C (at_answer s) (hands ∷ s.behind)
  orders = always-split (OlderFirstAfter k (at_set s)) _ s.between (hands ∷ s.behind) d.older_first.1

  -- as its answer is handed out
  at-answer : Since k v (at_set s) (at_answer s) × OlderFirst k (at_set s) (at_answer s).log
  at-answer =
      let set = put-since-set k v (at_set s) at_set_lem.0 s.set typed-since.0 d.goes_on.0 d.asked d.put-out in
      since-calls k v (at_set s) (ends_after (at_set s) put)
      (first-since k v (at_set s) at_set_lem.0 at_set_lem.1 s.set typed-since.0 d.goes_on.0 set) d.older_first.0 s.between
      typed-between goes.0 no_new.0 orders.0

  fresh : Fresh (main_view (at_answer s).main) (at_answer s).log d.reply
  unfolding ends_after_all
  fresh =
      let n = (main_view (at_answer s).main).newest in
      let w = always-split (WireUnder n) s.begun s.earlier _ d.wire in
      let y = always-split (WireUnder n) (ends_after (at_set s) put) s.between (hands ∷ []) w.1.1 in
      let e = from-calls n s.begun (begun-from-main (RequestUnder n) s.begun d.begins) s.earlier w.0 in
      let x = from-calls n (ends_after (at_set s) put) (keeps-from-main n (at_set s) e put w.1.0) s.between y.0 in
      answer-fresh n (at_answer s) at-answer.0.both x hands typed-last.0 y.1.0 refl d.reply d.handed

  is-stored : Stored k v (at_set s) key at_set_lem.0 (at_answer s) at-answer.0 d.reply d.result d.waiting
  is-stored =
      let z : fresh.request ≡ set_request k v = (let w = fresh.waiting in let u = d.waiting in cc) in
      stored k v (at_set s) key at_set_lem.0 (at_answer s) at-answer.0 d.reply d.result d.waiting (rw z at fresh.made)

  -- the calls by then
  by_answer : at_answer s ≡ ends_after_all s.begun (s.earlier ++ (put ∷ s.between))
  unfolding ends_after_all
  by_answer = sym (ends-append s.begun s.earlier (put ∷ s.between))

  wire-split : (n : ℕ) → Always (WireUnder n) s.begun (all_calls s)
      → Always (WireUnder n) s.begun (s.earlier ++ (put ∷ s.between)) × Always (WireUnder n) (at_answer s) (hands ∷ s.behind)
  wire-split n w =
      let h =
      always-split (WireUnder n) s.begun (s.earlier ++ (put ∷ s.between)) (hands ∷ s.behind)
      (rw (← append_assoc s.earlier (put ∷ s.between) (hands ∷ s.behind)) at w) in
      (h.0, rw (← by_answer) at h.1)

  module _ (n most : ℕ) (i : most < 65536) (w : Always (WireUnder n) s.begun (all_calls s)) where
    abbrev P : Message → Type 0
    P = SetsTo k v

    calls : Always (λ y c. LookupsIn (at_answer s) y × KnownOf (at_answer s) (EachSet k P) (sets-fewer k P) (ends_after y c).log)
        (at_answer s)
        (hands ∷ s.behind)
    calls =
        known-calls k v (at_set s) key at_set_lem.0 (at_answer s) at-answer.0 d.reply d.result d.waiting is-stored (at_answer s)
        at-answer.0 (first_read (at_answer s)) (first-lookups (at_answer s) k v d.waiting) (hands ∷ s.behind) typed-last goes.1
        no_new.1 orders.1

    known : Always (λ y c. KnownOf (at_answer s) (EachSet k P) (sets-fewer k P) (ends_after y c).log) (at_answer s) (hands ∷ s.behind)
    known = always-second (λ y c. LookupsIn (at_answer s) y) _ (at_answer s) (hands ∷ s.behind) calls

    answers : Always (UnderNumber n (CallOf (Against (at_answer s) (EachSet k P) (sets-fewer k P) k))) (at_answer s) (hands ∷ s.behind)
    answers =
        against (at_answer s) (EachSet k P) (sets-fewer k P) n k s.begun d.begins (s.earlier ++ (put ∷ s.between)) by_answer
        (no-set k P)
        (each_append EndCallTyped s.earlier (put ∷ s.between) typed-earlier (typed-since.0, typed-between)) (wire-split n w).0
        (hands ∷ s.behind) typed-last (stays_of (at_answer s) (hands ∷ s.behind) goes.1) (wire-split n w).1 known

    got : Always (UnderNumber n (CallOf (GetsValue k most v))) (ends_after (at_answer s) hands) s.behind
    got =
        all-get k v (at_set s) key at_set_lem.0 (at_answer s) at-answer.0 d.reply d.result d.waiting is-stored
        (has_value k v (at_set s) key at_set_lem.0 (at_answer s) at-answer.0 d.reply d.result d.waiting is-stored at-answer.1)
        most i n (ends_after (at_answer s) hands) s.behind calls.1 answers.1

pub set_then_got : SetThenGot
set_then_got k v key s d n most i w = got k v key s d n most i w
