-- A settings key with the same edition at two moments has the same value, with no accepted start and no accepted restore between.
-- So have two lookups that hand it out. Assumes nothing.
use mathlib.Core.Path.{◌≡◌, refl, sym, ap, ◌∙◌}
use mathlib.Core.Bool.{Bool, true, false}
use mathlib.Core.List.{List, [], ◌∷◌, ◌++◌, append_assoc}
use mathlib.Core.Logic.{◌⊎◌, inl, inr}
use mathlib.Core.Option.{Option, none, some}
use Prim.Native.Nat.{ℕ, ◌≤◌, ◌<◌}
use native.Mathlib.Omega.{arith}
use lib.Dec.{ltb, eqb}
use lib.ListN.{length, drop}
use lib.Seq.{drop-append_seam}
use borrow.Author.Tests.{le-ltb, ne_eqb}
use Rattle.octets.specs.Bytes.{Each, number, bytes}
use Rattle.octets.proofs.Conditions.{cond-by}
use Rattle.octets.proofs.Numbers.{number-bytes}
use Rattle.octets.proofs.Each.{each_append}
use Rattle.line.specs.Numbers.{second_version}
use Rattle.line.specs.Message.{Message}
use Rattle.line.specs.Frame.{frame}
use Rattle.line.specs.Judge.{payload_of}
use Rattle.line_claims.proofs.MessageLaws.{payload-read}
use Rattle.line_claims.proofs.CobsClaims.{message-same}
use Rattle.supervisor.specs.Limits
use Rattle.supervisor.specs.State.{Setting}
use Rattle.supervisor.specs.Local
use Rattle.supervisor.specs.Calls.{Parts}
use Rattle.responder.specs.Requests.{owed, edition_bytes}
use Rattle.supervisor_claims.specs.View.{view}
use Rattle.supervisor_claims.specs.Sound.{Bytes}
use Rattle.supervisor_claims.specs.Histories
use Rattle.supervisor_claims.specs.Histories.{Typed, refused, done, Did, Lent, Made, enough, made, left, did, meant_made, meant}
use Rattle.supervisor_claims.specs.Histories.{AllTyped, start_with, receive_with, locally, found_edition}
use Rattle.supervisor_claims.specs.FrameHistory.{received_since_all, received_since, frames_closed_by}
use Rattle.supervisor_claims.specs.LastSet.{requests_in, requests_of, set_by, Stays, Origin, since_start, since_more, since_call}
use Rattle.supervisor_claims.specs.LastSet.{since_made}
use Rattle.supervisor_claims.specs.LastSet.{since_all, origin, origin_behind, set_since, fitted_of, lookup_reply, ReadBack}
use Rattle.supervisor_claims.specs.SameEdition.{SameEdition, edition_reply, WireLookup, LookedUp, lookup_calls}
use Rattle.supervisor_claims.specs.SameEdition.{SameEditionSameList, ReadsLeave}
use Rattle.supervisor_claims.proofs.laws.Locality.{back-lent}
use Rattle.supervisor_claims.proofs.claims.LentCalls.{made_12}
use Rattle.supervisor_claims.proofs.claims.History.{history, one_call, undone}
use Rattle.supervisor_claims.proofs.claims.LastSetLaws.{onto, after_sets, after-append, after-sets, sets-low, since-low}
use Rattle.supervisor_claims.proofs.claims.LastSetLaws.{requests-behind}
use Rattle.supervisor_claims.proofs.claims.StaysLaws.{more-none, More, more-then, all_stay, since-append}
use Rattle.supervisor_claims.proofs.claims.WithdrawnKeys.{value_last_set, last_set, lookup_last_set}

-- ---- sets that leave the edition

-- a set leaves the setting, or the edition is higher
onto-or : (x : Setting) (o : Option (List ℕ)) → (onto x o ≡ x) ⊎ (x.edition < (onto x o).edition)
onto-or x none = inl refl
onto-or x (some v) =
    cond-by (λ (y : Setting). (y ≡ x) ⊎ (x.edition < y.edition)) (eqb x.edition Limits.last_edition) _ _ (λ _. inl refl) (λ _.
    inr (omega arith))

sets-rise : (k : ℕ) (x : Setting) (ms : List Message) → x.edition ≤ (after_sets k x ms).edition
unfolding after_sets
sets-rise k x [] = omega arith
sets-rise k x (m ∷ ms) = by (onto-or x (set_by k m)) (sets-rise k (onto x (set_by k m)) ms)
  where
    by : {y : Setting} {n : ℕ} → (y ≡ x) ⊎ (x.edition < y.edition) → y.edition ≤ n → x.edition ≤ n
    by (inl e) l = rw e at l
    by (inr h) l = omega arith

sets_same : (k : ℕ) (x : Setting) (ms : List Message) → (after_sets k x ms).edition ≡ x.edition → after_sets k x ms ≡ x
unfolding after_sets
sets_same k x [] e = refl
sets_same k x (m ∷ ms) e = by (onto-or x (set_by k m)) e (sets_same k x ms)
  where
    by : {y : Setting} → (y ≡ x) ⊎ (x.edition < y.edition) → (after_sets k y ms).edition ≡ x.edition
        → ((after_sets k x ms).edition ≡ x.edition → after_sets k x ms ≡ x) → after_sets k y ms ≡ x
    by (inl f) g rest = rw f (rest (rw f at g))
    by {y} (inr h) g rest = absurd (omega (arith, sets-rise k y ms))

since-same : (k : ℕ) {x y : Origin} → x.setting.edition ≤ Limits.last_edition → More x y
    → (set_since k y).edition ≡ (set_since k x).edition → set_since k y ≡ set_since k x
since-same k {x} {y} low more e =
    let z = after_sets k x.setting x.requests in
    let a : z ≡ set_since k x = after-sets k x.setting x.requests low in
    let b : set_since k y ≡ after_sets k z more.requests =
    rw more.origin
    (sym (after-sets k x.setting (x.requests ++ more.requests) low) ∙ after-append k x.setting x.requests more.requests) in
    let c : (after_sets k z more.requests).edition ≡ z.edition =
    ap (λ (s : Setting). s.edition) (sym b) ∙ e ∙ ap (λ (s : Setting). s.edition) (sym a) in
    b ∙ sets_same k z more.requests c ∙ a

since-below : (k : ℕ) (x : Origin) → x.setting.edition ≤ Limits.last_edition → (set_since k x).edition ≤ Limits.last_edition
since-below k x low = rw (after-sets k x.setting x.requests low) at (sets-low k x.setting x.requests low)

-- ---- what a lookup tells of a setting: four bytes of its edition, and its value

record Tells (x : Setting) (edition : ℕ) (v : List ℕ) : Type 0 where
  edition-bytes : bytes 4 x.edition ≡ bytes 4 edition
  value : x.value ≡ some v

same-told : (k : ℕ) {x y : Origin} {edition : ℕ} {v w : List ℕ} → x.setting.edition ≤ Limits.last_edition
    → y.setting.edition ≤ Limits.last_edition → More x y → Tells (set_since k x) edition v → Tells (set_since k y) edition w → w ≡ v
same-told k {x} {y} low high more a b =
    let e : (set_since k y).edition ≡ (set_since k x).edition =
    sym (number-bytes 4 (set_since k y).edition (omega (arith, since-below k y high)))
    ∙ ap number (b.edition-bytes ∙ sym a.edition-bytes)
    ∙ number-bytes 4 (set_since k x).edition (omega (arith, since-below k x low)) in
    let s = ap (λ (z : Setting). z.value) (since-same k low more e) in
    let t = a.value in
    let u = b.value in
    cc

frame-payload : (m n : Message) → frame m ≡ frame n → m.payload ≡ n.payload
frame-payload m n e = sym (payload-read m) ∙ ap payload_of (message-same m n e) ∙ payload-read n

-- a reply in version 2 with result 0
module _ (most edition : ℕ) (v : List ℕ) (x : Setting) where
  abbrev Replies : Local.Found → Type 0
  Replies f = f.result ∷ (edition_bytes second_version f ++ f.value) ≡ 0 ∷ (bytes 4 edition ++ v)

  fitted-tells : (o : Option (List ℕ)) → x.value ≡ o → Replies (Local.fitted most x.edition o) → Tells x edition v
  unfolding Local.fitted bytes
  fitted-tells none e p = let z : ◌≡◌ {A = ℕ} 2 0 = cc in absurd (omega arith)
  fitted-tells (some u) e p =
      cond-by (λ (f : Local.Found). Replies f → Tells x edition v) (ltb most (length u)) _ _
      (λ _ p. let z : ◌≡◌ {A = ℕ} 3 0 = cc in absurd (omega arith))
      (λ _ p. let a : u ≡ v = cc in record { edition-bytes = cc; value = e ∙ ap some a }) p

  reply-tells : (n : ℕ) → lookup_reply second_version n most x ≡ edition_reply n edition v → Tells x edition v
  unfolding lookup_reply edition_reply
  reply-tells n e = fitted-tells x.value refl (frame-payload _ _ e)

  -- the answers of the local calls
  fitted-value : (o : Option (List ℕ)) → let f = Local.fitted most x.edition o in f.result ≡ 0 → f.value ≡ v → o ≡ some v
  unfolding Local.fitted
  fitted-value none r b = absurd (omega arith)
  fitted-value (some u) r b =
      cond-by (λ (f : Local.Found). f.result ≡ 0 → f.value ≡ v → some u ≡ some v) (ltb most (length u)) _ _
      (λ _ r b. absurd (omega arith)) (λ _ r b. ap some b) r b

  local-tells : (fitted_of most x).result ≡ 0 → (fitted_of most x).value ≡ v → (Local.edition_of x).edition ≡ edition → Tells x edition v
  local-tells r b e =
      let u = fitted-value x.value r b in
      record { edition-bytes = ap (bytes 4) (rw u at e); value = u }

-- ---- the claims

-- a call that is not refused as 12 is lent enough
lent-enough : (q : Parts) (m : Made) → ((made q m).answer ≡ refused 12 → ⊥) → enough m.call m.lent ≡ true
lent-enough q m h = by (enough m.call m.lent) refl
  where
    by : (t : Bool) → enough m.call m.lent ≡ t → t ≡ true
    by true e = refl
    by false e = absurd (h (ap (λ (d : Did). d.answer) (made_12 q m e)))

pub reads_leave : ReadsLeave
unfolding made did
reads_leave q j c e = rw e (back-lent j q)

-- the requests that more bytes bring
requests-more : (w bs cs : List ℕ)
    → requests_in (frames_closed_by w (bs ++ cs)) ≡ requests_in (frames_closed_by w bs) ++ requests_in (frames_closed_by (w ++ bs) cs)
requests-more w bs cs =
    let rs = requests_of w in
    let a = requests_in (frames_closed_by w bs) in
    let b = requests_in (frames_closed_by (w ++ bs) cs) in
    let e : rs ++ requests_in (frames_closed_by w (bs ++ cs)) ≡ rs ++ (a ++ b) =
    sym (requests-behind w (bs ++ cs)) ∙ ap requests_of (sym (append_assoc w bs cs)) ∙ requests-behind (w ++ bs) cs
    ∙ ap (λ ms. ms ++ b) (requests-behind w bs) ∙ append_assoc rs a b in
    sym (drop-append_seam rs _) ∙ ap (drop (length rs)) e ∙ drop-append_seam rs (a ++ b)

module _ (p : Parts) (b : Bytes p) (l : Lent) (d : List ℕ) (typed : Typed (Histories.start d))
    (accepted : (made p (start_with l d)).answer ≡ done) where
  abbrev q : Parts
  q = (made p (start_with l d)).parts

  more-behind : (k : ℕ) (ms ns : List Made) → Each Stays ns → More (origin k ms) (origin k (ms ++ ns))
  more-behind k ms ns h = rw (since-append k ms ns [] since_start) (all_stay k ns h (received_since_all [] ms) (origin k ms))

  abbrev typed-both : (ms ns : List Made) → AllTyped ms → AllTyped ns → AllTyped (ms ++ ns)
  typed-both ms ns t u = each_append (λ (m : Made). Typed m.call) ms ns t u

  pub same_edition : SameEdition q
  same_edition ms ns t u h k key e =
      let x = value_last_set p b l d typed accepted ms t k key in
      let y = value_last_set p b l d typed accepted (ms ++ ns) (typed-both ms ns t u) k key in
      let f = ap (λ (z : Setting). z.edition) (sym y) ∙ e ∙ ap (λ (z : Setting). z.edition) x in
      ap (λ (z : Setting). z.value) (y ∙ since-same k (since-low k ms t) (more-behind k ms ns h) f ∙ sym x)

  module _ (ms : List Made) (k edition : ℕ) (v : List ℕ) where
    -- where the value comes from that a lookup finds
    abbrev origin_of : LookedUp q ms k edition v → Origin
    origin_of (inl x) = origin_behind k ms x.ahead
    origin_of (inr x) = origin k ms

    received-enough : (x : WireLookup q ms k edition v)
        → enough (Histories.receive x.image (x.ahead ++ (0 ∷ []))) x.lent ≡ true
    received-enough x =
        lent-enough (left q ms) (receive_with x.image x.lent (x.ahead ++ (0 ∷ []))) (λ f. undone 12 (sym f ∙ x.reply.0))

    -- more requests behind the calls before it, and behind it
    more-found : (x : LookedUp q ms k edition v) → More (origin k ms) (origin_of x)
    more-found (inl x) = record { requests = requests_in (frames_closed_by (received_since_all [] ms) x.ahead); origin = refl }
    more-found (inr x) = record { requests = []; origin = sym (more-none (origin k ms)) }

    more-since : (x : LookedUp q ms k edition v) (ns : List Made) → Each Stays ns
        → More (origin_of x) (origin k (ms ++ (lookup_calls x ++ ns)))
    unfolding since_all since_made since_call
    more-since (inl x) ns h =
        let c = receive_with x.image x.lent (x.ahead ++ (0 ∷ [])) in
        let w = received_since_all [] ms in
        let o = origin k ms in
        let before = requests_in (frames_closed_by w x.ahead) in
        let last = requests_in (frames_closed_by (w ++ x.ahead) (0 ∷ [])) in
        let e : since_more o (before ++ last) ≡ since_more (since_more o before) last =
        ap (λ rs. record { setting = o.setting; requests = rs }) (sym (append_assoc o.requests before last)) in
        let f : More (origin_of (inl x)) (since_made k w o c) =
        record { requests = last; origin = rw (received-enough x, requests-more w x.ahead (0 ∷ [])) e } in
        more-then f (rw (since-append k ms (c ∷ ns) [] since_start) (all_stay k ns h (received_since w c) (since_made k w o c)))
    more-since (inr x) ns h = more-behind k ms ns h

    calls-typed : (x : LookedUp q ms k edition v) → AllTyped (lookup_calls x)
    calls-typed (inl x) = (x.typed, tt)
    calls-typed (inr x) = tt

    module _ (t : AllTyped ms) where
      found-low : (x : LookedUp q ms k edition v) → (origin_of x).setting.edition ≤ Limits.last_edition
      found-low (inl x) = since-low k ms t
      found-low (inr x) = since-low k ms t

      module _ (back : ReadBack k) where
        wire-tells : (x : WireLookup q ms k edition v) → Tells (set_since k (origin_behind k ms x.ahead)) edition v
        wire-tells x =
            let r =
            last_set p b l d typed accepted ms t k back second_version x.number x.most x.most_fits x.lent x.image x.ahead
            x.typed (received-enough x) x.request in
            let o = owed (view (left q ms)).terminator_owed in
            reply-tells x.most edition v _ x.number
            (sym (drop-append_seam o _) ∙ ap (drop (length o)) (sym r.1 ∙ x.reply.1) ∙ drop-append_seam o _)

        -- what the call for the edition answers
        asked-told : (j : Lent) → (made (left q ms) (locally j (Histories.edition k))).answer ≡ found_edition 0 edition
            → (Local.edition_of (set_since k (origin k ms))).edition ≡ edition
        unfolding meant_made meant Local.edition
        asked-told j a =
            let c = locally j (Histories.edition k) in
            let key = back.key.upper in
            let i = lent-enough (left q ms) c (λ f. let z : ◌≡◌ {A = ℕ} 0 1 = cc in omega arith) in
            let m = rw i at (one_call (left q ms) c (history p b l d typed accepted ms t).2 (omega arith)) in
            let h = sym m.answer ∙ a in
            let e =
            rw (
              le-ltb Limits.highest_key k key,
              ne_eqb k Limits.passphrase_key back.other,
              value_last_set p b l d typed accepted ms t k back.key,
            ) at h in
            cc

        lookup-tells : (x : LookedUp q ms k edition v) → Tells (set_since k (origin_of x)) edition v
        lookup-tells (inl x) = wire-tells x
        lookup-tells (inr x) =
            let c = locally x.lookup_lent (Histories.lookup k x.most) in
            let a = x.lookup.0 in
            let e = lent-enough (left q ms) c (λ f. let z : ◌≡◌ {A = ℕ} 0 1 = cc in omega arith) in
            let r = lookup_last_set p b l d typed accepted ms t k back x.most x.most_fits x.lookup_lent e in
            let f = sym r.0 ∙ a in
            local-tells x.most edition v (set_since k (origin k ms)) (cc) (sym r.1 ∙ x.lookup.1)
            (asked-told x.edition_lent x.edition_asked)

  pub same_edition_same_list : SameEditionSameList q
  same_edition_same_list ms t k edition back v w x ns u h y =
      let ks = lookup_calls x ++ ns in
      let z = typed-both ms ks t (typed-both (lookup_calls x) ns (calls-typed ms k edition v x) u) in
      let more = more-then (more-since ms k edition v x ns h) (more-found (ms ++ ks) k edition w y) in
      same-told k (found-low ms k edition v t x) (found-low (ms ++ ks) k edition w z y) more (lookup-tells ms k edition v t back x)
      (lookup-tells (ms ++ ks) k edition w z back y)
