-- Lists of calls: what each answers, writes and leaves is document 01's, whatever is lent; refusals; the cut law; step.
-- Assumes nothing.
use mathlib.Core.Path.{◌≡◌, refl, sym, ap, subst, ◌∙◌}
use mathlib.Core.Bool.{Bool, true, false, false≢true, not, ◌||◌}
use mathlib.Core.List.{List, [], ◌∷◌, ◌++◌}
use Prim.Native.Nat.{ℕ, zero, suc, ◌+◌, ◌-◌, ◌≤◌}
use native.Mathlib.Omega.{arith}
use lib.Dec.{eqb}
use lib.ListN.{length, take, drop, take-append-drop, length-drop}
use borrow.Author.Tests.{le-leb}
use Rattle.octets.specs.Bytes.{Byte}
use Rattle.octets.proofs.Conditions.{cond-by}
use Rattle.octets.proofs.Each.{each_take, each-drop}
use Rattle.supervisor.specs.State.{fresh}
use Rattle.supervisor.specs.Local
use Rattle.supervisor.specs.Calls
use Rattle.supervisor.specs.Calls.{Parts}
use Rattle.responder.specs.Receive
use Rattle.supervisor_claims.specs.ByPart.{Part, part, valid_part}
use Rattle.supervisor_claims.specs.View.{factory_of, view}
use Rattle.supervisor_claims.specs.Sound.{Bytes, Sound, Leaves}
use Rattle.supervisor_claims.specs.Histories
use Rattle.supervisor_claims.specs.Histories.{Call, Typed, refused, done, Did, did, meant, up_to}
use Rattle.supervisor_claims.specs.Histories.{Lent, lent_of, takes_part, enough, Made, made, meant_made, outputs, left, outputs_meant}
use Rattle.supervisor_claims.specs.Histories.{left_meant, AllTyped}
use Rattle.supervisor_claims.specs.Histories.{start_with}
use Rattle.supervisor_claims.specs.Demand1.{part_asked, parts_fit_call, Meets, OneCall, RefusedMade}
use Rattle.supervisor_claims.specs.Demand2.{Follows, step_calls, History, Cut, StepReceives, StepThenReceive, StepsReceive}
use Rattle.supervisor_claims.proofs.ByPart.{every, of, every_true, part-long}
use Rattle.supervisor_claims.proofs.Sound.{lengths-same, lengths-then, valid-long}
use Rattle.supervisor_claims.proofs.laws.Locality.{widened, lent-bytes, lent-sound, lent_view, back-lent, back-leaves}
use Rattle.supervisor_claims.proofs.calls.StartClaim.{start-refused}
use Rattle.supervisor_claims.proofs.calls.ReceiveClaim.{fed-leaves}
use Rattle.supervisor_claims.proofs.calls.StepClaim.{step-fed}
use Rattle.supervisor_claims.proofs.calls.CallClaims.{start-leaves, call-meets}
use Rattle.supervisor_claims.proofs.claims.Refusals.{refused-12, refused_holds, refused_exactly}
use Rattle.supervisor_claims.proofs.calls.RowLaws.{WhereRefused}
use Rattle.supervisor_claims.proofs.claims.LentCalls.{parts-valid, valid-parts, made_12, widened-enough, widened_same}

-- ---- refusals change nothing

pub refused_made : RefusedMade
unfolding made
refused_made p m e =
    let h = refused_holds (lent_of m.lent p) m.call e in
    (rw h.0 (back-lent m.lent p), h.1)

-- ---- one call

back-meets : (l : Lent) (p : Parts) (c : Call) → Bytes p → Meets (lent_of l p) (did (lent_of l p) c) (meant (view p) c)
    → Meets p (made p (record { lent = l; call = c })) (meant (view p) c)
unfolding made
back-meets l p c b k = record { answer = k.answer; out = k.out; leaves = back-leaves l p _ b k.leaves }

-- on sound parts, lent enough of each part that it takes
enough-meets : (p : Parts) (m : Made) → Sound p → Typed m.call → enough m.call m.lent ≡ true
    → Meets p (made p m) (meant (view p) m.call)
enough-meets p m s typed e =
    let n = widened (takes_part m.call) m.lent p in
    let w = widened-enough m.lent p (valid-long {p = p} s.valid) m.call e in
    let k = call-meets (lent_of n p) (lent-sound n p w s) m.call typed in
    rw (widened_same p m.call m.lent) (back-meets n p m.call s.bytes (rw (lent_view n p w s.valid) at k))

pub one_call : OneCall
unfolding meant_made
one_call p m s typed =
    cond-by (Meets p (made p m)) (enough m.call m.lent) _ _
    (λ e. enough-meets p m s typed e)
    (λ e. rw (made_12 p m e) (record { answer = refl; out = refl; leaves = (refl, s, lengths-same) }))

-- sound parts are as every call asks, so that they never earn 12
sound-asked : (c : Call) (i : Part) (s : List ℕ) → valid_part i s ≡ true → part_asked c i s ≡ true
sound-asked (Histories.start d) i s v = le-leb _ _ (part-long i s v)
sound-asked (Histories.receive image piece) i s v = v
sound-asked (Histories.step image piece) i s v = v
sound-asked (Histories.local c) i s v = v

pub sound-fits : (q : Parts) (c : Call) → Sound q → parts_fit_call q c ≡ true
unfolding parts_fit_call
sound-fits q c s = every_true _ (every (λ i. by i (takes_part c i)))
  where
    by : (i : Part) (t : Bool) → (not t || part_asked c i (part q i)) ≡ true
    by i true = sound-asked c i (part q i) (of s.valid i)
    by i false = refl

pub earns-no-12 : (p : Parts) → Sound p → (m : Made) → enough m.call m.lent ≡ true → (made p m).answer ≡ refused 12 → ⊥
unfolding made
earns-no-12 p s m e h =
    let n = widened (takes_part m.call) m.lent p in
    let w = widened-enough m.lent p (valid-long {p = p} s.valid) m.call e in
    let k : (did (lent_of n p) m.call).answer ≡ refused 12 =
    ap (λ (x : Did). x.answer) (sym (widened_same p m.call m.lent)) ∙ h in
    false≢true (sym ((refused_exactly (lent_of n p) m.call).0 k) ∙ sound-fits (lent_of n p) m.call (lent-sound n p w s))

-- ---- a list of calls, on sound parts

pub follows : (q : Parts) → Sound q → (ms : List Made) → AllTyped ms → Follows q q (view q) ms
unfolding outputs left outputs_meant left_meant
follows q s [] h = (refl, refl, s, lengths-same)
follows q s (m ∷ ms) h =
    let k = one_call q m s h.0 in
    let i : Follows (made q m).parts (made q m).parts (meant_made (view q) m).state ms =
    rw k.leaves.0 at (follows (made q m).parts k.leaves.1 ms h.1) in
    (rw (k.answer, k.out, i.0), i.1, i.2, lengths-then k.leaves.2 i.3)

-- ---- the first start, on any bytes

-- a refusal is not done
pub undone : (n : ℕ) → refused n ≡ done → ⊥
undone n e = subst (λ a. WhereRefused a (λ _. ⊥)) (sym e) tt

module _ (p : Parts) (b : Bytes p) (l : Lent) (d : List ℕ) (typed : Typed (Histories.start d)) where
  -- a start that is accepted had room and start data that are not refused
  accepted : (x y : Bool) → Calls.long_enough (lent_of l p) ≡ x → Local.bad_start (factory_of d) ≡ y
      → (did (lent_of l p) (Histories.start d)).answer ≡ done
      → Leaves (lent_of l p) (did (lent_of l p) (Histories.start d)).parts (fresh (factory_of d))
  unfolding did parts_fit_call Calls.long_enough
  accepted false y r e h = absurd (undone 12 (sym (ap (λ (x : Did). x.answer) (refused-12 (lent_of l p) (Histories.start d) r)) ∙ h))
  accepted true true r e h = absurd (undone 11 (rw (start-refused d typed.0 (lent_of l p) r e) at h))
  accepted true false r e h = (start-leaves d typed (lent_of l p) (lent-bytes l p b) r e).1

  pub started : (made p (start_with l d)).answer ≡ done → Leaves p (made p (start_with l d)).parts (fresh (factory_of d))
  unfolding made
  started h = back-leaves l p _ b (accepted _ _ refl refl h)

-- ---- the claim

pub history : History
history p b l d typed h ms t =
    let k = started p b l d typed h in
    let i = rw k.0 at (follows _ k.1 ms t) in
    (i.0, i.1, i.2, lengths-then k.2 i.3)

-- ---- the cut law

fed-append : (image a b : List ℕ) (p : Parts) → Receive.feed_bytes image p (a ++ b)
    ≡ Receive.feed_bytes image (Receive.feed_bytes image p a) b
unfolding Receive.feed_bytes
fed-append image [] b p = refl
fed-append image (x ∷ a) b p = fed-append image a b (Receive.feed_byte image p x)

pub cut : Cut
unfolding did Receive.receive_promise
cut image p a b h i k = go (Receive.valid_parts p) refl
  where
    go : (t : Bool) → Receive.valid_parts p ≡ t
        → did p (Histories.receive image (a ++ b)) ≡ did (did p (Histories.receive image a)).parts (Histories.receive image b)
    go true e =
        let f = fed-leaves image p a i (record { valid = parts-valid p e; bytes = h }) k in
        rw (e, valid-parts (Receive.feed_bytes image p a) f.1.valid, fed-append image a b p)
    go false e = rw (e, e)

-- ---- step repeated is receive

pub step_receives : StepReceives
unfolding did Receive.receive_promise Receive.step_promise Receive.valid_step
step_receives image p piece = go (Receive.valid_parts p) refl
  where
    go : (t : Bool) → Receive.valid_parts p ≡ t
        → (did p (Histories.step image piece)).parts ≡ (did p (Histories.receive image (take (up_to piece) piece))).parts
    go true e = rw e (step-fed image piece p)
    go false e = rw e

pub step_then_receive : StepThenReceive
step_then_receive image p piece b i h =
    let n = up_to piece in
    let c = cut image p (take n piece) (drop n piece) b i (each_take Byte n piece h) in
    rw (step_receives image p piece) (sym c ∙ ap (λ x. did p (Histories.receive image x)) (take-append-drop n piece))

-- a piece that is not empty is read by one byte at least
up_to-one : (piece : List ℕ) → length piece ≤ length piece - 1 + up_to piece
unfolding up_to
up_to-one [] = omega arith
up_to-one (b ∷ bs) = cond-by (λ n. length (b ∷ bs) ≤ length (b ∷ bs) - 1 + n) (eqb b 0) _ _ (λ e. omega arith) (λ e. omega arith)

pub steps_receive : StepsReceive
unfolding step_calls did Receive.receive_promise Receive.feed_bytes
steps_receive zero image p [] s i h l = rw (valid-parts p s.valid)
steps_receive zero image p (b ∷ bs) s i h l = absurd (omega arith)
steps_receive (suc n) image p piece s i h l =
    let k = (call-meets p s (Histories.step image piece) (i, h)).leaves.1 in
    let m = up_to-one piece in
    steps_receive n image _ (drop (up_to piece) piece) k i (each-drop Byte (up_to piece) piece h)
    (omega (arith, length-drop (up_to piece) piece))
    ∙ ap (λ (x : Did). x.parts) (step_then_receive image p piece s.bytes i h)
