-- Numbers and frames between two starts: one frame for each number, numbers one above the last, and never falling.
-- Assumes nothing.
use mathlib.Core.Path.{◌≡◌, refl, sym, ap, ◌∙◌}
use mathlib.Core.Bool.{Bool, true, false, false≢true, cond}
use mathlib.Core.List.{List, [], ◌∷◌, ◌++◌}
use mathlib.Core.Logic.{◌⊎◌, inl, inr}
use mathlib.Core.Option.{Option, none, some}
use Prim.Native.Nat.{ℕ, suc, ◌≤◌, ◌<◌}
use native.Mathlib.Omega.{arith}
use lib.Dec.{leb, ltb, eqb}
use lib.ListN.{length, length-append}
use Rattle.octets.specs.Bytes.{Each, overlay}
use Rattle.octets.proofs.Conditions.{cond-by}
use Rattle.octets.proofs.Each.{each_append}
use Rattle.octets.proofs.Overlay.{overlay-inside}
use Rattle.line.specs.Limits.{longest_data}
use Rattle.line.specs.Judge.{judge}
use Rattle.line.specs.Frame.{frame}
use Rattle.line.specs.Judge.{more_received}
use Rattle.requester.specs.Limits.{last_number}
use Rattle.requester.specs.State.{Request, RecoveryStep, MainState, is_some, outstanding, request_frame}
use Rattle.requester.specs.Requester
use Rattle.requester.specs.Requester.{Heard, ground, hear, settle, stays_out}
use Rattle.requester.specs.Layout
use Rattle.requester.specs.Calls.{MainParts, MainPartsValid}
use Rattle.requester_claims.specs.View.{main_view}
use Rattle.requester_claims.specs.Histories
use Rattle.requester_claims.specs.Histories.{MainCall, refused, put, received, MainMeans, main_means, put_means, main_done_means}
use Rattle.requester_claims.specs.Histories.{main_meant, MainLent, MainMade, main_made, main_meant_made, main_enough}
use Rattle.requester_claims.proofs.MeaningLaws.{quiet-byte}
use Rattle.requester.proofs.ValidLaws.{requester-valid}
use Rattle.requester_claims.proofs.CallClaims.{outstanding-some}
use Rattle.requester_claims.proofs.History.{one_call, history}
use Rattle.requester_claims.specs.Histories.{OfReached, OfValid}
use Rattle.requester_claims.specs.Item2.{OneNumber, NumbersInRange}
use Rattle.requester_claims.specs.Numbers.{Frame, frames_put_out, frames, is_start, NoMainStart, Between, OnePerNumber, OneAbove}
use Rattle.requester_claims.specs.Numbers.{RequestFrame, InNumbers}

-- ---- one call

abbrev pub framed : ℕ → Request → List Frame
framed n q = record { number = n; bytes = request_frame n q } ∷ []

-- the number stays, and so does the one outstanding, unless none is left; or the next number is taken
pub data Goes (s t : MainState) (fs : List Frame) : Type 0 where
  stays : t.newest ≡ s.newest → (outstanding t ≡ outstanding s) ⊎ (outstanding t ≡ none)
      → (fs ≡ []) ⊎ ((q : Request) × (outstanding s ≡ some q) × (fs ≡ framed s.newest q)) → Goes s t fs
  takes : t.newest ≡ suc s.newest
      → (fs ≡ []) ⊎ ((q : Request) × ((outstanding t ≡ some q) ⊎ (outstanding t ≡ none)) × (fs ≡ framed t.newest q)) → Goes s t fs

nothing-goes : (s : MainState) → Goes s s []
nothing-goes s = stays refl (inl refl) (inl refl)

moved-goes : (x : Requester.Next) (s : MainState) → Goes s (Requester.main_moved_to x s).state []
unfolding Requester.main_moved_to
moved-goes Requester.same s = nothing-goes s
moved-goes Requester.again s = stays refl (inl refl) (inl refl)
moved-goes (Requester.anew t) s =
    cond-by (λ (m : Requester.MainMoved). Goes s m.state []) (leb last_number s.newest) _ _ (λ _. stays refl (inr refl) (inl refl))
    (λ _. takes refl (inl refl))
moved-goes Requester.idle s = stays refl (inr refl) (inl refl)

-- the receive progress does not matter
progress-goes : {s t : MainState} {fs : List Frame} (bs : Option (List ℕ)) → Goes (Requester.main_with_received s bs) t fs → Goes s t fs
progress-goes bs (stays a b c) = stays a b c
progress-goes bs (takes a b) = takes a b

-- a byte
module _ (s : MainState) where
  hears-goes : (bs : Option (List ℕ)) (h : Heard) → Goes s (Requester.after_heard h (Requester.main_with_received s bs)).state []
  hears-goes bs h = progress-goes bs (moved-goes (settle s.recovery (is_some s.kept) h).next (Requester.main_with_received s bs))

  closes-goes : (bs : Option (List ℕ)) → Goes s (Requester.main_closed bs (Requester.main_with_received s (some []))).state []
  closes-goes none = stays refl (inl refl) (inl refl)
  closes-goes (some []) = stays refl (inl refl) (inl refl)
  closes-goes (some (b ∷ bs)) = hears-goes (some []) (hear s.newest (judge (b ∷ bs)))

  more-goes : (bs : Option (List ℕ)) (b : ℕ) → Goes s (Requester.main_more bs b s).state []
  more-goes bs b =
      cond-by (λ (x : Requester.MainResult). Goes s x.state []) (Requester.fills bs) _ _ (λ _. hears-goes (more_received bs b) ground)
      (λ _. stays refl (inl refl) (inl refl))

  byte-goes : (b : ℕ) → Goes s (Requester.main_byte s b).state []
  unfolding Requester.main_byte
  byte-goes b =
      cond-by (λ (x : Requester.MainResult). Goes s x.state []) (eqb b 0) _ _ (λ _. closes-goes s.received)
      (λ _. more-goes s.received b)

receive-goes : (piece : List ℕ) (s : MainState) → Goes s (Requester.receive s piece).result.state []
unfolding Requester.receive
receive-goes [] s = nothing-goes s
receive-goes (b ∷ bs) s =
    by (Requester.stops s b) refl (λ x. receive-goes bs (Requester.main_with_received s x))
  where
    P : Requester.MainReceived → Type 0
    P x = Goes s x.result.state []

    by : (t : Bool) → Requester.stops s b ≡ t
        → ((x : Option (List ℕ))
        → Goes (Requester.main_with_received s x) (Requester.receive (Requester.main_with_received s x) bs).result.state [])
        → let r = Requester.receive (Requester.main_byte s b).state bs in P (cond t (Requester.main_received 1 (Requester.main_byte s b))
        (Requester.main_received (suc r.used) r.result))
    by true e i = byte-goes s b
    by false e i = rw (quiet-byte s b e) (progress-goes (more_received s.received b) (i (more_received s.received b)))

-- ---- what is put out

-- a frame at the start of the room
pub frames-put : (n : ℕ) (bs room : List ℕ) → 0 < length bs
    → frames_put_out (put (length bs)) (overlay 0 bs room) n ≡ record { number = n; bytes = bs } ∷ []
unfolding frames_put_out
frames-put n [] room h = absurd (omega arith)
frames-put n (b ∷ bs) room h = rw (overlay-inside 0 (b ∷ bs) room (omega arith))

pub some_bytes : (n : ℕ) (q : Request) → 0 < length (request_frame n q)
unfolding request_frame frame
some_bytes n q = rw length-append (omega arith)

-- by what a call means
abbrev pub frames_of : MainMeans → List Frame
frames_of x = frames_put_out x.answer x.out x.state.newest

module _ (s : MainState) where
  abbrev pub MeansGoes : MainMeans → Type 0
  MeansGoes x = Goes s x.state (frames_of x)

  abbrev PutGoes : List ℕ → Requester.MainDone → Type 0
  PutGoes room x = MeansGoes (put_means x.refusal room x.out x.state)

  refused-goes : (k : ℕ) (room : List ℕ) → MeansGoes (main_means (refused k) room s)
  unfolding frames_put_out
  refused-goes k room = nothing-goes s

  request-goes : (command : ℕ) (d room : List ℕ)
      → PutGoes room (Requester.request (length room) (record { command = command; payload = d }) s)
  unfolding Requester.request
  request-goes command d room =
      let q : Request = record { command = command; payload = d } in
      let n = suc s.newest in
      cond-by (PutGoes room) (ltb longest_data (length d)) _ _ (λ _. refused-goes 9 room) (λ _.
      cond-by (PutGoes room) (is_some (outstanding s)) _ _ (λ _. refused-goes 17 room) (λ _.
      cond-by (PutGoes room) (leb last_number s.newest) _ _ (λ _. refused-goes 14 room) (λ _.
      cond-by (PutGoes room) (ltb (length room) (length (request_frame n q))) _ _ (λ _. refused-goes 8 room) (λ _.
      rw (frames-put n (request_frame n q) room (some_bytes n q)) (takes refl (inr (q, kept q, refl)))))))
    where
      kept : (q : Request) → (Requester.keep q ≡ some q) ⊎ (Requester.keep q ≡ none)
      kept q = cond-by (λ k. (k ≡ some q) ⊎ (k ≡ none)) (stays_out q.command) (some q) none (λ _. inl refl) (λ _. inr refl)

  interrupt-goes : (t : Option RecoveryStep)
      → MeansGoes (main_done_means (Requester.interrupted_in t s).refusal (Requester.interrupted_in t s).state)
  unfolding frames_put_out
  interrupt-goes (some t) = nothing-goes s
  interrupt-goes none =
      cond-by (λ (x : Requester.MainDone). MeansGoes (main_done_means x.refusal x.state)) (leb last_number s.newest) _ _
      (λ _. nothing-goes s) (λ _. takes refl (inl refl))

  send-goes : (room : List ℕ) (q : Option Request) → outstanding s ≡ q → PutGoes room (Requester.sent_of (length room) q s)
  unfolding frames_put_out
  send-goes room none e = nothing-goes s
  send-goes room (some q) e =
      cond-by (PutGoes room) s.unsent _ _
      (λ _. cond-by (PutGoes room) (ltb (length room) (length (request_frame s.newest q))) _ _ (λ _. nothing-goes s) (λ _.
      rw (frames-put s.newest (request_frame s.newest q) room (some_bytes s.newest q)) (stays refl (inl refl) (inr (q, e, refl)))))
      (λ _. nothing-goes s)

  meant-goes : (c : MainCall) → is_start c ≡ false → MeansGoes (main_meant s c)
  unfolding main_meant Requester.interrupt Requester.send frames_put_out
  meant-goes Histories.start h = absurd (false≢true (sym h))
  meant-goes (Histories.request command d room) h = request-goes command d room
  meant-goes Histories.interrupt h = interrupt-goes s.recovery
  meant-goes (Histories.send room) h = send-goes room (outstanding s) refl
  meant-goes (Histories.receive piece) h = receive-goes piece s
  meant-goes Histories.state h = nothing-goes s

  not_start : (m : MainMade) → NoMainStart m → main_enough m.call m.lent ≡ true → is_start m.call ≡ false
  not_start m h e = by (is_start m.call) refl
    where
      by : (t : Bool) → is_start m.call ≡ t → t ≡ false
      by false f = refl
      by true f = absurd (false≢true (sym (h f) ∙ e))

  pub call-goes : (m : MainMade) → NoMainStart m → MeansGoes (main_meant_made s m)
  unfolding main_meant_made
  call-goes m h =
      cond-by MeansGoes (main_enough m.call m.lent) _ _ (λ e. meant-goes m.call (not_start m h e)) (λ _. refused-goes 12 _)

-- ---- lists of calls, in document 02's words

unfoldable frames_meant : MainState → List MainMade → List Frame
frames_meant s [] = []
frames_meant s (m ∷ ms) = let x = main_meant_made s m in frames_of x ++ frames_meant x.state ms

newest-is : (p : MainParts) → Layout.newest_number p.requester ≡ (main_view p).newest
unfolding main_view
newest-is p = refl

pub newest-after : (p : MainParts) → MainPartsValid p → (m : MainMade)
    → Layout.newest_number (main_made p m).parts.requester ≡ (main_meant_made (main_view p) m).state.newest
newest-after p v m = newest-is (main_made p m).parts ∙ ap (λ (s : MainState). s.newest) (one_call p m v).state

frames-meant : (p : MainParts) → MainPartsValid p → (ms : List MainMade) → frames p ms ≡ frames_meant (main_view p) ms
unfolding frames frames_meant
frames-meant p v [] = refl
frames-meant p v (m ∷ ms) =
    let k = one_call p m v in
    let i = frames-meant (main_made p m).parts k.valid ms in
    rw (k.answer, k.out, newest-after p v m, i, k.state)

-- a frame that was put out: later ones under its number are the same
pub record Agrees (x : Frame) (s : MainState) : Type 0 where
  pub most : x.number ≤ s.newest
  pub same : s.newest ≡ x.number → (q : Request) → outstanding s ≡ some q → request_frame x.number q ≡ x.bytes

abbrev pub Behind : Frame → Frame → Type 0
Behind x y = (x.number ≤ y.number) × (y.number ≡ x.number → y.bytes ≡ x.bytes)

never-some : {q : Request} {k : Option Request} → k ≡ none → k ≡ some q → ⊥
never-some e f = let z : ◌≡◌ {A = ℕ} 0 1 = cc in omega arith

pub agrees-goes : (x : Frame) {s t : MainState} {fs : List Frame} → Agrees x s → Goes s t fs → Agrees x t × Each (Behind x) fs
agrees-goes x {s} {t} a (stays e k f) = (record { most = omega (arith, a.most); same = λ n q o. same k n q o }, behind f)
  where
    same : (outstanding t ≡ outstanding s) ⊎ (outstanding t ≡ none) → t.newest ≡ x.number → (q : Request) → outstanding t ≡ some q
        → request_frame x.number q ≡ x.bytes
    same (inl h) n q o = a.same (sym e ∙ n) q (sym h ∙ o)
    same (inr h) n q o = absurd (never-some h o)

    behind : {fs : List Frame} → (fs ≡ []) ⊎ ((q : Request) × (outstanding s ≡ some q) × (fs ≡ framed s.newest q)) → Each (Behind x) fs
    behind (inl h) = rw h tt
    behind (inr (q, o, h)) = rw h ((a.most, λ n. rw n (a.same n q o)), tt)
agrees-goes x {s} {t} a (takes e f) = (record { most = omega (arith, a.most); same = λ n q o. absurd (omega (arith, a.most)) }, behind f)
  where
    behind : {fs : List Frame}
        → (fs ≡ []) ⊎ ((q : Request) × ((outstanding t ≡ some q) ⊎ (outstanding t ≡ none)) × (fs ≡ framed t.newest q))
        → Each (Behind x) fs
    behind (inl h) = rw h tt
    behind (inr (q, o, h)) = rw h ((omega (arith, a.most), λ n. absurd (omega (arith, a.most))), tt)

-- what a call puts out is one frame at most, a request's, and agrees with the state that is left
pub put-goes : {s t : MainState} {fs : List Frame} → Goes s t fs
    → Each (λ (x : Frame). Agrees x t) fs × OnePerNumber fs × Each RequestFrame fs
put-goes {s} {t} (stays e k (inl h)) = rw h (tt, tt, tt)
put-goes {s} {t} (stays e k (inr (q, o, h))) =
    rw h ((record { most = omega arith; same = λ n r w. same k r w }, tt), (tt, tt), ((q, refl), tt))
  where
    same : (outstanding t ≡ outstanding s) ⊎ (outstanding t ≡ none) → (r : Request) → outstanding t ≡ some r
        → request_frame s.newest r ≡ request_frame s.newest q
    same (inl g) r w = let z : r ≡ q = cc in rw z
    same (inr g) r w = absurd (never-some g w)
put-goes {s} {t} (takes e (inl h)) = rw h (tt, tt, tt)
put-goes {s} {t} (takes e (inr (q, k, h))) =
    rw h ((record { most = omega arith; same = λ n r w. same k r w }, tt), (tt, tt), ((q, refl), tt))
  where
    same : (outstanding t ≡ some q) ⊎ (outstanding t ≡ none) → (r : Request) → outstanding t ≡ some r
        → request_frame t.newest r ≡ request_frame t.newest q
    same (inl g) r w = let z : r ≡ q = cc in rw z
    same (inr g) r w = absurd (never-some g w)

-- all later frames
later-behind : (x : Frame) (s : MainState) → Agrees x s → (ms : List MainMade) → Between ms → Each (Behind x) (frames_meant s ms)
unfolding frames_meant
later-behind x s a [] h = tt
later-behind x s a (m ∷ ms) h =
    let g = agrees-goes x a (call-goes s m h.0) in
    let t = main_meant_made s m in
    each_append (Behind x) (frames_of t) (frames_meant t.state ms) g.1 (later-behind x t.state g.0 ms h.1)

pub joined : (fs gs : List Frame) → Each (λ (x : Frame). Each (Behind x) gs) fs → OnePerNumber fs → OnePerNumber gs
    → OnePerNumber (fs ++ gs)
joined [] gs h a b = b
joined (x ∷ fs) gs h a b = (each_append (Behind x) fs gs a.0 h.0, joined fs gs h.1 a.1 b)

-- frames that agree with a state, and those of the calls on it
agreed-behind : (fs : List Frame) (s : MainState) → Each (λ (x : Frame). Agrees x s) fs → (ms : List MainMade) → Between ms
    → Each (λ (x : Frame). Each (Behind x) (frames_meant s ms)) fs
agreed-behind [] s h ms b = tt
agreed-behind (x ∷ fs) s h ms b = (later-behind x s h.0 ms b, agreed-behind fs s h.1 ms b)

one-meant : (s : MainState) (ms : List MainMade) → Between ms → OnePerNumber (frames_meant s ms) × Each RequestFrame (frames_meant s ms)
unfolding frames_meant
one-meant s [] h = (tt, tt)
one-meant s (m ∷ ms) h =
    let g = put-goes (call-goes s m h.0) in
    let t = main_meant_made s m in
    let i = one-meant t.state ms h.1 in
    let rest = frames_meant t.state ms in (
      joined (frames_of t) rest (agreed-behind (frames_of t) t.state g.0 ms h.1) g.1 i.0,
      each_append RequestFrame (frames_of t) rest g.2 i.1,
    )

one-above : (p : MainParts) → MainPartsValid p → (ms : List MainMade) → Between ms → OneAbove p ms
one-above p v [] h = tt
one-above p v (m ∷ ms) h = (
  rw (newest-after p v m, newest-is p) (by (call-goes (main_view p) m h.0)),
  one-above (main_made p m).parts (one_call p m v).valid ms h.1,
)
  where
    by : {s t : MainState} {fs : List Frame} → Goes s t fs → (t.newest ≡ s.newest) ⊎ (t.newest ≡ suc s.newest)
    by (stays e k f) = inl e
    by (takes e f) = inr e

-- ---- the claim

pub one_number : OfValid OneNumber
one_number p v ms h =
    let i = one-meant (main_view p) ms h in (rw (frames-meant p v ms) i.0, rw (frames-meant p v ms) i.1, one-above p v ms h)

pub one_number_started : OfReached OneNumber
one_number_started p l h before = one_number _ (history p l h before).2

-- ---- sequences run from 1 to the last

goes_in : {s t : MainState} {fs : List Frame} → (is_some (outstanding s) ≡ true → 1 ≤ s.newest) → s.newest ≤ last_number
    → t.newest ≤ last_number → Goes s t fs → Each InNumbers fs
goes_in o a b (stays e k (inl h)) = rw h tt
goes_in o a b (stays e k (inr (q, w, h))) = rw h (((q, refl), o (rw w refl), a), tt)
goes_in o a b (takes e (inl h)) = rw h tt
goes_in o a b (takes e (inr (q, w, h))) = rw h (((q, refl), omega (arith, e), b), tt)

start_none : (s : MainState) (l : MainLent) (c : MainCall) → is_start c ≡ true
    → frames_of (main_meant_made s (record { lent = l; call = c })) ≡ []
unfolding main_meant_made main_meant frames_put_out
start_none s l Histories.start e =
    cond-by (λ (x : MainMeans). frames_of x ≡ []) (main_enough Histories.start l) _ _ (λ _. refl) (λ _. refl)
start_none s l (Histories.request command d room) e = absurd (false≢true e)
start_none s l Histories.interrupt e = absurd (false≢true e)
start_none s l (Histories.send room) e = absurd (false≢true e)
start_none s l (Histories.receive piece) e = absurd (false≢true e)
start_none s l Histories.state e = absurd (false≢true e)

module _ (p : MainParts) (v : MainPartsValid p) where
  newest-numbered : is_some (outstanding (main_view p)) ≡ true → 1 ≤ (main_view p).newest
  unfolding main_view
  newest-numbered e = (requester-valid p.requester v.requester).numbered (sym (outstanding-some p.requester) ∙ e)

  call-in : (m : MainMade) → Each InNumbers (frames_of (main_meant_made (main_view p) m))
  call-in m = by (is_start m.call) refl
    where
      by : (t : Bool) → is_start m.call ≡ t → Each InNumbers (frames_of (main_meant_made (main_view p) m))
      by true f = rw (start_none (main_view p) m.lent m.call f) tt
      by false f =
          goes_in newest-numbered (rw (newest-is p) at (requester-valid p.requester v.requester).number)
          (rw (newest-after p v m) at (requester-valid _ (one_call p m v).valid.requester).number)
          (call-goes (main_view p) m (λ e. absurd (false≢true (sym f ∙ e))))

pub numbers_in_range : OfValid NumbersInRange
unfolding frames
numbers_in_range p v [] = tt
numbers_in_range p v (m ∷ ms) =
    let k = one_call p m v in
    let d = main_made p m in
    each_append InNumbers (frames_put_out d.answer d.out (Layout.newest_number d.parts.requester)) (frames d.parts ms)
    (rw (k.answer, k.out, newest-after p v m) (call-in p v m)) (numbers_in_range d.parts k.valid ms)
