-- Two runs from one start that set passphrases of their own: the other calls answer the same, and only the record differs.
-- Assumes nothing.
use mathlib.Core.Path.{◌≡◌, refl, sym, ap, subst, ◌∙◌}
use mathlib.Core.Logic.{inr}
use mathlib.Core.Bool.{Bool, true, false, false≢true, cond, ◌&&◌}
use mathlib.Core.List.{List, [], ◌∷◌, ◌++◌, append-nil, append_assoc}
use mathlib.Core.Option.{some}
use Prim.Native.Nat.{ℕ, suc, ◌≤◌}
use native.Mathlib.Omega.{arith}
use lib.Dec.{eqb}
use Rattle.octets.specs.Bytes.{Byte, Each}
use Rattle.octets.proofs.Each.{each_append, each_take}
use Rattle.line.specs.Message.{message}
use Rattle.line.specs.Cobs.{cobs}
use Rattle.line.specs.Frame.{Pieces, split, closed_behind, frame}
use Rattle.line.specs.Judge.{progress_of}
use Rattle.line.specs.Reader as LineReader
use Rattle.line.proofs.Pieces.{split-none, closed-rest}
use Rattle.line_claims.proofs.CobsClaims.{above_zero}
use Rattle.line_claims.proofs.LoanLaws.{back-same}
use Rattle.supervisor.specs.Limits
use Rattle.supervisor.specs.State.{fresh}
use Rattle.supervisor.specs.Calls.{Parts}
use Rattle.responder.specs.Receive
use Rattle.supervisor_claims.specs.ByPart.{Part}
use Rattle.supervisor_claims.specs.View.{factory_of, view}
use Rattle.supervisor_claims.specs.Sound.{Sound, with_reader}
use Rattle.supervisor_claims.specs.Histories
use Rattle.supervisor_claims.specs.Histories.{LocalCall, Call, Typed, Did, did_by, did, up_to}
use Rattle.supervisor_claims.specs.Histories.{Lent, enough, Made, made, locally}
use Rattle.supervisor_claims.specs.FrameHistory.{piece_read, is_accepted_start, bytes_received_by, starts_anew}
use Rattle.supervisor_claims.specs.FrameHistory.{received_since}
use Rattle.supervisor_claims.specs.MixedCalls
use Rattle.supervisor_claims.specs.MixedCalls.{MixedCall, DidMixed, did_mixed, made_mixed, MixedOutput, outputs_mixed, left_mixed}
use Rattle.supervisor_claims.specs.MixedCalls.{mixed_since}
use Rattle.supervisor_claims.specs.TwoRuns.{SameButPassphrase, passphrase_edition, starts_anew_by}
use Rattle.supervisor_claims.specs.Forgets.{passphrase_set, NothingCome}
use Rattle.supervisor_claims.specs.TwoPassphrases
use Rattle.supervisor_claims.specs.TwoPassphrases.{RunCall, other_outputs, left_by_calls, bytes_brought, other_calls, IsLocal, LocalMixed}
use Rattle.supervisor_claims.specs.TwoPassphrases.{WhileSet, SetCalls, BringsSet, Turn, TypedTurn, calls_of_set, first_run, second_run}
use Rattle.supervisor_claims.specs.TwoPassphrases.{TwoSets, BeginsBetween, TwoPassphrases}
use Rattle.supervisor_claims.proofs.laws.Progress.{Since, rest-nonzero}
use Rattle.supervisor_claims.proofs.calls.ReceiveClaim.{fed-leaves}
use Rattle.supervisor_claims.proofs.claims.History.{started}
use Rattle.supervisor_claims.proofs.claims.MixedClaim.{mixed-meets, call-sound}
use Rattle.supervisor_claims.proofs.claims.TwoRunLaws.{grow-equal}
use Rattle.supervisor_claims.proofs.claims.OutsideLaws.{wrong_length}
use Rattle.supervisor_claims.proofs.claims.FedSame.{closed-anew}
use Rattle.supervisor_claims.proofs.claims.BehindLaws.{Harmless}
use Rattle.supervisor_claims.proofs.claims.RunsSame.{next-same, anew-mixed, same_parts}
use Rattle.supervisor_claims.proofs.claims.SetUnseen.{fed-append, harmless-append, call-fed, pushes, harmless, none_yet}
use Rattle.supervisor_claims.proofs.claims.SetUnseen.{fed-sets, fed-editions}

abbrev NonZero : List ℕ → Type 0
NonZero = Each (λ b. 1 ≤ b)

pub each-parts : (P : ℕ → Type 0) (xs ys : List ℕ) → Each P (xs ++ ys) → Each P xs × Each P ys
each-parts P [] ys h = (tt, h)
each-parts P (x ∷ xs) ys h = let k = each-parts P xs ys h.1 in ((h.0, k.0), k.1)

-- ---- a local call while bytes of a frame have come

-- it leaves the reader's part, and goes by no byte of it
module _ (p : Parts) (r : List ℕ) (l : Lent) where
  abbrev Aside : LocalCall → Type 0
  Aside c = let d = made p (locally l c) in made (with_reader p r) (locally l c) ≡ did_by d.answer d.out (with_reader d.parts r)

  local-aside : (c : LocalCall) → Aside c
  unfolding made did
  local-aside (Histories.take room) = rw (back-same LineReader.reader_length r (l Part.reader))
  local-aside (Histories.post action text) = rw (back-same LineReader.reader_length r (l Part.reader))
  local-aside (Histories.set_options options) = rw (back-same LineReader.reader_length r (l Part.reader))
  local-aside (Histories.lookup key most) = rw (back-same LineReader.reader_length r (l Part.reader))
  local-aside (Histories.edition key) = rw (back-same LineReader.reader_length r (l Part.reader))
  local-aside Histories.signal = rw (back-same LineReader.reader_length r (l Part.reader))
  local-aside Histories.flags = rw (back-same LineReader.reader_length r (l Part.reader))
  local-aside (Histories.read_record k) = rw (back-same LineReader.reader_length r (l Part.reader))
  local-aside (Histories.save room) = rw (back-same LineReader.reader_length r (l Part.reader))
  local-aside (Histories.restore image) = rw (back-same LineReader.reader_length r (l Part.reader))

-- so the reader's part stays
local-reader : (p : Parts) (l : Lent) (c : LocalCall) → (made p (locally l c)).parts.reader ≡ p.reader
local-reader p l c = ap (λ (d : Did). d.parts.reader) (local-aside p p.reader l c)

module _ (p : Parts) (f : List ℕ) (z : NonZero f) (l : Lent) (c : LocalCall) where
  local-fed : let m : MixedCall = MixedCalls.supervisor (locally l c) in
      let d = made_mixed p m in
      made_mixed (Receive.feed_bytes [] p f) m ≡ did_mixed d.answer d.out (Receive.feed_bytes [] d.parts f)
  unfolding made_mixed
  local-fed =
      let d = made p (locally l c) in
      rw (
        pushes f z p,
        local-aside p (LineReader.pushed_all p.reader f) l c,
        pushes f z d.parts,
        local-reader p l c,
      )

-- ---- calls that bring bytes of a frame, and local calls among them

harmless-nonzero : (g : List ℕ) → NonZero g → (p : Parts) → Harmless p g
harmless-nonzero [] z p = tt
harmless-nonzero (b ∷ g) z p = (λ e. absurd (omega (arith, e, z.0)), harmless-nonzero g z.1 (Receive.feed_byte [] p b))

brought-bytes : (m : Made) → Typed m.call → Each Byte (bytes_received_by m)
unfolding bytes_received_by piece_read
brought-bytes m t = by (enough m.call m.lent) m.call t
  where
    by : (b : Bool) (c : Call) → Typed c → Each Byte (cond b (piece_read c) [])
    by false c t = tt
    by true (Histories.start d) t = tt
    by true (Histories.receive image piece) t = t.1
    by true (Histories.step image piece) t = each_take Byte (up_to piece) piece t.1
    by true (Histories.local c) t = tt

pub fed-sound : (p : Parts) → Sound p → (f : List ℕ) → Each Byte f → Sound (Receive.feed_bytes [] p f)
fed-sound p s f b = (fed-leaves [] p f tt s b).1

-- the local calls do what they do ahead of the bytes
abbrev Collected : Parts → List ℕ → List RunCall → Type 0
Collected p f xs =
    (other_outputs (Receive.feed_bytes [] p f) xs ≡ outputs_mixed p (other_calls xs))
    × (left_by_calls (Receive.feed_bytes [] p f) xs ≡ Receive.feed_bytes [] (left_mixed p (other_calls xs)) (f ++ bytes_brought xs))

collected : (xs : List RunCall) → Each WhileSet xs → NonZero (bytes_brought xs) → (p : Parts) → Sound p → (f : List ℕ) → Each Byte f
    → NonZero f → Collected p f xs
unfolding other_outputs left_by_calls outputs_mixed left_mixed other_calls bytes_brought
collected [] w z p s f b n = (refl, ap (Receive.feed_bytes [] p) (sym (append-nil f)))
collected (TwoPassphrases.brings m ∷ xs) w z p s f b n =
    let g = bytes_received_by m in
    let zs = each-parts (λ b. 1 ≤ b) g (bytes_brought xs) z in
    let e =
    call-fed (Receive.feed_bytes [] p f) (fed-sound p s f b) m w.0.1 w.0.0 (harmless-nonzero g zs.0 _)
    ∙ sym (fed-append [] f g p) in
    let k =
    collected xs w.1 zs.1 p s (f ++ g) (each_append Byte f g b (brought-bytes m w.0.1))
    (each_append (λ b. 1 ≤ b) f g n zs.0) in
    rw e (k.0, k.1 ∙ ap (Receive.feed_bytes [] (left_mixed p (other_calls xs))) (append_assoc f g (bytes_brought xs)))
collected (TwoPassphrases.other (MixedCalls.supervisor m) ∷ xs) w z p s f b n = by m.call w.0 (λ q. collected xs w.1 z q)
  where
    by : (c : Call) → IsLocal c × Typed c
        → ((q : Parts) → Sound q → (f' : List ℕ) → Each Byte f' → NonZero f' → Collected q f' xs)
        → Collected p f (TwoPassphrases.other (MixedCalls.supervisor (record { lent = m.lent; call = c })) ∷ xs)
    by (Histories.start d) h rest = absurd h.0
    by (Histories.receive image piece) h rest = absurd h.0
    by (Histories.step image piece) h rest = absurd h.0
    by (Histories.local c) h rest =
        let x : MixedCall = MixedCalls.supervisor (locally m.lent c) in
        let k = rest (made_mixed p x).parts (call-sound p s x h.1) f b n in
        rw (local-fed p f n m.lent c) (rw k.0 refl, k.1)
collected (TwoPassphrases.other (MixedCalls.line_start l) ∷ xs) w z p s f b n = absurd w.0
collected (TwoPassphrases.other (MixedCalls.line_read l piece) ∷ xs) w z p s f b n = absurd w.0
collected (TwoPassphrases.other (MixedCalls.line_tail l) ∷ xs) w z p s f b n = absurd w.0
collected (TwoPassphrases.other (MixedCalls.line_data l k) ∷ xs) w z p s f b n = absurd w.0

-- ---- the frame of a set

other-append : (xs ys : List RunCall) (p : Parts) → other_outputs p (xs ++ ys) ≡ other_outputs p xs ++ other_outputs (left_by_calls p xs) ys
unfolding other_outputs left_by_calls
other-append [] ys p = refl
other-append (TwoPassphrases.brings m ∷ xs) ys p = other-append xs ys (made p m).parts
other-append (TwoPassphrases.other c ∷ xs) ys p = rw (other-append xs ys (made_mixed p c).parts)

left-append : (xs ys : List RunCall) (p : Parts) → left_by_calls p (xs ++ ys) ≡ left_by_calls (left_by_calls p xs) ys
unfolding left_by_calls
left-append [] ys p = refl
left-append (TwoPassphrases.brings m ∷ xs) ys p = left-append xs ys (made p m).parts
left-append (TwoPassphrases.other c ∷ xs) ys p = left-append xs ys (made_mixed p c).parts

-- local calls one after the other
locals_of : (xs : List RunCall) → Each WhileSet xs → Each LocalMixed (other_calls xs)
unfolding other_calls
locals_of [] w = tt
locals_of (TwoPassphrases.brings m ∷ xs) w = locals_of xs w.1
locals_of (TwoPassphrases.other c ∷ xs) w = (w.0, locals_of xs w.1)

mixed-reader : (c : MixedCall) → LocalMixed c → (p : Parts) → (made_mixed p c).parts.reader ≡ p.reader
unfolding made_mixed
mixed-reader (MixedCalls.supervisor m) h p = by m.call h.0
  where
    by : (c : Call) → IsLocal c → (made p (record { lent = m.lent; call = c })).parts.reader ≡ p.reader
    by (Histories.start d) k = absurd k
    by (Histories.receive image piece) k = absurd k
    by (Histories.step image piece) k = absurd k
    by (Histories.local c) k = local-reader p m.lent c
mixed-reader (MixedCalls.line_start l) h p = absurd h
mixed-reader (MixedCalls.line_read l piece) h p = absurd h
mixed-reader (MixedCalls.line_tail l) h p = absurd h
mixed-reader (MixedCalls.line_data l n) h p = absurd h

locals-reader : (cs : List MixedCall) → Each LocalMixed cs → (p : Parts) → (left_mixed p cs).reader ≡ p.reader
unfolding left_mixed
locals-reader [] h p = refl
locals-reader (c ∷ cs) h p = locals-reader cs h.1 (made_mixed p c).parts ∙ mixed-reader c h.0 p

pub local_typed : (c : MixedCall) → LocalMixed c → MixedCalls.TypedMixed c
local_typed (MixedCalls.supervisor m) h = h.1
local_typed (MixedCalls.line_start l) h = absurd h
local_typed (MixedCalls.line_read l piece) h = absurd h
local_typed (MixedCalls.line_tail l) h = absurd h
local_typed (MixedCalls.line_data l n) h = absurd h

locals-sound : (cs : List MixedCall) → Each LocalMixed cs → (p : Parts) → Sound p → Sound (left_mixed p cs)
unfolding left_mixed
locals-sound [] h p s = s
locals-sound (c ∷ cs) h p s = locals-sound cs h.1 (made_mixed p c).parts (call-sound p s c (local_typed c h.0))

-- the bytes that its calls bring
module _ (version number : ℕ) (x : SetCalls) (k : BringsSet version number x) where
  pub nonzero : NonZero (bytes_brought x.ahead) × NonZero k.rest
  nonzero =
      each-parts (λ b. 1 ≤ b) (bytes_brought x.ahead) k.rest
      (rw k.form (above_zero (message (passphrase_set version number x.value))))

  pub whole : bytes_brought x.ahead ++ (k.rest ++ (0 ∷ [])) ≡ frame (passphrase_set version number x.value)
  unfolding frame
  whole = sym (append_assoc (bytes_brought x.ahead) k.rest (0 ∷ [])) ∙ ap (λ (f : List ℕ). f ++ (0 ∷ [])) k.form

module _ (version number : ℕ) (x : SetCalls) (k : BringsSet version number x) (p : Parts) (s : Sound p) (b : NothingCome p) where
  abbrev others : List MixedCall
  others = other_calls x.ahead

  abbrev ahead : Parts
  ahead = left_mixed p others

  pub ahead-sound : Sound ahead
  ahead-sound = locals-sound others (locals_of x.ahead k.each) p s

  pub ahead-between : NothingCome ahead
  ahead-between = ap LineReader.received_of (locals-reader others (locals_of x.ahead k.each) p) ∙ b

  brought-each : (xs : List RunCall) → Each WhileSet xs → Each Byte (bytes_brought xs)
  unfolding bytes_brought
  brought-each [] w = tt
  brought-each (TwoPassphrases.brings m ∷ xs) w =
      each_append Byte (bytes_received_by m) (bytes_brought xs) (brought-bytes m w.0.1) (brought-each xs w.1)
  brought-each (TwoPassphrases.other c ∷ xs) w = brought-each xs w.1

  pub frame-bytes : Each Byte (frame (passphrase_set version number x.value))
  frame-bytes =
      rw (← whole version number x k, ← k.ends)
      (each_append Byte (bytes_brought x.ahead) (bytes_received_by x.last) (brought-each x.ahead k.each)
      (brought-bytes x.last k.closes.1))

  collect : Collected p [] x.ahead
  collect = collected x.ahead k.each (nonzero version number x k).0 p s [] tt tt

  safe : Harmless (Receive.feed_bytes [] ahead (bytes_brought x.ahead)) (bytes_received_by x.last)
  safe =
      let m = passphrase_set version number x.value in
      let h = harmless version number x.value k.range (cobs (message m)) [] ahead ahead-sound.valid.reader
      (none_yet version number x.value k.range ahead ahead-sound ahead-between) (above_zero (message m)) refl in
      rw k.ends
      (harmless-append (bytes_brought x.ahead) (k.rest ++ (0 ∷ [])) ahead
      (rw (← append_assoc (bytes_brought x.ahead) k.rest (0 ∷ []), k.form) h)).1

  pub set-left : left_by_calls p (calls_of_set x) ≡ Receive.feed_bytes [] ahead (frame (passphrase_set version number x.value))
  unfolding left_by_calls Receive.feed_bytes
  set-left =
      let f = bytes_brought x.ahead in
      let y = fed-sound ahead ahead-sound f (brought-each x.ahead k.each) in
      let e = call-fed (Receive.feed_bytes [] ahead f) y x.last k.closes.1 k.closes.0 safe in
      left-append x.ahead (TwoPassphrases.brings x.last ∷ []) p
      ∙ ap (λ (q : Parts). (made q x.last).parts) collect.1
      ∙ e ∙ sym (fed-append [] f (bytes_received_by x.last) ahead)
      ∙ ap (Receive.feed_bytes [] ahead) (ap (λ (g : List ℕ). f ++ g) k.ends ∙ whole version number x k)

  pub set-others : (ys : List RunCall)
      → other_outputs p (calls_of_set x ++ ys) ≡ outputs_mixed p others ++ other_outputs (left_by_calls p (calls_of_set x)) ys
  unfolding other_outputs Receive.feed_bytes
  set-others ys =
      other-append (calls_of_set x) ys p
      ∙ ap (λ (os : List MixedOutput). os ++ other_outputs (left_by_calls p (calls_of_set x)) ys)
      (other-append x.ahead (TwoPassphrases.brings x.last ∷ []) p ∙ append-nil (other_outputs p x.ahead) ∙ collect.0)

-- ---- local calls start nothing anew

-- bytes that are not 00 close no frame
pub none-closed : (w f : List ℕ) → NonZero f → closed_behind w f ≡ []
none-closed w f z =
    closed-rest w f ∙ ap (λ (s : Pieces). s.closed) (split-none _ (each_append (λ b. 1 ≤ b) (split w).rest f (rest-nonzero w) z))

-- a local call receives no bytes and starts nothing
pub local-silent : (m : Made) → IsLocal m.call → (bytes_received_by m ≡ []) × (starts_anew m ≡ false)
unfolding bytes_received_by piece_read starts_anew is_accepted_start
local-silent m h = by m.call h (enough m.call m.lent)
  where
    by : (c : Call) → IsLocal c → (b : Bool) → (cond b (piece_read c) [] ≡ []) × ((b && is_accepted_start c) ≡ false)
    by (Histories.start d) k b = absurd k
    by (Histories.receive image piece) k b = absurd k
    by (Histories.step image piece) k b = absurd k
    by (Histories.local c) k true = (refl, refl)
    by (Histories.local c) k false = (refl, refl)

none-anew : (c : MixedCall) → LocalMixed c → starts_anew_by c ≡ false
none-anew (MixedCalls.supervisor m) h = (local-silent m h.0).1
none-anew (MixedCalls.line_start l) h = absurd h
none-anew (MixedCalls.line_read l piece) h = absurd h
none-anew (MixedCalls.line_tail l) h = absurd h
none-anew (MixedCalls.line_data l n) h = absurd h

-- ---- equal editions

-- what both runs hold: the bytes w came in the first
record Between (w : List ℕ) (p q : Parts) : Type 0 where
  left_sound : Sound p
  right_sound : Sound q
  since : Since (split w).rest (view p)
  parts : SameButPassphrase p q
  editions : passphrase_edition p ≡ passphrase_edition q

-- the same call in both, which is no accepted start
record NextSame (w : List ℕ) (a b : DidMixed) : Type 0 where
  answer : a.answer ≡ b.answer
  out : a.out ≡ b.out
  between : Between w a.parts b.parts

next : (w : List ℕ) (p q : Parts) → Between w p q → (c : MixedCall) → MixedCalls.TypedMixed c → starts_anew_by c ≡ false
    → NextSame (mixed_since w c) (made_mixed p c) (made_mixed q c)
next w p q k c t x =
    let d = next-same w p q k.left_sound k.right_sound k.since k.parts c t (suc Limits.last_edition) x (inr k.editions) in
    let m = mixed-meets w p k.left_sound k.since c t in
    record {
      answer = d.answer;
      out = d.out;
      between = record {
        left_sound = m.leaves.1;
        right_sound = call-sound q k.right_sound c t;
        since = rw m.leaves.0 m.since;
        parts = d.parts;
        editions = grow-equal (omega arith) d.grow;
      };
    }

-- local calls
record LocalsSame (cs : List MixedCall) (p q : Parts) : Type 0 where
  outputs : outputs_mixed p cs ≡ outputs_mixed q cs
  parts : SameButPassphrase (left_mixed p cs) (left_mixed q cs)
  editions : passphrase_edition (left_mixed p cs) ≡ passphrase_edition (left_mixed q cs)

locals_same : (cs : List MixedCall) → Each LocalMixed cs → (w : List ℕ) (p q : Parts) → Between w p q → LocalsSame cs p q
unfolding outputs_mixed left_mixed
locals_same [] l w p q k = record { outputs = refl; parts = k.parts; editions = k.editions }
locals_same (c ∷ cs) l w p q k =
    let d = next w p q k c (local_typed c l.0) (none-anew c l.0) in
    let f = locals_same cs l.1 (mixed_since w c) _ _ d.between in
    record { outputs = rw (d.answer, d.out, f.outputs); parts = f.parts; editions = f.editions }

-- behind the frame of a set nothing has come of a frame
module _ (p : Parts) (s : Sound p) (f : List ℕ) (z : NonZero f) (b : Each Byte (f ++ (0 ∷ []))) where
  abbrev behind_frame : Parts
  behind_frame = Receive.feed_bytes [] p (f ++ (0 ∷ []))

  frame-anew : (view behind_frame).received ≡ some []
  unfolding Receive.feed_bytes
  frame-anew =
      rw (fed-append [] f (0 ∷ []) p)
      (closed-anew [] tt (Receive.feed_bytes [] p f) (fed-sound p s f (each-parts Byte f (0 ∷ []) b).0))

  pub frame-since : Since (split []).rest (view behind_frame)
  unfolding split progress_of
  frame-since = record { received = frame-anew; nonzero = tt }

anew-since : (w : List ℕ) (c : MixedCall) → starts_anew_by c ≡ true → mixed_since w c ≡ []
unfolding mixed_since received_since
anew-since w (MixedCalls.supervisor m) x = rw x
anew-since w (MixedCalls.line_start l) x = absurd (false≢true x)
anew-since w (MixedCalls.line_read l piece) x = absurd (false≢true x)
anew-since w (MixedCalls.line_tail l) x = absurd (false≢true x)
anew-since w (MixedCalls.line_data l n) x = absurd (false≢true x)

-- ---- turns

abbrev Claimed : List Turn → Parts → Parts → Type 0
Claimed ts p q =
    (other_outputs p (first_run ts) ≡ other_outputs q (second_run ts))
    × SameButPassphrase (left_by_calls p (first_run ts)) (left_by_calls q (second_run ts))

-- an accepted start
anew-between : (w : List ℕ) (p q : Parts) → Between w p q → (c : MixedCall) → MixedCalls.TypedMixed c → starts_anew_by c ≡ true
    → Between [] (made_mixed p c).parts (made_mixed p c).parts
anew-between w p q k c t x =
    let m = mixed-meets w p k.left_sound k.since c t in
    record {
      left_sound = m.leaves.1;
      right_sound = m.leaves.1;
      since = rw m.leaves.0 (rw (anew-since w c x) at m.since);
      parts = same_parts _;
      editions = refl;
    }

-- a set in each
module _ (w : List ℕ) (p q : Parts) (k : Between w p q) (version number : ℕ) (x y : SetCalls) (t : TwoSets version number x y)
    (b : NothingCome p) where
  abbrev cs : List MixedCall
  cs = other_calls y.ahead

  abbrev vf : List ℕ
  vf = frame (passphrase_set version number x.value)

  abbrev wf : List ℕ
  wf = frame (passphrase_set version number y.value)

  right-between : NothingCome q
  right-between = ap LineReader.received_of (sym k.parts.reader) ∙ b

  locals : LocalsSame cs p q
  locals = locals_same cs (locals_of y.ahead t.second.each) w p q k

  left-ahead : left_by_calls p (calls_of_set x) ≡ Receive.feed_bytes [] (left_mixed p cs) vf
  left-ahead = subst (λ (os : List MixedCall). left_by_calls p (calls_of_set x) ≡ Receive.feed_bytes [] (left_mixed p os) vf) t.others
      (set-left version number x t.first p k.left_sound b)

  right-ahead : left_by_calls q (calls_of_set y) ≡ Receive.feed_bytes [] (left_mixed q cs) wf
  right-ahead = set-left version number y t.second q k.right_sound right-between

  p-sound : Sound (left_mixed p cs)
  p-sound =
      subst (λ (os : List MixedCall). Sound (left_mixed p os)) t.others (ahead-sound version number x t.first p k.left_sound b)

  p-between : NothingCome (left_mixed p cs)
  p-between =
      subst (λ (os : List MixedCall). NothingCome (left_mixed p os)) t.others
      (ahead-between version number x t.first p k.left_sound b)

  q-sound : Sound (left_mixed q cs)
  q-sound = ahead-sound version number y t.second q k.right_sound right-between

  q-between : NothingCome (left_mixed q cs)
  q-between = ahead-between version number y t.second q k.right_sound right-between

  allowed_same : wrong_length x.value ≡ wrong_length y.value
  allowed_same = t.first.allowed ∙ sym t.second.allowed

  set-between : Between [] (left_by_calls p (calls_of_set x)) (left_by_calls q (calls_of_set y))
  unfolding frame
  set-between =
      let l = locals in
      let bv = frame-bytes version number x t.first p k.left_sound b in
      let bw = frame-bytes version number y t.second q k.right_sound right-between in
      let m = message (passphrase_set version number x.value) in
      let rv = t.first.range in
      let ry = t.second.range in
      rw (left-ahead, right-ahead)
      (record {
        left_sound = fed-sound (left_mixed p cs) p-sound vf bv;
        right_sound = fed-sound (left_mixed q cs) q-sound wf bw;
        since = frame-since (left_mixed p cs) p-sound (cobs m) (above_zero m) bv;
        parts =
            fed-sets (left_mixed p cs) (left_mixed q cs) p-sound q-sound l.parts p-between q-between version number x.value y.value
            rv ry allowed_same (ap (λ (n : ℕ). eqb n Limits.last_edition) l.editions);
        editions =
            fed-editions (left_mixed p cs) (left_mixed q cs) p-sound q-sound l.parts p-between q-between version number x.value
            y.value rv ry allowed_same l.editions;
      })

  set-outputs : (us vs : List RunCall)
      → other_outputs (left_by_calls p (calls_of_set x)) us ≡ other_outputs (left_by_calls q (calls_of_set y)) vs
      → other_outputs p (calls_of_set x ++ us) ≡ other_outputs q (calls_of_set y ++ vs)
  set-outputs us vs e =
      set-others version number x t.first p k.left_sound b us
      ∙ rw (t.others, locals.outputs, e) refl
      ∙ sym (set-others version number y t.second q k.right_sound right-between vs)

turns_same : (ts : List Turn) → Each TypedTurn ts → (w : List ℕ) (p q : Parts) → Between w p q → BeginsBetween p ts → Claimed ts p q
unfolding other_outputs left_by_calls first_run second_run
turns_same [] t w p q k b = (refl, k.parts)
turns_same (TwoPassphrases.same c ∷ ts) t w p q k b = by (starts_anew_by c) refl (turns_same ts t.1)
  where
    by : (x : Bool) → starts_anew_by c ≡ x
        → ((w' : List ℕ) (p' q' : Parts) → Between w' p' q' → BeginsBetween p' ts → Claimed ts p' q')
        → Claimed (TwoPassphrases.same c ∷ ts) p q
    by true x rest =
        let e = anew-mixed w p q k.left_sound k.right_sound k.since k.parts c t.0 x in
        let f = rest [] _ _ (anew-between w p q k c t.0 x) b in
        let d = made_mixed p c in (
          subst (λ (r : DidMixed). ◌≡◌ {A = List MixedOutput}
              ((record { answer = d.answer; out = d.out }) ∷ other_outputs d.parts (first_run ts))
              ((record { answer = r.answer; out = r.out }) ∷ other_outputs r.parts (second_run ts))) e (rw f.0 refl),
          subst (λ (r : DidMixed). SameButPassphrase (left_by_calls d.parts (first_run ts)) (left_by_calls r.parts (second_run ts))) e
              f.1,
        )
    by false x rest =
        let d = next w p q k c t.0 x in
        let f = rest (mixed_since w c) _ _ d.between b in
        (rw (d.answer, d.out, f.0) refl, f.1)
turns_same (TwoPassphrases.sets version number x y ∷ ts) t w p q k b =
    let z = set-between w p q k version number x y t.0 b.0 in
    let f = turns_same ts t.1 [] _ _ z b.1 in (
      set-outputs w p q k version number x y t.0 b.0 (first_run ts) (second_run ts) f.0,
      rw (left-append (calls_of_set x) (first_run ts) p, left-append (calls_of_set y) (second_run ts) q) f.1,
    )

pub two_passphrases : TwoPassphrases
unfolding fresh split progress_of
two_passphrases p b l d typed h ts t begins =
    let k = started p b l d typed h in
    let q = (made p (Histories.start_with l d)).parts in
    let z : Since [] (fresh (factory_of d)) = record { received = refl; nonzero = tt } in
    turns_same ts t [] q q
    (record { left_sound = k.1; right_sound = k.1; since = rw k.0 z; parts = same_parts q; editions = refl })
    begins
