-- Laws of an iteration: the reader's state stays valid, what a frame comes to by its verdict, and what is left of a piece.
-- Assumes nothing.
use Rattle.std.specs.Prelude.{Result, Ok, Err, IsOk}
use mathlib.Core.Path.{◌≡◌, refl, sym, ap, subst, ◌∙◌}
use mathlib.Core.Bool.{Bool, true, false, and-eq-true_iff}
use mathlib.Core.List.{List, [], ◌∷◌}
use mathlib.Core.Option.{Option, none, some}
use Prim.Native.Nat.{ℕ, zero, suc, ◌+◌, ◌-◌, ◌^◌, ◌≤◌, ◌<◌, zero-le}
use native.Mathlib.Omega.{arith}
use lib.Dec.{eqb}
use lib.ListN.{length, take, drop, get_or, length-drop, drop_of_length-le}
use lib.Seq.{take_all, drop-drop}
use borrow.Author.Tests.{ne_eqb, eqb-true, le-leb, lt-leb}
use Rattle.octets.specs.Bytes.{bytes, number_at}
use Rattle.octets.proofs.Numbers.{length-bytes}
use Rattle.line.specs.Limits.{longest_data}
use Rattle.line.specs.Numbers.{first_version, second_version}
use Rattle.line.specs.Reader as LineReader
use Rattle.line.specs.declared.reader.Reading.{Reading}
use Rattle.refusals.specs.declared.Refusal.{Refusal}
use Rattle.line.proofs.Received.{read_stays}
use Rattle.supervisor.specs.Valid.{valid_factory}
use Rattle.supervisor.specs.Calls.{Parts, parts}
use Rattle.counters.specs.declared.outcome.Outcome.{Outcome}
use Rattle.counters.specs.declared.outcome.Outcome.TheVariants as outcome
use Rattle.counters.specs.Ended.{Ended, Served, step_report, served_report}
use Rattle.responder.specs.Requests.{Verdict, failure, good, version_served, known, length_allowed, tested}
use Rattle.responder.specs.Commands.{Command, command_number, command_of_number, length_right}
use Rattle.responder.specs.Receive
use Rattle.responder.proofs.CommandLaws.{number_is}
use Rattle.responder.proofs.KeptLaws.{answering-valid, carried-valid}
use Rattle.responder.proofs.VerdictLaws.{Ends, finish-ends, behind-stays}

-- ---- valid parts

pub record PartsValid (p : Parts) : Type 0 where
  pub reader : LineReader.valid_reader p.reader ≡ true
  pub factory : valid_factory p.factory ≡ true
  pub inner : Receive.valid_inner (Receive.inner_of p) ≡ true

pub parts-valid : (p : Parts) → Receive.valid_parts p ≡ true → PartsValid p
unfolding Receive.valid_parts
parts-valid p e =
    let a = (and-eq-true_iff (LineReader.valid_reader p.reader) _).0 e in
    let b = (and-eq-true_iff (valid_factory p.factory) _).0 a.1 in
    record { reader = a.0; factory = b.0; inner = b.1 }

pub valid-parts : (p : Parts) → PartsValid p → Receive.valid_parts p ≡ true
unfolding Receive.valid_parts
valid-parts p v = rw (v.reader, v.factory) v.inner

-- ---- the reader

-- a piece is read at most to its end, and at least one byte of it where it has one
record Read (piece : List ℕ) (o : LineReader.ReadOutcome) : Type 0 where
  most : o.used ≤ length piece
  reads_one : 0 < length piece → 1 ≤ o.used

module _ (s : List ℕ) (b : ℕ) (bs : List ℕ) where
  pub read_next : LineReader.read_piece s (suc b ∷ bs) ≡ LineReader.one_byte_later (LineReader.read_piece (LineReader.pushed s (suc b)) bs)
  unfolding LineReader.read_piece
  read_next = rw (ne_eqb (suc b) 0 (λ e. omega arith))

read-used : (piece s : List ℕ) → Read piece (LineReader.read_piece s piece)
unfolding LineReader.read_piece LineReader.one_byte_later
read-used [] s = record { most = omega arith; reads_one = λ h. h }
read-used (zero ∷ bs) s = record { most = omega arith; reads_one = λ h. omega arith }
read-used (suc b ∷ bs) s =
    let q = read-used bs (LineReader.pushed s (suc b)) in
    rw (read_next s b bs) (record { most = omega (arith, q.most); reads_one = λ h. omega arith })

pub read-valid : (s piece : List ℕ) → LineReader.valid_reader s ≡ true → LineReader.valid_reader (LineReader.read_piece s piece).state
    ≡ true
read-valid s piece v = (read_stays piece s v).valid

-- a call of `read` on a valid state
pub accepted : (s piece : List ℕ) → LineReader.valid_reader s ≡ true → LineReader.read_promise s piece ≡ LineReader.read_piece s piece
unfolding LineReader.read_promise
accepted s piece v = rw v

-- a piece that is read is never answered as refused
abbrev Told : LineReader.ReadReport → Type 0
Told (LineReader.refused n) = ⊥
Told LineReader.more = Unit {0}
Told LineReader.empty = Unit {0}
Told (LineReader.message version sequence command n) = Unit {0}
Told (LineReader.failed reason sequence) = Unit {0}

ends-told : (a : LineReader.ReadReport) → Ends a → Told a
ends-told (LineReader.refused n) h = h
ends-told LineReader.more h = tt
ends-told LineReader.empty h = tt
ends-told (LineReader.message version sequence command n) h = tt
ends-told (LineReader.failed reason sequence) h = tt

read-told : (piece s : List ℕ) → Told (LineReader.read_piece s piece).answer
unfolding LineReader.read_piece LineReader.one_byte_later
read-told [] s = tt
read-told (zero ∷ bs) s = ends-told _ (finish-ends s)
read-told (suc b ∷ bs) s = rw (read_next s b bs) (read-told bs (LineReader.pushed s (suc b)))

pub read_ok : (piece s t : List ℕ) (r : Result Reading Refusal) → LineReader.valid_reader s ≡ true
    → LineReader.read_outcome r t ≡ LineReader.read_promise s piece → IsOk r
read_ok piece s t (Ok reading) v e = refl
read_ok piece s t (Err why) v e =
    let q = e ∙ accepted s piece v in
    absurd (subst Told (sym (ap (λ (o : LineReader.ReadOutcome). o.answer) q)) (read-told piece s))

-- ---- a request

-- what the table makes of a message, test by test
module _ (version sequence command : ℕ) (d : List ℕ) where
  abbrev Tested : Verdict → Type 0
  Tested v = tested (Receive.message_with version sequence command d) ≡ v

  pub other-version : version_served version ≡ false → Tested (failure 5 first_version (some sequence))
  unfolding tested
  other-version h = rw h

  module _ (a : version_served version ≡ true) where
    pub top-bit-set : 2 ^ 63 ≤ sequence → Tested (failure 6 version (some sequence))
    unfolding tested
    top-bit-set h = rw (a, le-leb (2 ^ 63) sequence h)

    module _ (b : sequence < 2 ^ 63) where
      pub command-unknown : none ≡ command_of_number command → Tested (failure 3 first_version none)
      unfolding tested known
      command-unknown h = rw (a, lt-leb (2 ^ 63) sequence b, ← h)

      module _ {x : Command} (c : some x ≡ command_of_number command) where
        pub length-wrong : length_right x (length d) ≡ false → Tested (failure 7 version (some sequence))
        unfolding tested known length_allowed
        length-wrong h = rw (a, lt-leb (2 ^ 63) sequence b, ← c, h)

        pub passed-all : length_right x (length d) ≡ true → Tested (good (Receive.message_with version sequence command d))
        unfolding tested known length_allowed
        passed-all h = rw (a, lt-leb (2 ^ 63) sequence b, ← c, h)

-- a version that is served is 1 or 2
pub served-small : (version : ℕ) → version_served version ≡ true → version ≤ 2
served-small version e = by (eqb version first_version) refl
  where
    by : (t : Bool) → eqb version first_version ≡ t → version ≤ 2
    by true f = omega (arith, eqb-true version first_version f)
    by false f = omega (arith, eqb-true version second_version (rw f at e))

-- what a frame's verdict comes to: what is answered of it, the parts that may change, and that they are valid
abbrev pub Judged : List ℕ → List ℕ → Receive.Inner → Verdict → Ended → Served → Receive.Inner → Type 0
Judged image f i v g w j = record {
  result_value : g ≡ Receive.ended_by_verdict v;
  result_value_2 : w ≡ Receive.served_by_verdict i.settings v;
  registers_after : j ≡ Receive.inner_by image f i v;
  registers_after_2 : Receive.valid_inner j ≡ true;
}

-- what a call of `fail` answers, and the outbox that it leaves
abbrev pub Failed : ℕ → Receive.Head → List ℕ → Ended → Served → List ℕ → Type 0
Failed reason h o g w o' = record {
  result_value : g ≡ Ended.failed reason;
  result_value_2 : w ≡ Served.nothing;
  outbox_after : o' ≡ Receive.sent_box (Receive.reply_bytes h 0x02 (bytes 1 reason)) o;
}

pub judged-failure : (image f o s r : List ℕ) (reason version : ℕ) (sequence : Option ℕ) {v : Verdict} {h : Receive.Head} {g : Ended}
    {u : Served} {o' : List ℕ}
    → Receive.valid_inner (Receive.inner o s r) ≡ true → v ≡ failure reason version sequence → h ≡ Receive.failure_head version sequence
    → Failed reason h o g u o' → Judged image f (Receive.inner o s r) v g u (Receive.inner o' s r)
unfolding Receive.inner_by Receive.reply_alone Receive.served_by_verdict
judged-failure image f o s r reason version sequence valid e n w =
    let k =
    answering-valid (Receive.inner o s r) (Receive.failure_head version sequence) 0x02 (bytes 1 reason) valid
    (rw (length-bytes 1 reason) (omega arith)) in
    rw (e, w.outbox_after, n)
    (record { result_value = w.result_value; result_value_2 = w.result_value_2; registers_after = refl; registers_after_2 = k })

-- the outbox and the registers that a call leaves
abbrev pub Left : List ℕ → List ℕ → List ℕ → List ℕ → Type 0
Left o o' r r' = record { outbox_after : o ≡ o'; registers_after : r ≡ r' }

-- a request without a reply
pub unanswered-by : (i : Receive.Inner) {o r : List ℕ} (registers : List ℕ) → Left o (Receive.sent_box [] i.outbox) r registers
    → Receive.inner o i.settings r ≡ Receive.no_reply i registers
unfolding Receive.no_reply
unanswered-by i registers f = rw (f.outbox_after, f.registers_after)

-- one that is answered alone, or acknowledged, by what the code has for its reply's head
pub answered-by : (i : Receive.Inner) (version sequence command : ℕ) (payload : List ℕ) {h : Receive.Head} {o : List ℕ}
    → h ≡ Receive.reply_head version sequence → o ≡ Receive.sent_box (Receive.reply_bytes h command payload) i.outbox
    → Receive.inner o i.settings i.registers ≡ Receive.reply_alone i (Receive.reply_head version sequence) command payload
unfolding Receive.reply_alone
answered-by i version sequence command payload e f = rw (f, e)

-- a lookup's, by the version in that head
pub looked-by : (i : Receive.Inner) (version sequence : ℕ) (f d : List ℕ) {h : Receive.Head} {o : List ℕ}
    → h ≡ Receive.reply_head version sequence
    → o ≡ Receive.sent_box (Receive.reply_bytes h 0x0a (Receive.value_bytes h.version f i.settings d)) i.outbox
    → Receive.inner o i.settings i.registers
    ≡ Receive.reply_alone i (Receive.reply_head version sequence) 0x0a (Receive.value_bytes version f i.settings d)
unfolding Receive.reply_alone
looked-by i version sequence f d e g = rw (g, e)

pub acknowledged-by : (i : Receive.Inner) (version sequence : ℕ) (registers : List ℕ) {h : Receive.Head} {o r : List ℕ}
    → h ≡ Receive.reply_head version sequence → Left o (Receive.sent_box (Receive.reply_bytes h 0x01 []) i.outbox) r registers
    → Receive.inner o i.settings r ≡ Receive.acknowledged i (Receive.reply_head version sequence) registers
unfolding Receive.acknowledged
acknowledged-by i version sequence registers e f = rw (f.outbox_after, f.registers_after, e)

-- what a valid request does, and that it is valid
abbrev pub CarriedBy : List ℕ → List ℕ → Receive.Inner → ℕ → ℕ → ℕ → List ℕ → Receive.Inner → Type 0
CarriedBy image f i version sequence command d j = record {
  registers_after : j ≡ Receive.carried_inner image f i version sequence command d;
  registers_after_2 : Receive.valid_inner j ≡ true;
}

-- what its command leaves is that; n is the first byte of its data
pub carried-both : (image f : List ℕ) (i : Receive.Inner) (version sequence command : ℕ) (d : List ℕ) {n : ℕ} {j : Receive.Inner}
    → version_served version ≡ true → valid_factory f ≡ true → Receive.valid_inner i ≡ true → length d ≤ longest_data
    → (n ≡ number_at 1 d 0) × (n < 256)
    → (o : Option Command) → command_of_number command ≡ o → j ≡ Receive.command_leaves_where o image f i version sequence d
    → CarriedBy image f i version sequence command d j
unfolding Receive.carried_inner
carried-both image f i version sequence command d t v w h b o c e =
    let k = carried-valid image f i version sequence d (served-small version t) v w h (rw b.0 at b.1) command in
    rw (c, e) (record { registers_after = refl; registers_after_2 = rw c at k })

-- ---- a valid request that is carried out

module _ (image f o s t : List ℕ) (version sequence command : ℕ) (d : List ℕ) where
  abbrev Carried : Outcome → Receive.Inner → Type 0
  Carried r =
      Judged image f (Receive.inner o s t) (good (Receive.message_with version sequence command d)) (step_report r) (served_report r)

  -- a key set, by a call of `set_key`
  pub judged-set : {key result : ℕ} {h : Receive.Head} {o' s' : List ℕ} → command_of_number command ≡ some Command.key_set
      → version_served version ≡ true
      → valid_factory f ≡ true → Receive.valid_inner (Receive.inner o s t) ≡ true → length d ≤ longest_data
      → (key ≡ number_at 1 d 0) × (key < 256) → h ≡ Receive.reply_head version sequence
      → Receive.key_set_parts result o' s' ≡ Receive.key_set_answered o s h d
      → Carried (outcome.KeySet key result) (Receive.inner o' s' t)
  unfolding step_report served_report Receive.served_by_verdict Receive.inner_by Receive.key_set_answered Receive.command_leaves
      command_number
  judged-set {key} {result} c a g w l b n e =
      let k = ap (λ (x : Receive.KeySet). Receive.inner x.outbox x.settings t) (rw n at e) in
      let m : command ≡ 0x10 = number_is command c in
      let q = carried-both image f (Receive.inner o s t) version sequence command d a g w l b (some Command.key_set) c k in
      let z : result ≡ (Receive.store_bytes s (number_at 1 d 0) (drop 1 d)).result = ap (λ (x : Receive.KeySet). x.result) e in
      record {
        result_value = refl;
        result_value_2 = rw (m, b.0, z);
        registers_after = q.registers_after;
        registers_after_2 = q.registers_after_2;
      }

  -- any other
  pub judged-other : {j : Receive.Inner} → eqb command 0x10 ≡ false → CarriedBy image f (Receive.inner o s t) version sequence command d j
      → Carried (outcome.Request command) j
  unfolding step_report served_report Receive.served_by_verdict Receive.inner_by
  judged-other n w =
      record {
        result_value = refl;
        result_value_2 = rw n;
        registers_after = w.registers_after;
        registers_after_2 = w.registers_after_2;
      }

-- ---- an answer of the reader

-- what comes of an answer: the same, and nothing where no frame ended that is not empty; and the reader's part behind it
abbrev pub Settled : List ℕ → List ℕ → Receive.Inner → List ℕ → LineReader.ReadReport → Ended → Served → Receive.Inner → List ℕ → Type 0
Settled image f i reader a g w j behind = record {
  result_value : g ≡ Receive.ended_by_reader reader a;
  result_value_2 : w ≡ Receive.served_after i.settings (Receive.verdict_of reader a);
  registers_after : j ≡ Receive.inner_after image f i (Receive.verdict_of reader a);
  registers_after_2 : Receive.valid_inner j ≡ true;
  reader_after : behind ≡ Receive.reader_behind reader a;
}

-- by a call of `fail`
pub settled-failure : (image f o s r reader : List ℕ) (reason : ℕ) (sequence : Option ℕ) {a : LineReader.ReadReport} {h : Receive.Head}
    {g : Ended} {u : Served} {o' : List ℕ}
    → Receive.valid_inner (Receive.inner o s r) ≡ true → a ≡ LineReader.failed reason sequence
    → h ≡ Receive.failure_head first_version sequence
    → Failed reason h o g u o' → Settled image f (Receive.inner o s r) reader a g u (Receive.inner o' s r) reader
unfolding Receive.ended_by_reader Receive.inner_after Receive.served_after Receive.verdict_of Receive.reader_behind Receive.sets_passphrase
settled-failure image f o s r reader reason sequence v e n w =
    let q = judged-failure image f o s r reason first_version sequence v refl n w in
    rw e
    (record {
      result_value = q.result_value;
      result_value_2 = q.result_value_2;
      registers_after = q.registers_after;
      registers_after_2 = q.registers_after_2;
      reader_after = refl;
    })

-- by a call of `request`, and then of `wipe_passphrase`
pub settled-message : (image f : List ℕ) (i : Receive.Inner) (reader : List ℕ) (version sequence command n : ℕ)
    {a : LineReader.ReadReport} {g : Ended} {u : Served} {j : Receive.Inner} {d behind : List ℕ}
    → a ≡ LineReader.message version sequence command n → d ≡ LineReader.data_promise reader n
    → Judged image f i (tested (Receive.message_with version sequence command d)) g u j → behind ≡ Receive.behind_message reader command n
    → Settled image f i reader a g u j behind
unfolding Receive.ended_by_reader Receive.inner_after Receive.served_after Receive.verdict_of Receive.reader_behind Receive.sets_passphrase
settled-message image f i reader version sequence command n e h w b =
    let q = rw h at w in
    rw e
    (record {
      result_value = q.result_value;
      result_value_2 = q.result_value_2;
      registers_after = q.registers_after;
      registers_after_2 = q.registers_after_2;
      reader_after = b;
    })

-- ---- an iteration

-- what is left of a piece is fed to the parts that an iteration leaves
pub iteration-rest : (image piece : List ℕ) (p : Parts)
    → let o = LineReader.read_piece p.reader piece in
    Receive.feed_bytes image p piece ≡ Receive.feed_bytes image (Receive.after_answer image p o.state o.answer) (drop o.used piece)
unfolding LineReader.read_piece LineReader.one_byte_later Receive.feed_bytes Receive.feed_byte Receive.after_answer Receive.inner_after
    Receive.verdict_of Receive.reader_behind Receive.sets_passphrase
iteration-rest image [] p = refl
iteration-rest image (zero ∷ bs) p = refl
iteration-rest image (suc b ∷ bs) p =
    rw (read_next p.reader b bs, ne_eqb (suc b) 0 (λ e. omega arith))
    (iteration-rest image bs (Receive.parts_with p (LineReader.pushed p.reader (suc b)) (Receive.inner_of p)))

module _ (image piece : List ℕ) (p : Parts) (v : Receive.valid_parts p ≡ true) where
  abbrev read : LineReader.ReadOutcome
  read = LineReader.read_piece p.reader piece

  -- by what the reader answered and left, what came of it, and the reader's part behind it
  pub valid-step-by : {n : ℕ} {a : LineReader.ReadReport} {g : Ended} {u : Served} {reader behind o s t : List ℕ}
      → record { used = n; answer = a; state = reader } ≡ LineReader.read_promise p.reader piece
      → Settled image p.factory (Receive.inner_of p) reader a g u (Receive.inner o s t) behind
      → record {
        registers_after : record { used = n; ended = g; served = u; parts = parts behind o p.factory s t }
            ≡ Receive.valid_step image p piece;
        registers_after_2 : Receive.valid_parts (parts behind o p.factory s t) ≡ true;
      }
  unfolding Receive.valid_step Receive.after_answer
  valid-step-by {n} {a} {g} {u} {reader} {behind} {o} {s} {t} e w =
      let h = parts-valid p v in
      let b = w.reader_after in
      let q = e ∙ accepted p.reader piece h.reader in
      let st : reader ≡ read.state = ap (λ (y : LineReader.ReadOutcome). y.state) q in
      let an : a ≡ read.answer = ap (λ (y : LineReader.ReadOutcome). y.answer) q in
      let us : n ≡ read.used = ap (λ (y : LineReader.ReadOutcome). y.used) q in
      let k : LineReader.valid_reader reader ≡ true = rw st (read-valid p.reader piece h.reader) in
      let i : LineReader.valid_reader behind ≡ true = rw b (behind-stays reader a k).valid in
      record {
        registers_after = rw (← us, ← st, ← an, w.result_value, w.result_value_2, ← w.registers_after, b);
        registers_after_2 =
            valid-parts (parts behind o p.factory s t) (record { reader = i; factory = h.factory; inner = w.registers_after_2 });
      }

-- ---- the loop over a piece

-- the parts as they are at an offset of the piece are valid, and what is left of it is fed to them
pub record Held (image piece : List ℕ) (p₀ p : Parts) (at : ℕ) : Type 0 where
  pub within : at ≤ length piece
  pub valid : Receive.valid_parts p ≡ true
  pub same : Receive.receive_promise image p₀ piece ≡ record { refusal = none; parts = Receive.feed_bytes image p (drop at piece) }

pub begun : (image piece : List ℕ) (p : Parts) → Receive.valid_parts p ≡ true → Held image piece p p 0
unfolding Receive.receive_promise
begun image piece p v = record { within = zero-le; valid = v; same = rw v }

pub over : {image piece : List ℕ} {p₀ p : Parts} {at : ℕ} → Held image piece p₀ p at → length piece ≤ at
    → Receive.receive_outcome (Ok tt) p ≡ Receive.receive_promise image p₀ piece
unfolding Receive.receive_report Receive.feed_bytes
over {piece = piece} h l = rw (h.same, drop_of_length-le piece l)

-- a single byte that ends no frame
kept-state : (c : Result ℕ Refusal) (s : List ℕ) → (LineReader.collect_outcome c s).state ≡ s
kept-state (Err why) s = refl
kept-state (Ok n) s = refl

pub kept : (image piece : List ℕ) (p : Parts) (c : Result ℕ Refusal) (reader : List ℕ) → Receive.valid_parts p ≡ true
    → length piece ≡ 1 → 0 < get_or piece 0 0 → LineReader.collect_outcome c reader ≡ LineReader.collect_promise p.reader piece
    → Receive.receive_outcome (Ok tt) (Receive.parts_with p reader (Receive.inner_of p)) ≡ Receive.receive_promise image p piece
unfolding Receive.receive_promise Receive.receive_report Receive.feed_bytes Receive.feed_byte LineReader.collect_promise
    LineReader.ahead_of00
    LineReader.read_piece LineReader.one_byte_later
kept image [] p c reader v l b e = absurd (omega arith)
kept image (zero ∷ bs) p c reader v l b e = absurd (omega arith)
kept image (suc b ∷ x ∷ bs) p c reader v l h e = absurd (omega arith)
kept image (suc b ∷ []) p c reader v l h e =
    let n = ne_eqb (suc b) 0 (λ f. omega arith) in
    let q = accepted p.reader (suc b ∷ []) (parts-valid p v).reader in
    let s = rw (n, q, kept-state c reader) at (ap (λ (o : LineReader.ReadOutcome). o.state) e) in
    rw (v, n, s, read_next p.reader b [])

-- an iteration at an offset of the piece
module _ {image piece : List ℕ} {p₀ p : Parts} {at : ℕ} {o : Receive.StepOutcome} (h : Held image piece p₀ p at) (l : at < length piece)
    (e : o ≡ Receive.valid_step image p (take (length piece - at) (drop at piece))) where
  abbrev left : List ℕ
  left = drop at piece

  pub by_left : o ≡ Receive.valid_step image p left
  by_left = let k : length left ≤ length piece - at = rw length-drop (omega arith) in rw (take_all _ _ k) at e

  pub valid-step-used : (1 ≤ o.used) × (at + o.used ≤ length piece)
  unfolding Receive.valid_step
  valid-step-used =
      let w = read-used left p.reader in
      let u : o.used ≡ (LineReader.read_piece p.reader left).used = ap (λ (d : Receive.StepOutcome). d.used) by_left in
      let k : length left ≡ length piece - at = length-drop at piece in
      let m = w.most in
      let i = w.reads_one (omega arith) in
      (omega arith, omega arith)

  pub went : Receive.valid_parts o.parts ≡ true → Held image piece p₀ o.parts (at + o.used)
  unfolding Receive.valid_step
  went v =
      let u : o.used ≡ (LineReader.read_piece p.reader left).used = ap (λ (x : Receive.StepOutcome). x.used) by_left in
      let q = ap (λ (x : Receive.StepOutcome). x.parts) by_left in
      record {
        within = valid-step-used.1;
        valid = v;
        same = h.same ∙ rw (iteration-rest image left p, ← u, ← q, drop-drop);
      }
