-- The line reader's part of the view: the verdict at a 00 on what has come of the frame.
-- Other laws are of what it asks of a request, and of what stays. Assumes nothing.
use mathlib.Core.Path.{◌≡◌, refl}
use mathlib.Core.Bool.{Bool, true, false, not}
use mathlib.Core.List.{List, [], ◌∷◌}
use mathlib.Core.Option.{Option, none, some}
use Prim.Native.Nat.{ℕ, ◌^◌, ◌≤◌, ◌<◌}
use native.Mathlib.Omega.{arith}
use lib.Dec.{leb}
use lib.ListN.{length}
use borrow.Author.Tests.{le-leb, leb-false}
use Rattle.octets.specs.Bytes.{Byte, Each}
use Rattle.octets.proofs.Conditions.{cond-by}
use Rattle.line.specs.Limits.{longest_data}
use Rattle.line.specs.Message.{Message, InRange}
use Rattle.line.specs.Judge as Line
use Rattle.line.specs.Judge.{fields, judge}
use Rattle.line.specs.Reader.{received_of}
use Rattle.line.specs.Reader as LineReader
use Rattle.line.proofs.Judged.{fit_length, judge-good, uncobs-each}
use Rattle.line.proofs.Received.{ReaderStays, fresh-stays, fresh-each, pushed-stays, pushed-each, received-each, finish-stays}
use Rattle.line.proofs.Received.{stays_then, valid-long, finish-each, read_stays, read-each}
use Rattle.line_claims.proofs.MessageLaws.{fields-range}
use Rattle.responder.specs.Requests.{Verdict, failure, good, version_served, known, length_allowed, tested, tested_where, verdict}
use Rattle.responder.specs.Requests.{verdict_since}
use Rattle.responder.specs.Receive.{sets_passphrase, reader_behind}
use Rattle.responder.proofs.VerdictLaws.{behind-stays, reader_closed}

-- ---- a message that the whole table finds good

never : {A : Type 0} {reason version : ℕ} {sequence : Option ℕ} {m : Message} → failure reason version sequence ≡ good m → A
never p = let z : ◌≡◌ {A = ℕ} 0 1 = cc in absurd (omega arith)

-- What the table asks of a request:
-- - its version is served
-- - its sequence's top bit is not set
-- - its command is known
-- - its data are bytes, as many as the command takes
pub record Requestable (m : Message) : Type 0 where
  pub version : version_served m.version ≡ true
  pub sequence : m.sequence < 2 ^ 63
  pub command : known m.command ≡ true
  pub allowed : length_allowed m.command (length m.payload) ≡ true
  pub fits : length m.payload ≤ longest_data
  pub payload : Each Byte m.payload

-- the tests after the line layer's
record Tested (l m : Message) : Type 0 where
  same : l ≡ m
  version : version_served l.version ≡ true
  sequence : l.sequence < 2 ^ 63
  command : known l.command ≡ true
  allowed : length_allowed l.command (length l.payload) ≡ true

tested-good : (l m : Message) → tested l ≡ good m → Tested l m
unfolding tested
tested-good l m =
    cond-by Passes (not (version_served l.version)) _ _ (λ e p. never p) (λ e.
    cond-by Passes (leb (2 ^ 63) l.sequence) _ _ (λ f p. never p) (λ f.
    cond-by Passes (not (known l.command)) _ _ (λ g p. never p) (λ g.
    cond-by Passes (not (length_allowed l.command (length l.payload))) _ _ (λ h p. never p) (λ h p.
    record {
      same = cc;
      version = not-false _ e;
      sequence = leb-false (2 ^ 63) l.sequence f;
      command = not-false _ g;
      allowed = not-false _ h;
    }))))
  where
    Passes : Verdict → Type 0
    Passes v = v ≡ good m → Tested l m

    not-false : (t : Bool) → not t ≡ false → t ≡ true
    not-false true e = refl
    not-false false e = cc

pub good-typed : (form : List ℕ) (m : Message) → Each Byte form → verdict form ≡ good m → Requestable m
unfolding verdict fields
good-typed form m b = by (judge form) refl
  where
    typed : (l : Message) → judge form ≡ Line.good l → Tested l m → Requestable m
    typed l j t =
        let g = judge-good form l j in
        let r : InRange l = rw g.is (fields-range g.xs (uncobs-each form g.xs b g.decoded) (fit_length g.xs g.fits).1) in
        rw (← t.same)
        (record {
          version = t.version;
          sequence = t.sequence;
          command = t.command;
          allowed = t.allowed;
          fits = r.fits;
          payload = r.typed.payload;
        })

    by : (v : Line.LineVerdict) → judge form ≡ v → tested_where v ≡ good m → Requestable m
    by (Line.failure reason sequence) j p = never p
    by (Line.good l) j p = typed l j (tested-good l m p)

-- ---- what stays of the state

pub record ReaderKept (s t : List ℕ) : Type 0 where
  pub valid : LineReader.valid_reader t ≡ true
  pub long : length t ≡ length s
  pub bytes : Each Byte s → Each Byte t

kept : {s t : List ℕ} → ReaderStays s t → (Each Byte s → Each Byte t) → ReaderKept s t
kept k bytes = record { valid = k.valid; long = k.long; bytes = bytes }

pub pushed-kept : (s : List ℕ) (b : ℕ) → LineReader.valid_reader s ≡ true → b < 256 → ReaderKept s (LineReader.pushed s b)
pushed-kept s b v l = kept (pushed-stays s b v) (pushed-each s b l)

behind-each : (s : List ℕ) (a : LineReader.ReadReport) → LineReader.valid_reader s ≡ true → Each Byte s → Each Byte (reader_behind s a)
unfolding reader_behind LineReader.reader_start_promise
behind-each s a v h =
    cond-by (Each Byte) (sets_passphrase s a) _ _ (λ _. rw (le-leb _ _ (valid-long s v)) (fresh-each s h)) (λ _. h)

-- behind a 00
pub closed-kept : (s : List ℕ) → LineReader.valid_reader s ≡ true → ReaderKept s (reader_closed s)
closed-kept s v =
    let k = finish-stays s v in
    kept (stays_then k (behind-stays _ _ k.valid)) (λ h. behind-each _ _ k.valid (finish-each s h))

pub read_kept : (piece s : List ℕ) → LineReader.valid_reader s ≡ true → Each Byte piece → ReaderKept s (LineReader.read_piece s piece).state
read_kept piece s v h = kept (read_stays piece s v) (read-each piece s h)

-- a start of the reader
pub started-kept : (s : List ℕ) → LineReader.reader_length ≤ length s → ReaderKept s (LineReader.reader_fresh s)
started-kept s h = kept (fresh-stays s h) (fresh-each s)

-- the request that a 00 brings, where the state holds bytes
pub finished-typed : (s : List ℕ) (m : Message) → Each Byte s → verdict_since (received_of s) ≡ some (good m) → Requestable m
finished-typed s m b = by (received_of s) refl
  where
    by : (o : Option (List ℕ)) → received_of s ≡ o → verdict_since o ≡ some (good m) → Requestable m
    by none e p = let z : ◌≡◌ {A = ℕ} 0 1 = cc in absurd (omega arith)
    by (some []) e p = let z : ◌≡◌ {A = ℕ} 0 1 = cc in absurd (omega arith)
    by (some (c ∷ cs)) e p = good-typed (c ∷ cs) m (received-each s (c ∷ cs) e b) (cc)
