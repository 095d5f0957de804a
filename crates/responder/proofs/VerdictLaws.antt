-- Laws of the 00 of a frame: the verdict by what has come of it, how it ends, and the reader's part behind it.
-- Assumes nothing.
use Rattle.std.specs.Prelude.{Result, ⊤}
use mathlib.Core.Path.{◌≡◌, refl, sym, ap, ◌∙◌}
use mathlib.Core.Bool.{true}
use mathlib.Core.List.{List, [], ◌∷◌}
use mathlib.Core.Option.{Option, none, some, map}
use Prim.Native.Nat.{ℕ}
use borrow.Author.Tests.{le-leb, eq-eqb, ne_eqb}
use Rattle.octets.specs.Bytes.{number_at}
use Rattle.octets.proofs.Conditions.{cond-by}
use Rattle.line.specs.Numbers.{command_key_set}
use Rattle.line.specs.Judge as Line
use Rattle.line.specs.Judge.{judge_received}
use Rattle.line.specs.Reader as LineReader
use Rattle.line.specs.Reader.{received_of}
use Rattle.refusals.specs.declared.Refusal.{Refusal}
use Rattle.line.proofs.Received.{ReaderStays, stays_same, valid-long, fresh-stays, fresh-received}
use Rattle.line.proofs.Received.{finish-received, finish-stays, finish-data}
use Rattle.supervisor.specs.Limits
use Rattle.responder.specs.Requests.{tested_where, verdict, verdict_since}
use Rattle.responder.specs.Receive

-- ---- the verdict

since-judged : (received : Option (List ℕ)) → map tested_where (judge_received received) ≡ verdict_since received
unfolding verdict
since-judged none = refl
since-judged (some []) = refl
since-judged (some (b ∷ bs)) = refl

-- by the answer of the line reader and the state that it leaves, in which the data of a message stand
pub finished-verdict : (s : List ℕ) → LineReader.valid_reader s ≡ true
    → Receive.verdict_of (LineReader.finish s).state (LineReader.finish s).answer ≡ verdict_since (received_of s)
unfolding LineReader.finish LineReader.verdict_report Receive.verdict_of
finished-verdict s v = by (judge_received (received_of s)) refl ∙ since-judged (received_of s)
  where
    by : (o : Option Line.LineVerdict) → judge_received (received_of s) ≡ o
        → Receive.verdict_of (LineReader.finish s).state (LineReader.closed_report o) ≡ map tested_where o
    by none e = refl
    by (some (Line.failure reason sequence)) e = refl
    by (some (Line.good m)) e = rw (finish-data s v m e)

-- ---- how it ends

-- an answer to a 00
abbrev pub Ends : LineReader.ReadReport → Type 0
Ends (LineReader.refused n) = ⊥
Ends LineReader.more = ⊥
Ends LineReader.empty = Unit {0}
Ends (LineReader.message version sequence command n) = Unit {0}
Ends (LineReader.failed reason sequence) = Unit {0}

verdict-ends : (v : Line.LineVerdict) → Ends (LineReader.verdict_report v)
unfolding LineReader.verdict_report
verdict-ends (Line.failure reason sequence) = tt
verdict-ends (Line.good m) = tt

pub finish-ends : (s : List ℕ) → Ends (LineReader.finish s).answer
unfolding LineReader.finish
finish-ends s = by (judge_received (received_of s))
  where
    by : (o : Option Line.LineVerdict) → Ends (LineReader.closed_report o)
    by none = tt
    by (some v) = verdict-ends v

ended-verdict : (reader : List ℕ) (a : LineReader.ReadReport) → Ends a
    → Receive.ended_by_reader reader a ≡ Receive.ended_meant (Receive.verdict_of reader a)
unfolding Receive.ended_by_reader Receive.verdict_of
ended-verdict reader (LineReader.refused n) h = absurd h
ended-verdict reader LineReader.more h = absurd h
ended-verdict reader LineReader.empty h = refl
ended-verdict reader (LineReader.message version sequence command n) h = refl
ended-verdict reader (LineReader.failed reason sequence) h = refl

pub finished-ended : (s : List ℕ) → LineReader.valid_reader s ≡ true
    → Receive.ended_by_reader (LineReader.finish s).state (LineReader.finish s).answer
    ≡ Receive.ended_meant (verdict_since (received_of s))
finished-ended s v = ended-verdict _ _ (finish-ends s) ∙ ap Receive.ended_meant (finished-verdict s v)

-- ---- the reader's part behind it

-- a message that is no key set, one of the passphrase, and one of another key; d is its data, key its first byte
module _ (s : List ℕ) (command n : ℕ) where
  pub other-command : (command ≡ command_key_set → ⊥) → s ≡ Receive.behind_message s command n
  other-command h = rw (ne_eqb command command_key_set h)

  module _ {d : List ℕ} {key : ℕ} (h : command ≡ command_key_set) (e : d ≡ LineReader.data_promise s n) (f : key ≡ number_at 1 d 0) where
    pub passphrase-wiped : (r : Result ⊤ Refusal) {t : List ℕ} → key ≡ Limits.passphrase_key
        → LineReader.reader_start_outcome r t ≡ LineReader.reader_start_promise s → t ≡ Receive.behind_message s command n
    passphrase-wiped r k g =
        let i : number_at 1 (LineReader.data_promise s n) 0 ≡ Limits.passphrase_key = sym (f ∙ rw e) ∙ k in
        ap (λ (x : LineReader.ReaderStartOutcome). x.state) g ∙ rw (eq-eqb command command_key_set h, eq-eqb _ Limits.passphrase_key i)

    pub other_key : (key ≡ Limits.passphrase_key → ⊥) → s ≡ Receive.behind_message s command n
    other_key k =
        let i : number_at 1 (LineReader.data_promise s n) 0 ≡ Limits.passphrase_key → ⊥ = λ q. k (f ∙ rw e q) in
        rw (eq-eqb command command_key_set h, ne_eqb _ Limits.passphrase_key i)

module _ (s : List ℕ) (a : LineReader.ReadReport) (v : LineReader.valid_reader s ≡ true) where
  pub behind-stays : ReaderStays s (Receive.reader_behind s a)
  unfolding Receive.reader_behind LineReader.reader_start_promise
  behind-stays =
      let h = valid-long s v in
      cond-by (ReaderStays s) (Receive.sets_passphrase s a) _ _ (λ _. rw (le-leb _ _ h) (fresh-stays s h)) (λ _. stays_same v)

  -- where nothing is left of a frame, nothing is left of one
  pub behind-received : received_of s ≡ some [] → received_of (Receive.reader_behind s a) ≡ some []
  unfolding Receive.reader_behind LineReader.reader_start_promise
  behind-received e =
      let h = valid-long s v in
      cond-by (λ (t : List ℕ). received_of t ≡ some []) (Receive.sets_passphrase s a) _ _ (λ _. rw (le-leb _ _ h) (fresh-received s h))
      (λ _. e)

-- behind a 00
abbrev pub reader_closed : List ℕ → List ℕ
reader_closed s = Receive.reader_behind (LineReader.finish s).state (LineReader.finish s).answer

module _ (s : List ℕ) (v : LineReader.valid_reader s ≡ true) where
  pub closed-received : received_of (reader_closed s) ≡ some []
  closed-received = behind-received _ _ (finish-stays s v).valid (finish-received s v)
