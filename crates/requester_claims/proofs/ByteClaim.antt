-- A byte does to the view what document 02 says, and a call of receive is the bytes that it reads, one after the other.
-- Assumes nothing.
use mathlib.Core.Path.{◌≡◌, refl, ap, ◌∙◌}
use mathlib.Core.Bool.{Bool, true, false, cond, false≢true}
use mathlib.Core.List.{List, [], ◌∷◌, ◌++◌}
use mathlib.Core.Option.{Option, none, some, map}
use Prim.Native.Nat.{ℕ, zero, suc, ◌-◌}
use native.Mathlib.Omega.{arith}
use lib.Dec.{leb, eqb-suc-zero}
use lib.ListN.{length, length-append}
use lib.Seq.{take-nil}
use borrow.Author.Tests.{leb-true, leb-false}
use Rattle.octets.proofs.Conditions.{cond-by, cond_both}
use Rattle.line.specs.Limits.{longest_form}
use Rattle.line.specs.Judge.{judge, more_received, judge_received}
use Rattle.line.specs.Reader.{received_of}
use Rattle.line.specs.Reader as LineReader
use Rattle.line.proofs.Judged.{more_room, more-over}
use Rattle.line.proofs.Received.{ReaderStays, pushed-received, pushed-stays, received-most, tail-received, finish-received, finish-stays}
use Rattle.line.proofs.Received.{data-length}
use Rattle.requester.specs.State.{RecoveryStep}
use Rattle.requester.specs.Requester
use Rattle.requester.specs.Requester.{Heard, ground, hear, settle, dropped, after_heard, main_byte, receive}
use Rattle.requester.specs.Layout
use Rattle.requester.specs.Calls
use Rattle.requester.specs.Calls.{MainParts, main_parts, is_overlong, heard_of, heard_outcome_of, main_receive_valid, MainPartsValid}
use Rattle.requester.proofs.ValidLaws.{requester-valid, valid-requester}
use Rattle.requester.specs.Hearing.{data_fit}
use Rattle.requester.proofs.ReaderLaws.{read-fit}
use Rattle.requester_claims.specs.View.{main_view}
use Rattle.requester_claims.proofs.NextClaim.{kept-some, moves, Given, given_nothing, given-ground, given-good}
use Rattle.requester_claims.proofs.ReceivedClaim.{finished-heard}
use Rattle.requester_claims.proofs.OneByte.{Fed, fed, fed_by, feed, stops_at, Walked, walk, receipt_of}
use Rattle.requester_claims.specs.Histories.{MainLengths}

pub lengths-same : {p : MainParts} → MainLengths p p
lengths-same = record { reader = refl; requester = refl }

pub lengths-then : {p q r : MainParts} → MainLengths p q → MainLengths q r → MainLengths p r
lengths-then l m = record { reader = m.reader ∙ l.reader; requester = m.requester ∙ l.requester }

-- What came of a byte is what document 02 has of it.
-- The parts stay valid, and the data of what is handed out lie in the reader's.
pub record Follows (p : MainParts) (f : Fed) (x : Requester.MainResult) : Type 0 where
  pub handed : f.handed ≡ x.handed
  pub ended : f.ended ≡ x.ended
  pub state : main_view f.parts ≡ x.state
  pub valid : MainPartsValid f.parts
  pub lengths : MainLengths p f.parts
  pub given : Given f.parts.reader f.handed

-- ---- by what is heard

module _ (p : MainParts) (v : MainPartsValid p) (reader : List ℕ) (bs : Option (List ℕ)) (stays : ReaderStays p.reader reader)
    (e : received_of reader ≡ bs) where
  drop-follows : Follows p (fed_by p reader none) (dropped (Requester.main_with_received (main_view p) bs))
  unfolding fed_by heard_outcome_of Calls.part_moved_to main_view
  drop-follows = record {
    handed = refl;
    ended = refl;
    state = rw e;
    valid = record { reader = stays.valid; requester = v.requester };
    lengths = record { reader = stays.long; requester = refl };
    given = given_nothing reader;
  }

  hear-follows : (h : Heard) → Given reader (settle (Layout.recovery_step p.requester) (Layout.is_kept p.requester) h).handed
      → Follows p (fed_by p reader (some h)) (after_heard h (Requester.main_with_received (main_view p) bs))
  unfolding fed_by heard_outcome_of main_view
  hear-follows h g =
      let r = p.requester in
      let o = settle (Layout.recovery_step r) (Layout.is_kept r) h in
      let m = moves r (requester-valid r v.requester) bs o.next in
      rw (kept-some r)
      (record {
        handed = refl;
        ended = m.ended;
        state = rw e m.state;
        valid = record { reader = stays.valid; requester = valid-requester _ m.valid };
        lengths = record { reader = stays.long; requester = m.long };
        given = g;
      })

-- ---- the data of what is heard

-- of what the line reader's answer makes heard, where the state that it left is valid and the reported data fit
module _ (number : ℕ) (reader : List ℕ) (t : Option RecoveryStep) (k : Bool) where
  abbrev GivenHeard : Option Heard → Type 0
  GivenHeard none = Unit {0}
  GivenHeard (some h) = Given reader (settle t k h).handed

  given-heard : (a : LineReader.ReadReport) → LineReader.valid_reader reader ≡ true → data_fit a ≡ true
      → GivenHeard (heard_of number reader a)
  unfolding heard_of data_fit hear
  given-heard (LineReader.refused n) v f = tt
  given-heard LineReader.more v f = cond-by GivenHeard (is_overlong reader) (some ground) none (λ _. given-ground reader t k) (λ _. tt)
  given-heard LineReader.empty v f = tt
  given-heard (LineReader.failed reason sequence) v f = given-ground reader t k
  given-heard (LineReader.message version sequence command n) v f =
      let l = data-length reader n v (leb-true _ _ f) in
      given-good reader (record { version = version; sequence = sequence; command = command; payload = LineReader.data_promise reader n })
      (rw l) number t k

-- ---- one byte

-- a byte more is one too many where it is the 4,141st
more-longer : (bs : List ℕ) (b : ℕ) → Calls.is_longer (LineReader.tail_of (more_received (some bs) b)) ≡ Requester.fills (some bs)
more-longer bs b = by (leb longest_form (length bs)) refl
  where
    by : (full : Bool) → leb longest_form (length bs) ≡ full → Calls.is_longer (LineReader.tail_of (more_received (some bs) b)) ≡ full
    by true f = rw (more-over bs b (leb-true _ _ f))
    by false f = rw (more_room bs b (leb-false _ _ f))

-- a byte that is not 00 is heard where it fills the frame
feed-more : (p : MainParts) → LineReader.valid_reader p.reader ≡ true → (b : ℕ)
    → feed p (suc b)
    ≡ fed_by p (LineReader.pushed p.reader (suc b)) (cond (Requester.fills (received_of p.reader)) (some ground) none)
unfolding feed heard_of more_received
feed-more p v b = by (received_of p.reader) refl
  where
    t : List ℕ
    t = LineReader.pushed p.reader (suc b)

    by : (o : Option (List ℕ)) → received_of p.reader ≡ o
        → feed p (suc b) ≡ fed_by p t (cond (Requester.fills (received_of p.reader)) (some ground) none)
    by none e = rw (tail-received p.reader v, e)
    by (some bs) e =
        let more = pushed-received p.reader (suc b) v in
        rw (tail-received p.reader v, tail-received t (pushed-stays p.reader (suc b) v).valid, more, e, more-longer bs (suc b))

module _ (p : MainParts) (v : MainPartsValid p) where
  abbrev s : List ℕ
  s = p.reader

  abbrev number : ℕ
  number = Layout.newest_number p.requester

  finish-given : (h : Heard) → map (hear number) (judge_received (received_of s)) ≡ some h
      → Given (LineReader.finish s).state (settle (Layout.recovery_step p.requester) (Layout.is_kept p.requester) h).handed
  unfolding LineReader.read_piece
  finish-given h e =
      rw (finished-heard number s v.reader, e) at
      (given-heard number (LineReader.finish s).state (Layout.recovery_step p.requester) (Layout.is_kept p.requester)
      (LineReader.finish s).answer (finish-stays s v.reader).valid (read-fit (0 ∷ []) s))

  -- a 00
  close_follows : Follows p (feed p 0) (main_byte (main_view p) 0)
  unfolding main_byte feed main_view
  close_follows = by (received_of s) refl
    where
      t : List ℕ
      t = (LineReader.finish s).state

      by : (o : Option (List ℕ)) → received_of s ≡ o → Follows p (feed p 0) (main_byte (main_view p) 0)
      by none e =
          rw (tail-received s v.reader, e)
          (drop-follows p v t (some []) (finish-stays s v.reader) (finish-received s v.reader))
      by (some []) e =
          rw (finished-heard number s v.reader, tail-received s v.reader, e)
          (drop-follows p v t (some []) (finish-stays s v.reader) (finish-received s v.reader))
      by (some (b ∷ bs)) e =
          let h = hear number (judge (b ∷ bs)) in
          rw (finished-heard number s v.reader, tail-received s v.reader, e)
          (hear-follows p v t (some []) (finish-stays s v.reader) (finish-received s v.reader) h (finish-given h (rw e)))

  -- any other byte
  push-follows : (b : ℕ) → Follows p (feed p (suc b)) (main_byte (main_view p) (suc b))
  unfolding main_byte main_view
  push-follows b = by (Requester.fills (received_of s)) refl
    where
      t : List ℕ
      t = LineReader.pushed s (suc b)

      stays : ReaderStays s t
      stays = pushed-stays s (suc b) v.reader

      more : received_of t ≡ more_received (received_of s) (suc b)
      more = pushed-received s (suc b) v.reader

      by : (full : Bool) → Requester.fills (received_of s) ≡ full → Follows p (feed p (suc b)) (main_byte (main_view p) (suc b))
      by true f =
          rw (feed-more p v.reader b, eqb-suc-zero, f)
          (hear-follows p v t _ stays more ground (given-ground t (Layout.recovery_step p.requester) (Layout.is_kept p.requester)))
      by false f = rw (feed-more p v.reader b, eqb-suc-zero, f) (drop-follows p v t _ stays more)

  pub feed-follows : (b : ℕ) → Follows p (feed p b) (main_byte (main_view p) b)
  feed-follows zero = close_follows
  feed-follows (suc b) = push-follows b

  -- where a call stops
  stops-alike : (b : ℕ) → stops_at s b ≡ Requester.stops (main_view p) b
  unfolding main_view
  stops-alike b = refl

-- ---- a piece

pub walk-follows : (piece : List ℕ) (p : MainParts) → MainPartsValid p
    → ((walk p piece).used ≡ (receive (main_view p) piece).used) × Follows p (walk p piece).fed (receive (main_view p) piece).result
unfolding walk receive
walk-follows [] p v =
    (refl, record { handed = refl; ended = refl; state = refl; valid = v; lengths = lengths-same; given = given_nothing p.reader })
walk-follows (b ∷ bs) p v =
    let f = feed-follows p v b in
    let i = rw f.state at (walk-follows bs (feed p b).parts f.valid) in
    rw (stops-alike p v b)
    (cond_both (λ (w : Walked) (x : Requester.MainReceived). (w.used ≡ x.used) × Follows p w.fed x.result)
    (Requester.stops (main_view p) b)
    (λ e. (refl, f))
    (λ e. (
      ap suc i.0,
      record {
        handed = i.1.handed;
        ended = i.1.ended;
        state = i.1.state;
        valid = i.1.valid;
        lengths = lengths-then f.lengths i.1.lengths;
        given = i.1.given;
      },
    )))

-- ---- a call of receive is the bytes that it reads

abbrev later : Calls.MainReceiveOutcome → Calls.MainReceiveOutcome
later x = record { used = suc x.used; report = x.report; ended = x.ended; unsent = x.unsent; parts = x.parts }

module _ (p : MainParts) (v : LineReader.valid_reader p.reader ≡ true) where
  abbrev part : List ℕ
  part = p.reader

  received-none-read : main_receive_valid p [] ≡ receipt_of (walk p [])
  unfolding main_receive_valid walk LineReader.read_piece heard_of heard_outcome_of Calls.part_moved_to
  received-none-read = by (LineReader.tail_promise part) refl
    where
      by : (x : LineReader.TailReport) → LineReader.tail_promise part ≡ x → main_receive_valid p [] ≡ receipt_of (walk p [])
      by (LineReader.TailReport.refused n) e = rw e (rw e)
      by (LineReader.unfinished n) e = rw (e, take-nil) (rw e)
      by LineReader.longer e = rw e

  -- one byte more may be read where the frame has not passed 4,140
  room : (bs : List ℕ) → received_of part ≡ some bs → suc longest_form - length bs ≡ suc (longest_form - length bs)
  room bs e = let l = received-most part bs e v in omega arith

  received-closed : (bs : List ℕ) → main_receive_valid p (0 ∷ bs) ≡ receipt_of (walk p (0 ∷ bs))
  unfolding main_receive_valid walk LineReader.read_piece feed fed_by
  received-closed bs = by (received_of part) refl
    where
      by : (o : Option (List ℕ)) → received_of part ≡ o → main_receive_valid p (0 ∷ bs) ≡ receipt_of (walk p (0 ∷ bs))
      by none e = rw (tail-received part v, e)
      by (some xs) e = rw (tail-received part v, e, room xs e)

  -- a byte that fills the frame
  received-filled : (b : ℕ) (bs : List ℕ) → Requester.fills (received_of part) ≡ true
      → main_receive_valid p (suc b ∷ bs) ≡ receipt_of (walk p (suc b ∷ bs))
  unfolding main_receive_valid walk LineReader.read_piece LineReader.one_byte_later feed fed_by
  received-filled b bs = by (received_of part) refl
    where
      by : (o : Option (List ℕ)) → received_of part ≡ o → Requester.fills o ≡ true
          → main_receive_valid p (suc b ∷ bs) ≡ receipt_of (walk p (suc b ∷ bs))
      by none e f = absurd (false≢true f)
      by (some xs) e f =
          let k : longest_form - length xs ≡ 0 = omega (arith, leb-true longest_form (length xs) f) in
          rw (tail-received part v, e, room xs e, k, eqb-suc-zero, f)

  -- any other hands nothing out and changes the reader's part alone
  module _ (b : ℕ) (quiet : Requester.fills (received_of part) ≡ false) where
    abbrev t : List ℕ
    t = LineReader.pushed part (suc b)

    more : (bs : List ℕ) → received_of part ≡ some bs → received_of t ≡ some (bs ++ suc b ∷ [])
    more bs e =
        let f : leb longest_form (length bs) ≡ false = rw e at quiet in
        pushed-received part (suc b) v ∙ rw e (more_room bs (suc b) (leb-false _ _ f))

    pub feed-quiet : feed p (suc b) ≡ fed Requester.nothing none (main_parts t p.requester)
    unfolding fed_by heard_outcome_of Calls.part_moved_to
    feed-quiet = feed-more p v b ∙ rw quiet

    received-later : (bs : List ℕ) → main_receive_valid p (suc b ∷ bs) ≡ later (main_receive_valid (main_parts t p.requester) bs)
    unfolding main_receive_valid LineReader.read_piece LineReader.one_byte_later more_received
    received-later bs = by (received_of part) refl
      where
        w : LineReader.valid_reader t ≡ true
        w = (pushed-stays part (suc b) v).valid

        by : (o : Option (List ℕ)) → received_of part ≡ o
            → main_receive_valid p (suc b ∷ bs) ≡ later (main_receive_valid (main_parts t p.requester) bs)
        by none e =
            let k : received_of t ≡ none = pushed-received part (suc b) v ∙ rw e in
            rw (tail-received part v, tail-received t w, k, e, eqb-suc-zero)
        by (some xs) e =
            let l : suc longest_form - length (xs ++ suc b ∷ []) ≡ longest_form - length xs = simp length-append (omega arith) in
            rw (tail-received part v, tail-received t w, more xs e, e, room xs e, l, eqb-suc-zero)

pub received-walk : (piece : List ℕ) (p : MainParts) → LineReader.valid_reader p.reader ≡ true
    → main_receive_valid p piece ≡ receipt_of (walk p piece)
unfolding walk
received-walk [] p v = received-none-read p v
received-walk (zero ∷ bs) p v = received-closed p v bs
received-walk (suc b ∷ bs) p v =
    by (Requester.fills (received_of p.reader)) refl
    (received-walk bs (main_parts (LineReader.pushed p.reader (suc b)) p.requester) (pushed-stays p.reader (suc b) v).valid)
  where
    t : List ℕ
    t = LineReader.pushed p.reader (suc b)

    by : (x : Bool) → Requester.fills (received_of p.reader) ≡ x
        → main_receive_valid (main_parts t p.requester) bs ≡ receipt_of (walk (main_parts t p.requester) bs)
        → main_receive_valid p (suc b ∷ bs) ≡ receipt_of (walk p (suc b ∷ bs))
    by true e i = received-filled p v b bs e
    by false e i = received-later p v b e bs ∙ rw (eqb-suc-zero, e, feed-quiet p v b e) (ap later i)
