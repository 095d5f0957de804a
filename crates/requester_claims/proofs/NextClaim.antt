-- What comes next, on the main processor's part and on the state that it holds; and the data of what is handed out.
-- Assumes nothing.
use mathlib.Core.Path.{◌≡◌, refl, ◌∙◌}
use mathlib.Core.Bool.{Bool, true, false, cond, not, ◌&&◌, false≢true}
use mathlib.Core.List.{List}
use mathlib.Core.Option.{Option, none, some}
use Prim.Native.Nat.{ℕ, suc, ◌^◌, ◌≤◌, ◌<◌}
use native.Mathlib.Omega.{arith}
use lib.Dec.{leb, ltb, eqb}
use lib.ListN.{length}
use borrow.Author.Tests.{leb-false}
use Rattle.octets.proofs.Conditions.{cond-by, cond_both}
use Rattle.line.specs.Numbers.{status_length}
use Rattle.line.specs.Message.{Message}
use Rattle.line.specs.Judge.{good}
use Rattle.line.specs.Reader as LineReader
use Rattle.requester.specs.Limits.{last_number}
use Rattle.requester.specs.State.{RecoveryStep, fetch, acknowledge, alert, is_some}
use Rattle.requester.specs.Requester
use Rattle.requester.specs.Requester.{Heard, ground, other, answer, Next, same, again, anew, idle, hear, fails_decode, reply_sequence}
use Rattle.requester.specs.Requester.{settle}
use Rattle.requester.specs.Layout
use Rattle.requester.specs.Calls
use Rattle.requester.specs.Calls.{handed_report_of}
use Rattle.requester.proofs.ProgressLaws.{step-at}
use Rattle.requester.proofs.ValidLaws.{RequesterValid}
use Rattle.requester_claims.specs.View.{kept_request_of, held}
use Rattle.requester_claims.specs.Histories.{handed_data_in, handed_data}
use Rattle.requester_claims.proofs.FieldLaws.{progressed-held, progressed-valid, progressed-long, flagged-held, flagged-valid}
use Rattle.requester_claims.proofs.FieldLaws.{flagged-long}

pub kept-some : (r : List ℕ) → is_some (kept_request_of r) ≡ Layout.is_kept r
unfolding kept_request_of
kept-some r = by (Layout.is_kept r)
  where
    by : (k : Bool) → is_some (cond k (some (Layout.kept_request r)) none) ≡ k
    by true = refl
    by false = refl

-- the part after a move holds the state after it
pub record Moves (r : List ℕ) (bs : Option (List ℕ)) (m : Calls.PartMoved) (x : Requester.MainMoved) : Type 0 where
  pub ended : m.ended ≡ x.ended
  pub state : held m.requester bs ≡ x.state
  pub valid : RequesterValid m.requester
  pub long : length m.requester ≡ length r

number_step : (t : Option RecoveryStep) → Layout.step_number t ≤ 3
unfolding Layout.step_number
number_step none = omega arith
number_step (some fetch) = omega arith
number_step (some acknowledge) = omega arith
number_step (some alert) = omega arith

module _ (r : List ℕ) (v : RequesterValid r) (bs : Option (List ℕ)) where
  idled : (e : Option ℕ) → Moves r bs (Calls.part_moved e (Calls.idle_part r)) (Requester.main_moved e (Requester.idle_state (held r bs)))
  unfolding Layout.step_at
  idled e = record {
    ended = refl;
    state = progressed-held (Layout.newest_number r) 0 0 0 r v v.number bs;
    valid =
        progressed-valid (Layout.newest_number r) 0 0 0 r v v.number (omega arith) (omega arith) (omega arith)
        (λ o. absurd (false≢true o));
    long = progressed-long (Layout.newest_number r) 0 0 0 r v;
  }

  pub moves : (x : Next) → Moves r bs (Calls.part_moved_to x r) (Requester.main_moved_to x (held r bs))
  unfolding Calls.part_moved_to Requester.main_moved_to kept_request_of
  moves same = record { ended = refl; state = refl; valid = v; long = refl }
  moves again = record { ended = refl; state = flagged-held 1 r v bs; valid = flagged-valid 1 r v (omega arith); long = flagged-long 1 r v }
  moves (anew t) =
      cond_both (Moves r bs) (leb last_number (Layout.newest_number r)) (λ e. idled (some 14)) (λ e.
      let l : Layout.newest_number r < last_number = leb-false _ _ e in
      let n = suc (Layout.newest_number r) in
      let k = Layout.step_number t in
      record {
        ended = refl;
        state = progressed-held n k 1 (Layout.kept_flag r) r v (omega arith) bs ∙ rw (step-at t);
        valid = progressed-valid n k 1 (Layout.kept_flag r) r v (omega arith) (number_step t) (omega arith) v.kept (λ _. omega arith);
        long = progressed-long n k 1 (Layout.kept_flag r) r v;
      })
  moves idle = idled none

-- ---- the data of what is handed out

-- what is handed out in numbers, and the reader's part, give the data
abbrev pub Given : List ℕ → Requester.Handed → Type 0
Given reader h = handed_data_in (handed_report_of h) reader ≡ handed_data h

pub given_nothing : (reader : List ℕ) → Given reader Requester.nothing
unfolding handed_data_in handed_report_of handed_data
given_nothing reader = refl

module _ (reader : List ℕ) (m : Message) (g : LineReader.data_promise reader (length m.payload) ≡ m.payload) where
  given-answer : (t : Option RecoveryStep) (k : Bool) → Given reader (settle t k (answer m)).handed
  unfolding settle Requester.fetched handed_data_in handed_report_of handed_data
  given-answer none false = refl
  given-answer none true = g
  given-answer (some fetch) k =
      cond-by (λ (o : Requester.HeardOutcome). Given reader o.handed) (eqb m.command 0x06 && eqb (length m.payload) status_length)
      _ _ (λ e. refl) (λ e. refl)
  given-answer (some acknowledge) k = refl
  given-answer (some alert) k = g

pub given-ground : (reader : List ℕ) (t : Option RecoveryStep) (k : Bool) → Given reader (settle t k ground).handed
unfolding settle handed_data_in handed_report_of handed_data
given-ground reader none false = refl
given-ground reader none true = refl
given-ground reader (some t) k = refl

given-other : (reader : List ℕ) (t : Option RecoveryStep) (k : Bool) → Given reader (settle t k other).handed
unfolding settle handed_data_in handed_report_of handed_data
given-other reader none false = refl
given-other reader none true = refl
given-other reader (some t) k = refl

-- of a good message whose data the reader's part holds
pub given-good : (reader : List ℕ) (m : Message) → LineReader.data_promise reader (length m.payload) ≡ m.payload
    → (n : ℕ) (t : Option RecoveryStep) (k : Bool) → Given reader (settle t k (hear n (good m))).handed
unfolding hear
given-good reader m g n t k =
    cond-by P (not (eqb m.version 1)) _ _ (λ _. given-ground reader t k) (λ _.
    cond-by P (ltb m.sequence (2 ^ 63)) _ _ (λ _. given-ground reader t k) (λ _.
    cond-by P (fails_decode n m) _ _ (λ _. given-ground reader t k) (λ _.
    cond-by P (eqb m.sequence (reply_sequence n)) _ _ (λ _. given-answer reader m g t k) (λ _. given-other reader t k))))
  where
    P : Heard → Type 0
    P h = Given reader (settle t k h).handed
