-- An alert request: its reply is accused of nothing, a first one or one that is sent again, and what is known of the retained reply fits.
-- Assumes nothing.
use mathlib.Core.Path.{◌≡◌, refl}
use mathlib.Core.Bool.{true, false, ◌&&◌, and-false}
use mathlib.Core.Option.{Option, none, some}
use Prim.Native.Nat.{ℕ, ◌+◌}
use native.Mathlib.Omega.{arith}
use lib.Dec.{leb, eqb}
use lib.ListN.{length, length-append}
use borrow.Author.Tests.{le-leb, eqb-true, eq-eqb}
use Rattle.octets.proofs.Conditions.{cond-by}
use Rattle.octets.proofs.Equal.{equal-refl}
use Rattle.octets.proofs.Numbers.{length-bytes}
use Rattle.line.specs.Numbers.{reply_alert}
use Rattle.line.specs.Message.{Message}
use Rattle.supervisor.specs.Limits.{longest_alert}
use Rattle.supervisor.specs.State.{Alert, Retained, State}
use Rattle.responder.specs.Commands.{Command, command_number, command_of_number}
use Rattle.responder.specs.Requests.{reply_with, version_served, alert_data, alert_taken, alert_asked}
use Rattle.responder.proofs.CommandLaws.{number_is}
use Rattle.tap.specs.Known.{Known, Copy, copy_after_alert}
use Rattle.tap.specs.Accused.{accused_if, reply_earned, length_earned, data_accused, copy_differs}
use Rattle.tap.specs.Tap.{told_by}
use Rattle.tap_claims.proofs.Fits.{SomeCopyFits, Fits, FitsState}
use Rattle.tap_claims.proofs.KnownLaws.{copy-fits}
use Rattle.tap_claims.proofs.HeldRanges.{AlertSized, RetainedSized, Sized}
use Rattle.tap_claims.proofs.Answered.{numbered, CarriedRightly, earned-right}

-- ---- the copy behind an alert request with this number

module _ (n : ℕ) where
  copy-none : (q : Option Copy) → SomeCopyFits q none → copy_after_alert n q ≡ none
  copy-none none h = refl
  copy-none (some c) h = absurd h

  copy-again : (q : Option Copy) (w : Retained) → SomeCopyFits q (some w) → SomeCopyFits (copy_after_alert n q) (some w)
  copy-again none w h = tt
  copy-again (some c) w h = cond-by (λ o. SomeCopyFits o (some w)) (eqb c.sequence n) _ _ (λ _. h) (λ _. tt)

  copy-other : (q : Option Copy) (w : Retained) → SomeCopyFits q (some w) → eqb w.sequence n ≡ false → copy_after_alert n q ≡ none
  copy-other none w h e = refl
  copy-other (some c) w h e = rw (← h.sequence, e)

-- the same alert under the same version
same_copy : (q : Option Copy) (w : Retained) (m r : Message) → SomeCopyFits q (some w) → r.version ≡ w.version
    → r.payload ≡ alert_data w.alert → copy_differs q m r ≡ false
same_copy none w m r h e f = refl
same_copy (some c) w m r h e f =
    rw (e, f, ← h.version, ← h.payload, eq-eqb w.version w.version refl, equal-refl (alert_data w.alert))
    (and-false (eqb c.sequence m.sequence))

alert-long : (a : Alert) → AlertSized a → let n = length (alert_data a) in (leb 1 n && leb n (1 + longest_alert)) ≡ true
alert-long a h =
    let n : length (alert_data a) ≡ 1 + length a.text = simp (length-append, length-bytes) in
    rw (n, le-leb 1 (1 + length a.text) (omega arith), le-leb (1 + length a.text) (1 + longest_alert) (omega arith))

-- ---- the request

module _ {k : Known} (s : State) (fits : FitsState k s) (sized : Sized s) (m : Message) (served : version_served m.version ≡ true)
    (asked : command_of_number m.command ≡ some Command.alert) where
  -- the reply w goes out, and is the one that is retained
  replied : (t : State) (w : Retained) → Fits k t.factory t.settings s.retained → t.retained ≡ some w
      → w.sequence ≡ m.sequence → RetainedSized (some w) → SomeCopyFits (copy_after_alert m.sequence k.copy) (some w)
      → CarriedRightly k m (some Command.alert) (reply_with t w.version reply_alert (alert_data w.alert))
  unfolding reply_earned length_earned data_accused told_by accused_if command_number
  replied t w h e n z c =
      let q = copy_after_alert m.sequence k.copy in
      let r = numbered m.sequence (record { version = w.version; command = reply_alert; payload = alert_data w.alert }) in
      rw e (
        copy-fits h q (some w) c,
        (
          earned-right (record {
            no_failure = refl;
            command = refl;
            version = rw (number_is m.command asked) z.0;
            long = alert-long w.alert z.1;
            right = rw (same_copy q w m r c refl refl);
          }),
          copy-fits h _ (some w) (record { sequence = n; version = refl; payload = refl }),
        ),
      )

  taken : copy_after_alert m.sequence k.copy ≡ none → CarriedRightly k m (some Command.alert) (alert_taken m.version s m.sequence)
  unfolding alert_taken
  taken e = replied (alert_taken m.version s m.sequence).state _ fits refl refl (served, sized.waiting) (rw e tt)

  pub alert-right : CarriedRightly k m (some Command.alert) (alert_asked m.version s m.sequence s.retained)
  unfolding alert_asked
  alert-right = by s.retained refl fits.copy sized.retained
    where
      by : (o : Option Retained) → s.retained ≡ o → SomeCopyFits k.copy o → RetainedSized o
          → CarriedRightly k m (some Command.alert) (alert_asked m.version s m.sequence o)
      by none e c z = taken (copy-none m.sequence k.copy c)
      by (some w) e c z =
          cond-by (CarriedRightly k m (some Command.alert)) (eqb w.sequence m.sequence) _ _
          (λ t. replied s w fits e (eqb-true _ _ t) z (copy-again m.sequence k.copy w c))
          (λ t. taken (copy-other m.sequence k.copy w c t))
