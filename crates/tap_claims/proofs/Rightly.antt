-- Behind every frame what is known fits the state, and the frame's reply is accused of nothing; what that tells fits too.
-- Assumes nothing.
use mathlib.Core.Path.{◌≡◌, refl}
use mathlib.Core.Bool.{true, false}
use mathlib.Core.List.{List, [], ◌++◌}
use mathlib.Core.Option.{Option, none, some}
use Prim.Native.Nat.{ℕ, ◌≤◌, ◌<◌}
use native.Mathlib.Omega.{arith}
use lib.Dec.{eqb}
use lib.ListN.{length, length-append}
use borrow.Author.Tests.{le-leb, eq-eqb}
use Rattle.octets.specs.Bytes.{bytes, number_at, run, equal}
use Rattle.octets.proofs.Conditions.{cond-by, zero_one}
use Rattle.octets.proofs.Numbers.{length-bytes}
use Rattle.line.specs.Numbers.{command_alert, reply_acknowledged, reply_decode_failure, reply_bsu, reply_identity, reply_mac, reply_status}
use Rattle.line.specs.Numbers.{reply_image_block, reply_key_lookup, reply_inventory, reply_key_set}
use Rattle.line.specs.Message.{Message}
use Rattle.supervisor.specs.Limits.{longest_block}
use Rattle.supervisor.specs.State.{Factory, State}
use Rattle.supervisor.specs.Number.{top_set}
use Rattle.supervisor.specs.Local.{lookup}
use Rattle.responder.specs.Commands.{Command, command_number, command_of_number}
use Rattle.responder.specs.Requests
use Rattle.responder.specs.Requests.{Verdict, failure, good, ReplyContent, version_served, verdict, effect, carry_out_by, carry_out}
use Rattle.responder.proofs.KeptLaws.{run_short}
use Rattle.supervisor_claims.specs.Replies.{after_table, reply_by}
use Rattle.supervisor_claims.proofs.calls.ReceivedClaim.{good-typed}
use Rattle.tap.specs.Known.{Known, most_firsts, slot_by, slot_of, result_due, known_after_by, known_after}
use Rattle.tap.specs.Accused.{accused_if, first_held, failure_accused, changed_accused, reply_earned, length_earned, data_accused}
use Rattle.tap.specs.Accused.{is_command}
use Rattle.tap.specs.Accused.{request_accused, request_accused_by, reply_accused}
use Rattle.tap.specs.Tap.{first_told, told_by, told, due_of}
use Rattle.tap_claims.proofs.Fits.{factory_told, FitsState, message_of, FitsBehind, RepliesRightly}
use Rattle.tap_claims.proofs.KnownLaws.{copy-fits, first-right}
use Rattle.tap_claims.proofs.HeldRanges.{Sized, held-sized}
use Rattle.tap_claims.proofs.SetsRightly.{sets-right}
use Rattle.tap_claims.proofs.LookupForms.{first_byte, form_right}
use Rattle.tap_claims.proofs.LookupsRightly.{lookup-sized, lookup-right, lookup-told}
use Rattle.tap_claims.proofs.ItemsRightly.{item-form, item-right, item-told}
use Rattle.tap_claims.proofs.Answered.{numbered, RepliedRightly, CarriedRightly, earned-right, version_right}
use Rattle.tap_claims.proofs.AlertsRightly.{alert-right}

-- the number of a command's reply, which is no alert's
abbrev Plain : Command → ℕ → Type 0
Plain x c =
    (eqb (command_number x) command_alert ≡ false) × (eqb c reply_decode_failure ≡ false) × (is_command (reply_earned x) c ≡ true)

block-short : (f : Factory) (image d : List ℕ) → length (Requests.block f image d) ≤ longest_block
unfolding Requests.block
block-short f image d =
    cond-by (λ (bs : List ℕ). length bs ≤ longest_block) (equal (run 0 32 d) f.hash) _ []
    (λ _. run_short (number_at 8 d 32) longest_block longest_block image (omega arith)) (λ _. omega arith)

module _ {k : Known} (s : State) (fits : FitsState k s) (sized : Sized s) (image : List ℕ) (m : Message)
    (served : version_served m.version ≡ true) where
  -- a reply under the request's version
  abbrev plain_reply : ℕ → List ℕ → Message
  plain_reply c payload = numbered m.sequence (record { version = m.version; command = c; payload = payload })

  earns : {x : Command} (c : ℕ) (payload : List ℕ) → command_of_number m.command ≡ some x → Plain x c → let r = plain_reply c payload in
      let j = known_after_by (some x) k m in
      let due = result_due k m.payload in
      length_earned x r ≡ true → data_accused x j due m r ≡ [] → request_accused x j due m r ≡ []
  earns c payload asked p l d =
      earned-right (record {
        no_failure = p.1;
        command = p.2;
        version = version_right m (plain_reply c payload) asked p.0 refl;
        long = l;
        right = d;
      })

  -- factory data that have one slot
  first : {x : Command} (slot : ℕ) → command_of_number m.command ≡ some x → slot_by (some x) m.payload ≡ some slot
      → slot < most_firsts → let bs = factory_told s.factory slot in
      (changed_accused k m bs ≡ []) × FitsState (first_told (first_held k (slot_of m)) (slot_of m) bs k) s
  unfolding slot_of
  first slot asked e l = first-right fits m _ (rw (asked, e) (l, refl))

  effect-right : (x : Command) → command_of_number m.command ≡ some x → CarriedRightly k m (some x) (effect x image s m)
  unfolding effect command_number reply_earned length_earned data_accused told_by accused_if Requests.reboot Requests.power_off
      Requests.boot_failure Requests.panicked Requests.start_acknowledged Requests.key_set
  effect-right Command.reboot e = (copy-fits fits none none tt, tt)
  effect-right Command.power-off e = (copy-fits fits none none tt, tt)
  effect-right Command.bsu e =
      let t = first 0 e refl (omega arith) in
      (fits, (earns reply_bsu _ e (refl, refl, refl) (eq-eqb _ _ (length-bytes 1 s.factory.bsu)) t.0, t.1))
  effect-right Command.identity e =
      let t = first 1 e refl (omega arith) in
      (fits, (earns reply_identity _ e (refl, refl, refl) (eq-eqb _ _ sized.factory.identity) t.0, t.1))
  effect-right Command.mac e =
      let t = first 2 e refl (omega arith) in
      (fits, (earns reply_mac _ e (refl, refl, refl) (eq-eqb _ _ sized.factory.mac) t.0, t.1))
  effect-right Command.boot-failure e = (fits, tt)
  effect-right Command.panic e = (fits, (earns reply_acknowledged [] e (refl, refl, refl) refl refl, fits))
  effect-right Command.status e =
      let l : length (bytes 8 s.status ++ bytes 8 s.options) ≡ 16 = simp (length-append, length-bytes) in
      (fits, (earns reply_status _ e (refl, refl, refl) (eq-eqb _ _ l) refl, fits))
  effect-right Command.start-acknowledged e = (fits, (earns reply_acknowledged [] e (refl, refl, refl) refl refl, fits))
  effect-right Command.alert e = alert-right s fits sized m served e
  effect-right Command.image_block e =
      (fits, (earns reply_image_block _ e (refl, refl, refl) (le-leb _ _ (block-short s.factory image m.payload)) refl, fits))
  effect-right Command.key_lookup e =
      let key = number_at 1 m.payload 0 in
      let most = number_at 2 m.payload 1 in
      let n = top_set m.sequence in (
        fits,
        (
          earns reply_key_lookup _ e (refl, refl, refl)
              (form_right m.version n reply_key_lookup most (lookup s key most) (lookup-sized s key most sized))
              (lookup-right s fits sized m m.version n reply_key_lookup e),
          lookup-told s fits sized m m.version n reply_key_lookup e,
        ),
      )
  effect-right Command.inventory e =
      let n = top_set m.sequence in
      let index = number_at 4 m.payload 0 in (
        fits,
        (
          earns reply_inventory _ e (refl, refl, refl) (item-form m.version n reply_inventory _ (sized.factory.item index))
              (item-right fits sized.factory m e m.version n reply_inventory),
          item-told fits sized.factory m e,
        ),
      )
  effect-right Command.key_set e =
      let t = sets-right fits sized.settings.long m.sequence m.payload in
      (t.0, (earns reply_key_set _ e (refl, refl, refl) refl (rw (first_byte _ [], t.1)), rw (first_byte _ []) t.2))

  carried-right : CarriedRightly k m (command_of_number m.command) (carry_out image s m)
  unfolding carry_out told_by
  carried-right = by (command_of_number m.command) refl
    where
      by : (x : Option Command) → command_of_number m.command ≡ x → CarriedRightly k m x (carry_out_by x image s m)
      by none e = (fits, tt)
      by (some x) e = effect-right x e

-- ---- a frame

pub fits-behind : FitsBehind
unfolding after_table known_after
fits-behind k s image form h _ b fits = by (verdict form) refl
  where
    by : (v : Verdict) → verdict form ≡ v → FitsState (known_after k v) (after_table image s v)
    by (failure reason version sequence) e = fits
    by (good m) e = (carried-right s fits (held-sized s h) image m (good-typed form m b e).version).0

pub replies-rightly : RepliesRightly
unfolding after_table known_after reply_accused failure_accused accused_if reply_by Requests.reply_of Requests.failure_reply
replies-rightly k s image form h _ b fits r = by (verdict form) refl
  where
    replied : (m : Message) (x : Option Command) (due : Option ℕ) (j : Known) (t : State) (o : Option ReplyContent)
        → RepliedRightly x j due m t o → Requests.reply_of m.sequence o ≡ some r
        → (request_accused_by x j due m (message_of r) ≡ []) × FitsState (told_by x m (message_of r) j) t
    replied m x due j t none g f = absurd (zero_one cc)
    replied m x due j t (some y) g f =
        let z : record { version = y.version; sequence = top_set m.sequence; command = y.command; payload = y.payload } ≡ r = cc in
        rw (← z) g

    by : (v : Verdict) → verdict form ≡ v → reply_by image s v ≡ some r
        → (reply_accused (known_after k v) v (due_of k v) (message_of r) ≡ [])
        × FitsState (told v (message_of r) (known_after k v)) (after_table image s v)
    by (failure reason version sequence) e f = let z : Requests.failure_reply reason version sequence ≡ r = cc in
        rw (← z) (rw (eq-eqb version version refl, first_byte reason [], eq-eqb reason reason refl), fits)
    by (good m) e f =
        replied m (command_of_number m.command) (result_due k m.payload) (known_after k (good m)) (after_table image s (good m))
        (carry_out image s m).reply
        (carried-right s fits (held-sized s h) image m (good-typed form m b e).version).1 f
